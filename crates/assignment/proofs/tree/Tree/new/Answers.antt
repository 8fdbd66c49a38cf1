use Rattle.std.specs.Prelude.{pos}
use Rattle.assignment.proofs.Starts.{asked-nobody}
use Rattle.assignment.proofs.tree.Tree.new.Goals as goal

pub returns-clause-gaps : goal.returns-clause-gaps
returns-clause-gaps c = record {
  each = λ q within fresh.
      let standing = c.args.standing.now in
      asked-nobody standing.costs standing.items.items standing.places.items c.push.new.self.items (pos 0) 64 q;
}
