use Rattle.std.proofs.Common.{ℕ, List, Some, None, subst, sym}
use Rattle.ldm_cpm.specs.Messages.{IsSpelledPlacing}
use Rattle.transit_messages.proofs.Spelling.{spelled-load}
use Rattle.transit_messages.proofs.onward.Aboard.loose_on.Goals as goal

pub returns-in-Some-clause-spelled : goal.returns-in-Some-clause-spelled
returns-in-Some-clause-spelled c =
    let a = c.args.self.now in
    let load = c.in-Some.load in
    subst (λ (name : List ℕ). IsSpelledPlacing (record { name = name; id = None; destination = Some a.next.now; mass = load.mass })) (sym c.bytes-name.ensures.value)
    (spelled-load a.task.now c.args.number a.next.now c.args.position.now load c.load_on.ensures.lawful c.requires.right.next c.requires.named c.in-Some.ensures.found)
