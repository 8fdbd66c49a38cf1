use Rattle.std.proofs.Common.{refl}
use Rattle.assignment.proofs.Joins.{joined-tree, joined-gaps}
use Rattle.assignment.proofs.tree.Tree.join.Goals as goal

pub returns-clause-tree : goal.returns-clause-tree
returns-clause-tree c = λ standing grown joins.
    joined-tree standing c.args.self.now _ c.args.nearest.now c.args.holder c.push.ensures.items c.push-2.ensures.items c.with-self.ensures refl refl grown joins c.requires.room

pub returns-clause-gaps : goal.returns-clause-gaps
returns-clause-gaps c = λ standing gaps.
    joined-gaps standing c.args.self.now _ c.args.nearest.now c.args.holder c.push.ensures.items c.push-2.ensures.items c.with-self.ensures refl refl gaps
