use Rattle.std.proofs.Common.{◌<◌, length, sym, ◌∙◌, arith}
use Rattle.hold_partial.proofs.ClosedLemmas.{falls-known}
use Rattle.hold_partial.proofs.KeptLemmas.{closed-at, demand-class, rank-known}
use Rattle.hold_partial.proofs.board.Board.falls.Goals as goal

pub returns-then-position-len : goal.returns-then-position-len
returns-then-position-len c = λ container there.
    let b = c.args.self.now in
    sym (falls-known b.task.now b.prefix.items container c.args.position c.requires.kept.sound (omega (arith, c.requires.kept.prepared.positions.count, c.len.ensures.value, c.if-position-len.true)))

pub bounds-self-class : goal.bounds-self-class
bounds-self-class c = let b = c.args.self.now in demand-class b.task.now b.tables c.requires.kept.lawful c.requires.kept.prepared c.deref.result.now c.args.item _ c.deref.ensures.0 c.requires.known

pub contains-requires : goal.contains-requires
contains-requires c =
    let b = c.args.self.now in
    rank-known b.task.now b.tables c.requires.kept.lawful c.requires.kept.prepared c.deref-2.result.now c.args.position _ c.deref-2.ensures.0 (omega (arith, c.requires.kept.prepared.positions.count, c.len.ensures.value, c.if-position-len.false))

pub returns : goal.returns
returns c = λ container there.
    let b = c.args.self.now in
    let known : c.args.position < length b.task.now.hold.positions = omega (arith, c.requires.kept.prepared.positions.count, c.len.ensures.value, c.if-position-len.false) in
    c.contains.ensures ∙ closed-at b c.requires.kept c.deref.result.now c.args.item _ _ container c.deref-2.result.now c.args.position _ c.deref.ensures.0 there c.deref-2.ensures.0 known
