use Rattle.std.proofs.Common.{◌≢◌, AllPairs, take, get_or, All, sym, subst, arith}
use Rattle.std.proofs.lemmas.List.{take_all, take_more}
use Rattle.std.proofs.lemmas.List.Elements.{All-push}
use Rattle.hold_limits.proofs.LawfulBounds.{hold-bounds}
use Rattle.hold_parts.specs.Spellings.{IsName}
use Rattle.hold_parts.specs.declared.parts.Position.{Position}
use Rattle.hold_limits.proofs.hold.Hold.named_positions.Goals as goal

pub loop-position-preserved : goal.loop-position-preserved
loop-position-preserved c =
    let Named = λ (q : Position). IsName q.name in
    let ps = c.positions-positions.result.now in
    let i = c.loop-position.position-index in
    let x = c.position-item.result in
    subst (All Named) (sym (take_more ps i x c.loop-position-test.true)) (All-push Named (take i ps) (get_or ps i x) c.loop-position.invariant (subst Named c.position-item.is c.bytes-name.ensures.spelled))

pub returns-clause-named : goal.returns-clause-named
returns-clause-named c =
    let ps = c.positions-positions.result.now in
    subst (All (λ (q : Position). IsName q.name)) (take_all c.loop-position.position-index ps (omega (arith, c.loop-position-test.false))) c.loop-position.invariant

pub returns-clause-differ : goal.returns-clause-differ
returns-clause-differ c =
    subst (AllPairs (λ (a b : Position). a.name ≢ b.name)) (sym c.positions-positions.ensures.value) (hold-bounds c.args.self.now c.positions-positions.ensures.lawful).names
