use Rattle.std.proofs.Common.{◌≡◌, ◌∷◌, suc, length, ap, ◌∙◌, arith, true, false, refl}
use Rattle.position_set.specs.Sets.{members}
use Rattle.position_set.proofs.MemberLemmas.{members-none, members-first, members-empty}
use Rattle.position_set.proofs.set.PositionSet.only.Goals as goal

pub returns-in_err-first : goal.returns-in_err-first
returns-in_err-first c =
    let none : length (members c.args.self) ≡ 0 = ap length (members-none c.args.self c.in_err-first.ensures) in
    rw c.from_residual.ensures (λ one. omega (arith, none, one))

pub returns-then-is_empty : goal.returns-then-is_empty
returns-then-is_empty c =
    let least = c.in_ok-first.ensures in
    members-first c.args.self c.without.result c.in_ok-first.first least.0 least.1 least.2 c.without.ensures
    ∙ ap (λ rest. c.in_ok-first.first ∷ rest) (members-none c.without.result (c.if-is_empty.ensures.0 refl))

pub returns-else-is_empty : goal.returns-else-is_empty
returns-else-is_empty c one =
    let least = c.in_ok-first.ensures in
    let more : length (members c.args.self) ≡ suc (length (members c.without.result)) =
    ap length (members-first c.args.self c.without.result c.in_ok-first.first least.0 least.1 least.2 c.without.ensures) in
    let none : false ≡ true = c.if-is_empty.ensures.1 (members-empty c.without.result (omega arith) (omega (arith, more, one))) in
    cc none
