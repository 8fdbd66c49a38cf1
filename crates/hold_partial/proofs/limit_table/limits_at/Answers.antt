use Rattle.std.proofs.Common.{◌≡◌, length, ap, sym, ◌∙◌, arith, rules, append-nil}
use Rattle.std.specs.List.{filter, range_with_len}
use Rattle.std.specs.Option.{option_map_or}
use Rattle.std.specs.Prelude.{false}
use Rattle.hold_partial.specs.Limits.{Allowance, limit_covers}
use Rattle.hold_partial.proofs.LimitLemmas.{filter-more, filter-few}
use Rattle.hold_partial.proofs.limit_table.limits_at.Goals as goal
use Rattle.hold_partial.proofs.limit_table.limits_at.Goals.{then-covers, else-covers}

pub push-requires : goal.push-requires
push-requires c = (search rules, omega (arith, ap length c.loop-place.invariant, filter-few (λ j. limit_covers c.args.hold.now j c.args.number) c.loop-place.place))

pub loop-place-preserved : goal.loop-place-preserved
loop-place-preserved c =
    let hold = c.args.hold.now in
    let number = c.args.number in
    let place = c.loop-place.place in
    let there = c.limit_at.ensures in
    let is : limit_covers hold place number ≡ c.covers.result = ap (λ o. option_map_or (λ (l : Allowance). l.0 number) o false) there ∙ sym c.covers.ensures in
    elim c.if-covers.branch [
      | then-covers w ↦ rw (w.limits-is, w.push.ensures.items, c.loop-place.invariant) (sym (filter-more (λ j. limit_covers hold j number) place _ (is ∙ w.if-covers.true)))
      | else-covers w ↦ rw (w.limits-is, c.loop-place.invariant) (sym (filter-more (λ j. limit_covers hold j number) place _ (is ∙ w.if-covers.false) ∙ append-nil (filter (λ j. limit_covers hold j number) (range_with_len 0 place))))
    ]
