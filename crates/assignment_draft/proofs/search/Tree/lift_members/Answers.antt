use Rattle.std.proofs.Common.{◌≡◌, ⊎_elim, ℕ, ◌<◌, false, w64, to_z, of_z, length, ap, sym, ◌∙◌, arith}
use Rattle.std.specs.Prelude.{ℤ, pos, ◌+ℤ◌}
use Rattle.std.proofs.lemmas.List.{get_or-set_same, get_or-set_other}
use Rattle.std.proofs.lemmas.Bool.{cases_eq, false≢true}
use Rattle.position_set.specs.Sets.{has}
use Rattle.assignment.specs.Prices.{price_at}
use Rattle.assignment_draft.proofs.PriceSteps.{moved-again}
use Rattle.assignment_draft.proofs.Rests.{was-there, is-other, is-gone, are-fewer}
use Rattle.assignment_draft.proofs.search.Tree.lift_members.Goals as goal

pub loop-number-smaller : goal.loop-number-smaller
loop-number-smaller c = are-fewer c.loop-number.rest c.without-rest.result c.in-Some.number c.without-rest.ensures c.in-Some.ensures.0 c.in-Some.ensures.1 c.in-Some.ensures.2

pub loop-number-preserved : goal.loop-number-preserved
loop-number-preserved c =
    let kept = c.loop-number.invariant in
    let start = c.args.prices.now in
    let before = c.loop-number.prices in
    let now = c.lift.new.self in
    let number = c.in-Some.number in
    let rest = c.loop-number.rest in
    let there = kept.members_too number c.in-Some.ensures.1 in
    let by : ℤ = to_z w64 (of_z w64 c.args.by) in
    let known : number < length before.items.items = omega (arith, c.requires.members number there, ap length kept.moved.candidates, kept.moved.sound.lower.item_count) in
    let here : price_at now.items.items number ≡ price_at before.items.items number +ℤ by =
    ap (λ prices. price_at prices number) c.lift.ensures.items ∙ get_or-set_same before.items.items number _ (pos 0) known in
    let others : (q : ℕ) → (q ≡ number → ⊥) → price_at now.items.items q ≡ price_at before.items.items q = λ q other.
    ap (λ prices. price_at prices q) c.lift.ensures.items ∙ get_or-set_other before.items.items number q _ (pos 0) other in
    record {
      moved = moved-again start before now kept.moved c.lift.ensures.moved;
      places = c.lift.ensures.places ∙ kept.places;
      members_too = λ q left. kept.members_too q (was-there rest c.without-rest.result number c.without-rest.ensures q left);
      waiting = λ q left. others q (is-other rest c.without-rest.result number c.without-rest.ensures q left) ∙ kept.waiting q (was-there rest c.without-rest.result number c.without-rest.ensures q left);
      risen = λ q in_set gone. ⊎_elim
          (λ (same : q ≡ number). rw same (here ∙ ap (λ price. price +ℤ by) (kept.waiting number c.in-Some.ensures.1)))
          (λ (other : q ≡ number → ⊥). others q other ∙ kept.risen q in_set
          (⊎_elim (λ (same : q ≡ number). absurd (other same)) (λ (none : has rest q ≡ false). none) (is-gone rest c.without-rest.result number c.without-rest.ensures q gone)))
          (cases_eq q number);
      others = λ q not_in. others q (λ same. false≢true (sym not_in ∙ ap (has c.args.self.now.members) same ∙ there)) ∙ kept.others q not_in;
    }
