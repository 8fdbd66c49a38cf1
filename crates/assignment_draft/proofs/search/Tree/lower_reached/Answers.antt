use Rattle.std.proofs.Common.{◌≡◌, ⊎_elim, ℕ, ◌<◌, false, w64, to_z, of_z, length, ap, sym, ◌∙◌, arith}
use Rattle.std.specs.Prelude.{ℤ, pos, ◌-ℤ◌}
use Rattle.std.proofs.lemmas.List.{get_or-set_same, get_or-set_other}
use Rattle.std.proofs.lemmas.Bool.{cases_eq, false≢true}
use Rattle.position_set.specs.Sets.{has}
use Rattle.assignment.specs.Prices.{price_at}
use Rattle.assignment_draft.proofs.PriceSteps.{moved-again}
use Rattle.assignment_draft.proofs.Rests.{was-there, is-other, is-gone, are-fewer}
use Rattle.assignment_draft.proofs.search.Tree.lower_reached.Goals as goal

pub loop-position-smaller : goal.loop-position-smaller
loop-position-smaller c = are-fewer c.loop-position.rest c.without-rest.result c.in-Some.position c.without-rest.ensures c.in-Some.ensures.0 c.in-Some.ensures.1 c.in-Some.ensures.2

pub loop-position-preserved : goal.loop-position-preserved
loop-position-preserved c =
    let kept = c.loop-position.invariant in
    let start = c.args.prices.now in
    let before = c.loop-position.prices in
    let now = c.lower.new.self in
    let position = c.in-Some.position in
    let rest = c.loop-position.rest in
    let there = kept.reached_too position c.in-Some.ensures.1 in
    let by : ℤ = to_z w64 (of_z w64 c.args.by) in
    let known : position < length before.places.items = omega (arith, c.requires.reached position there, ap length kept.moved.influences, kept.moved.sound.lower.place_count) in
    let here : price_at now.places.items position ≡ price_at before.places.items position -ℤ by =
    ap (λ prices. price_at prices position) c.lower.ensures.places ∙ get_or-set_same before.places.items position _ (pos 0) known in
    let others : (q : ℕ) → (q ≡ position → ⊥) → price_at now.places.items q ≡ price_at before.places.items q = λ q other.
    ap (λ prices. price_at prices q) c.lower.ensures.places ∙ get_or-set_other before.places.items position q _ (pos 0) other in
    record {
      moved = moved-again start before now kept.moved c.lower.ensures.moved;
      items = c.lower.ensures.items ∙ kept.items;
      reached_too = λ q left. kept.reached_too q (was-there rest c.without-rest.result position c.without-rest.ensures q left);
      waiting = λ q left. others q (is-other rest c.without-rest.result position c.without-rest.ensures q left) ∙ kept.waiting q (was-there rest c.without-rest.result position c.without-rest.ensures q left);
      fallen = λ q in_set gone. ⊎_elim
          (λ (same : q ≡ position). rw same (here ∙ ap (λ price. price -ℤ by) (kept.waiting position c.in-Some.ensures.1)))
          (λ (other : q ≡ position → ⊥). others q other ∙ kept.fallen q in_set
          (⊎_elim (λ (same : q ≡ position). absurd (other same)) (λ (none : has rest q ≡ false). none) (is-gone rest c.without-rest.result position c.without-rest.ensures q gone)))
          (cases_eq q position);
      others = λ q not_in. others q (λ same. false≢true (sym not_in ∙ ap (has c.args.self.now.reached) same ∙ there)) ∙ kept.others q not_in;
    }
