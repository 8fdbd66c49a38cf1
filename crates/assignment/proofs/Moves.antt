-- prices of members that move, one member after another
use Rattle.std.proofs.Common.{◌≡◌, ℕ, zero, suc, ◌+◌, ◌<◌, List, [], ◌∷◌, length, set, refl, ap, sym, ◌∙◌, arith, below_more}
use Rattle.std.specs.Prelude.{ℤ, pos, ◌+ℤ◌, ◌-ℤ◌}
use Rattle.std.proofs.Math.ListN.{length-set}
use Rattle.std.proofs.lemmas.Int.{ints}
use Rattle.std.proofs.lemmas.List.{get_or-set_same, get_or-set_other}
use Rattle.assignment.specs.Prices.{price_at, total}
use Rattle.assignment.specs.Tables.{number_at, AreApart}
use Rattle.assignment.specs.Standings.{AreMoved}

total-set : (prices : List ℤ) (i : ℕ) (v : ℤ) → i < length prices → total (set prices i v) +ℤ price_at prices i ≡ total prices +ℤ v
total-set [] i v within = absurd (omega arith)
total-set (u ∷ prices) zero v within = omega (arith, ints)
total-set (u ∷ prices) (suc i) v within = omega (arith, ints, total-set prices i v (omega arith))

-- the first member alone
pub moved-first : (by : ℤ) (stands members : List ℕ) (items places : List ℤ) (v : ℤ) → number_at members 0 < length items
    → v ≡ price_at items (number_at members 0) +ℤ by → AreMoved by stands members 1 items places (set items (number_at members 0) v) places
moved-first by stands members items places v known is = record {
  item_count = length-set items (number_at members 0) v;
  place_count = refl;
  raised = first;
  others = λ number lacks. get_or-set_other items (number_at members 0) number v (pos 0) (λ same. lacks 0 (omega arith) (sym same));
  lowered = λ j above below. absurd (omega (arith, above, below));
  rest = λ position lacks. refl;
  total = omega (arith, ints, is, total-set items (number_at members 0) v known);
}
  where
    first : (j : ℕ) → j < 1 → price_at (set items (number_at members 0) v) (number_at members j) ≡ price_at items (number_at members j) +ℤ by
    first zero below = get_or-set_same items (number_at members 0) v (pos 0) known ∙ is
    first (suc j) below = absurd (omega arith)

-- one more member
module _ (by : ℤ) (stands members : List ℕ) (count : ℕ) (items places moved_items moved_places : List ℤ)
    (moved : AreMoved by stands members count items places moved_items moved_places) (apart : AreApart members) (stands_apart : AreApart stands)
    (some : 0 < count) (more : count < length members)
    (standing : (j : ℕ) → 0 < j → j < length members → number_at members j < length stands)
    (known : number_at members count < length items) (known_place : number_at stands (number_at members count) < length places) where
  new_member : (j : ℕ) → j < count → number_at members j ≡ number_at members count → ⊥
  new_member j below same = let here : j ≡ count = apart j count (omega (arith, below)) (omega arith) same in omega (arith, below, here)

  new_place : (j : ℕ) → 0 < j → j < count → number_at stands (number_at members j) ≡ number_at stands (number_at members count) → ⊥
  new_place j above below same = new_member j below
      (stands_apart (number_at members j) (number_at members count) (standing j above (omega (arith, below))) (standing count (omega arith) (omega arith)) same)

  pub unmoved-item : price_at moved_items (number_at members count) ≡ price_at items (number_at members count)
  unmoved-item = moved.others (number_at members count) new_member

  pub unmoved-place : price_at moved_places (number_at stands (number_at members count)) ≡ price_at places (number_at stands (number_at members count))
  unmoved-place = moved.rest (number_at stands (number_at members count)) new_place

  pub moved-more : (u v : ℤ) → u ≡ price_at moved_items (number_at members count) +ℤ by → v ≡ price_at moved_places (number_at stands (number_at members count)) -ℤ by
      → AreMoved by stands members (count + 1) items places (set moved_items (number_at members count) u) (set moved_places (number_at stands (number_at members count)) v)
  moved-more u v u_is v_is = record {
    item_count = length-set moved_items (number_at members count) u ∙ moved.item_count;
    place_count = length-set moved_places (number_at stands (number_at members count)) v ∙ moved.place_count;
    raised = below_more (λ (j : ℕ). price_at (set moved_items (number_at members count) u) (number_at members j) ≡ price_at items (number_at members j) +ℤ by) count
        (λ j below. get_or-set_other moved_items (number_at members count) (number_at members j) u (pos 0) (new_member j below) ∙ moved.raised j below)
        (get_or-set_same moved_items (number_at members count) u (pos 0) (omega (arith, moved.item_count)) ∙ u_is ∙ ap (λ z. z +ℤ by) unmoved-item);
    others = λ number lacks.
        get_or-set_other moved_items (number_at members count) number u (pos 0) (λ same. lacks count (omega arith) (sym same))
        ∙ moved.others number (λ j below. lacks j (omega (arith, below)));
    lowered = λ j above below. below_more (λ (k : ℕ). 0 < k → price_at (set moved_places (number_at stands (number_at members count)) v) (number_at stands (number_at members k)) ≡ price_at places (number_at stands (number_at members k)) -ℤ by) count
        (λ k under over. get_or-set_other moved_places (number_at stands (number_at members count)) (number_at stands (number_at members k)) v (pos 0) (new_place k over under) ∙ moved.lowered k over under)
        (λ over. get_or-set_same moved_places (number_at stands (number_at members count)) v (pos 0) (omega (arith, moved.place_count)) ∙ v_is ∙ ap (λ z. z -ℤ by) unmoved-place)
        j below above;
    rest = λ position lacks.
        get_or-set_other moved_places (number_at stands (number_at members count)) position v (pos 0) (λ same. lacks count (omega arith) (omega arith) (sym same))
        ∙ moved.rest position (λ j above below. lacks j above (omega (arith, below)));
    total = let a = total-set moved_items (number_at members count) u (omega (arith, moved.item_count)) in
        let b = total-set moved_places (number_at stands (number_at members count)) v (omega (arith, moved.place_count)) in
        omega (arith, ints, a, b, u_is, v_is, moved.total);
  }
