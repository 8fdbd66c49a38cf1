-- levels with one container more, and what is open by their sets
use Rattle.std.proofs.Common.{◌≡◌, ⊎_elim, ℕ, ◌≤◌, pos, ◌+ℤ◌, ◌*ℤ◌, Bool, true, false, not, ◌&&◌, ◌||◌, ◌==◌, List, [], ◌∷◌, ◌++◌, length, Some, refl, ap, ap₂, sym, subst, ◌∙◌, arith, unsigned_abs}
use Rattle.std.proofs.lemmas.Bool.{cases_Bool, false≢true}
use Rattle.std.proofs.lemmas.Bool.Decides.{nat_tests}
use Rattle.std.proofs.lemmas.List.{take_all}
use Rattle.std.proofs.lemmas.List.Folds.{list_any-append}
use Rattle.std.proofs.lemmas.Option.{slice_get_cases}
use Rattle.std.specs.Prelude.{slice_get}
use Rattle.std.specs.List.{list_any}
use Rattle.base_words.specs.Lists.{int_sum_by}
use Rattle.hold_parts.specs.declared.parts.Item.{Item}
use Rattle.hold_limits.specs.Layout.{Layout}
use Rattle.hold_limits.specs.Problem.{Problem}
use Rattle.hold_limits.specs.BranchOrder.{ordered}
use Rattle.hold_limits.specs.Faults.{IsLawful}
use Rattle.hold_limits.specs.Enumeration.{is_accepted, exclude}
use Rattle.hold_limits.specs.declared.moments.Arm.TheVariants.{Side}
use Rattle.hold_limits.specs.Placement.{placed, placed_moment, loose_moment, placed_lateral, loose_lateral, hold_index, lateral_difference}
use Rattle.hold_limits.specs.Twins.{is_rising}
use Rattle.hold_limits.proofs.MomentLemmas.{placed-bound, placed-all, loose-bound, placed_by-bound, loose_by-bound, abs-sum}
use Rattle.hold_limits.proofs.TwinLemmas.{is_rising-Decides}
use Rattle.hold_partial.specs.declared.demand.Demand.{Demand}
use Rattle.hold_partial.specs.declared.level.Level.{Level}
use Rattle.hold_partial.specs.declared.position_table.PositionEntry.{PositionEntry}
use Rattle.hold_partial.specs.Arrangement.{Ranked, at_rank}
use Rattle.hold_partial.specs.Levels.{is_blocked, IsLevel}
use Rattle.hold_reach.specs.Reach.{is_free, falls, is_open}
use Rattle.hold_reach.specs.Rules.{is_used}
use Rattle.position_set.specs.Sets.{has}
use Rattle.hold_partial.specs.Tables.{IsDemand, IsPositionEntry}
use Rattle.hold_reach.proofs.RuleLemmas.{zip-nil, false_where_not}
use Rattle.hold_reach.proofs.ViableLemmas.{hold_index-next, lateral_difference-next, IsRising-front, IsRising-next}

-- How large ------------------------------------------------------------------------------------

-- the hold index and the lateral difference of a prefix of a lawful task
pub hold_index-bound : (t : Problem) → IsLawful t → (prefix : List ℕ) → length prefix ≤ length t.items → unsigned_abs (hold_index t prefix) ≤ 248000000000
hold_index-bound t lawful prefix short =
    let on_positions = subst (λ ps. unsigned_abs (int_sum_by (placed_moment t.hold) ps) ≤ 120000000000) (placed-all t prefix (length prefix) short (omega arith)) (placed-bound t lawful prefix (length prefix) short) in
    let loose = subst (λ ls. unsigned_abs (int_sum_by (loose_moment t.hold) ls) ≤ 128000000000) (take_all (length t.loose) t.loose (omega arith)) (loose-bound t lawful (length t.loose)) in
    abs-sum (int_sum_by (placed_moment t.hold) (placed t prefix)) (int_sum_by (loose_moment t.hold) t.loose) 120000000000 128000000000 on_positions loose

pub lateral-bound : (t : Problem) → IsLawful t → (prefix : List ℕ) → length prefix ≤ length t.items → unsigned_abs (lateral_difference t prefix) ≤ 2480000
lateral-bound t lawful prefix short =
    let on_positions = subst (λ ps. unsigned_abs (int_sum_by (placed_lateral t.hold) ps) ≤ 1200000) (placed-all t prefix (length prefix) short (omega arith)) (placed_by-bound Side t lawful prefix (length prefix) short) in
    let loose = subst (λ ls. unsigned_abs (int_sum_by (loose_lateral t.hold) ls) ≤ 1280000) (take_all (length t.loose) t.loose (omega arith)) (loose_by-bound Side t lawful (length t.loose)) in
    abs-sum (int_sum_by (placed_lateral t.hold) (placed t prefix)) (int_sum_by (loose_lateral t.hold) t.loose) 1200000 1280000 on_positions loose

-- Levels ----------------------------------------------------------------------------------------

eq-back : (a b : ℕ) → (a == b) ≡ (b == a)
eq-back a b = grind (arith, nat_tests)

or-false : (a b : Bool) → (a || (b || false)) ≡ (a || b)
or-false true b = refl
or-false false true = refl
or-false false false = refl

is_used-next : (prefix : List ℕ) (q a : ℕ) → is_used (prefix ++ q ∷ []) a ≡ (is_used prefix a || (a == q))
is_used-next prefix q a = list_any-append (λ used. used == a) prefix (q ∷ []) ∙ or-false (is_used prefix a) (q == a) ∙ ap (λ b. is_used prefix a || b) (eq-back q a)

shuffle : (a b c d : Bool) → ((a || b) || (c || d)) ≡ ((a || c) || (b || d))
shuffle true b c d = refl
shuffle false true true d = refl
shuffle false true false d = refl
shuffle false false true d = refl
shuffle false false false d = refl

pub is_blocked-next : (hold : Layout) (prefix : List ℕ) (q a : ℕ) → is_blocked hold (prefix ++ q ∷ []) a ≡ (is_blocked hold prefix a || ((q == a) || exclude hold q a))
is_blocked-next hold prefix q a =
    ap₂ ◌||◌ (list_any-append (λ used. used == a) prefix (q ∷ []) ∙ or-false (is_used prefix a) (q == a))
    (list_any-append (λ used. exclude hold used a) prefix (q ∷ []) ∙ or-false (list_any (λ used. exclude hold used a) prefix) (exclude hold q a))
    ∙ shuffle (is_used prefix a) (q == a) (list_any (λ used. exclude hold used a) prefix) (exclude hold q a)

pub at_rank-or : (f g h : ℕ → Bool) (ranks : List Ranked) → ((a : ℕ) → h a ≡ (f a || g a)) → (r : ℕ) → (at_rank f ranks r || at_rank g ranks r) ≡ at_rank h ranks r
at_rank-or f g h ranks same r = ⊎_elim
    (λ here. rw here.2 (sym (same here.0.1)))
    (λ past. rw past.1 refl)
    (slice_get_cases ranks r).1

-- whether a prefix with one container more is rising
is_rising-next : (t : Problem) (prefix : List ℕ) (item : Item) (q : ℕ) → slice_get (ordered t.items) (length prefix) ≡ Some item
    → (is_rising t prefix && not (falls t prefix item q)) ≡ is_rising t (prefix ++ q ∷ [])
is_rising-next t prefix item q next = ⊎_elim
    (λ (rising : is_rising t prefix ≡ true). ⊎_elim
    (λ (falling : falls t prefix item q ≡ true).
    let not_longer : is_rising t (prefix ++ q ∷ []) ≡ false = false_where_not _ (is_rising-Decides t (prefix ++ q ∷ []))
    (λ longer. absurd (false≢true (sym ((IsRising-next t prefix item q ((is_rising-Decides t prefix).0 rising) next).1 longer) ∙ falling))) in
    rw (rising, falling, not_longer) refl)
    (λ (stays : falls t prefix item q ≡ false).
    let longer : is_rising t (prefix ++ q ∷ []) ≡ true = (is_rising-Decides t (prefix ++ q ∷ [])).1 ((IsRising-next t prefix item q ((is_rising-Decides t prefix).0 rising) next).0 stays) in
    rw (rising, stays, longer) refl)
    (cases_Bool (falls t prefix item q)))
    (λ (not_rising : is_rising t prefix ≡ false).
    let not_longer : is_rising t (prefix ++ q ∷ []) ≡ false = false_where_not _ (is_rising-Decides t (prefix ++ q ∷ []))
    (λ longer. absurd (false≢true (sym not_rising ∙ (is_rising-Decides t prefix).1 (IsRising-front t prefix (q ∷ []) longer)))) in
    rw (not_rising, not_longer) refl)
    (cases_Bool (is_rising t prefix))

-- the level of a prefix with one container more
pub level-next : (t : Problem) (ranks : List Ranked) (prefix : List ℕ) (item : Item) (q : ℕ) (demand : Demand) (place : PositionEntry) (level next : Level) (falling : Bool)
    → slice_get (ordered t.items) (length prefix) ≡ Some item
    → IsLevel t ranks prefix level → IsDemand t ranks item demand → IsPositionEntry t.hold ranks q place
    → ((a : ℕ) → has next.used a ≡ (has level.used a || (a == q)))
    → ((r : ℕ) → has next.blocked_ranks r ≡ (has level.blocked_ranks r || has place.blocked_ranks r))
    → next.index.0 ≡ level.index.0 +ℤ (pos demand.mass.0 *ℤ place.influence)
    → next.lateral ≡ level.lateral +ℤ (pos demand.mass.0 *ℤ place.side)
    → falling ≡ falls t prefix item q → next.rising ≡ (level.rising && not falling)
    → IsLevel t ranks (prefix ++ q ∷ []) next
level-next t ranks prefix item q demand place level next falling there is_level is_demand is_entry used taken index lateral falls_is rising = record {
  used = λ a. used a ∙ ap (λ b. b || (a == q)) (is_level.used a) ∙ sym (is_used-next prefix q a);
  blocked_ranks = λ r. taken r ∙ ap₂ ◌||◌ (is_level.blocked_ranks r) (is_entry.blocked_ranks r) ∙ at_rank-or (is_blocked t.hold prefix) (λ a. (q == a) || exclude t.hold q a) (is_blocked t.hold (prefix ++ q ∷ [])) ranks (is_blocked-next t.hold prefix q) r;
  index =
      index
      ∙ ap₂ (λ i m. i +ℤ m) is_level.index (ap₂ (λ m f. pos m *ℤ f) is_demand.mass is_entry.influence)
      ∙ sym (hold_index-next t prefix item q there);
  lateral =
      lateral
      ∙ ap₂ (λ i m. i +ℤ m) is_level.lateral (ap₂ (λ m f. pos m *ℤ f) is_demand.mass is_entry.side)
      ∙ sym (lateral_difference-next t prefix item q there);
  rising = rising ∙ ap₂ (λ a b. a && not b) is_level.rising falls_is ∙ is_rising-next t prefix item q there;
}

placed-none : (t : Problem) → placed t [] ≡ []
placed-none t = zip-nil (ordered t.items)

-- the level of the empty prefix
pub level-start : (t : Problem) (ranks : List Ranked) (level : Level) → ((a : ℕ) → has level.used a ≡ false) → ((r : ℕ) → has level.blocked_ranks r ≡ false) → level.index.0 ≡ hold_index t []
    → level.lateral ≡ lateral_difference t [] → level.rising ≡ true → IsLevel t ranks [] level
level-start t ranks level used taken index lateral rising = record {
  used = used;
  blocked_ranks = λ r. taken r ∙ ⊎_elim (λ here. sym (rw here.2 refl)) (λ past. sym (rw past.1 refl)) (slice_get_cases ranks r).1;
  index = index;
  lateral = lateral;
  rising = rising ∙ sym (rw (placed-none t) refl);
}

-- Free and open ranks ---------------------------------------------------------------------------

pub free-by : (accepts used excluded : Bool) → (accepts && not (used || excluded)) ≡ (accepts && (not used && not excluded))
free-by false used excluded = refl
free-by true true excluded = refl
free-by true false excluded = refl

-- a rank that accepts the container and is not blocked is that of a free position
pub free-ranks : (t : Problem) (ranks : List Ranked) (prefix : List ℕ) (item : Item) (demand : Demand) (level : Level) → IsLevel t ranks prefix level → IsDemand t ranks item demand
    → (r : ℕ) → (has demand.accepting_ranks r && not (has level.blocked_ranks r)) ≡ at_rank (is_free t prefix item) ranks r
free-ranks t ranks prefix item demand level is_level is_demand r =
    ap₂ (λ a b. a && not b) (is_demand.accepting_ranks r) (is_level.blocked_ranks r)
    ∙ ⊎_elim
    (λ here. rw here.2 (free-by (is_accepted t.hold (item, here.0.1)) (is_used prefix here.0.1) (list_any (λ used. exclude t.hold used here.0.1) prefix)))
    (λ past. rw past.1 refl)
    (slice_get_cases ranks r).1

-- a free rank that is not closed to the container is that of an open position
pub open-ranks : (t : Problem) (ranks : List Ranked) (prefix : List ℕ) (item : Item) (free closed : ℕ → Bool) → ((r : ℕ) → free r ≡ at_rank (is_free t prefix item) ranks r)
    → ((r : ℕ) → closed r ≡ at_rank (falls t prefix item) ranks r) → (r : ℕ) → (free r && not (closed r)) ≡ at_rank (is_open t prefix item) ranks r
open-ranks t ranks prefix item free closed is_free_rank is_closed r =
    ap₂ (λ a b. a && not b) (is_free_rank r) (is_closed r)
    ∙ ⊎_elim (λ here. rw here.2 refl) (λ past. rw past.1 refl) (slice_get_cases ranks r).1
