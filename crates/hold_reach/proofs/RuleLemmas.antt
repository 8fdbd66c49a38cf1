-- the first broken rule is none exactly where the prefix is sound
use Rattle.std.proofs.Common.{refl, ◌≡◌, ◌≢◌, ⊎_elim, ℕ, suc, zero, ◌<◌, ◌≤◌, Bool, true, false, not, ◌&&◌, ◌==◌, nat_lt, nat_le, List, [], ◌∷◌, ◌++◌, length, drop, zip, get_or, Option, Some, None, option_map, sym, ap, ◌∙◌, subst, arith, length-append, bytes_eq, eq-eqb}
use Rattle.std.proofs.Math.Seq.{drop-cons, get_or-append_seam}
use Rattle.std.proofs.lemmas.Bool.{cases_Bool, eqb-true, false≢true}
use Rattle.std.proofs.lemmas.Bool.Decides.{Decides-eqb, not_from_Decides}
use Rattle.std.proofs.lemmas.List.{get_or_append_left, get_or_default}
use Rattle.std.proofs.lemmas.List.Elements.{All-nil, All-push, All-weaker, All-contains, Contains-push}
use Rattle.std.proofs.lemmas.List.Folds.{list_any_none, list_any_at, Any-from_list_any, list_any-from_Any}
use Rattle.std.proofs.lemmas.List.Quantifiers.{all_pairs_push, position-Some}
use Rattle.std.proofs.lemmas.Option.{slice_get_within, get_or_from_slice_get}
use Rattle.std.proofs.lemmas.Slice.Eq.{bytes_eq-Decides}
use Rattle.std.specs.Prelude.{All, AllPairs, ◌↔◌, IsSomeAnd, position, slice_get}
use Rattle.std.specs.Bool.{Decides}
use Rattle.std.specs.List.{Contains, list_any}
use Rattle.std.specs.Option.{option_or, option_map_or}
use Rattle.base_words.specs.Lists.{first_below}
use Rattle.hold_parts.specs.declared.lists.Fit.{Fit}
use Rattle.hold_parts.specs.declared.parts.Position.{Position}
use Rattle.hold_parts.specs.declared.parts.Combined.{Combined}
use Rattle.hold_parts.specs.declared.parts.Cumulative.{Cumulative}
use Rattle.hold_parts.specs.declared.parts.Item.{Item}
use Rattle.hold_limits.specs.Layout.{Layout}
use Rattle.hold_limits.specs.Problem.{Problem}
use Rattle.hold_limits.specs.BranchOrder.{ordered}
use Rattle.hold_limits.specs.Placement.{placed, IsAccepted, Exclude, load_of, IsSound}
use Rattle.hold_parts.specs.Limits.{is_listed, is_counted}
use Rattle.hold_parts.specs.Accepting.{kind_of, Accepts, accepts, has_kind}
use Rattle.hold_limits.specs.Enumeration.{is_accepted, exclude}
use Rattle.hold_limits.specs.Faults.{fault_if}
use Rattle.hold_limits.proofs.BranchOrderLemmas.{length-ordered}
use Rattle.hold_limits.proofs.EnumerationLemmas.{Any-weaker, is_accepted-Decides, exclude-Decides}
use Rattle.hold_limits.proofs.FaultLemmas.{option_or-none, fault_if-none, option_map-none, position-none, first_below-none_each}
use Rattle.hold_limits.proofs.SoundLemmas.{zip-append, IsSound-within, accepted_within}
use Rattle.hold_reach.specs.declared.rule.RuleBroken.TheVariants as rule
use Rattle.hold_reach.specs.Rules.{is_used, has_kind_at, excluding, breaks_combined, breaks_cumulative, limit_broken, rule_broken}

-- Where nothing is found -----------------------------------------------------------------------

option_or-both : {X : Type 0} (a b : Option X) → a ≡ None → b ≡ None → option_or a b ≡ None
option_or-both a b first second = rw (first, second) refl

none_where_each_fails : {X : Type 0} (p : X → Bool) (xs : List X) → All (λ x. p x ≡ false) xs → position p xs ≡ None
none_where_each_fails p [] all = refl
none_where_each_fails {X} p (x ∷ xs) all = none (position p (x ∷ xs)) refl
  where
    none : (found : Option ℕ) → position p (x ∷ xs) ≡ found → position p (x ∷ xs) ≡ None
    none None is = is
    none (Some i) is =
        let passes = position-Some p (x ∷ xs) i x is in
        absurd (false≢true (sym (all i x passes.0) ∙ passes.1))

first_below-none : (test : ℕ → Bool) (n : ℕ) → ((k : ℕ) → k < n → test k ≡ false) → first_below test n ≡ None
first_below-none test zero each = refl
first_below-none test (suc n) each = rw (first_below-none test n (λ k less. each k (omega arith)), each n (omega arith)) refl

-- Limits ----------------------------------------------------------------------------------------

-- no limit is broken by the load of the prefix
pub record KeepsLimits (t : Problem) (prefix : List ℕ) : Type 0 where
  pub combined : All (λ c. load_of (is_listed c.places) t prefix ≤ c.most.0) t.hold.combined
  pub cumulative : All (λ c. load_of (is_counted c) t prefix ≤ c.most.0) t.hold.cumulative

not_over : (a b : ℕ) → nat_lt a b ≡ false → b ≤ a
not_over a b is = grind arith

within : (a b : ℕ) → b ≤ a → nat_lt a b ≡ false
within a b is = grind arith

pub limit_broken-none : (t : Problem) (prefix : List ℕ) → (limit_broken t prefix ≡ None) ↔ KeepsLimits t prefix
limit_broken-none t prefix = (keeps, kept)
  where
    keeps : limit_broken t prefix ≡ None → KeepsLimits t prefix
    keeps none =
        let parts = option_or-none _ _ none in
        record {
          combined = All-weaker (λ (c : Combined). breaks_combined t prefix c ≡ false) (λ (c : Combined). load_of (is_listed c.places) t prefix ≤ c.most.0)
              (λ c is. not_over _ _ is) t.hold.combined (position-none _ _ (option_map-none rule.Combined _ parts.0));
          cumulative = All-weaker (λ (c : Cumulative). breaks_cumulative t prefix c ≡ false) (λ (c : Cumulative). load_of (is_counted c) t prefix ≤ c.most.0)
              (λ c is. not_over _ _ is) t.hold.cumulative (position-none _ _ (option_map-none rule.Cumulative _ parts.1));
        }

    kept : KeepsLimits t prefix → limit_broken t prefix ≡ None
    kept limits =
        let combined = none_where_each_fails (breaks_combined t prefix) t.hold.combined
        (All-weaker (λ (c : Combined). load_of (is_listed c.places) t prefix ≤ c.most.0) (λ (c : Combined). breaks_combined t prefix c ≡ false)
        (λ c is. within _ _ is) t.hold.combined limits.combined) in
        let cumulative = none_where_each_fails (breaks_cumulative t prefix) t.hold.cumulative
        (All-weaker (λ (c : Cumulative). load_of (is_counted c) t prefix ≤ c.most.0) (λ (c : Cumulative). breaks_cumulative t prefix c ≡ false)
        (λ c is. within _ _ is) t.hold.cumulative limits.cumulative) in
        option_or-both _ _ (ap (option_map rule.Combined) combined) (ap (option_map rule.Cumulative) cumulative)

pub zip-nil : {X Y : Type 0} (xs : List X) → zip {X = Y} xs [] ≡ []
zip-nil [] = refl
zip-nil (x ∷ xs) = refl

-- the empty prefix is sound exactly where the loose loads alone break no limit
pub empty-sound : (t : Problem) → (limit_broken t [] ≡ None) ↔ IsSound t []
empty-sound t = (
  λ none.
      let limits = (limit_broken-none t []).0 none in
      record {
        short = omega arith;
        accepted = subst (All (IsAccepted t.hold)) (sym (zip-nil (ordered t.items))) (All-nil (IsAccepted t.hold));
        apart = λ i j d before inside. absurd (omega arith);
        compatible = λ i j d before inside. absurd (omega arith);
        combined = limits.combined;
        cumulative = limits.cumulative;
      },
  λ (sound : IsSound t []). (limit_broken-none t []).1 record { combined = sound.combined; cumulative = sound.cumulative },
)

-- One position more -----------------------------------------------------------------------------

-- the container after the prefix with its position comes after the placed containers
pub placed-push : (t : Problem) (prefix : List ℕ) (item : Item) (q : ℕ) → slice_get (ordered t.items) (length prefix) ≡ Some item → placed t (prefix ++ q ∷ []) ≡ placed t prefix ++ (item, q) ∷ []
placed-push t prefix item q next =
    let inside : length prefix < length (ordered t.items) = slice_get_within (ordered t.items) (length prefix) item next in
    let rest : drop (length prefix) (ordered t.items) ≡ item ∷ drop (suc (length prefix)) (ordered t.items) =
    drop-cons (ordered t.items) (length prefix) item inside ∙ ap (λ x. x ∷ drop (suc (length prefix)) (ordered t.items)) (get_or_from_slice_get (ordered t.items) (length prefix) item item next) in
    zip-append (ordered t.items) prefix (q ∷ [])
    ∙ ap (λ xs. placed t prefix ++ zip xs (q ∷ [])) rest
    ∙ ap (λ xs. placed t prefix ++ (item, q) ∷ xs) (zip-nil (drop (suc (length prefix)) (ordered t.items)))

-- what has to hold of the next container's position
pub record Continues (t : Problem) (prefix : List ℕ) (item : Item) (q : ℕ) : Type 0 where
  pub accepted : IsAccepted t.hold (item, q)
  pub unused : All (λ used. used ≢ q) prefix
  pub compatible : All (λ used. Exclude t.hold used q → ⊥) prefix
  pub limits : KeepsLimits t (prefix ++ q ∷ [])

pub IsSound-push : (t : Problem) (prefix : List ℕ) (item : Item) (q : ℕ) → slice_get (ordered t.items) (length prefix) ≡ Some item → IsSound t prefix → Continues t prefix item q → IsSound t (prefix ++ q ∷ [])
IsSound-push t prefix item q next sound more = record {
  short = omega (arith, length-append prefix (q ∷ []), slice_get_within (ordered t.items) (length prefix) item next, length-ordered t.items);
  accepted = subst (All (IsAccepted t.hold)) (sym (placed-push t prefix item q next)) (All-push (IsAccepted t.hold) (placed t prefix) (item, q) sound.accepted more.accepted);
  apart = all_pairs_push (λ a b. a ≢ b) prefix q sound.apart more.unused;
  compatible = all_pairs_push (λ a b. Exclude t.hold a b → ⊥) prefix q sound.compatible more.compatible;
  combined = more.limits.combined;
  cumulative = more.limits.cumulative;
}

pub AllPairs-last : {X : Type 0} (R : X → X → Type 0) (xs : List X) (y : X) → AllPairs R (xs ++ y ∷ []) → All (λ x. R x y) xs
AllPairs-last {X} R xs y pairs k d less =
    let first : get_or (xs ++ y ∷ []) k d ≡ get_or xs k d = get_or_append_left xs (y ∷ []) d k less in
    let last : get_or (xs ++ y ∷ []) (length xs) d ≡ y = get_or-append_seam xs y [] d in
    subst (λ x. R x y) first (subst (R (get_or (xs ++ y ∷ []) k d)) last (pairs k (length xs) d less (omega (arith, length-append xs (y ∷ [])))))

pub IsSound-last : (t : Problem) (prefix : List ℕ) (item : Item) (q : ℕ) → slice_get (ordered t.items) (length prefix) ≡ Some item → IsSound t (prefix ++ q ∷ []) → Continues t prefix item q
IsSound-last t prefix item q next sound =
    let all : All (IsAccepted t.hold) (placed t prefix ++ (item, q) ∷ []) = subst (All (IsAccepted t.hold)) (placed-push t prefix item q next) sound.accepted in
    record {
      accepted = All-contains (IsAccepted t.hold) (placed t prefix ++ (item, q) ∷ []) (item, q) all (Contains-push (placed t prefix) (item, q));
      unused = AllPairs-last (λ a b. a ≢ b) prefix q sound.apart;
      compatible = AllPairs-last (λ a b. Exclude t.hold a b → ⊥) prefix q sound.compatible;
      limits = record { combined = sound.combined; cumulative = sound.cumulative };
    }

-- The first broken rule -------------------------------------------------------------------------

pub false_where_not : {P : Type 0} (r : Bool) → Decides r P → (P → ⊥) → r ≡ false
false_where_not r decides not = ⊎_elim
    (λ (is : r ≡ true). absurd (not (decides.0 is)))
    (λ (no : r ≡ false). no)
    (cases_Bool r)

pub not_false : (r : Bool) → not r ≡ false → r ≡ true
not_false true is = refl
not_false false is = absurd (cc)

pub list_any-fails : {X : Type 0} (p : X → Bool) (xs : List X) → list_any p xs ≡ false → All (λ x. p x ≡ false) xs
list_any-fails p xs none k d less = ⊎_elim
    (λ (is : p (get_or xs k d) ≡ true). absurd (false≢true (sym none ∙ list_any_at p xs k d less is)))
    (λ (no : p (get_or xs k d) ≡ false). no)
    (cases_Bool (p (get_or xs k d)))

-- a number is used exactly where the prefix contains it
pub is_used-Decides : (prefix : List ℕ) (q : ℕ) → Decides (is_used prefix q) (Contains prefix q)
is_used-Decides prefix q = (
  λ is.
      let any = Any-from_list_any (λ used. used == q) prefix is in
      let at : get_or prefix any.0 any.1 ≡ q = any.3 ∙ eqb-true any.1 q any.4 in
      (any.0, any.2, get_or_default prefix any.0 q any.1 any.2 ∙ at),
  λ (contains : Contains prefix q). list_any_at (λ used. used == q) prefix contains.0 q contains.1 (eq-eqb _ _ contains.2),
)

pub unused-from_none : (prefix : List ℕ) (q : ℕ) → is_used prefix q ≡ false → All (λ used. used ≢ q) prefix
unused-from_none prefix q none = All-weaker (λ used. (used == q) ≡ false) (λ used. used ≢ q)
    (λ used no. not_from_Decides (used == q) (Decides-eqb used q) no) prefix (list_any-fails (λ used. used == q) prefix none)

pub used-none : (prefix : List ℕ) (q : ℕ) → All (λ used. used ≢ q) prefix → is_used prefix q ≡ false
used-none prefix q all = list_any_none (λ used. used == q) prefix
    (All-weaker (λ used. used ≢ q) (λ used. (used == q) ≡ false) (λ used other. false_where_not (used == q) (Decides-eqb used q) other) prefix all)

compatible-from_none : (hold : Layout) (prefix : List ℕ) (q : ℕ) → All (λ used. used < length hold.positions) prefix → excluding hold prefix q ≡ None → All (λ used. Exclude hold used q → ⊥) prefix
compatible-from_none hold prefix q inside none k d less =
    let used = get_or prefix k d in
    let both : (is_used prefix used && exclude hold used q) ≡ false = first_below-none_each (λ other. is_used prefix other && exclude hold other q) (length hold.positions) none used (inside k d less) in
    let found : is_used prefix used ≡ true = list_any_at (λ other. other == used) prefix k d less (eq-eqb used used refl) in
    not_from_Decides (exclude hold used q) (exclude-Decides hold used q) (rw found at both)

excluding-none : (hold : Layout) (prefix : List ℕ) (q : ℕ) → All (λ used. Exclude hold used q → ⊥) prefix → excluding hold prefix q ≡ None
excluding-none hold prefix q all = first_below-none (λ other. is_used prefix other && exclude hold other q) (length hold.positions)
    (λ other less. ⊎_elim
    (λ (is : is_used prefix other ≡ true).
    let free = All-contains (λ used. Exclude hold used q → ⊥) prefix other all ((is_used-Decides prefix other).0 is) in
    rw is (false_where_not (exclude hold other q) (exclude-Decides hold other q) free))
    (λ (no : is_used prefix other ≡ false). rw no refl)
    (cases_Bool (is_used prefix other)))

has_kind-from_accepted : (hold : Layout) (item : Item) (q : ℕ) → IsAccepted hold (item, q) → has_kind_at hold item q ≡ true
has_kind-from_accepted hold item q accepted = at (slice_get hold.positions q) accepted
  where
    at : (place : Option Position) → IsSomeAnd place (Accepts item) → option_map_or (has_kind item) place false ≡ true
    at None none = absurd none
    at (Some place) accepts = list_any-from_Any (λ (fit : Fit). bytes_eq fit.kind (kind_of item)) place.fits
        (Any-weaker
        (λ (fit : Fit). (fit.kind ≡ kind_of item) × (item.mass.0 ≤ fit.most.0))
        (λ (fit : Fit). bytes_eq fit.kind (kind_of item) ≡ true)
        (λ fit is. (bytes_eq-Decides fit.kind (kind_of item)).1 is.0)
        place.fits accepts)

-- the first rules that matter, where none of a list of six is broken
each_none : {X : Type 0} (a b c d e f : Option X) → option_or a (option_or b (option_or c (option_or d (option_or e f)))) ≡ None
    → (b ≡ None) × (d ≡ None) × (e ≡ None) × (f ≡ None)
each_none a b c d e f none =
    let first = option_or-none a (option_or b (option_or c (option_or d (option_or e f)))) none in
    let second = option_or-none b (option_or c (option_or d (option_or e f))) first.1 in
    let third = option_or-none c (option_or d (option_or e f)) second.1 in
    let fourth = option_or-none d (option_or e f) third.1 in
    let fifth = option_or-none e f fourth.1 in
    (second.0, fourth.0, fifth.0, fifth.1)

known_below : (n q : ℕ) → q < n → nat_le n q ≡ false
known_below n q less = grind arith

-- where the next container follows a sound prefix on a position, no rule breaks exactly where the longer prefix is sound
pub rule_broken-none : (t : Problem) (prefix : List ℕ) (item : Item) (q : ℕ) → IsSound t prefix → slice_get (ordered t.items) (length prefix) ≡ Some item
    → (rule_broken t prefix item q ≡ None) ↔ IsSound t (prefix ++ q ∷ [])
rule_broken-none t prefix item q sound next = (none, unbroken)
  where
    none : rule_broken t prefix item q ≡ None → IsSound t (prefix ++ q ∷ [])
    none is =
        let each = each_none
        (fault_if (nat_le (length t.hold.positions) q) rule.Unknown)
        (fault_if (is_used prefix q) rule.Taken)
        (fault_if (not (has_kind_at t.hold item q)) rule.NoFit)
        (fault_if (not (is_accepted t.hold (item, q))) rule.TooHeavy)
        (option_map rule.Excluded (excluding t.hold prefix q))
        (limit_broken t (prefix ++ q ∷ [])) is in
        IsSound-push t prefix item q next sound record {
          accepted = (is_accepted-Decides t.hold (item, q)).0 (not_false (is_accepted t.hold (item, q)) (fault_if-none (not (is_accepted t.hold (item, q))) rule.TooHeavy each.1));
          unused = unused-from_none prefix q (fault_if-none (is_used prefix q) rule.Taken each.0);
          compatible = compatible-from_none t.hold prefix q (IsSound-within t prefix sound) (option_map-none rule.Excluded (excluding t.hold prefix q) each.2);
          limits = (limit_broken-none t (prefix ++ q ∷ [])).0 each.3;
        }

    unbroken : IsSound t (prefix ++ q ∷ []) → rule_broken t prefix item q ≡ None
    unbroken longer =
        let more = IsSound-last t prefix item q next longer in
        let known : nat_le (length t.hold.positions) q ≡ false = known_below _ _ (accepted_within t.hold (item, q) more.accepted) in
        let unused : is_used prefix q ≡ false = used-none prefix q more.unused in
        let kind : has_kind_at t.hold item q ≡ true = has_kind-from_accepted t.hold item q more.accepted in
        let light : is_accepted t.hold (item, q) ≡ true = (is_accepted-Decides t.hold (item, q)).1 more.accepted in
        let free : excluding t.hold prefix q ≡ None = excluding-none t.hold prefix q more.compatible in
        let limits : limit_broken t (prefix ++ q ∷ []) ≡ None = (limit_broken-none t (prefix ++ q ∷ [])).1 more.limits in
        rw (known, unused, kind, light, free, limits) refl
