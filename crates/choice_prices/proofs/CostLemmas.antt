-- the loops over the positions of a set and over the sets of a choice
use Rattle.std.proofs.Common.{◌≡◌, ⊎_elim, ℕ, ◌+◌, ◌<◌, ℤ, ◌+ℤ◌, Bool, true, false, ◌&&◌, ◌||◌, ◌==◌, List, [], ◌∷◌, ◌++◌, map, take, length, get_or, Some, refl, ap, ap₂, sym, ◌∙◌, subst, arith, append_assoc, append-nil, min}
use Rattle.std.proofs.lemmas.Bool.{cases_Bool, false≢true}
use Rattle.std.proofs.lemmas.Bool.Decides.{nat_tests, eqb_tells}
use Rattle.std.proofs.lemmas.List.{map_more, get_or-map, length-map, map-append}
use Rattle.std.proofs.lemmas.List.Elements.{filter-append}
use Rattle.std.proofs.lemmas.Option.{get_or_from_slice_get}
use Rattle.std.proofs.lemmas.Slice.Zip.{get_or-zip, length-zip}
use Rattle.std.specs.Prelude.{slice_get}
use Rattle.std.specs.List.{filter}
use Rattle.base_words.specs.Lists.{int_sum_by}
use Rattle.base_words.proofs.SignedSums.{int_sum_by-more}
use Rattle.hold_parts.specs.declared.parts.Item.{Item}
use Rattle.hold_limits.specs.BranchOrder.{ordered}
use Rattle.hold_limits.specs.Problem.{Problem}
use Rattle.hold_limits.proofs.BranchOrderLemmas.{length-ordered}
use Rattle.hold_reach.specs.Reach.{least}
use Rattle.position_set.specs.declared.set.PositionSet.{PositionSet}
use Rattle.position_set.specs.Sets.{has, members}
use Rattle.position_set.proofs.MemberLemmas.{same-from}
use Rattle.position_set.proofs.OrderLemmas.{stands_in, members-ordered, members-push}
use Rattle.price_trees.specs.Prices.{Candidate, candidates}
use Rattle.choice_prices.specs.declared.tariff.Tariff.{Tariff}
use Rattle.choice_prices.specs.Tariffs.{cost_by, least_by, cheap_by}

-- The least of a set ----------------------------------------------------------------------------

-- The cheap ones of a set -----------------------------------------------------------------------

pub record IsSifted (test : ℕ → Bool) (all : List ℕ) (rest kept : PositionSet) : Type 0 where
  pub done : List ℕ
  pub split : all ≡ done ++ members rest
  pub among : (q : ℕ) → has kept q ≡ true → stands_in done q ≡ true
  pub is : members kept ≡ filter test done

members-like : (a b : PositionSet) → ((q : ℕ) → has a q ≡ has b q) → members a ≡ members b
unfolding members
members-like a b same = same-from (has a) (has b) 0 64 (λ q from. same q)

stands-before : (done : List ℕ) (k q : ℕ) → stands_in done q ≡ true → stands_in (done ++ k ∷ []) q ≡ true
stands-before [] k q stands = absurd (false≢true stands)
stands-before (d ∷ done) k q stands = ⊎_elim
    (λ (here : (d == q) ≡ true). rw here refl)
    (λ (other : (d == q) ≡ false). rw other (stands-before done k q (rw other at stands)))
    (cases_Bool (d == q))

stands-last : (done : List ℕ) (k : ℕ) → stands_in (done ++ k ∷ []) k ≡ true
stands-last [] k = rw (itself k) refl
  where
    itself : (q : ℕ) → (q == q) ≡ true
    itself q = grind (arith, nat_tests)
stands-last (d ∷ done) k = rw (stands-last done k) (or-true (d == k))
  where
    or-true : (b : Bool) → (b || true) ≡ true
    or-true true = refl
    or-true false = refl

pub sifted-start : (test : ℕ → Bool) (set kept : PositionSet) → ((q : ℕ) → has kept q ≡ false) → members kept ≡ [] → IsSifted test (members set) set kept
sifted-start test set kept empty none = record {
  done = [];
  split = refl;
  among = λ q one. absurd (false≢true (sym (empty q) ∙ one));
  is = none;
}

pub sifted-more : (test : ℕ → Bool) (set rest after kept more : PositionSet) (k : ℕ) (passes : Bool) → IsSifted test (members set) rest kept → k < 64 → members rest ≡ k ∷ members after
    → passes ≡ test k → ((q : ℕ) → has more q ≡ (has kept q || (passes && (q == k)))) → IsSifted test (members set) after more
sifted-more test set rest after kept more k passes so_far within took told with_it =
    let now : members set ≡ so_far.done ++ k ∷ members after = so_far.split ∙ ap (λ qs. so_far.done ++ qs) took in
    let split : members set ≡ (so_far.done ++ k ∷ []) ++ members after = now ∙ sym (append_assoc so_far.done (k ∷ []) (members after)) in
    let sift : filter test (so_far.done ++ k ∷ []) ≡ filter test so_far.done ++ filter test (k ∷ []) = filter-append test so_far.done (k ∷ []) in
    ⊎_elim
    (λ (one : passes ≡ true).
    let tested : test k ≡ true = sym told ∙ one in
    let with_k : (q : ℕ) → has more q ≡ (has kept q || (q == k)) = λ q. with_it q ∙ ap (λ b. has kept q || (b && (q == k))) one in
    let above : (q : ℕ) → has kept q ≡ true → q < k = λ q kept_q. members-ordered set so_far.done (members after) k q now (so_far.among q kept_q) in
    let last : filter test (k ∷ []) ≡ k ∷ [] = rw tested refl in
    record {
      done = so_far.done ++ k ∷ [];
      split = split;
      among = λ q has_q. ⊎_elim
          (λ (old : has kept q ≡ true). stands-before so_far.done k q (so_far.among q old))
          (λ (not_old : has kept q ≡ false). ⊎_elim
          (λ same. let here : k ≡ q = sym same.1 in subst (λ n. stands_in (so_far.done ++ k ∷ []) n ≡ true) here (stands-last so_far.done k))
          (λ other. absurd (false≢true (rw (not_old, other.0) at (sym (with_k q) ∙ has_q))))
          (eqb_tells q k))
          (cases_Bool (has kept q));
      is = members-push kept more k within above with_k ∙ ap (λ qs. qs ++ k ∷ []) so_far.is ∙ sym (sift ∙ ap (λ qs. filter test so_far.done ++ qs) last);
    })
    (λ (not_one : passes ≡ false).
    let tested : test k ≡ false = sym told ∙ not_one in
    let same : (q : ℕ) → has more q ≡ has kept q = λ q. with_it q ∙ ap (λ b. has kept q || (b && (q == k))) not_one ∙ or-false (has kept q) in
    let last : filter test (k ∷ []) ≡ [] = rw tested refl in
    record {
      done = so_far.done ++ k ∷ [];
      split = split;
      among = λ q has_q. stands-before so_far.done k q (so_far.among q (sym (same q) ∙ has_q));
      is = members-like more kept same ∙ so_far.is ∙ sym (sift ∙ ap (λ qs. filter test so_far.done ++ qs) last ∙ append-nil (filter test so_far.done));
    })
    (cases_Bool passes)
  where
    or-false : (b : Bool) → (b || false) ≡ b
    or-false true = refl
    or-false false = refl

pub sifted-all : (test : ℕ → Bool) (set rest kept : PositionSet) → IsSifted test (members set) rest kept → members rest ≡ [] → members kept ≡ filter test (members set)
sifted-all test set rest kept sifted none =
    sifted.is ∙ ap (filter test) (sym (sifted.split ∙ ap (λ qs. sifted.done ++ qs) none ∙ append-nil sifted.done))

-- The sets of a choice --------------------------------------------------------------------------

pub length-candidates : (t : Problem) (sets : List PositionSet) → length (candidates t (map members sets)) ≡ min (length t.items) (length sets)
length-candidates t sets = length-zip (ordered t.items) (map members sets) ∙ ap₂ min (length-ordered t.items) (length-map sets members)

-- the container of a rank with the numbers of its set
pub candidate-at : (t : Problem) (sets : List PositionSet) (rank : ℕ) (item : Item) (set none : PositionSet) (d : Candidate) → rank < length t.items → rank < length sets
    → slice_get (ordered t.items) rank ≡ Some item → set ≡ get_or sets rank none → get_or (candidates t (map members sets)) rank d ≡ (item, members set)
candidate-at t sets rank item set none d in_order in_sets there is =
    let inside : rank < length (ordered t.items) = omega (arith, length-ordered t.items) in
    let mapped : rank < length (map members sets) = omega (arith, length-map sets members) in
    get_or-zip (ordered t.items) (map members sets) rank d inside mapped
    ∙ ap₂ (λ a b. (a, b)) (get_or_from_slice_get (ordered t.items) rank item d.0 there) (get_or-map members sets rank none d.1 in_sets ∙ ap members (sym is))

-- the least cost of one container more
pub leasts-more : (t : Problem) (tariffs : List Tariff) (sets : List PositionSet) (rank : ℕ) (item : Item) (set none : PositionSet) (sum cost : ℤ) → rank < length t.items → rank < length sets
    → slice_get (ordered t.items) rank ≡ Some item → set ≡ get_or sets rank none → cost ≡ least (map (cost_by tariffs item.mass.0) (members set))
    → sum ≡ int_sum_by (least_by tariffs) (take rank (candidates t (map members sets))) → int_sum_by (least_by tariffs) (take (rank + 1) (candidates t (map members sets))) ≡ sum +ℤ cost
leasts-more t tariffs sets rank item set none sum cost in_order in_sets there is costs so_far =
    let inside : rank < length (candidates t (map members sets)) = omega (arith, length-candidates t sets) in
    let here = candidate-at t sets rank item set none (item, members set) in_order in_sets there is in
    int_sum_by-more (least_by tariffs) (candidates t (map members sets)) rank (item, members set) inside
    ∙ ap₂ (λ a b. a +ℤ b) (sym so_far) (ap (least_by tariffs) here ∙ sym costs)

-- the cheap positions of one container more
pub cheap-more : (t : Problem) (tariffs : List Tariff) (slack : ℤ) (sets kept : List PositionSet) (rank : ℕ) (item : Item) (set none cheap : PositionSet) → rank < length t.items → rank < length sets
    → slice_get (ordered t.items) rank ≡ Some item → set ≡ get_or sets rank none → members cheap ≡ cheap_by tariffs slack (item, members set)
    → map members kept ≡ map (cheap_by tariffs slack) (take rank (candidates t (map members sets)))
    → map members (kept ++ cheap ∷ []) ≡ map (cheap_by tariffs slack) (take (rank + 1) (candidates t (map members sets)))
cheap-more t tariffs slack sets kept rank item set none cheap in_order in_sets there is cheaps so_far =
    let inside : rank < length (candidates t (map members sets)) = omega (arith, length-candidates t sets) in
    let here = candidate-at t sets rank item set none (item, members set) in_order in_sets there is in
    map-append members kept (cheap ∷ [])
    ∙ ap₂ (λ xs x. xs ++ x ∷ []) so_far (cheaps ∙ sym (ap (cheap_by tariffs slack) here))
    ∙ sym (map_more (cheap_by tariffs slack) (candidates t (map members sets)) rank (item, members set) inside)
