-- a choice meets some positions exactly where the union of its sets has one of them
use Rattle.std.proofs.Common.{◌≡◌, ⊎_elim, ℕ, zero, suc, ◌+◌, ◌^◌, ◌<◌, ◌≤◌, Bool, true, false, not, ◌&&◌, ◌||◌, ◌==◌, List, length, [], ◌∷◌, map, Option, Some, None, refl, ap, ap₂, sym, ◌∙◌, arith}
use Rattle.std.proofs.lemmas.Bool.{cases_Bool, false≢true}
use Rattle.std.proofs.lemmas.Bool.Decides.{nat_tests}
use Rattle.std.specs.Prelude.{slice_get, IsTrue, ◌↔◌}
use Rattle.std.specs.List.{AllByRecursion, filter, list_any, range_with_len}
use Rattle.std.specs.Option.{option_map_or}
use Rattle.hold_parts.specs.Limits.{is_listed}
use Rattle.position_set.specs.declared.set.PositionSet.{PositionSet}
use Rattle.position_set.specs.Sets.{has, members}
use Rattle.position_set.proofs.MemberLemmas.{members-filter, members-none, members-empty}
use Rattle.position_set.proofs.OrderLemmas.{stands-has, has-stands}
use Rattle.price_trees.specs.Prices.{Choice, meets}
use Rattle.choice_prices.specs.Listing.{clique_places}
use Rattle.choice_prices.proofs.LimitLemmas.{none-met}

-- Numbers of a set ------------------------------------------------------------------------------

below-from : (f : ℕ → Bool) (most a n : ℕ) → a + n ≤ most → AllByRecursion (λ q. q < most) (filter f (range_with_len a n))
below-from f most a zero within = tt
below-from f most a (suc n) within = ⊎_elim
    (λ (one : f a ≡ true). rw one (omega arith, below-from f most (a + 1) n (omega arith)))
    (λ (other : f a ≡ false). rw other (below-from f most (a + 1) n (omega arith)))
    (cases_Bool (f a))

pub members-below : (set : PositionSet) → AllByRecursion (λ q. q < 64) (members set)
unfolding members
members-below set = below-from (has set) 64 0 64 (omega arith)

pub listed-has : (set : PositionSet) (q : ℕ) → q < 64 → is_listed (members set) q ≡ has set q
listed-has set q within = ⊎_elim
    (λ (one : has set q ≡ true). stands-has set q within one ∙ sym one)
    (λ (other : has set q ≡ false). ⊎_elim
    (λ (listed : is_listed (members set) q ≡ true). absurd (false≢true (sym other ∙ has-stands set q listed)))
    (λ (not_listed : is_listed (members set) q ≡ false). not_listed ∙ sym other)
    (cases_Bool (is_listed (members set) q)))
    (cases_Bool (has set q))

pub clique-below : (cliques : List PositionSet) (n : ℕ) → AllByRecursion (λ q. q < 64) (clique_places cliques n)
clique-below cliques n = by_case (slice_get cliques n)
  where
    by_case : (found : Option PositionSet) → AllByRecursion (λ q. q < 64) (option_map_or members found [])
    by_case None = tt
    by_case (Some set) = members-below set

-- Unions ----------------------------------------------------------------------------------------

swap-or : (a b c d : Bool) → ((a || b) || (c || d)) ≡ ((a || c) || (b || d))
swap-or true b c d = refl
swap-or false true true d = refl
swap-or false true false d = refl
swap-or false false true d = refl
swap-or false false false d = refl

any-more : (p : ℕ) (places set : List ℕ) → list_any (is_listed (p ∷ places)) set ≡ (is_listed set p || list_any (is_listed places) set)
any-more p places [] = refl
any-more p places (q ∷ set) =
    ap₂ (λ a b. (a || is_listed places q) || b) (turned p q) (any-more p places set)
    ∙ swap-or (q == p) (is_listed places q) (is_listed set p) (list_any (is_listed places) set)
  where
    turned : (a b : ℕ) → (a == b) ≡ (b == a)
    turned a b = grind (arith, nat_tests)

meets-more : (p : ℕ) (places : List ℕ) (choice : Choice) → meets (p ∷ places) choice ≡ (list_any (λ set. is_listed set p) choice || meets places choice)
meets-more p places [] = refl
meets-more p places (set ∷ choice) =
    ap₂ (λ a b. a || b) (any-more p places set) (meets-more p places choice)
    ∙ swap-or (is_listed set p) (list_any (is_listed places) set) (list_any (λ set. is_listed set p) choice) (meets places choice)

any-has : (p : ℕ) → p < 64 → (sets : List PositionSet) → list_any (λ set. is_listed set p) (map members sets) ≡ list_any (λ (set : PositionSet). has set p) sets
any-has p within [] = refl
any-has p within (set ∷ sets) = ap₂ (λ a b. a || b) (listed-has set p within) (any-has p within sets)

pub union-meets : (union : PositionSet) (sets : List PositionSet) → ((q : ℕ) → has union q ≡ list_any (λ (set : PositionSet). has set q) sets)
    → (places : List ℕ) → AllByRecursion (λ q. q < 64) places → list_any (has union) places ≡ meets places (map members sets)
union-meets union sets is [] within = sym (none-met (map members sets))
union-meets union sets is (p ∷ places) within =
    ap₂ (λ a b. a || b) (is p ∙ sym (any-has p within.0 sets)) (union-meets union sets is places within.1)
    ∙ sym (meets-more p places (map members sets))

-- a clique and a union have no number in common exactly where no number of the clique is one of the union's
none-kept : (test : ℕ → Bool) (qs : List ℕ) → filter test qs ≡ [] → list_any test qs ≡ false
none-kept test [] none = refl
none-kept test (q ∷ qs) none = ⊎_elim
    (λ (one : test q ≡ true). absurd (cc (rw one at none)))
    (λ (other : test q ≡ false). rw other (none-kept test qs (rw other at none)))
    (cases_Bool (test q))

none-passing : (test : ℕ → Bool) (qs : List ℕ) → list_any test qs ≡ false → filter test qs ≡ []
none-passing test [] none = refl
none-passing test (q ∷ qs) none = ⊎_elim
    (λ (one : test q ≡ true). absurd (false≢true (sym (rw one at none))))
    (λ (other : test q ≡ false). rw other (none-passing test qs (rw other at none)))
    (cases_Bool (test q))

pub clique-meets : (clique union both : PositionSet) (empty : Bool) → both.0 < 2 ^ 64 → ((q : ℕ) → has both q ≡ (has clique q && has union q)) → IsTrue empty ↔ ((q : ℕ) → has both q ≡ false)
    → not empty ≡ list_any (has union) (members clique)
clique-meets clique union both true fits is tells =
    sym (none-kept (has union) (members clique) (sym (members-filter both clique (has union) is) ∙ members-none both (tells.0 refl)))
clique-meets clique union both false fits is tells = ⊎_elim
    (λ (some : list_any (has union) (members clique) ≡ true). sym some)
    (λ (none : list_any (has union) (members clique) ≡ false).
    let nothing : length (members both) ≡ 0 = ap length (members-filter both clique (has union) is ∙ none-passing (has union) (members clique) none) in
    absurd (false≢true (tells.1 (members-empty both fits nothing))))
    (cases_Bool (list_any (has union) (members clique)))

-- of the clique with a number
pub found-places : (cliques : List PositionSet) (n : ℕ) (set : PositionSet) → slice_get cliques n ≡ Some set → members set ≡ clique_places cliques n
found-places cliques n set is = rw is refl

pub no-places : (cliques : List PositionSet) (n : ℕ) → slice_get cliques n ≡ None → [] ≡ clique_places cliques n
no-places cliques n is = rw is refl
