-- How many cuts a price-near certificate has: one, or at most 64 for each price-near prefix that leaves containers.
use Rattle.std.proofs.Common.{◌≡◌, ◌≢◌, ⊎_elim, ℕ, zero, suc, ◌*◌, ◌≤◌, List, [], ◌∷◌, length, get_or, refl, subst, arith}
use Rattle.std.proofs.lemmas.List.Elements.{All-weaker}
use Rattle.std.specs.Prelude.{All, AllPairs, Contains}
use Rattle.hold_limits.specs.Problem.{Problem}
use Rattle.hold_limits.specs.Faults.{IsLawful}
use Rattle.certificate.specs.Good.{AreAtMost, IsBefore, AreInOrder}
use Rattle.best_first.proofs.CountLemmas.{All-from_contains, length-within}
use Rattle.priced_certificate.specs.declared.parts.PricedCertificate.{PricedCertificate}
use Rattle.priced_checker.specs.Good.{prefixes_of}
use Rattle.priced_placer.specs.PriceNear.{IsPriceNear, IsPriceNearAndIncomplete, HasPriceNearParent, IsPriceCut, IsPriceNearCertificate}
use Rattle.task_answers.proofs.CutCounts.{children, length-children, child-within, differ}

-- a cut that is not empty is one of the price-near prefixes that leave containers, with a number below 64 at its end
cut-child : (t : Problem) (prefixes : List (List ℕ)) (cut : List ℕ) → IsLawful t → ((p : List ℕ) → IsPriceNearAndIncomplete t p → Contains prefixes p) → IsPriceCut t cut
    → cut ≢ [] → Contains (children prefixes) cut
cut-child t prefixes cut lawful every is some = ⊎_elim
    (λ (empty : cut ≡ []). absurd (some empty))
    (λ (from : HasPriceNearParent t cut). child-within t prefixes cut from.0 from.1 lawful from.2 is.viable.sound is.incomplete
    (λ short. every from.0 (record { near = from.3; incomplete = short })))
    is.parent

-- no list comes before the empty one
before-some : (front cut : List ℕ) → IsBefore front cut → cut ≢ []
before-some [] cut before same = let none : IsBefore [] [] = subst (IsBefore []) same before in cc
before-some (x ∷ front) cut before same = let none : IsBefore (x ∷ front) [] = subst (IsBefore (x ∷ front)) same before in cc

-- where the first cut is not empty, none is
none-empty : (q : ℕ) (front : List ℕ) (rest : List (List ℕ)) → AllPairs IsBefore ((q ∷ front) ∷ rest) → All (λ cut. cut ≢ []) ((q ∷ front) ∷ rest)
none-empty q front rest rising zero d within = λ same. cc
none-empty q front rest rising (suc k) d within = before-some (q ∷ front) (get_or ((q ∷ front) ∷ rest) (suc k) d) (rising 0 (suc k) d (omega arith) within)

-- cuts of which none is empty are among the children of the prefixes
among-children : (t : Problem) (prefixes cuts : List (List ℕ)) → IsLawful t → ((p : List ℕ) → IsPriceNearAndIncomplete t p → Contains prefixes p) → AllPairs IsBefore cuts
    → All (IsPriceCut t) cuts → All (λ cut. cut ≢ []) cuts → length cuts ≤ 64 * length prefixes
among-children t prefixes cuts lawful every rising are some =
    let inside : All (Contains (children prefixes)) cuts = λ k d within. cut-child t prefixes (get_or cuts k d) lawful every (are k d within) (some k d within) in
    omega (arith, length-within cuts (children prefixes) (differ cuts rising) inside, length-children prefixes)

few : (t : Problem) (prefixes cuts : List (List ℕ)) → IsLawful t → ((p : List ℕ) → IsPriceNearAndIncomplete t p → Contains prefixes p) → AllPairs IsBefore cuts
    → AllPairs AreInOrder cuts → All (IsPriceCut t) cuts → length prefixes ≤ 500 → length cuts ≤ 32000
few t prefixes [] lawful every rising order are low = omega arith
few t prefixes ([] ∷ []) lawful every rising order are low = omega arith
few t prefixes ([] ∷ (cut ∷ rest)) lawful every rising order are low = absurd ((order 0 1 [] (omega arith) (omega arith)).apart (cut, refl))
few t prefixes ((q ∷ front) ∷ rest) lawful every rising order are low =
    omega (arith, among-children t prefixes ((q ∷ front) ∷ rest) lawful every rising are (none-empty q front rest rising), low)

-- a good price-near certificate that counts at most 500 prefixes has at most 32,000 cuts
pub price-few_cuts : (t : Problem) (c : PricedCertificate) → IsLawful t → IsPriceNearCertificate t c → AllPairs AreInOrder (prefixes_of c.cuts) → c.expanded ≤ 500
    → length (prefixes_of c.cuts) ≤ 32000
price-few_cuts t c lawful near order low =
    let number = near.expanded.number in
    few t near.expanded.lists (prefixes_of c.cuts) lawful near.expanded.every near.rising order
    (All-from_contains (IsPriceCut t) (prefixes_of c.cuts) (λ cut there. (near.cuts cut).0 there)) (omega (arith, number, low))

-- and the price-near prefixes that leave containers are among all price-near ones
pub price-few_expanded : (t : Problem) (budget : ℕ) (c : PricedCertificate) → IsPriceNearCertificate t c → AreAtMost (IsPriceNear t) budget → c.expanded ≤ budget
price-few_expanded t budget c near few =
    let prefixes = near.expanded.lists in
    let all = All-weaker (IsPriceNearAndIncomplete t) (IsPriceNear t) (λ p is. is.near) prefixes near.expanded.of_kind in
    omega (arith, few prefixes near.expanded.different all, near.expanded.number)
