-- How many cuts a near certificate has: at most 64 for each near prefix that leaves containers.
use Rattle.std.proofs.Common.{◌≡◌, ◌≢◌, ◌⊎◌, inl, inr, ⊎_elim, ℕ, zero, suc, ◌*◌, ◌<◌, ◌≤◌, List, [], ◌∷◌, ◌++◌, length, get_or, refl, sym, ap, subst, arith}
use Rattle.std.proofs.lemmas.List.{length-append}
use Rattle.std.proofs.lemmas.List.Elements.{All-weaker, Contains-append_left, Contains-append_right}
use Rattle.std.specs.Prelude.{All, AllPairs, Contains}
use Rattle.hold_limits.specs.Problem.{Problem}
use Rattle.hold_limits.specs.Placement.{IsSound}
use Rattle.hold_limits.specs.Faults.{IsLawful}
use Rattle.hold_limits.proofs.LawfulBounds.{lawful-bounds}
use Rattle.hold_partial.proofs.KeptLemmas.{last-known}
use Rattle.certificate.specs.declared.parts.Certificate.{Certificate}
use Rattle.certificate.specs.Good.{AreAtMost, IsBefore, IsIncomplete}
use Rattle.cert_checker.proofs.CutOrder.{less_same_or_more}
use Rattle.cert_checker.proofs.PathOrder.{IsBefore-not_itself}
use Rattle.placer.specs.Near.{IsNear, IsNearAndIncomplete, IsNearCut, IsNearCertificate}
use Rattle.best_first.proofs.CountLemmas.{Contains-cons, Contains-cons_cases, Contains-later, All-from_contains, length-within}

-- a prefix with each of the first n numbers at its end
with_last : ℕ → List ℕ → List (List ℕ)
with_last zero prefix = []
with_last (suc n) prefix = (prefix ++ n ∷ []) ∷ with_last n prefix

length-with_last : (n : ℕ) (prefix : List ℕ) → length (with_last n prefix) ≡ n
unfolding with_last
length-with_last zero prefix = refl
length-with_last (suc n) prefix = ap suc (length-with_last n prefix)

less_or_same : (m n : ℕ) → m < suc n → (m ≡ n) ⊎ (m < n)
less_or_same m n less = ⊎_elim
    (λ (below : m < n). inr below)
    (λ (rest : (m ≡ n) ⊎ (n < m)). ⊎_elim (λ (same : m ≡ n). inl same) (λ (above : n < m). absurd (omega (arith, above, less))) rest)
    (less_same_or_more m n)

Contains-with_last : (n q : ℕ) (prefix : List ℕ) → q < n → Contains (with_last n prefix) (prefix ++ q ∷ [])
unfolding with_last
Contains-with_last zero q prefix below = absurd (omega (arith, below))
Contains-with_last (suc n) q prefix below = ⊎_elim
    (λ (same : q ≡ n). subst (λ k. Contains (with_last (suc n) prefix) (prefix ++ k ∷ [])) (sym same) (Contains-cons (prefix ++ n ∷ []) (with_last n prefix)))
    (λ (less : q < n). Contains-later (prefix ++ n ∷ []) (with_last n prefix) (prefix ++ q ∷ []) (Contains-with_last n q prefix less))
    (less_or_same q n below)

-- each of the prefixes with each of the first 64 numbers at its end
pub children : List (List ℕ) → List (List ℕ)
children [] = []
children (prefix ∷ prefixes) = with_last 64 prefix ++ children prefixes

pub length-children : (prefixes : List (List ℕ)) → length (children prefixes) ≡ 64 * length prefixes
unfolding children
length-children [] = refl
length-children (prefix ∷ prefixes) =
    let whole = length-append (with_last 64 prefix) (children prefixes) in
    omega (arith, whole, length-with_last 64 prefix, length-children prefixes)

Contains-children : (prefixes : List (List ℕ)) (prefix : List ℕ) (q : ℕ) → Contains prefixes prefix → q < 64 → Contains (children prefixes) (prefix ++ q ∷ [])
unfolding children
Contains-children [] prefix q inside below = absurd (omega (arith, inside.1))
Contains-children (x ∷ prefixes) prefix q inside below = ⊎_elim
    (λ (same : x ≡ prefix). Contains-append_left (with_last 64 x) (children prefixes) (prefix ++ q ∷ [])
    (subst (λ (p : List ℕ). Contains (with_last 64 p) (prefix ++ q ∷ [])) (sym same) (Contains-with_last 64 q prefix below)))
    (λ (later : Contains prefixes prefix). Contains-append_right (with_last 64 x) (children prefixes) (prefix ++ q ∷ []) (Contains-children prefixes prefix q later below))
    (Contains-cons_cases x prefixes prefix inside)

-- a sound prefix that leaves containers is its parent, with a number below 64 at its end
pub child-within : (t : Problem) (prefixes : List (List ℕ)) (cut parent : List ℕ) (q : ℕ) → IsLawful t → cut ≡ parent ++ q ∷ [] → IsSound t cut → IsIncomplete t cut
    → (IsIncomplete t parent → Contains prefixes parent) → Contains (children prefixes) cut
child-within t prefixes cut parent q lawful same sound incomplete inside =
    let known = last-known t parent q (subst (λ (p : List ℕ). IsSound t p) same sound) in
    let bounds = lawful-bounds t lawful in
    let short : length parent < length t.items = omega (arith, incomplete, ap length same, length-append parent (q ∷ [])) in
    subst (Contains (children prefixes)) (sym same) (Contains-children prefixes parent q (inside short) (omega (arith, known, bounds.positions)))

-- a cut is one of the near prefixes that leave containers, with a number below 64 at its end
cut-child : (t : Problem) (prefixes : List (List ℕ)) (cut : List ℕ) → IsLawful t → ((p : List ℕ) → IsNearAndIncomplete t p → Contains prefixes p) → IsNearCut t cut
    → Contains (children prefixes) cut
cut-child t prefixes cut lawful every is =
    let parent = is.parent.0 in
    child-within t prefixes cut parent is.parent.1 lawful is.parent.2 is.viable.sound is.incomplete
    (λ short. every parent (record { near = is.parent.3; incomplete = short }))

-- cuts in path order are different
pub differ : (cuts : List (List ℕ)) → AllPairs IsBefore cuts → AllPairs (λ p q. p ≢ q) cuts
differ cuts rising = λ i j d earlier within same.
    IsBefore-not_itself (get_or cuts i d) (subst (λ (p : List ℕ). IsBefore (get_or cuts i d) p) (sym same) (rising i j d earlier within))

pub near-few_cuts : (t : Problem) (c : Certificate) → IsLawful t → IsNearCertificate t c → length c.cuts ≤ 64 * c.expanded
near-few_cuts t c lawful near =
    let prefixes = near.expanded.lists in
    let inside : All (Contains (children prefixes)) c.cuts = All-from_contains (Contains (children prefixes)) c.cuts
    (λ cut there. cut-child t prefixes cut lawful near.expanded.every ((near.cuts cut).0 there)) in
    omega (arith, length-within c.cuts (children prefixes) (differ c.cuts near.rising) inside, length-children prefixes, ap (λ n. 64 * n) near.expanded.number)

-- and the near prefixes that leave containers are among all near ones
pub near-few_expanded : (t : Problem) (budget : ℕ) (c : Certificate) → IsNearCertificate t c → AreAtMost (IsNear t) budget → c.expanded ≤ budget
near-few_expanded t budget c near few =
    let prefixes = near.expanded.lists in
    let all = All-weaker (IsNearAndIncomplete t) (IsNear t) (λ p is. is.near) prefixes near.expanded.of_kind in
    omega (arith, few prefixes near.expanded.different all, near.expanded.number)
