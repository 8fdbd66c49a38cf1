-- each test of a check can be decided, so there is a first reason against a certificate or it is good
use Rattle.std.proofs.Common.{refl, ◌≡◌, ◌⊎◌, inl, inr, ⊎_elim, ℕ, zero, suc, ◌+◌, ◌-◌, ◌<◌, ◌≤◌, ℤ, pos, ◌-ℤ◌, ◌≤ℤ◌, Bool, true, false, List, [], ◌∷◌, ◌++◌, length, get_or, take, Option, Some, None, Ordering, Less, Equal, Greater, is_gt, nat_cmp, sym, ap, ◌∙◌, subst, arith, append_assoc, length-append, Decides}
use Rattle.std.proofs.lemmas.Bool.{cases_Bool, false≢true}
use Rattle.std.proofs.lemmas.Bool.Decides.{leb_tells}
use Rattle.std.proofs.lemmas.List.{take_all}
use Rattle.std.proofs.lemmas.List.Elements.{All-nil, All-cons, All-head, All-tail, All-contains}
use Rattle.std.proofs.lemmas.Option.{slice_get-get_or}
use Rattle.std.specs.Prelude.{All, slice_get, IfSome, IsSomeAnd}
use Rattle.std.specs.Cmp.Lexicographic.{slice_cmp}
use Rattle.base_words.specs.Lists.{Extends}
use Rattle.hold_parts.specs.declared.parts.Lateral.{Lateral}
use Rattle.hold_limits.specs.Problem.{Problem}
use Rattle.hold_limits.specs.Placement.{IsAtMost, key, key_cmp}
use Rattle.hold_limits.specs.Twins.{is_rising}
use Rattle.hold_limits.specs.Enumeration.{is_sound, is_admissible}
use Rattle.hold_limits.proofs.EnumerationLemmas.{int_le-Decides, is_sound-Decides, is_admissible-Decides}
use Rattle.hold_limits.proofs.TwinLemmas.{is_rising-Decides}
use Rattle.hold_reach.specs.Reach.{Meets, IsViable, bound, reach, lateral_reach}
use Rattle.hold_reach.proofs.CommonNumber.{common-from, common-bounds}
use Rattle.certificate.specs.Good.{IsUncut, IsIncomplete, AreInOrder, HoldsNothingBetter, IsNoBetter, IsGood}
use Rattle.cert_checker.specs.FirstReason.{ClaimHolds, CutsHold, IsTested, IsInOrder, CanBeCut, CutFails, IsComplete, Pass, PrefixFails, IsFirstReason, AllPass}
use Rattle.cert_checker.specs.Steps.{Stops}
use Rattle.cert_checker.specs.declared.reject.Reject.{Reject}
use Rattle.cert_checker.specs.declared.reject.Reject.TheVariants.{NotAPlacement, CutOrder, CutNotViable, CutWeak, Nearer, Exists, MoreExpanded}
use Rattle.cert_checker.proofs.PathOrder.{Extends-or_not, cut-or_uncut}
use Rattle.cert_checker.proofs.CutLemmas.{CutsHold-none, CutsHold-next}
use Rattle.cert_checker.proofs.WalkLemmas.{IsVisited, Pass-none, Pass-unviable, Pass-complete, Pass-first, Pass-next, Pass-last, Stops-here, Stops-next}
use Rattle.cert_checker.proofs.ReasonLemmas.{IsGood-from, Stops-too_many, Stops-path}

abbrev Decided : Type 0 → Type 0
Decided P = P ⊎ (P → ⊥)

by-test : {P : Type 0} (b : Bool) → Decides b P → Decided P
by-test b decides = ⊎_elim
    (λ (yes : b ≡ true). inl (decides.0 yes))
    (λ (no : b ≡ false). inr (λ p. false≢true (sym no ∙ decides.1 p)))
    (cases_Bool b)

both-decided : {P Q : Type 0} → Decided P → Decided Q → Decided (P × Q)
both-decided p q = ⊎_elim
    (λ yes. ⊎_elim (λ also. inl (yes, also)) (λ not. inr (λ both. not both.1)) q)
    (λ not. inr (λ both. not both.0))
    p

same-decided : {P Q : Type 0} → (P → Q) → (Q → P) → Decided P → Decided Q
same-decided to from p = ⊎_elim (λ yes. inl (to yes)) (λ not. inr (λ q. not (from q))) p

All-decided : (P : List ℕ → Type 0) → ((x : List ℕ) → Decided (P x)) → (xs : List (List ℕ)) → Decided (All P xs)
All-decided P each [] = inl (All-nil P)
All-decided P each (x ∷ xs) = same-decided
    (λ both. All-cons P x xs both.0 both.1)
    (λ all. (All-head P x xs all, All-tail P x xs all))
    (both-decided (each x) (All-decided P each xs))

-- Viable ----------------------------------------------------------------------------------------

meets-decided : (low high : ℤ) (reached : Option (ℤ × ℤ)) → Decided (Meets low high reached)
meets-decided low high None = inr (λ meets. meets)
meets-decided low high (Some span) = same-decided
    (λ four. common-from span.0 span.1 low high four.0.0 four.0.1 four.1.0 four.1.1)
    (λ common. let bounds = common-bounds span.0 span.1 low high common in ((bounds.0, bounds.1), (bounds.2, bounds.3)))
    (both-decided
    (both-decided (le span.0 span.1) (le span.0 high))
    (both-decided (le low span.1) (le low high)))
  where
    le : (x y : ℤ) → Decided (x ≤ℤ y)
    le x y = by-test _ (int_le-Decides x y)

lateral-decided : (limit : Option Lateral) (reached : Option (ℤ × ℤ)) → Decided (IfSome limit (λ (l : Lateral). Meets (pos 0 -ℤ pos l.most.0) (pos l.most.0) reached))
lateral-decided None reached = inl tt
lateral-decided (Some l) reached = meets-decided (pos 0 -ℤ pos l.most.0) (pos l.most.0) reached

viable-decided : (t : Problem) (p : List ℕ) → Decided (IsViable t p)
viable-decided t p = same-decided
    (λ four. record { sound = four.0.0; rising = four.0.1; window = four.1.0; lateral = four.1.1 })
    (λ viable. ((viable.sound, viable.rising), (viable.window, viable.lateral)))
    (both-decided
    (both-decided (by-test (is_sound t p) (is_sound-Decides t p)) (by-test (is_rising t p) (is_rising-Decides t p)))
    (both-decided (meets-decided t.low t.high (reach t p)) (lateral-decided t.hold.lateral (lateral_reach t p))))

incomplete-decided : (t : Problem) (p : List ℕ) → Decided (IsIncomplete t p)
incomplete-decided t p = ⊎_elim
    (λ long. inr (λ short. absurd (omega (arith, long.1, short))))
    (λ short. inl short.1)
    (leb_tells (length t.items) (length p))

-- Better ----------------------------------------------------------------------------------------

false-decided : (b : Bool) → Decided (b ≡ false)
false-decided true = inr (λ is. false≢true (sym is))
false-decided false = inl refl

no_better-decided : (t : Problem) (claim : Option (List ℕ)) (p : List ℕ) → Decided (IsNoBetter t claim p)
no_better-decided t None p = inr (λ none. none)
no_better-decided t (Some path) p = false-decided (is_gt (key_cmp (key t path) (key t p)))

idle-decided : (t : Problem) (claim : Option (List ℕ)) (p : List ℕ) → Decided (HoldsNothingBetter t claim p)
idle-decided t None p = inr (λ none. none)
idle-decided t (Some path) p = by_bound (bound t p)
  where
    by_bound : (b : Option ℕ) → Decided (IsSomeAnd b (λ n. IsAtMost (key t path) (n, p)))
    by_bound None = inr (λ none. none)
    by_bound (Some n) = false-decided (is_gt (key_cmp (key t path) (n, p)))

claim-decided : (t : Problem) (claim : Option (List ℕ)) → Decided (ClaimHolds t claim)
claim-decided t None = inl tt
claim-decided t (Some path) = by-test (is_admissible t path) (is_admissible-Decides t path)

-- Cuts ------------------------------------------------------------------------------------------

less-decided : (o : Ordering) → Decided (o ≡ Less)
less-decided Less = inl refl
less-decided Equal = inr (λ is. cc)
less-decided Greater = inr (λ is. cc)

in_order-decided : (a b : List ℕ) → Decided (AreInOrder a b)
in_order-decided a b = same-decided
    (λ both. record { before = both.0; apart = both.1 })
    (λ order. (order.before, order.apart))
    (both-decided (less-decided (slice_cmp nat_cmp a b)) (not-decided (Extends-or_not a b)))
  where
    not-decided : {P : Type 0} → Decided P → Decided (P → ⊥)
    not-decided p = ⊎_elim (λ yes. inr (λ not. not yes)) (λ not. inl not) p

-- the next cut fails, or one cut more holds
next-cut : (t : Problem) (claim : Option (List ℕ)) (cuts : List (List ℕ)) (at : ℕ) → at < length cuts → CutsHold t claim (take at cuts)
    → ((reason : Reject) × CutFails t claim cuts reason) ⊎ CutsHold t claim (take (at + 1) cuts)
next-cut t claim cuts at within hold =
    let cut = get_or cuts at [] in
    let stands : slice_get cuts at ≡ Some cut = slice_get-get_or cuts at [] within in
    let tested : IsTested t claim cuts at cut = record { stands = stands; before = hold } in
    ⊎_elim
    (λ (order : IsInOrder cuts at cut). ⊎_elim
    (λ (can : CanBeCut t cut). ⊎_elim
    (λ (idle : HoldsNothingBetter t claim cut). inr (CutsHold-next t claim cuts at cut within stands hold order can idle))
    (λ (weak : HoldsNothingBetter t claim cut → ⊥). inl (CutWeak at, (cut, tested, order, can, weak)))
    (idle-decided t claim cut))
    (λ (not : CanBeCut t cut → ⊥). inl (CutNotViable at, (cut, tested, order, not)))
    (both-decided (viable-decided t cut) (incomplete-decided t cut)))
    (λ (not : IsInOrder cuts at cut → ⊥). inl (CutOrder at, (cut, tested, not)))
    (All-decided (λ earlier. AreInOrder earlier cut) (λ earlier. in_order-decided earlier cut) (take at cuts))

cuts-decided : (t : Problem) (claim : Option (List ℕ)) (cuts : List (List ℕ)) (k : ℕ) → k ≤ length cuts → ((reason : Reject) × CutFails t claim cuts reason) ⊎ CutsHold t claim (take k cuts)
cuts-decided t claim cuts zero within = inr (CutsHold-none t claim)
cuts-decided t claim cuts (suc k) within = ⊎_elim
    (λ fails. inl fails)
    (λ hold.
    let one : k + 1 ≡ suc k = omega arith in
    subst (λ n. ((reason : Reject) × CutFails t claim cuts reason) ⊎ CutsHold t claim (take n cuts)) one (next-cut t claim cuts k (omega arith) hold))
    (cuts-decided t claim cuts k (omega arith))

-- Prefixes --------------------------------------------------------------------------------------

-- those of the kind pass, or one below the front is the first that fails
abbrev Outcome : Problem → Option (List ℕ) → List (List ℕ) → (List ℕ → Type 0) → List ℕ → ℕ → Type 0
Outcome t claim cuts Kind front left = ((n : ℕ) × (n ≤ left) × Pass t claim cuts Kind n) ⊎ ((p : List ℕ) × Stops t claim cuts (Extends front) left p)

Extends-further : (a b c : List ℕ) → Extends a b → Extends b c → Extends a c
Extends-further a b c first second = (first.0 ++ second.0, second.1 ∙ ap (λ xs. xs ++ second.0) first.1 ∙ append_assoc a first.0 second.0)

-- one number after a front more
next-number : (t : Problem) (claim : Option (List ℕ)) (cuts : List (List ℕ)) (front : List ℕ) (left q n : ℕ) → n ≤ left → Pass t claim cuts (IsVisited front q) n
    → ((left : ℕ) → IsUncut cuts (front ++ q ∷ []) → Outcome t claim cuts (Extends (front ++ q ∷ [])) (front ++ q ∷ []) left)
    → Outcome t claim cuts (IsVisited front (q + 1)) front left
next-number t claim cuts front left q n few passed each = ⊎_elim
    (λ cut. inl (
      n + 0,
      omega (arith, few),
      Pass-next t claim cuts front q n 0 passed
          (Pass-none t claim cuts (Extends (front ++ q ∷ []))
          (λ p viable uncut extends. All-contains (λ c. Extends c p → ⊥) cuts cut.0 uncut cut.1 (Extends-further cut.0 (front ++ q ∷ []) p cut.2 extends))),
    ))
    (λ uncut. ⊎_elim
    (λ more. inl (n + more.0, omega (arith, few, more.1), Pass-next t claim cuts front q n more.0 passed more.2))
    (λ stops. inr (stops.0, Stops-next t claim cuts front q n (left - n) left stops.0 (omega (arith, few)) passed stops.1))
    (each (left - n) uncut))
    (cut-or_uncut cuts (front ++ q ∷ []))

numbers-decided : (t : Problem) (claim : Option (List ℕ)) (cuts : List (List ℕ)) (front : List ℕ) (left : ℕ) → 1 ≤ left → Pass t claim cuts (IsVisited front 0) 1
    → ((q left : ℕ) → IsUncut cuts (front ++ q ∷ []) → Outcome t claim cuts (Extends (front ++ q ∷ [])) (front ++ q ∷ []) left)
    → (q : ℕ) → Outcome t claim cuts (IsVisited front q) front left
numbers-decided t claim cuts front left some first each zero = inl (1, some, first)
numbers-decided t claim cuts front left some first each (suc q) = ⊎_elim
    (λ earlier.
    let one : q + 1 ≡ suc q = omega arith in
    subst (λ m. Outcome t claim cuts (IsVisited front m) front left) one (next-number t claim cuts front left q earlier.0 earlier.1 earlier.2 (each q)))
    (λ stops. inr stops)
    (numbers-decided t claim cuts front left some first each q)

-- a complete prefix
complete-decided : (t : Problem) (claim : Option (List ℕ)) (cuts : List (List ℕ)) (front : List ℕ) (left : ℕ) → IsViable t front → IsUncut cuts front → IsComplete t front → Outcome t claim cuts (Extends front) front left
complete-decided t claim cuts front left viable uncut complete = ⊎_elim
    (λ no_better. inl (0, omega arith, Pass-complete t claim cuts front complete no_better))
    (λ better. inr (front, Stops-here t claim cuts front left viable uncut (inr (complete, better))))
    (no_better-decided t claim front)

-- a prefix of which at most k numbers are missing
from-decided : (t : Problem) (claim : Option (List ℕ)) (cuts : List (List ℕ)) (k : ℕ) (front : List ℕ) (left : ℕ) → IsUncut cuts front → length t.items ≤ length front + k → Outcome t claim cuts (Extends front) front left
from-decided t claim cuts zero front left uncut close = ⊎_elim
    (λ viable. complete-decided t claim cuts front left viable uncut (omega (arith, viable.sound.short, close)))
    (λ not. inl (0, omega arith, Pass-unviable t claim cuts front not))
    (viable-decided t front)
from-decided t claim cuts (suc k) front left uncut close = ⊎_elim
    (λ viable. ⊎_elim
    (λ incomplete. ⊎_elim
    (λ some. ⊎_elim
    (λ passed. inl (passed.0, passed.1, Pass-last t claim cuts front (length t.hold.positions) passed.0 (omega arith) passed.2))
    (λ stops. inr stops)
    (numbers-decided t claim cuts front left some.1 (Pass-first t claim cuts front viable uncut incomplete)
    (λ q rest next. from-decided t claim cuts k (front ++ q ∷ []) rest next (omega (arith, close, length-append front (q ∷ []))))
    (length t.hold.positions)))
    (λ none. inr (front, Stops-here t claim cuts front left viable uncut (inl (incomplete, omega (arith, none.1)))))
    (leb_tells 1 left))
    (λ long. complete-decided t claim cuts front left viable uncut (not_less (length front) (length t.items) viable.sound.short long))
    (incomplete-decided t front))
    (λ not. inl (0, omega arith, Pass-unviable t claim cuts front not))
    (viable-decided t front)
  where
    not_less : (m n : ℕ) → m ≤ n → (m < n → ⊥) → m ≡ n
    not_less m n most not = omega (arith, most, not)

all-decided : (t : Problem) (claim : Option (List ℕ)) (cuts : List (List ℕ)) (allowed : ℕ) → Outcome t claim cuts (Extends []) [] allowed
all-decided t claim cuts allowed = ⊎_elim
    (λ cut. inl (
      0,
      omega arith,
      Pass-none t claim cuts (Extends [])
          (λ p viable uncut extends. All-contains (λ c. Extends c p → ⊥) cuts cut.0 uncut cut.1 (Extends-further cut.0 [] p cut.2 extends)),
    ))
    (λ uncut. from-decided t claim cuts (length t.items) [] allowed uncut (omega arith))
    (cut-or_uncut cuts [])

-- what stops a walk is a reason
prefix-reason : (t : Problem) (claim : Option (List ℕ)) (cuts : List (List ℕ)) (allowed : ℕ) (p : List ℕ) → Stops t claim cuts (Extends []) allowed p → (reason : Reject) × PrefixFails t claim cuts allowed reason
prefix-reason t claim cuts allowed p stops = ⊎_elim
    (λ many. (MoreExpanded, Stops-too_many t claim cuts allowed p many.0 stops))
    (λ better. by_claim claim stops (omega (arith, better.0)))
    stops.fails
  where
    by_claim : (o : Option (List ℕ)) → Stops t o cuts (Extends []) allowed p → length t.items ≤ length p → (reason : Reject) × PrefixFails t o cuts allowed reason
    by_claim None stops long = (Exists (record { items = p }), (refl, Stops-path t None cuts allowed p long stops))
    by_claim (Some path) stops long = (Nearer (record { items = p }), (refl, Stops-path t (Some path) cuts allowed p long stops))

-- those that the cuts leave pass, or a first one fails
pub passes-or_fails : (t : Problem) (claim : Option (List ℕ)) (cuts : List (List ℕ)) (allowed : ℕ) → ((reason : Reject) × PrefixFails t claim cuts allowed reason) ⊎ AllPass t claim cuts allowed
passes-or_fails t claim cuts allowed = ⊎_elim
    (λ passed. inr passed)
    (λ stops. inl (prefix-reason t claim cuts allowed stops.0 stops.1))
    (all-decided t claim cuts allowed)

-- there is a first reason, or the certificate is good
pub reason-or_good : (t : Problem) (claim : Option (List ℕ)) (cuts : List (List ℕ)) (expanded : ℕ) → ((reason : Reject) × IsFirstReason t claim cuts expanded reason) ⊎ IsGood t claim cuts expanded
reason-or_good t claim cuts expanded = ⊎_elim
    (λ (holds : ClaimHolds t claim). ⊎_elim
    (λ fails. inl (fails.0, inr (holds, inl fails.1)))
    (λ taken. with_cuts holds (subst (CutsHold t claim) (take_all (length cuts) cuts (omega arith)) taken))
    (cuts-decided t claim cuts (length cuts) (omega arith)))
    (λ (not : ClaimHolds t claim → ⊥). inl (NotAPlacement, inl (not, refl)))
    (claim-decided t claim)
  where
    with_cuts : ClaimHolds t claim → CutsHold t claim cuts → ((reason : Reject) × IsFirstReason t claim cuts expanded reason) ⊎ IsGood t claim cuts expanded
    with_cuts holds hold = ⊎_elim
        (λ fails. inl (fails.0, inr (holds, inr (hold, fails.1))))
        (λ passed. inr (IsGood-from t claim cuts expanded holds hold passed))
        (passes-or_fails t claim cuts expanded)

-- a certificate without a reason against it is good
pub good-without_reason : (t : Problem) (claim : Option (List ℕ)) (cuts : List (List ℕ)) (expanded : ℕ) → ((reason : Reject) → IsFirstReason t claim cuts expanded reason → ⊥) → IsGood t claim cuts expanded
good-without_reason t claim cuts expanded none = ⊎_elim
    (λ first. absurd (none first.0 first.1))
    (λ good. good)
    (reason-or_good t claim cuts expanded)
