-- what a walk through the viable prefixes that begin with no cut knows
use Rattle.std.proofs.Common.{refl, ◌≡◌, ◌⊎◌, inl, inr, ⊎_elim, ℕ, ◌+◌, ◌-◌, ◌<◌, ◌≤◌, List, [], ◌∷◌, ◌++◌, length, take, Option, Some, sym, ap, ap₂, ◌∙◌, subst, arith, append_assoc, below_more, length-append}
use Rattle.std.proofs.lemmas.List.{append_cancel_left}
use Rattle.std.proofs.Math.Seq.{take-append_seam}
use Rattle.std.proofs.lemmas.Option.{get_or_from_slice_get}
use Rattle.std.specs.Prelude.{All, AllPairs, slice_get}
use Rattle.base_words.specs.Lists.{Extends}
use Rattle.hold_limits.specs.Problem.{Problem}
use Rattle.hold_limits.proofs.SoundLemmas.{Extends-shorter, Extends-whole}
use Rattle.hold_reach.specs.Reach.{IsViable}
use Rattle.hold_partial.specs.Placing.{Placing, placing_of}
use Rattle.certificate.specs.Good.{IsBefore, IsUncut, IsIncomplete, AreInOrder, IsNoBetter, IsExpanded}
use Rattle.cert_checker.specs.FirstReason.{IsComplete, Pass}
use Rattle.cert_checker.specs.Steps.{AreFirst, Stops}
use Rattle.cert_checker.specs.declared.walk.Progress.{Progress}
use Rattle.cert_checker.proofs.PathOrder.{IsBefore-not_back, before-next, before-longer, extension-not_before}
use Rattle.cert_checker.proofs.ViableFronts.{IsViable-extends}
use Rattle.cert_checker.proofs.CutOrder.{less_same_or_more, Extends-itself, same-or_next, met-cut, met-passed, met-next}
use Rattle.cert_checker.proofs.Exactly.{AreExactly-none, AreExactly-one, AreExactly-same, AreExactly-join}

-- Prefixes below a front ------------------------------------------------------------------------

-- the front itself, or it with one of the first numbers after it
abbrev pub IsVisited : List ℕ → ℕ → List ℕ → Type 0
IsVisited front number p = (p ≡ front) ⊎ ((q : ℕ) × (q < number) × Extends (front ++ q ∷ []) p)

one_next : (front p : List ℕ) (a b : ℕ) → Extends (front ++ a ∷ []) p → Extends (front ++ b ∷ []) p → a ≡ b
one_next front p a b first second =
    let one : p ≡ front ++ (a ∷ first.0) = first.1 ∙ append_assoc front (a ∷ []) first.0 in
    let other : p ≡ front ++ (b ∷ second.0) = second.1 ∙ append_assoc front (b ∷ []) second.0 in
    let same : a ∷ first.0 ≡ b ∷ second.0 = append_cancel_left front (a ∷ first.0) (b ∷ second.0) (sym one ∙ other) in
    cc

pub front-same : (xs ys : List ℕ) (a b : ℕ) → xs ++ a ∷ [] ≡ ys ++ b ∷ [] → xs ≡ ys
front-same xs ys a b is =
    let lengths : length xs ≡ length ys = omega (arith, ap length is, length-append xs (a ∷ []), length-append ys (b ∷ [])) in
    sym (take-append_seam xs (a ∷ [])) ∙ ap₂ (λ n zs. take n zs) lengths is ∙ take-append_seam ys (b ∷ [])

longer : (front p : List ℕ) (q : ℕ) → Extends (front ++ q ∷ []) p → length front < length p
longer front p q extends = omega (arith, ap length extends.1, length-append (front ++ q ∷ []) extends.0, length-append front (q ∷ []))

visited-apart : (front : List ℕ) (number : ℕ) (p : List ℕ) → IsVisited front number p → Extends (front ++ number ∷ []) p → ⊥
visited-apart front number p visited extends = ⊎_elim
    (λ same. absurd (omega (arith, ap length same, longer front p number extends)))
    (λ earlier. absurd (omega (arith, earlier.1, one_next front p earlier.0 number earlier.2 extends)))
    visited

visited-more : (front : List ℕ) (number : ℕ) (p : List ℕ) → IsVisited front number p → IsVisited front (number + 1) p
visited-more front number p visited = ⊎_elim
    (λ same. inl same)
    (λ earlier. inr (earlier.0, omega (arith, earlier.1), earlier.2))
    visited

visited-cases : (front : List ℕ) (number : ℕ) (p : List ℕ) → IsVisited front (number + 1) p → IsVisited front number p ⊎ Extends (front ++ number ∷ []) p
visited-cases front number p visited = ⊎_elim
    (λ same. inl (inl same))
    (λ next. below_more (λ q. Extends (front ++ q ∷ []) p → IsVisited front number p ⊎ Extends (front ++ number ∷ []) p) number
    (λ q below extends. inl (inr (q, below, extends)))
    (λ extends. inr extends)
    next.0 next.1 next.2)
    visited

visited-extends : (front : List ℕ) (number : ℕ) (p : List ℕ) → IsVisited front number p → Extends front p
visited-extends front number p visited = ⊎_elim
    (λ same. subst (Extends front) (sym same) (Extends-itself front))
    (λ earlier. Extends-shorter front p earlier.0 earlier.2)
    visited

-- a viable prefix that begins with the front was visited once all numbers of positions were
visited-all : (t : Problem) (front : List ℕ) (number : ℕ) (p : List ℕ) → length t.hold.positions ≤ number → IsViable t p → Extends front p → IsVisited front number p
visited-all t front number p all viable extends = ⊎_elim
    (λ same. inl same)
    (λ next. inr (next.0, omega (arith, next.1), next.2))
    (same-or_next t front p viable.sound extends)

-- One position more, and back -------------------------------------------------------------------

-- a position that was taken is the last number of the placement
pub advanced : (before now new : Placing) (number : ℕ) → before ≡ now → new ≡ placing_of before.task (before.prefix ++ number ∷ []) → new ≡ placing_of now.task (now.prefix ++ number ∷ [])
advanced before now new number same placed = placed ∙ ap (λ (p : Placing). placing_of p.task (p.prefix ++ number ∷ [])) same

-- what has one number more is as before once that is taken off
pub undone : (before after : Placing) (number last : ℕ) → placing_of before.task (before.prefix ++ number ∷ []) ≡ placing_of after.task (after.prefix ++ last ∷ []) → after ≡ before
undone before after number last is =
    let task : before.task ≡ after.task = ap (λ (p : Placing). p.task) is in
    let longer : before.prefix ++ number ∷ [] ≡ after.prefix ++ last ∷ [] = ap (λ (p : Placing). p.prefix) is in
    sym (ap₂ (λ t p. placing_of t p) task (front-same before.prefix after.prefix number last longer))

-- Passing ---------------------------------------------------------------------------------------

-- where no viable prefix that begins with no cut is of the kind
pub Pass-none : (t : Problem) (claim : Option (List ℕ)) (cuts : List (List ℕ)) (Kind : List ℕ → Type 0) → ((p : List ℕ) → IsViable t p → IsUncut cuts p → Kind p → ⊥) → Pass t claim cuts Kind 0
Pass-none t claim cuts Kind none = record {
  expanded = AreExactly-none (λ p. IsExpanded t cuts p × Kind p) (λ p both. none p both.0.viable both.0.uncut both.1);
  no_better = λ path viable uncut complete kind. absurd (none path viable uncut kind);
}

-- two kinds that are the same for viable prefixes
pub Pass-same : (t : Problem) (claim : Option (List ℕ)) (cuts : List (List ℕ)) (A B : List ℕ → Type 0) (n : ℕ)
    → ((p : List ℕ) → IsViable t p → A p → B p) → ((p : List ℕ) → IsViable t p → B p → A p) → Pass t claim cuts A n → Pass t claim cuts B n
Pass-same t claim cuts A B n to from passed = record {
  expanded = AreExactly-same (λ p. IsExpanded t cuts p × A p) (λ p. IsExpanded t cuts p × B p) n
      (λ p both. (both.0, to p both.0.viable both.1)) (λ p both. (both.0, from p both.0.viable both.1)) passed.expanded;
  no_better = λ path viable uncut complete kind. passed.no_better path viable uncut complete (from path viable kind);
}

-- two kinds that share no prefix
pub Pass-join : (t : Problem) (claim : Option (List ℕ)) (cuts : List (List ℕ)) (A B C : List ℕ → Type 0) (m n : ℕ) → ((p : List ℕ) → A p → B p → ⊥)
    → ((p : List ℕ) → A p → C p) → ((p : List ℕ) → B p → C p) → ((p : List ℕ) → C p → A p ⊎ B p)
    → Pass t claim cuts A m → Pass t claim cuts B n → Pass t claim cuts C (m + n)
Pass-join t claim cuts A B C m n apart first second either a b = record {
  expanded = AreExactly-join (λ p. IsExpanded t cuts p × A p) (λ p. IsExpanded t cuts p × B p) (λ p. IsExpanded t cuts p × C p) m n
      (λ p in_a in_b. apart p in_a.1 in_b.1)
      (λ p in_a. (in_a.0, first p in_a.1))
      (λ p in_b. (in_b.0, second p in_b.1))
      (λ p in_c. ⊎_elim (λ in_a. inl (in_c.0, in_a)) (λ in_b. inr (in_c.0, in_b)) (either p in_c.1))
      a.expanded b.expanded;
  no_better = λ path viable uncut complete kind. ⊎_elim
      (λ in_a. a.no_better path viable uncut complete in_a)
      (λ in_b. b.no_better path viable uncut complete in_b)
      (either path kind);
}

-- where the front is not viable
pub Pass-unviable : (t : Problem) (claim : Option (List ℕ)) (cuts : List (List ℕ)) (front : List ℕ) → (IsViable t front → ⊥) → Pass t claim cuts (Extends front) 0
Pass-unviable t claim cuts front not = Pass-none t claim cuts (Extends front) (λ p viable uncut extends. not (IsViable-extends t front p extends viable))

-- a complete front that is no better than the claimed path
pub Pass-complete : (t : Problem) (claim : Option (List ℕ)) (cuts : List (List ℕ)) (front : List ℕ) → IsComplete t front → IsNoBetter t claim front → Pass t claim cuts (Extends front) 0
Pass-complete t claim cuts front complete no_better = record {
  expanded = AreExactly-none (λ p. IsExpanded t cuts p × Extends front p)
      (λ p both. absurd (omega (arith, complete, both.0.incomplete, ap length both.1.1, length-append front both.1.0)));
  no_better = λ path viable uncut whole extends.
      let same : path ≡ front = Extends-whole front path extends (omega (arith, whole, complete)) in
      subst (IsNoBetter t claim) (sym same) no_better;
}

-- What a walk has done at a number after a front ------------------------------------------------

pub record Walked (t : Problem) (claim : Option (List ℕ)) (cuts : List (List ℕ)) (front : List ℕ) (number : ℕ) (before now : Progress) : Type 0 where
  pub met : AreFirst cuts now.met (λ cut. IsBefore cut (front ++ number ∷ []))
  pub left : now.left ≤ before.left
  pub passed : Pass t claim cuts (IsVisited front number) (before.left - now.left)

-- before the first number the front alone was passed
pub Pass-first : (t : Problem) (claim : Option (List ℕ)) (cuts : List (List ℕ)) (front : List ℕ) → IsViable t front → IsUncut cuts front → IsIncomplete t front → Pass t claim cuts (IsVisited front 0) 1
Pass-first t claim cuts front viable uncut incomplete = record {
  expanded = AreExactly-one (λ p. IsExpanded t cuts p × IsVisited front 0 p) front
      (record { viable = viable; incomplete = incomplete; uncut = uncut }, inl refl)
      (λ p both. only p both.1);
  no_better = λ path can begins complete visited. absurd (omega (arith, incomplete, complete, ap length (only path visited)));
}
  where
    only : (p : List ℕ) → IsVisited front 0 p → p ≡ front
    only p visited = ⊎_elim (λ same. same) (λ none. absurd (omega (arith, none.1))) visited

-- after one more number
pub Pass-next : (t : Problem) (claim : Option (List ℕ)) (cuts : List (List ℕ)) (front : List ℕ) (number m n : ℕ)
    → Pass t claim cuts (IsVisited front number) m → Pass t claim cuts (Extends (front ++ number ∷ [])) n → Pass t claim cuts (IsVisited front (number + 1)) (m + n)
Pass-next t claim cuts front number m n visited next = Pass-join t claim cuts (IsVisited front number) (Extends (front ++ number ∷ [])) (IsVisited front (number + 1)) m n
    (visited-apart front number)
    (visited-more front number)
    (λ p extends. inr (number, omega arith, extends))
    (visited-cases front number)
    visited next

-- a prefix that begins with a cut is cut
pub cut-not_uncut : (cuts : List (List ℕ)) (at : ℕ) (front p : List ℕ) → at < length cuts → slice_get cuts at ≡ Some front → Extends front p → IsUncut cuts p → ⊥
cut-not_uncut cuts at front p within stands extends uncut =
    uncut at front within (subst (λ c. Extends c p) (sym (get_or_from_slice_get cuts at front front stands)) extends)

-- after a number with which the front is the next cut
pub Walked-cut : (t : Problem) (claim : Option (List ℕ)) (cuts : List (List ℕ)) (front : List ℕ) (number : ℕ) (before now : Progress) → AllPairs AreInOrder cuts → now.met < length cuts
    → slice_get cuts now.met ≡ Some (front ++ number ∷ []) → Walked t claim cuts front number before now → Walked t claim cuts front (number + 1) before (record { met = now.met + 1; left = now.left })
Walked-cut t claim cuts front number before now rising inside stands walked = record {
  met = met-cut cuts now.met front number rising inside stands walked.met;
  left = walked.left;
  passed = subst (Pass t claim cuts (IsVisited front (number + 1))) (omega arith)
      (Pass-next t claim cuts front number (before.left - now.left) 0 walked.passed
      (Pass-none t claim cuts (Extends (front ++ number ∷ [])) (λ p viable uncut extends. cut-not_uncut cuts now.met (front ++ number ∷ []) p inside stands extends uncut)));
}

-- after a number with which the front is not viable
pub Walked-passed : (t : Problem) (claim : Option (List ℕ)) (cuts : List (List ℕ)) (front : List ℕ) (number : ℕ) (before now : Progress) → All (IsViable t) cuts
    → (IsViable t (front ++ number ∷ []) → ⊥) → Walked t claim cuts front number before now → Walked t claim cuts front (number + 1) before now
Walked-passed t claim cuts front number before now viable not walked = record {
  met = met-passed t cuts now.met front number viable not walked.met;
  left = walked.left;
  passed = subst (Pass t claim cuts (IsVisited front (number + 1))) (omega arith)
      (Pass-next t claim cuts front number (before.left - now.left) 0 walked.passed (Pass-unviable t claim cuts (front ++ number ∷ []) not));
}

-- after a number whose prefixes were passed
pub Walked-next : (t : Problem) (claim : Option (List ℕ)) (cuts : List (List ℕ)) (front : List ℕ) (number : ℕ) (before mid now : Progress) → All (IsViable t) cuts
    → AreFirst cuts now.met (λ cut. IsBefore cut (front ++ number ∷ []) ⊎ Extends (front ++ number ∷ []) cut) → now.left ≤ mid.left
    → Pass t claim cuts (Extends (front ++ number ∷ [])) (mid.left - now.left) → Walked t claim cuts front number before mid → Walked t claim cuts front (number + 1) before now
Walked-next t claim cuts front number before mid now viable met left passed walked = record {
  met = met-next t cuts now.met front number viable met;
  left = omega (arith, walked.left, left);
  passed =
      let sum : (before.left - mid.left) + (mid.left - now.left) ≡ before.left - now.left = omega (arith, walked.left, left) in
      subst (Pass t claim cuts (IsVisited front (number + 1))) sum (Pass-next t claim cuts front number (before.left - mid.left) (mid.left - now.left) walked.passed passed);
}

-- after the last number
pub Pass-last : (t : Problem) (claim : Option (List ℕ)) (cuts : List (List ℕ)) (front : List ℕ) (number n : ℕ) → length t.hold.positions ≤ number
    → Pass t claim cuts (IsVisited front number) n → Pass t claim cuts (Extends front) n
Pass-last t claim cuts front number n all visited = Pass-same t claim cuts (IsVisited front number) (Extends front) n
    (λ p viable kind. visited-extends front number p kind)
    (λ p viable extends. visited-all t front number p all viable extends)
    visited

-- Stopping --------------------------------------------------------------------------------------

-- nothing that begins with a front comes before it
none-before : (t : Problem) (claim : Option (List ℕ)) (cuts : List (List ℕ)) (front : List ℕ) → Pass t claim cuts (λ p. Extends front p × IsBefore p front) 0
none-before t claim cuts front = Pass-none t claim cuts (λ p. Extends front p × IsBefore p front) (λ p viable uncut both. extension-not_before front p both.0 both.1)

-- an incomplete front where none is left, or a complete one that is better than the claimed path
pub Stops-here : (t : Problem) (claim : Option (List ℕ)) (cuts : List (List ℕ)) (front : List ℕ) (left : ℕ) → IsViable t front → IsUncut cuts front
    → (IsIncomplete t front × (0 ≡ left)) ⊎ (IsComplete t front × (IsNoBetter t claim front → ⊥)) → Stops t claim cuts (Extends front) left front
Stops-here t claim cuts front left viable uncut fails = record {
  of_kind = Extends-itself front;
  viable = viable;
  uncut = uncut;
  number = 0;
  before = none-before t claim cuts front;
  few = omega arith;
  fails = fails;
}

-- what was visited, and what begins with the next number and comes before a prefix, is all that begins with the front and does
visited-before : (front : List ℕ) (number : ℕ) (prefix p : List ℕ) → Extends (front ++ number ∷ []) prefix → IsVisited front number p → Extends front p × IsBefore p prefix
visited-before front number prefix p within visited = (
  visited-extends front number p visited,
  ⊎_elim
      (λ same. subst (λ x. IsBefore x prefix) (sym same) (before-longer front prefix number within))
      (λ earlier. before-next front p prefix earlier.0 number earlier.2 within earlier.1)
      visited,
)

before-visited : (t : Problem) (front : List ℕ) (number : ℕ) (prefix p : List ℕ) → Extends (front ++ number ∷ []) prefix → IsViable t p → Extends front p × IsBefore p prefix
    → IsVisited front number p ⊎ (Extends (front ++ number ∷ []) p × IsBefore p prefix)
before-visited t front number prefix p within viable both = ⊎_elim
    (λ same. inl (inl same))
    (λ next. by_number next.0 next.2 (less_same_or_more next.0 number))
    (same-or_next t front p viable.sound both.0)
  where
    by_number : (q : ℕ) → Extends (front ++ q ∷ []) p → (q < number) ⊎ ((q ≡ number) ⊎ (number < q)) → IsVisited front number p ⊎ (Extends (front ++ number ∷ []) p × IsBefore p prefix)
    by_number q extends cases = ⊎_elim
        (λ less. inl (inr (q, less, extends)))
        (λ rest. ⊎_elim
        (λ same. inr (subst (λ k. Extends (front ++ k ∷ []) p) same extends, both.1))
        (λ more. absurd (IsBefore-not_back p prefix both.1 (before-next front prefix p number q within extends more)))
        rest)
        cases

-- a prefix that begins with the next number after the front
pub Stops-next : (t : Problem) (claim : Option (List ℕ)) (cuts : List (List ℕ)) (front : List ℕ) (number m left before : ℕ) (prefix : List ℕ) → m + left ≡ before
    → Pass t claim cuts (IsVisited front number) m → Stops t claim cuts (Extends (front ++ number ∷ [])) left prefix → Stops t claim cuts (Extends front) before prefix
Stops-next t claim cuts front number m left before prefix sum visited stops = record {
  of_kind = Extends-shorter front prefix number stops.of_kind;
  viable = stops.viable;
  uncut = stops.uncut;
  number = m + stops.number;
  before = Pass-same t claim cuts (λ p. IsVisited front number p ⊎ (Extends (front ++ number ∷ []) p × IsBefore p prefix)) (λ p. Extends front p × IsBefore p prefix) (m + stops.number)
      (λ p viable either. ⊎_elim
      (λ earlier. visited-before front number prefix p stops.of_kind earlier)
      (λ inner. (Extends-shorter front p number inner.0, inner.1))
      either)
      (λ p viable both. before-visited t front number prefix p stops.of_kind viable both)
      (Pass-join t claim cuts (IsVisited front number) (λ p. Extends (front ++ number ∷ []) p × IsBefore p prefix) (λ p. IsVisited front number p ⊎ (Extends (front ++ number ∷ []) p × IsBefore p prefix)) m stops.number
      (λ p earlier inner. visited-apart front number p earlier inner.0)
      (λ p earlier. inl earlier)
      (λ p inner. inr inner)
      (λ p either. either)
      visited stops.before);
  few = omega (arith, sum, stops.few);
  fails = ⊎_elim
      (λ many. inl (many.0, omega (arith, many.1, sum)))
      (λ better. inr better)
      stops.fails;
}
