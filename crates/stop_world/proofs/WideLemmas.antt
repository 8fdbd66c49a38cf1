-- what is widely viable on one sector: shorter parts, complete parts, and the wide bound
use Rattle.std.proofs.Common.{◌≡◌, ◌↔◌, refl, ℕ, ◌≤◌, ℤ, pos, ◌-ℤ◌, ◌≤ℤ◌, List, [], ◌∷◌, ◌++◌, length, Option, Some, None, option_map, sym, ap, subst, arith, unsigned_abs}
use Rattle.std.proofs.lemmas.Int.{ints}
use Rattle.std.specs.Prelude.{IfSome, IsSomeAnd}
use Rattle.hold_parts.specs.declared.parts.Lateral.{Lateral}
use Rattle.hold_limits.specs.Problem.{Problem}
use Rattle.hold_limits.specs.Placement.{IsAdmissible, distance, hold_index, lateral_difference}
use Rattle.hold_limits.proofs.SoundLemmas.{IsSound-front}
use Rattle.hold_reach.specs.Reach.{Meets, MeetsLateral, gap_to_ideal, lateral_reach, wide_bound, wide_reach}
use Rattle.hold_reach.specs.Choices.{IsNearest, LiesIn}
use Rattle.hold_reach.proofs.ViableLemmas.{lateral_reach-complete, lateral_reach-shorter, wide_bound-nearest, wide_reach-complete, wide_reach-shorter}
use Rattle.stop_tasks.specs.StopPaths.{IsWidelyViable}

-- Shorter parts ---------------------------------------------------------------------------------

meets-wider : (low high : ℤ) (outer inner : Option (ℤ × ℤ)) → ((i : ℤ × ℤ) → inner ≡ Some i → IsSomeAnd outer (LiesIn i)) → Meets low high inner → Meets low high outer
meets-wider low high outer None lies meets = absurd meets
meets-wider low high None (Some i) lies meets = absurd (lies i refl)
meets-wider low high (Some o) (Some i) lies meets =
    let within : LiesIn i o = lies i refl in
    record {
      number = meets.number;
      from_a = omega (arith, ints, within.0, meets.from_a);
      to_b = omega (arith, ints, within.1, meets.to_b);
      from_c = meets.from_c;
      to_d = meets.to_d;
    }

if-weaker : {X : Type 0} (o : Option X) (P Q : X → Type 0) → ((x : X) → P x → Q x) → IfSome o P → IfSome o Q
if-weaker None P Q weaker given = tt
if-weaker (Some x) P Q weaker given = weaker x given

-- a widely viable part is so without its last number too
pub widely-shorter : (sector : Problem) (part : List ℕ) (q : ℕ) → IsWidelyViable sector (part ++ q ∷ []) → IsWidelyViable sector part
widely-shorter sector part q viable = record {
  sound = IsSound-front sector part (q ∷ []) viable.sound;
  window = meets-wider sector.low sector.high (wide_reach sector part) (wide_reach sector (part ++ q ∷ []))
      (λ i is. wide_reach-shorter sector part q i viable.sound is) viable.window;
  lateral = if-weaker sector.hold.lateral _ _
      (λ (limit : Lateral). meets-wider _ _ (lateral_reach sector part) (lateral_reach sector (part ++ q ∷ []))
      (λ i is. lateral_reach-shorter sector part q i viable.sound is))
      viable.lateral;
}

-- Complete parts --------------------------------------------------------------------------------

-- one number alone meets a range exactly where it is in it
meets-one : (low high x : ℤ) → Meets low high (Some (x, x)) ↔ ((low ≤ℤ x) × (x ≤ℤ high))
meets-one low high x = (
  λ meets. (omega (arith, ints, meets.from_a, meets.to_b, meets.from_c), omega (arith, ints, meets.from_a, meets.to_b, meets.to_d)),
  λ within. record { number = x; from_a = omega (arith, ints); to_b = omega (arith, ints); from_c = within.0; to_d = within.1 },
)

limit-is : (x : ℤ) (most : ℕ) → (((pos 0 -ℤ pos most) ≤ℤ x) × (x ≤ℤ pos most)) ↔ (unsigned_abs x ≤ most)
limit-is x most = (λ both. inside x most both.0 both.1, λ is. (low x most is, high x most is))
  where
    inside : (x : ℤ) (most : ℕ) → (pos 0 -ℤ pos most) ≤ℤ x → x ≤ℤ pos most → unsigned_abs x ≤ most
    inside x most from to = omega (arith, ints)

    low : (x : ℤ) (most : ℕ) → unsigned_abs x ≤ most → (pos 0 -ℤ pos most) ≤ℤ x
    low x most is = omega (arith, ints)

    high : (x : ℤ) (most : ℕ) → unsigned_abs x ≤ most → x ≤ℤ pos most
    high x most is = omega (arith, ints)

lateral-one : (limit : Option Lateral) (x : ℤ)
    → IfSome limit (λ (l : Lateral). Meets (pos 0 -ℤ pos l.most.0) (pos l.most.0) (Some (x, x))) ↔ IfSome limit (λ (l : Lateral). unsigned_abs x ≤ l.most.0)
lateral-one None x = (λ _. tt, λ _. tt)
lateral-one (Some l) x =
    let one = meets-one (pos 0 -ℤ pos l.most.0) (pos l.most.0) x in
    let limit = limit-is x l.most.0 in
    (λ meets. limit.0 (one.0 meets), λ kept. one.1 (limit.1 kept))

-- a complete part is widely viable exactly where it is admissible
pub complete-admissible : (sector : Problem) (part : List ℕ) → length part ≡ length sector.items → IsWidelyViable sector part → IsAdmissible sector part
complete-admissible sector part complete viable =
    let window = (meets-one sector.low sector.high (hold_index sector part)).0 (subst (λ reached. Meets sector.low sector.high reached) (wide_reach-complete sector part complete) viable.window) in
    record {
      sound = viable.sound;
      complete = complete;
      low = window.0;
      high = window.1;
      lateral = (lateral-one sector.hold.lateral (lateral_difference sector part)).0 (subst (λ reached. MeetsLateral sector.hold reached) (lateral_reach-complete sector part complete) viable.lateral);
    }

pub admissible-widely : (sector : Problem) (part : List ℕ) → IsAdmissible sector part → IsWidelyViable sector part
admissible-widely sector part admissible = record {
  sound = admissible.sound;
  window = subst (λ reached. Meets sector.low sector.high reached) (sym (wide_reach-complete sector part admissible.complete))
      ((meets-one sector.low sector.high (hold_index sector part)).1 (admissible.low, admissible.high));
  lateral = subst (λ reached. MeetsLateral sector.hold reached) (sym (lateral_reach-complete sector part admissible.complete))
      ((lateral-one sector.hold.lateral (lateral_difference sector part)).1 admissible.lateral);
}

-- The wide bound --------------------------------------------------------------------------------

spans : (t : Problem) (o : Option (ℤ × ℤ)) → Meets t.low t.high o → (span : ℤ × ℤ) × (o ≡ Some span)
spans t None meets = absurd meets
spans t (Some span) meets = (span, refl)

-- a widely viable prefix has a wide bound
pub wide_bound-exists : (t : Problem) (prefix : List ℕ) → IsWidelyViable t prefix → (b : ℕ) × (wide_bound t prefix ≡ Some b)
wide_bound-exists t prefix viable =
    let span = spans t (wide_reach t prefix) viable.window in
    (gap_to_ideal t span.0, ap (option_map (gap_to_ideal t)) span.1)

no_less : (t : Problem) (outer : Option ℕ) (inner : Option ℕ) (o i : ℤ × ℤ) (b : ℕ) → LiesIn i o → IsSomeAnd outer (IsNearest t o) → IsSomeAnd inner (IsNearest t i) → inner ≡ Some b → (a : ℕ) × (outer ≡ Some a) × (a ≤ b)
no_less t None inner o i b lies first second is = absurd first
no_less t (Some a) inner o i b lies first second is =
    let near : IsNearest t i b = subst (λ n. IsSomeAnd n (IsNearest t i)) is second in
    (a, refl, subst (λ n. a ≤ n) near.is (first.least near.index (omega (arith, ints, lies.0, near.inside.0), omega (arith, ints, lies.1, near.inside.1))))

-- and one without its last number too, which is no greater
pub wide_bound-shorter : (t : Problem) (prefix : List ℕ) (q b : ℕ) → t.ideal_low ≤ℤ t.ideal_high → IsWidelyViable t (prefix ++ q ∷ []) → wide_bound t (prefix ++ q ∷ []) ≡ Some b
    → (a : ℕ) × (wide_bound t prefix ≡ Some a) × (a ≤ b)
wide_bound-shorter t prefix q b band viable is =
    let inner = spans t (wide_reach t (prefix ++ q ∷ [])) viable.window in
    let outer = spans t (wide_reach t prefix) (widely-shorter t prefix q viable).window in
    let lies : LiesIn inner.0 outer.0 = subst (λ o. IsSomeAnd o (LiesIn inner.0)) outer.1 (wide_reach-shorter t prefix q inner.0 viable.sound inner.1) in
    no_less t (wide_bound t prefix) (wide_bound t (prefix ++ q ∷ [])) outer.0 inner.0 b lies
    (wide_bound-nearest t prefix outer.0 band outer.1)
    (wide_bound-nearest t (prefix ++ q ∷ []) inner.0 band inner.1) is

-- the wide bound of a path is its distance
pub wide_bound-complete : (t : Problem) (path : List ℕ) → length path ≡ length t.items → wide_bound t path ≡ Some (distance t path)
wide_bound-complete t path complete = rw (wide_reach-complete t path complete) refl
