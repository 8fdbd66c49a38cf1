-- fronts of viable prefixes, and the bounds that their reach gives
use Rattle.std.proofs.Common.{refl, ◌≡◌, ℕ, ◌≤◌, ℤ, ◌≤ℤ◌, List, [], ◌∷◌, ◌++◌, Option, Some, None, option_map, sym, ap, subst, arith, append_assoc, append-nil}
use Rattle.std.proofs.lemmas.Int.{ints}
use Rattle.std.specs.Prelude.{IfSome, IsSomeAnd}
use Rattle.hold_parts.specs.declared.parts.Lateral.{Lateral}
use Rattle.hold_limits.specs.Problem.{Problem}
use Rattle.hold_limits.proofs.SoundLemmas.{IsSound-front}
use Rattle.hold_reach.specs.Reach.{Meets, IsViable, reach, lateral_reach, gap_to_ideal, bound}
use Rattle.hold_reach.specs.Choices.{LiesIn, IsNearest}
use Rattle.hold_reach.proofs.ViableLemmas.{IsRising-front, reach-shorter, lateral_reach-shorter, bound-nearest}

-- Viable fronts ---------------------------------------------------------------------------------

meets-wider : (low high : ℤ) (outer inner : Option (ℤ × ℤ)) → ((i : ℤ × ℤ) → inner ≡ Some i → IsSomeAnd outer (LiesIn i)) → Meets low high inner → Meets low high outer
meets-wider low high outer None lies meets = absurd meets
meets-wider low high None (Some i) lies meets = absurd (lies i refl)
meets-wider low high (Some o) (Some i) lies meets =
    let within : LiesIn i o = lies i refl in
    record {
      number = meets.number;
      from_a = omega (arith, ints, within.0, meets.from_a);
      to_b = omega (arith, ints, within.1, meets.to_b);
      from_c = meets.from_c;
      to_d = meets.to_d;
    }

if-weaker : {X : Type 0} (o : Option X) (P Q : X → Type 0) → ((x : X) → P x → Q x) → IfSome o P → IfSome o Q
if-weaker None P Q weaker given = tt
if-weaker (Some x) P Q weaker given = weaker x given

-- a viable prefix is viable without its last number too
pub IsViable-shorter : (t : Problem) (prefix : List ℕ) (q : ℕ) → IsViable t (prefix ++ q ∷ []) → IsViable t prefix
IsViable-shorter t prefix q viable = record {
  sound = IsSound-front t prefix (q ∷ []) viable.sound;
  rising = IsRising-front t prefix (q ∷ []) viable.rising;
  window = meets-wider t.low t.high (reach t prefix) (reach t (prefix ++ q ∷ []))
      (λ i is. reach-shorter t prefix q i viable.sound viable.rising is) viable.window;
  lateral = if-weaker t.hold.lateral _ _
      (λ (limit : Lateral). meets-wider _ _ (lateral_reach t prefix) (lateral_reach t (prefix ++ q ∷ []))
      (λ i is. lateral_reach-shorter t prefix q i viable.sound is))
      viable.lateral;
}

-- every front of a viable prefix is viable
pub IsViable-begins : (t : Problem) (front rest : List ℕ) → IsViable t (front ++ rest) → IsViable t front
IsViable-begins t front [] viable = subst (IsViable t) (append-nil front) viable
IsViable-begins t front (q ∷ rest) viable =
    IsViable-shorter t front q (IsViable-begins t (front ++ q ∷ []) rest (subst (IsViable t) (sym (append_assoc front (q ∷ []) rest)) viable))

-- Bounds ----------------------------------------------------------------------------------------

spans : (t : Problem) (o : Option (ℤ × ℤ)) → Meets t.low t.high o → (span : ℤ × ℤ) × (o ≡ Some span)
spans t None meets = absurd meets
spans t (Some span) meets = (span, refl)

-- a viable prefix has a bound
pub bound-exists : (t : Problem) (prefix : List ℕ) → IsViable t prefix → (b : ℕ) × (bound t prefix ≡ Some b)
bound-exists t prefix viable =
    let span = spans t (reach t prefix) viable.window in
    (gap_to_ideal t span.0, ap (option_map (gap_to_ideal t)) span.1)

no_less : (t : Problem) (outer : Option ℕ) (inner : Option ℕ) (o i : ℤ × ℤ) (b : ℕ) → LiesIn i o → IsSomeAnd outer (IsNearest t o) → IsSomeAnd inner (IsNearest t i) → inner ≡ Some b → (a : ℕ) × (outer ≡ Some a) × (a ≤ b)
no_less t None inner o i b lies first second is = absurd first
no_less t (Some a) inner o i b lies first second is =
    let near : IsNearest t i b = subst (λ n. IsSomeAnd n (IsNearest t i)) is second in
    (a, refl, subst (λ n. a ≤ n) near.is (first.least near.index (omega (arith, ints, lies.0, near.inside.0), omega (arith, ints, lies.1, near.inside.1))))

-- a viable prefix has a bound without its last number too, which is no greater
pub bound-shorter : (t : Problem) (prefix : List ℕ) (q b : ℕ) → t.ideal_low ≤ℤ t.ideal_high → IsViable t (prefix ++ q ∷ []) → bound t (prefix ++ q ∷ []) ≡ Some b
    → (a : ℕ) × (bound t prefix ≡ Some a) × (a ≤ b)
bound-shorter t prefix q b band viable is =
    let inner = spans t (reach t (prefix ++ q ∷ [])) viable.window in
    let outer = spans t (reach t prefix) (IsViable-shorter t prefix q viable).window in
    let lies : LiesIn inner.0 outer.0 = subst (λ o. IsSomeAnd o (LiesIn inner.0)) outer.1 (reach-shorter t prefix q inner.0 viable.sound viable.rising inner.1) in
    no_less t (bound t prefix) (bound t (prefix ++ q ∷ [])) outer.0 inner.0 b lies
    (bound-nearest t prefix outer.0 band outer.1)
    (bound-nearest t (prefix ++ q ∷ []) inner.0 band inner.1) is
