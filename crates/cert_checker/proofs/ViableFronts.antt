-- every beginning of a viable prefix is viable
use Rattle.std.proofs.Common.{refl, ◌≡◌, ℕ, ℤ, pos, ◌-ℤ◌, List, [], ◌∷◌, ◌++◌, Option, Some, None, sym, subst, arith, append_assoc, append-nil}
use Rattle.std.proofs.lemmas.Int.{ints}
use Rattle.std.specs.Prelude.{IfSome, IsSomeAnd}
use Rattle.base_words.specs.Lists.{Extends}
use Rattle.hold_parts.specs.declared.parts.Lateral.{Lateral}
use Rattle.hold_limits.specs.Problem.{Problem}
use Rattle.hold_limits.proofs.SoundLemmas.{IsSound-front}
use Rattle.hold_reach.specs.Reach.{reach, lateral_reach, Meets, IsViable}
use Rattle.hold_reach.specs.Choices.{LiesIn}
use Rattle.hold_reach.proofs.ViableLemmas.{IsRising-front, reach-shorter, lateral_reach-shorter}

meets-wider : (low high : ℤ) (outer : Option (ℤ × ℤ)) (inner : ℤ × ℤ) → IsSomeAnd outer (LiesIn inner) → Meets low high (Some inner) → Meets low high outer
meets-wider low high None inner lies meets = absurd lies
meets-wider low high (Some outer) inner lies meets = record {
  number = meets.number;
  from_a = omega (arith, ints, lies.0, meets.from_a);
  to_b = omega (arith, ints, lies.1, meets.to_b);
  from_c = meets.from_c;
  to_d = meets.to_d;
}

-- where one reach lies in another, the other has what the first has in common with a range
window-wider : (low high : ℤ) (inner outer : Option (ℤ × ℤ)) → ((span : ℤ × ℤ) → inner ≡ Some span → IsSomeAnd outer (LiesIn span)) → Meets low high inner → Meets low high outer
window-wider low high None outer lies meets = absurd meets
window-wider low high (Some span) outer lies meets = meets-wider low high outer span (lies span refl) meets

lateral-wider : (limit : Option Lateral) (inner outer : Option (ℤ × ℤ)) → ((span : ℤ × ℤ) → inner ≡ Some span → IsSomeAnd outer (LiesIn span))
    → IfSome limit (λ (l : Lateral). Meets (pos 0 -ℤ pos l.most.0) (pos l.most.0) inner) → IfSome limit (λ (l : Lateral). Meets (pos 0 -ℤ pos l.most.0) (pos l.most.0) outer)
lateral-wider None inner outer lies meets = tt
lateral-wider (Some l) inner outer lies meets = window-wider (pos 0 -ℤ pos l.most.0) (pos l.most.0) inner outer lies meets

IsViable-shorter : (t : Problem) (front : List ℕ) (q : ℕ) → IsViable t (front ++ q ∷ []) → IsViable t front
IsViable-shorter t front q viable = record {
  sound = IsSound-front t front (q ∷ []) viable.sound;
  rising = IsRising-front t front (q ∷ []) viable.rising;
  window = window-wider t.low t.high (reach t (front ++ q ∷ [])) (reach t front)
      (λ span is. reach-shorter t front q span viable.sound viable.rising is) viable.window;
  lateral = lateral-wider t.hold.lateral (lateral_reach t (front ++ q ∷ [])) (lateral_reach t front)
      (λ span is. lateral_reach-shorter t front q span viable.sound is) viable.lateral;
}

IsViable-before : (t : Problem) (front rest : List ℕ) → IsViable t (front ++ rest) → IsViable t front
IsViable-before t front [] viable = subst (IsViable t) (append-nil front) viable
IsViable-before t front (q ∷ rest) viable =
    IsViable-shorter t front q (IsViable-before t (front ++ q ∷ []) rest (subst (IsViable t) (sym (append_assoc front (q ∷ []) rest)) viable))

pub IsViable-extends : (t : Problem) (front whole : List ℕ) → Extends front whole → IsViable t whole → IsViable t front
IsViable-extends t front whole extends viable = IsViable-before t front extends.0 (subst (IsViable t) extends.1 viable)
