-- the loose load of a name
use Rattle.std.proofs.Common.{◌≡◌, ℕ, Bool, if◌then◌else◌, List, [], ◌∷◌, Some, refl, ap, ◌∙◌, inl, inr}
use Rattle.std.proofs.lemmas.Bool.{cases_Bool}
use Rattle.std.proofs.lemmas.Slice.Eq.{bytes_eq-Decides}
use Rattle.std.specs.Prelude.{find, unwrap_or}
use Rattle.trim.specs.declared.figures.LooseFigure.{LooseFigure}
use Rattle.flight_state.specs.Effective.{is_at, nothing_at, load_at}

pub named-load : (name : List ℕ) (loose : List LooseFigure) → (load_at name loose).position ≡ name
named-load name [] = refl
named-load name (figure ∷ loose) = elim (cases_Bool (is_at name figure)) [
  | inl holds ↦
      ap (λ (b : Bool). (unwrap_or (if b then Some figure else find (is_at name) loose) (nothing_at name)).position) holds
      ∙ (bytes_eq-Decides figure.position name).0 holds
  | inr fails ↦ ap (λ (b : Bool). (unwrap_or (if b then Some figure else find (is_at name) loose) (nothing_at name)).position) fails ∙ named-load name loose
]
