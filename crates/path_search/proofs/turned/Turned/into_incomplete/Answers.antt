use Rattle.std.proofs.Common.{rules, refl, ◌≡◌, [], ◌∷◌, length, map, nat_lt, ℕ, Bool, true, false, List, cond, ap, ◌∙◌}
use Rattle.std.proofs.lemmas.Fn.{filter_same}
use Rattle.std.specs.List.{filter}
use Rattle.arrayvec.specs.ArrayVec.{ArrayVec}
use Rattle.certificate.specs.Evidence.{paths_of}
use Rattle.path_search.proofs.turned.Turned.into_incomplete.Goals as goal

-- to test what elements are mapped to and map those that pass is to map all and test then
filter-map : {X Y : Type 0} (f : X → Y) (test : Y → Bool) (xs : List X) → map f (filter (λ x. test (f x)) xs) ≡ filter test (map f xs)
filter-map f test [] = refl
filter-map f test (x ∷ xs) =
    elim (test (f x)) as (λ b. map f (cond b (x ∷ filter (λ y. test (f y)) xs) (filter (λ y. test (f y)) xs)) ≡ cond b (f x ∷ filter test (map f xs)) (filter test (map f xs)))
    [ true ↦ ap (λ ys. f x ∷ ys) (filter-map f test xs) | false ↦ filter-map f test xs ]

pub returns : goal.returns
returns c =
    ap paths_of (filter_same _ (λ (path : ArrayVec ℕ). nat_lt (length path.items) c.args.complete) _ (λ x b f' k. search rules) _ _ c.retain.ensures.filtered)
    ∙ filter-map (λ (path : ArrayVec ℕ). path.items) (λ p. nat_lt (length p) c.args.complete) _
    ∙ ap (filter (λ p. nat_lt (length p) c.args.complete)) c.self.view_is
