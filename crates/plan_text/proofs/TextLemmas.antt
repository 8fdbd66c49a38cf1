-- Texts of lines.
use Rattle.std.proofs.Common.{◌≡◌, ℕ, ◌+◌, ◌<◌, ◌≤◌, List, [], ◌∷◌, ◌++◌, length, get_or, take, Some, refl, ap, sym, ◌∙◌, append_assoc, arith}
use Rattle.std.proofs.lemmas.List.{map-append, take_more}
use Rattle.std.proofs.lemmas.Option.{get_or_from_slice_get, slice_get-get_or}
use Rattle.std.specs.Prelude.{slice_get, codes, pos}
use Rattle.mass_units.specs.Spelling.{index_text}
use Rattle.hold_parts.specs.declared.parts.Item.{Item}
use Rattle.hold_limits.specs.Problem.{Problem}
use Rattle.hold_limits.specs.BranchOrder.{ordered}
use Rattle.hold_limits.specs.Placement.{Placed, placed, take_off_index, distance}
use Rattle.hold_limits.proofs.PlacedLemmas.{length-placed, placed-at}
use Rattle.text_lines.specs.Lines.{line_of, text_of}
use Rattle.plan_text.specs.PlanText.{one_line, place_line, place_lines, balance_lines, difference_lines, plan_text}

pub text_of-append : (a b : List (List ℕ)) → text_of (a ++ b) ≡ text_of a ++ text_of b
text_of-append [] b = refl
text_of-append (line ∷ a) b = ap (λ rest. line ++ 10 ∷ rest) (text_of-append a b) ∙ sym (append_assoc line (10 ∷ text_of a) (text_of b))

-- the containers up to the next rank: one more, with the number there
take-placed : (t : Problem) (path : List ℕ) (rank : ℕ) (item : Item) → length path ≤ length t.items → rank < length path → slice_get (ordered t.items) rank ≡ Some item
    → take (rank + 1) (placed t path) ≡ take rank (placed t path) ++ (item, get_or path rank 0) ∷ []
take-placed t path rank item short within there =
    let p : Placed = (item, get_or path rank 0) in
    let inside : rank < length (placed t path) = omega (arith, length-placed t path short) in
    let at : slice_get (placed t path) rank ≡ Some p = placed-at t path rank (get_or path rank 0) item there (slice_get-get_or path rank 0 within) in
    take_more (placed t path) rank p inside ∙ ap (λ x. take rank (placed t path) ++ x ∷ []) (get_or_from_slice_get (placed t path) rank p p at)

-- the lines of one more container
pub place_lines-more : (t : Problem) (path : List ℕ) (rank : ℕ) (item : Item) → length path ≤ length t.items → rank < length path → slice_get (ordered t.items) rank ≡ Some item
    → text_of (place_lines t (take (rank + 1) (placed t path))) ≡ text_of (place_lines t (take rank (placed t path))) ++ text_of (place_line t.hold (item, get_or path rank 0) ∷ [])
place_lines-more t path rank item short within there =
    ap (λ ps. text_of (place_lines t ps)) (take-placed t path rank item short within there)
    ∙ ap text_of (map-append (place_line t.hold) (take rank (placed t path)) ((item, get_or path rank 0) ∷ []))
    ∙ text_of-append (place_lines t (take rank (placed t path))) (place_line t.hold (item, get_or path rank 0) ∷ [])

-- the two lines of the balance, one after the other
pub balance_text-is : (t : Problem) (path : List ℕ)
    → text_of (balance_lines t path) ≡ one_line (codes "index" ∷ index_text (take_off_index t path) ∷ []) ++ one_line (codes "distance" ∷ index_text (pos (distance t path)) ∷ [])
balance_text-is t path = text_of-append
    (line_of (codes "index" ∷ index_text (take_off_index t path) ∷ []) ∷ [])
    (line_of (codes "distance" ∷ index_text (pos (distance t path)) ∷ []) ∷ [])

-- the plan's text, part by part
pub plan_text-is : (t : Problem) (path : List ℕ)
    → plan_text t path ≡ one_line (codes "PLAN" ∷ []) ++ text_of (place_lines t (placed t path)) ++ text_of (balance_lines t path) ++ text_of (difference_lines t path)
plan_text-is t path =
    let plan : List (List ℕ) = codes "PLAN" ∷ [] in
    let places = place_lines t (placed t path) in
    let balance = balance_lines t path in
    text_of-append (plan ++ places ++ balance) (difference_lines t path)
    ∙ ap (λ a. a ++ text_of (difference_lines t path)) (text_of-append (plan ++ places) balance
    ∙ ap (λ a. a ++ text_of balance) (text_of-append plan places))

-- a text with one piece more
pub and-then : (old so_far piece before after : List ℕ) → before ≡ old ++ so_far → after ≡ before ++ piece → after ≡ old ++ (so_far ++ piece)
and-then old so_far piece before after had is = is ∙ ap (λ text. text ++ piece) had ∙ append_assoc old so_far piece
