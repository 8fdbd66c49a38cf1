-- texts that grow by one entry after another
use Rattle.std.proofs.Common.{◌≡◌, ℕ, Bool, Some, List, [], ◌∷◌, ◌++◌, map, ap, sym, ◌∙◌}
use Rattle.std.proofs.lemmas.List.{append_assoc}
use Rattle.hold_parts.specs.declared.parts.Position.{Position}
use Rattle.hold_parts.specs.declared.parts.Lateral.{Lateral}
use Rattle.problem_text.specs.TaskText.{side_line, lateral_line, lateral_lines}
use Rattle.text_lines.specs.Lines.{text_of}
use Rattle.text_lines.proofs.SectionLemmas.{text_of-append}

-- a text of some lines that grew by those of others
pub more_lines : (done xs : List (List ℕ)) (old new : List ℕ) → old ≡ text_of done → new ≡ old ++ text_of xs → new ≡ text_of (done ++ xs)
more_lines done xs old new was grew = grew ∙ ap (λ t. t ++ text_of xs) was ∙ sym (text_of-append done xs)

-- the lines of a lateral limit
pub lateral_written : (ps : List Position) (l : Lateral) (sides : List (ℕ × Bool)) (old middle new : List ℕ) → sides ≡ l.sides → middle ≡ old ++ text_of (map (side_line ps) sides) → new ≡ middle ++ (lateral_line l.most.0 ++ 10 ∷ []) → new ≡ old ++ text_of (lateral_lines ps (Some l))
lateral_written ps l sides old middle new same first second =
    second ∙ ap (λ t. t ++ (lateral_line l.most.0 ++ 10 ∷ [])) (first ∙ ap (λ xs. old ++ text_of (map (side_line ps) xs)) same)
    ∙ append_assoc old (text_of (map (side_line ps) l.sides)) (lateral_line l.most.0 ++ 10 ∷ [])
    ∙ ap (λ t. old ++ t) (sym (text_of-append (map (side_line ps) l.sides) (lateral_line l.most.0 ∷ [])))

-- texts that grew piece by piece
regroup : (old a b : List ℕ) (n m : List ℕ) → n ≡ old ++ a → m ≡ n ++ b → m ≡ old ++ (a ++ b)
regroup old a b n m first second = second ∙ ap (λ t. t ++ b) first ∙ append_assoc old a b

pub built-3 : (old a b c : List ℕ) (n1 n2 n3 : List ℕ) → n1 ≡ old ++ a → n2 ≡ n1 ++ b → n3 ≡ n2 ++ c → n3 ≡ old ++ (a ++ (b ++ c))
built-3 old a b c n1 n2 n3 e1 e2 e3 = regroup old a (b ++ c) n1 n3 e1 (regroup n1 b c n2 n3 e2 e3)

pub built-5 : (old a b c d e : List ℕ) (n1 n2 n3 n4 n5 : List ℕ) → n1 ≡ old ++ a → n2 ≡ n1 ++ b → n3 ≡ n2 ++ c → n4 ≡ n3 ++ d → n5 ≡ n4 ++ e → n5 ≡ old ++ (a ++ (b ++ (c ++ (d ++ e))))
built-5 old a b c d e n1 n2 n3 n4 n5 e1 e2 e3 e4 e5 =
    regroup old a (b ++ (c ++ (d ++ e))) n1 n5 e1
    (regroup n1 b (c ++ (d ++ e)) n2 n5 e2 (built-3 n2 c d e n3 n4 n5 e3 e4 e5))
