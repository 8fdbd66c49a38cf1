-- lines as a text
use Rattle.std.proofs.Common.{◌≡◌, ℕ, ◌++◌, ◌∷◌, List, [], Option, Some, None, IfNone, IfErr, map, refl, sym, ◌∙◌, ap}
use Rattle.std.specs.Option.{ok_or}
use Rattle.std.proofs.lemmas.List.{append_assoc}
use Rattle.text_lines.specs.Lines.{text_of}
use Rattle.text_lines.specs.Cuts.{Avoids}
use Rattle.text_lines.specs.Lines.{IsStopped}
use Rattle.text_lines.specs.Lines.IsStopped.{at_line, at_end}
use Rattle.text_lines.specs.declared.fault.LineFault.{LineFault}
use Rattle.text_lines.specs.declared.fault.LineFault.TheVariants.{Line, NoEnd}

pub map-push : {X Y : Type 0} (f : X → Y) (xs : List X) (x : X) → map f (xs ++ x ∷ []) ≡ map f xs ++ f x ∷ []
map-push f [] x = refl
map-push f (y ∷ xs) x = ap (λ t. f y ∷ t) (map-push f xs x)

pub text_of-append : (xs ys : List (List ℕ)) → text_of (xs ++ ys) ≡ text_of xs ++ text_of ys
text_of-append [] ys = refl
text_of-append (x ∷ xs) ys = ap (λ t. x ++ 10 ∷ t) (text_of-append xs ys) ∙ sym (append_assoc x (10 ∷ text_of xs) (text_of ys))

-- one more line at the end
pub text_of-push : {X : Type 0} (line : X → List ℕ) (xs : List X) (x : X) (rest : List ℕ) → text_of (map line (xs ++ x ∷ [])) ++ rest ≡ text_of (map line xs) ++ (line x ++ 10 ∷ rest)
text_of-push line [] x rest = append_assoc (line x) (10 ∷ []) rest
text_of-push line (y ∷ xs) x rest = append_assoc (line y) (10 ∷ text_of (map line (xs ++ x ∷ []))) rest ∙ ap (λ t. line y ++ 10 ∷ t) (text_of-push line xs x rest) ∙ sym (append_assoc (line y) (10 ∷ text_of (map line xs)) (line x ++ 10 ∷ rest))

pub stopped_early : (rest : List ℕ) (number : ℕ) (IsRight : List ℕ → Type 0) (fault : LineFault) → (fault ≡ NoEnd) × Avoids 10 rest → IsStopped rest number IsRight fault
stopped_early rest number IsRight fault h = rw h.0 (at_end h.1)

-- a line from which nothing is read stops the reader
pub stopped_at_line : {X : Type 0} (rest : List ℕ) (number : ℕ) (IsRight : List ℕ → Type 0) (line after : List ℕ) (read : Option X) → rest ≡ line ++ 10 ∷ after → Avoids 10 line → IfNone read (IsRight line → ⊥) → IfErr (ok_or read (Line number)) (IsStopped rest number IsRight)
stopped_at_line rest number IsRight line after (Some x) e clear none = tt
stopped_at_line rest number IsRight line after None e clear none = at_line line after e clear none
