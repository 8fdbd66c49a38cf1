-- the lines of a text state one thing, and none follow them
use Rattle.std.proofs.Common.{◌≡◌, ℕ, ◌++◌, ◌∷◌, List, [], map, refl, sym, ◌∙◌, ap}
use Rattle.std.proofs.lemmas.List.{append_assoc}
use Rattle.std.proofs.lemmas.List.Elements.{All-nil, All-cons, All-append, All-map, All-weaker, All-same}
use Rattle.text_lines.specs.Cuts.{Avoids}
use Rattle.text_lines.proofs.RunOfLines.{section_once}
use Rattle.text_lines.proofs.TextCuts.{AreLines}
use Rattle.text_lines.proofs.Rests.{Rest, behind, StartsWithBlock, StartsWithOne, one_block, stops-at, stops-before}
use Rattle.text_lines.proofs.RunsOfLines.{StartsWithRun, IsLast}

abbrev Lines : Type 0
Lines = List (List ℕ)

-- the lines of the rest state one thing and end where they end, and each of them is one line
pub record IsReadOnce {V : Type 0} (rest : Rest V) : Type 0 where
  pub once : (v w : V) (more : Lines) → rest.Is v → rest.Is w → rest.lines v ++ more ≡ rest.lines w → (v ≡ w) × (more ≡ [])
  pub clear : (v : V) → rest.Is v → AreLines (rest.lines v)

pub block_then : {V X : Type 0} {rest : Rest V} {block : X → Lines} {P : X → Type 0} {part : V → X} {later : V → Lines} → StartsWithBlock rest block P part later → ((x : X) → IsReadOnce (behind rest part x later)) → IsReadOnce rest
block_then {block = block} {part = part} {later = later} starts read = record {
  once = λ v w more p q e.
      let whole = sym (append_assoc (block (part v)) (later v) more) ∙ ap (λ t. t ++ more) (sym (starts.are v p)) ∙ e ∙ starts.are w q in
      let same = starts.once (part v) (part w) (later v ++ more) (later w) (starts.right v p) (starts.right w q) whole in
      (read (part w)).once v w more (p, same.0) (q, refl) same.1;
  clear = λ v is.
      All-same (Avoids 10) _ _ (starts.are v is)
      (All-append (Avoids 10) (block (part v)) (later v) (starts.clear (part v) (starts.right v is)) ((read (part v)).clear v (is, refl)));
}

pub one_then : {V X : Type 0} {rest : Rest V} {line : X → List ℕ} {P : X → Type 0} {part : V → X} {later : V → Lines} → StartsWithOne rest line P part later → ((x : X) → IsReadOnce (behind rest part x later)) → IsReadOnce rest
one_then starts read = block_then (one_block starts) read

pub run_then : {V X : Type 0} {rest : Rest V} {line : X → List ℕ} {P : X → Type 0} {Fit : List X → Type 0} {part : V → List X} {later : V → Lines} → StartsWithRun rest line P Fit part later → ((xs : List X) → IsReadOnce (behind rest part xs later)) → IsReadOnce rest
run_then {line = line} {P = P} {part = part} {later = later} starts read = record {
  once = λ v w more p q e.
      let whole : map line (part v) ++ (later v ++ more) ≡ map line (part w) ++ later w = sym (append_assoc (map line (part v)) (later v) more) ∙ ap (λ t. t ++ more) (sym (starts.are v p)) ∙ e ∙ starts.are w q in
      let same = section_once line P starts.kind.once (part v) (part w) (later v ++ more) (later w) (starts.right v p) (starts.right w q) (stops-before line P (later v) more (starts.other v p)) (stops-at line P (later w) (starts.other w q)) whole in
      (read (part w)).once v w more (p, same.0) (q, refl) same.1;
  clear = λ v is.
      let run : AreLines (map line (part v)) = All-map (Avoids 10) line (part v) (All-weaker P (λ x. Avoids 10 (line x)) starts.kind.avoids (part v) (starts.right v is)) in
      All-same (Avoids 10) _ _ (starts.are v is) (All-append (Avoids 10) (map line (part v)) (later v) run ((read (part v)).clear v (is, refl)));
}

pub last_then : {V : Type 0} {rest : Rest V} {word : List ℕ} → IsLast rest word → IsReadOnce rest
last_then {word = word} last = record {
  once = λ v w more p q e.
      let whole : word ∷ more ≡ word ∷ [] = ap (λ t. t ++ more) (sym (last.are v p)) ∙ e ∙ last.are w q in
      let none : more ≡ [] = cc in
      (last.known v w p q, none);
  clear = λ v is. All-same (Avoids 10) _ _ (last.are v is) (All-cons (Avoids 10) word [] last.plain (All-nil (Avoids 10)));
}
