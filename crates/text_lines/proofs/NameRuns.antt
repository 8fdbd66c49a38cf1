-- the names of positions at the end of a line
use Rattle.std.proofs.Common.{◌≡◌, ◌≢◌, ℕ, ◌<◌, ◌++◌, ◌∷◌, List, [], length, map, take, get_or, Some, refl, sym, ◌∙◌, ap, arith, All}
use Rattle.std.specs.Prelude.{AllPairs, slice_get}
use Rattle.std.specs.Option.{option_map_or}
use Rattle.std.proofs.lemmas.Option.{slice_get-get_or}
use Rattle.std.proofs.lemmas.List.{append-nil, get_or-take, length-take}
use Rattle.std.proofs.lemmas.List.Elements.{All-weaker}
use Rattle.hold_parts.specs.Spellings.{IsName}
use Rattle.hold_parts.specs.declared.parts.Position.{Position}
use Rattle.hold_limits.specs.Layout.{name_at}
use Rattle.text_lines.specs.Cuts.{Avoids, IsCutAt}
use Rattle.text_lines.specs.Lines.{line_of}
use Rattle.text_lines.specs.Names.{IsNamed}
use Rattle.text_lines.specs.WordRuns.{run_text, name_text}
use Rattle.text_lines.proofs.CutLemmas.{cut_once}
use Rattle.text_lines.specs.SpelledWords.{name_avoids}
use Rattle.text_lines.proofs.NameLemmas.{name_at-avoids, named_once}
use Rattle.text_lines.proofs.RunLemmas.{AreRead, run_text-begins}

-- the names of the positions do not contain the byte
abbrev pub AreClear : ℕ → List Position → Type 0
AreClear k ps = All (λ (q : Position). Avoids k q.name) ps

abbrev pub AreNames : List Position → Type 0
AreNames ps = All (λ (q : Position). IsName q.name) ps

pub clear_names : (k : ℕ) (ps : List Position) → k < 45 → AreNames ps → AreClear k ps
clear_names k ps low names = All-weaker (λ (q : Position). IsName q.name) (λ (q : Position). Avoids k q.name) (λ q h. name_avoids k q.name low h) ps names

pub names_are_read : (ps : List Position) → AreClear 32 ps → AreRead (name_text ps) (IsNamed ps)
names_are_read ps clear = record {
  some = λ q. omega arith;
  begins = λ q rest. refl;
  once = λ p q rest rest' s t cut cut' e.
      let names : name_at ps p ++ rest ≡ name_at ps q ++ rest' = cc in
      let parts = cut_once 32 (name_at ps p) rest (name_at ps q) rest' (name_at-avoids 32 ps p clear s.known) (name_at-avoids 32 ps q clear t.known) cut cut' names in
      (named_once ps p q s t parts.0, parts.1);
}

pub names_begin : (ps : List Position) → AreClear 32 ps → (path : List ℕ) → IsCutAt 32 (run_text (name_text ps) path)
names_begin ps clear path = run_text-begins (name_text ps) (IsNamed ps) (names_are_read ps clear) path

pub line_of-names : (word : List ℕ) (ps : List Position) (path : List ℕ) → line_of (word ∷ map (name_at ps) path) ≡ word ++ run_text (name_text ps) path
line_of-names word ps [] = sym (append-nil word)
line_of-names word ps (q ∷ path) = ap (λ t. word ++ 32 ∷ t) (line_of-names (name_at ps q) ps path)

-- where no two positions have one name, each is the first of its name
pub first_named : (ps : List Position) → AllPairs (λ (a b : Position). a.name ≢ b.name) ps → (q : ℕ) → q < length ps → IsNamed ps q
first_named ps differ q known = record {
  known = known;
  first = λ k d within same.
      let before : k < q = omega (arith, length-take q ps) in
      let there : slice_get ps q ≡ Some (get_or ps q d) = slice_get-get_or ps q d known in
      let name : name_at ps q ≡ (get_or ps q d).name = ap (λ o. option_map_or (λ (p : Position). p.name) o []) there in
      let earlier : get_or (take q ps) k d ≡ get_or ps k d = get_or-take q ps k d before in
      differ k q d before known (sym (ap (λ (p : Position). p.name) earlier) ∙ same ∙ name);
}
