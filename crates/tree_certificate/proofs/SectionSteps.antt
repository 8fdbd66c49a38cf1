-- siblings that are read one after another
use Rattle.std.proofs.Common.{◌≡◌, ℕ, ◌+◌, ◌<◌, ◌++◌, ◌∷◌, List, [], length, map, refl, sym, ◌∙◌, ap, subst, arith, All}
use Rattle.std.proofs.lemmas.List.{append_assoc, append-nil, length-append, length-map}
use Rattle.std.proofs.lemmas.List.Elements.{All-nil, All-push}
use Rattle.hold_parts.specs.declared.parts.Position.{Position}
use Rattle.text_lines.specs.Lines.{text_of}
use Rattle.text_lines.specs.Sections.{IsSection}
use Rattle.text_lines.proofs.SectionLemmas.{text_of-append, map-push}
use Rattle.tree_certificate.specs.declared.parts.Operation.{Operation}
use Rattle.tree_certificate.specs.declared.parts.Sibling.{Sibling}
use Rattle.tree_certificate.specs.Listed.{ListedSibling, listed_sibling}
use Rattle.tree_certificate.specs.TreeText.{least_line, sibling_lines, operation_line, IsSpelledLeast, IsSpelledOperation, IsSpelledSibling}
use Rattle.tree_certificate.specs.Reading.{IsSibling, HasNoOperationAhead, HasNoLeastAhead, AreSiblings}

pub sibling_lines-append : (ps : List Position) (xs ys : List ListedSibling) → sibling_lines ps (xs ++ ys) ≡ sibling_lines ps xs ++ sibling_lines ps ys
sibling_lines-append ps [] ys = refl
sibling_lines-append ps (x ∷ xs) ys =
    ap (λ (more : List (List ℕ)). least_line ps (x.rank, x.position) ∷ (map (operation_line ps) x.operations ++ more)) (sibling_lines-append ps xs ys)
    ∙ ap (λ (more : List (List ℕ)). least_line ps (x.rank, x.position) ∷ more) (sym (append_assoc (map (operation_line ps) x.operations) (sibling_lines ps xs) (sibling_lines ps ys)))

-- siblings that were read, after which no operation comes where none came first
pub record AreSiblingsSoFar (ps : List Position) (before after : List ℕ) (number next : ℕ) (got : List ListedSibling) : Type 0 where
  pub right : All (IsSpelledSibling ps) got
  pub read : before ≡ text_of (sibling_lines ps got) ++ after
  pub idle : HasNoOperationAhead ps before → HasNoOperationAhead ps after
  pub counted : next ≡ number + length (sibling_lines ps got)

pub no_siblings : (ps : List Position) (text : List ℕ) (number : ℕ) → AreSiblingsSoFar ps text text number number []
no_siblings ps text number = record { right = All-nil (IsSpelledSibling ps); read = refl; idle = λ none. none; counted = omega arith }

pub one_more_sibling : (ps : List Position) (before rest after : List ℕ) (number at next : ℕ) (got : List ListedSibling) (x : ListedSibling) → AreSiblingsSoFar ps before rest number at got → IsSibling ps rest after at next x
    → AreSiblingsSoFar ps before after number next (got ++ x ∷ [])
one_more_sibling ps before rest after number at next got x so one =
    let lines = sibling_lines-append ps got (x ∷ []) in
    let text : text_of (sibling_lines ps (got ++ x ∷ [])) ≡ text_of (sibling_lines ps got) ++ text_of (sibling_lines ps (x ∷ [])) = ap text_of lines ∙ text_of-append (sibling_lines ps got) (sibling_lines ps (x ∷ [])) in
    record {
      right = All-push (IsSpelledSibling ps) got x so.right one.right;
      read =
          so.read ∙ ap (λ t. text_of (sibling_lines ps got) ++ t) one.read
          ∙ sym (append_assoc (text_of (sibling_lines ps got)) (text_of (sibling_lines ps (x ∷ []))) after)
          ∙ ap (λ t. t ++ after) (sym text);
      idle = λ none. one.idle;
      counted = let old = so.counted in let new = one.counted in let long = ap length lines ∙ length-append (sibling_lines ps got) (sibling_lines ps (x ∷ [])) in omega (arith, old, new, long);
    }

-- the same of what is kept of each sibling
pub one_more_kept : (ps : List Position) (before rest after : List ℕ) (number at next : ℕ) (got new : List Sibling) (x : Sibling) → AreSiblingsSoFar ps before rest number at (map listed_sibling got) → IsSibling ps rest after at next (listed_sibling x)
    → new ≡ got ++ x ∷ [] → AreSiblingsSoFar ps before after number next (map listed_sibling new)
one_more_kept ps before rest after number at next got new x so one grew =
    subst (AreSiblingsSoFar ps before after number next) (sym (ap (map listed_sibling) grew ∙ map-push listed_sibling got x))
    (one_more_sibling ps before rest after number at next (map listed_sibling got) (listed_sibling x) so one)

pub are_siblings : (ps : List Position) (before after : List ℕ) (number next : ℕ) (got : List ListedSibling) → AreSiblingsSoFar ps before after number next got → HasNoLeastAhead ps after → AreSiblings ps before after number next got
are_siblings ps before after number next got so stops = record { right = so.right; read = so.read; stops = stops; idle = so.idle; counted = so.counted }

map-same : {X : Type 0} (xs : List X) → map (λ (x : X). x) xs ≡ xs
map-same [] = refl
map-same (x ∷ xs) = ap (λ ys. x ∷ ys) (map-same xs)

-- a sibling's line and the section of its operations
pub is_sibling : (ps : List Position) (before middle after : List ℕ) (number at next : ℕ) (x : ListedSibling) → IsSpelledLeast ps (x.rank, x.position) → before ≡ least_line ps (x.rank, x.position) ++ 10 ∷ middle → at ≡ number + 1
    → IsSection (operation_line ps) (IsSpelledOperation ps) (λ (operation : Operation). operation) middle after at next x.operations → IsSibling ps before after number next x
is_sibling ps before middle after number at next x least e counted s =
    let same : s.said ≡ x.operations = sym (s.kept ∙ map-same s.said) in
    let lines : map (operation_line ps) s.said ≡ map (operation_line ps) x.operations ++ [] = ap (map (operation_line ps)) same ∙ sym (append-nil (map (operation_line ps) x.operations)) in
    record {
      right = record { least = least; operations = subst (All (IsSpelledOperation ps)) same s.right };
      read =
          e ∙ ap (λ t. least_line ps (x.rank, x.position) ++ 10 ∷ t) (s.read ∙ ap (λ (xs : List (List ℕ)). text_of xs ++ after) lines)
          ∙ sym (append_assoc (least_line ps (x.rank, x.position)) (10 ∷ text_of (map (operation_line ps) x.operations ++ [])) after);
      idle = s.stops;
      counted =
          let new = s.counted in
          let long : length (map (operation_line ps) x.operations ++ []) ≡ length s.said = ap length (sym lines) ∙ length-map s.said (operation_line ps) in
          omega (arith, counted, new, long);
    }

-- a sibling takes lines from the text
pub sibling_shorter : (ps : List Position) (before after : List ℕ) (number next : ℕ) (x : ListedSibling) → IsSibling ps before after number next x → length after < length before
sibling_shorter ps before after number next x one =
    let text : List ℕ = text_of (map (operation_line ps) x.operations ++ []) in
    let long = ap length one.read ∙ length-append (least_line ps (x.rank, x.position) ++ 10 ∷ text) after in
    let some = length-append (least_line ps (x.rank, x.position)) (10 ∷ text) in
    omega (arith, long, some)
