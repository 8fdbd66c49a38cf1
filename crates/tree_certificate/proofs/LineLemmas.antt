-- the lines of a certificate of trees: each is read in one way only, and they differ from one another
use Rattle.std.proofs.Common.{◌≡◌, ◌≢◌, ℕ, ◌<◌, eqb, false, ◌++◌, ◌∷◌, List, [], get_or, map, Option, Some, None, IfNone, refl, sym, ◌∙◌, ap, arith, All, codes, lit<}
use Rattle.std.specs.List.{list_any}
use Rattle.std.proofs.lemmas.List.{append_assoc, append_cancel_left}
use Rattle.std.proofs.lemmas.List.Elements.{All-head, All-tail, All-nil, All-cons, All-append, All-map, All-same, All-weaker}
use Rattle.mass_units.specs.Spelling.{number_text, IsNumber}
use Rattle.mass_units.proofs.SpellingLemmas.{number_text-avoids}
use Rattle.hold_parts.specs.declared.parts.Position.{Position}
use Rattle.hold_limits.specs.Layout.{name_at}
use Rattle.text_lines.specs.Cuts.{Avoids, IsCutAt}
use Rattle.text_lines.specs.Names.{IsNamed}
use Rattle.text_lines.specs.WordRuns.{run_text, name_text}
use Rattle.text_lines.proofs.CutLemmas.{split_once_again}
use Rattle.text_lines.proofs.FieldLemmas.{HasWord, numbers, named, last_field, and_then, then_run, word_entries, behind_word, of_spelled, written_as}
use Rattle.text_lines.proofs.RunOfLines.{Stops, section_once}
use Rattle.text_lines.proofs.TextCuts.{AreLines}
use Rattle.text_lines.proofs.Rests.{IsLineKind, HasOther, other_first, other_behind}
use Rattle.text_lines.proofs.WordLemmas.{plain_word}
use Rattle.certificate.specs.CertificateText.{path_line}
use Rattle.certificate.specs.declared.parts.Claim.{Claim}
use Rattle.certificate.specs.declared.parts.Claim.TheVariants.{Best, NoneFits}
use Rattle.certificate.proofs.PathLemmas.{AreClear, AreNames, path_line-is}
use Rattle.position_set.specs.declared.set.PositionSet.{PositionSet}
use Rattle.position_set.specs.Sets.{members}
use Rattle.position_set.proofs.OrderLemmas.{members-same}
use Rattle.tree_certificate.specs.declared.parts.End.{End}
use Rattle.tree_certificate.specs.declared.parts.End.TheVariants.{Low, High}
use Rattle.tree_certificate.specs.declared.parts.Operation.{Operation}
use Rattle.tree_certificate.specs.declared.parts.Operation.TheVariants.{Leaf, Residue, Narrow, Split}
use Rattle.tree_certificate.specs.Listed.{ListedPrices, ListedSibling}
use Rattle.tree_certificate.specs.TreeText.{clique_line, end_word, price_line, prices_text, operation_line, root_line, least_line, sibling_lines, IsSpelledSet, IsSpelledPriceList, IsSpelledOperation, IsSpelledLeast, IsSpelledSibling}
use Rattle.tree_certificate.proofs.SetWords.{set_words, sets}

-- Lines that differ in a byte -------------------------------------------------------------------

abbrev byte : ℕ → List ℕ → ℕ
byte i line = get_or line i 0

-- equal lines do not differ in a byte
differ_at : {a b : List ℕ} (i : ℕ) (e : a ≡ b) → byte i a ≢ byte i b → ⊥
differ_at i e other = other (ap (byte i) e)

-- Cliques ---------------------------------------------------------------------------------------

pub cliques : (ps : List Position) → AreNames ps → IsLineKind (clique_line ps) (IsSpelledSet ps)
cliques ps names = written_as (behind_word (codes "clique") refl (sets ps names)) (λ clique. path_line-is (codes "clique") ps (members clique))

-- a line that begins with another letter is not that of a clique
clique_differs : (ps : List Position) (clique : PositionSet) (line : List ℕ) → 99 ≢ byte 0 line → clique_line ps clique ≢ line
clique_differs ps clique line other e = other (ap (byte 0) (sym (path_line-is (codes "clique") ps (members clique)) ∙ e))

-- Prices ----------------------------------------------------------------------------------------

price_differs : (ps : List Position) (list : ListedPrices) (line : List ℕ) → 108 ≢ byte 0 line → 104 ≢ byte 0 line → price_line ps list ≢ line
price_differs ps list line low high e = of list.end (prices_text ps list) e
  where
    of : (end : End) (rest : List ℕ) → end_word end ++ rest ≡ line → ⊥
    of Low rest is = low (ap (byte 0) is)
    of High rest is = high (ap (byte 0) is)

-- Operations ------------------------------------------------------------------------------------

-- a word and a number
numbered : (word : List ℕ) → list_any (λ b. eqb b 10) word ≡ false → IsLineKind (λ n. word ++ number_text n) HasWord
numbered word plain = behind_word word plain (last_field numbers)

-- a rank and a set
abbrev Ranked : Type 0
Ranked = ℕ × List ℕ

splits : (ps : List Position) → AreNames ps → IsLineKind (λ (x : Ranked). codes "split " ++ (number_text x.0 ++ run_text (name_text ps) x.1)) (λ (x : Ranked). HasWord x.0 × All (IsNamed ps) x.1)
splits ps names = behind_word (codes "split ") refl (then_run numbers (word_entries (named ps names)))

split_line-is : (ps : List Position) (i : ℕ) (set : PositionSet) → operation_line ps (Split i set) ≡ codes "split " ++ (number_text i ++ run_text (name_text ps) (members set))
split_line-is ps i set = ap (λ t. codes "split " ++ t) (path_line-is (number_text i) ps (members set))

pub operations : (ps : List Position) → AreNames ps → IsLineKind (operation_line ps) (IsSpelledOperation ps)
operations ps names = record { once = once; avoids = avoids }
  where
    once : (a b : Operation) → IsSpelledOperation ps a → IsSpelledOperation ps b → operation_line ps a ≡ operation_line ps b → a ≡ b
    once (Leaf v) (Leaf w) s t e = ap Leaf ((numbered (codes "leaf ") refl).once v w tt tt e)
    once Residue Residue s t e = refl
    once (Narrow v) (Narrow w) s t e = ap Narrow ((numbered (codes "narrow ") refl).once v w tt tt e)
    once (Split i a) (Split j b) s t e =
        let same = (splits ps names).once (i, members a) (j, members b) (tt, s.1.named) (tt, t.1.named) (sym (split_line-is ps i a) ∙ e ∙ split_line-is ps j b) in
        let set = members-same a b s.1.fits t.1.fits (λ k. (same k).1) in
        λ k. Split (same k).0 (set k)
    once a b s t e = absurd (differ_at 0 e (λ f. absurd (omega (arith, f))))

    avoids : (operation : Operation) → IsSpelledOperation ps operation → Avoids 10 (operation_line ps operation)
    avoids (Leaf v) s = (numbered (codes "leaf ") refl).avoids v tt
    avoids Residue s = plain_word 10 (codes "residue") refl
    avoids (Narrow v) s = (numbered (codes "narrow ") refl).avoids v tt
    avoids (Split i set) s = All-same (λ b. eqb b 10 ≡ false) (operation_line ps (Split i set)) _ (split_line-is ps i set) ((splits ps names).avoids (i, members set) (tt, s.1.named))

-- the words of a line of a split after its first
pub split_words : (ps : List Position) → AreClear 32 ps → (i : ℕ) (set : PositionSet) (line behind rank words : List ℕ) → line ≡ codes "split " ++ behind → behind ≡ rank ++ words → Avoids 32 rank → IsCutAt 32 words
    → line ≡ operation_line ps (Split i set) → (rank ≡ number_text i) × (words ≡ run_text (name_text ps) (members set))
split_words ps clear i set line behind rank words e is front cut same =
    let rest = append_cancel_left (codes "split ") behind (path_line (number_text i) ps (members set)) (sym e ∙ same) in
    set_words (number_text i) ps (number_text-avoids 32 i (lit< tt)) clear set rank words front cut (sym is ∙ rest)

pub split_found : (ps : List Position) (i : ℕ) (set : PositionSet) (line behind rank words : List ℕ) → line ≡ codes "split " ++ behind → behind ≡ rank ++ words → rank ≡ number_text i → words ≡ run_text (name_text ps) (members set)
    → line ≡ operation_line ps (Split i set)
split_found ps i set line behind rank words e is first names =
    e ∙ ap (λ t. codes "split " ++ t) (is ∙ (λ k. first k ++ names k) ∙ sym (path_line-is (number_text i) ps (members set)))

-- a line that is of none of the four kinds
pub no_operation : (ps : List Position) (line : List ℕ) → line ≢ codes "residue" → ((n : ℕ) → IsNumber n → line ≢ codes "leaf " ++ number_text n) → ((n : ℕ) → IsNumber n → line ≢ codes "narrow " ++ number_text n)
    → ((i : ℕ) (set : PositionSet) → i < 256 → IsSpelledSet ps set → line ≢ operation_line ps (Split i set)) → (operation : Operation) → IsSpelledOperation ps operation → line ≢ operation_line ps operation
no_operation ps line residue leaf narrow split (Leaf v) s e = leaf v s e
no_operation ps line residue leaf narrow split Residue s e = residue e
no_operation ps line residue leaf narrow split (Narrow v) s e = narrow v s e
no_operation ps line residue leaf narrow split (Split i set) s e = split i set s.0 s.1 e

pub none_of_operations : (ps : List Position) (line : List ℕ) (r : Option Operation) → line ≢ codes "residue" → ((n : ℕ) → IsNumber n → line ≢ codes "leaf " ++ number_text n) → ((n : ℕ) → IsNumber n → line ≢ codes "narrow " ++ number_text n)
    → IfNone r ((i : ℕ) (set : PositionSet) → i < 256 → IsSpelledSet ps set → line ≢ operation_line ps (Split i set)) → IfNone r ((operation : Operation) → IsSpelledOperation ps operation → line ≢ operation_line ps operation)
none_of_operations ps line (Some operation) residue leaf narrow split = tt
none_of_operations ps line None residue leaf narrow split = no_operation ps line residue leaf narrow split

-- Siblings --------------------------------------------------------------------------------------

pub leasts : (ps : List Position) → AreNames ps → IsLineKind (least_line ps) (IsSpelledLeast ps)
leasts ps names = of_spelled (behind_word (codes "least ") refl (and_then numbers (last_field (named ps names)))) (λ at s. (tt, s.position))

pub least_words : (at : ℕ × ℕ) (ps : List Position) (rank name : List ℕ) → Avoids 32 rank → rank ++ 32 ∷ name ≡ number_text at.0 ++ 32 ∷ name_at ps at.1 → (rank ≡ number_text at.0) × (name ≡ name_at ps at.1)
least_words at ps rank name clear e = split_once_again 32 rank name (number_text at.0) (name_at ps at.1) clear (number_text-avoids 32 at.0 (lit< tt)) e

-- the words of a line of a sibling after its first
pub least_parts : (ps : List Position) (at : ℕ × ℕ) (line behind rank name : List ℕ) → line ≡ codes "least " ++ behind → behind ≡ rank ++ 32 ∷ name → Avoids 32 rank → line ≡ least_line ps at → (rank ≡ number_text at.0) × (name ≡ name_at ps at.1)
least_parts ps at line behind rank name e is clear same =
    least_words at ps rank name clear (sym is ∙ append_cancel_left (codes "least ") behind (number_text at.0 ++ 32 ∷ name_at ps at.1) (sym e ∙ same))

pub least_found : (ps : List Position) (k q : ℕ) (line behind rank name : List ℕ) → line ≡ codes "least " ++ behind → behind ≡ rank ++ 32 ∷ name → rank ≡ number_text k → name ≡ name_at ps q → line ≡ least_line ps (k, q)
least_found ps k q line behind rank name e is first second = e ∙ ap (λ t. codes "least " ++ t) (is ∙ (λ i. first i ++ 32 ∷ second i))

-- What follows a run of lines -------------------------------------------------------------------

abbrev Lines : Type 0
Lines = List (List ℕ)

-- the line before the first tree is that of no clique and of no prices
root_is_no_clique : (ps : List Position) (claim : Claim) (clique : PositionSet) → root_line claim ≢ clique_line ps clique
root_is_no_clique ps (Best path) clique e = clique_differs ps clique (codes "nearer") (λ f. absurd (omega (arith, f))) (sym e)
root_is_no_clique ps NoneFits clique e = clique_differs ps clique (codes "any") (λ f. absurd (omega (arith, f))) (sym e)

root_is_no_price : (ps : List Position) (claim : Claim) (list : ListedPrices) → root_line claim ≢ price_line ps list
root_is_no_price ps (Best path) list e = price_differs ps list (codes "nearer") (λ f. absurd (omega (arith, f))) (λ f. absurd (omega (arith, f))) (sym e)
root_is_no_price ps NoneFits list e = price_differs ps list (codes "any") (λ f. absurd (omega (arith, f))) (λ f. absurd (omega (arith, f))) (sym e)

price_is_no_clique : (ps : List Position) (list : ListedPrices) (clique : PositionSet) → price_line ps list ≢ clique_line ps clique
price_is_no_clique ps list clique e = price_differs ps list (codes "clique" ++ run_text (name_text ps) (members clique)) (λ f. absurd (omega (arith, f))) (λ f. absurd (omega (arith, f))) (e ∙ path_line-is (codes "clique") ps (members clique))

pub prices_end : (ps : List Position) (claim : Claim) (more : Lines) → HasOther (price_line ps) (IsSpelledPriceList ps) (root_line claim ∷ more)
prices_end ps claim more = other_first (root_line claim) more (λ list right. root_is_no_price ps claim list)

pub cliques_end : (ps : List Position) (prices : List ListedPrices) (claim : Claim) (more : Lines) → HasOther (clique_line ps) (IsSpelledSet ps) (map (price_line ps) prices ++ (root_line claim ∷ more))
cliques_end ps prices claim more = other_behind (price_line ps) (λ list clique right. price_is_no_clique ps list clique) prices (root_line claim ∷ more) (other_first (root_line claim) more (λ clique right. root_is_no_clique ps claim clique))

least_is_no_operation : (ps : List Position) (at : ℕ × ℕ) (operation : Operation) → least_line ps at ≢ operation_line ps operation
least_is_no_operation ps at (Leaf v) e = differ_at 3 e (λ f. absurd (omega (arith, f)))
least_is_no_operation ps at operation e = differ_at 0 e (λ f. absurd (omega (arith, f)))

end_is_no_operation : (ps : List Position) (operation : Operation) → codes "END" ≢ operation_line ps operation
end_is_no_operation ps (Leaf v) e = differ_at 0 e (λ f. absurd (omega (arith, f)))
end_is_no_operation ps operation e = differ_at 0 e (λ f. absurd (omega (arith, f)))

-- where no operation comes next, none comes before further siblings either
pub siblings_stop : (ps : List Position) (siblings : List ListedSibling) (lines : Lines) → Stops (operation_line ps) (IsSpelledOperation ps) lines → Stops (operation_line ps) (IsSpelledOperation ps) (sibling_lines ps siblings ++ lines)
siblings_stop ps [] lines stop = stop
siblings_stop ps (x ∷ siblings) lines stop = λ operation behind s e.
    let same : least_line ps (x.rank, x.position) ≡ operation_line ps operation = cc in least_is_no_operation ps (x.rank, x.position) operation same

pub operations_end : (ps : List Position) (siblings : List ListedSibling) (more : Lines) → HasOther (operation_line ps) (IsSpelledOperation ps) (sibling_lines ps siblings ++ codes "END" ∷ more)
operations_end ps [] more = other_first (codes "END") more (λ operation right. end_is_no_operation ps operation)
operations_end ps (x ∷ siblings) more = other_first (least_line ps (x.rank, x.position)) ((map (operation_line ps) x.operations ++ sibling_lines ps siblings) ++ codes "END" ∷ more) (λ operation right. least_is_no_operation ps (x.rank, x.position) operation)

pub end_stops_operations : (ps : List Position) (more : Lines) → Stops (operation_line ps) (IsSpelledOperation ps) (codes "END" ∷ more)
end_stops_operations ps more operation behind s e = let same : codes "END" ≡ operation_line ps operation = cc in end_is_no_operation ps operation same

pub end_stops_siblings : (ps : List Position) (more : Lines) → Stops (least_line ps) (IsSpelledLeast ps) (codes "END" ∷ more)
end_stops_siblings ps more at behind s e = let same : codes "END" ≡ least_line ps at = cc in differ_at 0 same (λ f. absurd (omega (arith, f)))

-- two runs of siblings with their trees, after which neither a sibling nor an operation comes, are one
pub siblings_once : (ps : List Position) → AreNames ps → (xs ys : List ListedSibling) (lines other : Lines) → All (IsSpelledSibling ps) xs → All (IsSpelledSibling ps) ys
    → Stops (least_line ps) (IsSpelledLeast ps) lines → Stops (least_line ps) (IsSpelledLeast ps) other → Stops (operation_line ps) (IsSpelledOperation ps) lines → Stops (operation_line ps) (IsSpelledOperation ps) other
    → sibling_lines ps xs ++ lines ≡ sibling_lines ps ys ++ other → (xs ≡ ys) × (lines ≡ other)
siblings_once ps names [] [] lines other p q stop stop' idle idle' e = (refl, e)
siblings_once ps names [] (y ∷ ys) lines other p q stop stop' idle idle' e = absurd (stop (y.rank, y.position) ((map (operation_line ps) y.operations ++ sibling_lines ps ys) ++ other) (All-head (IsSpelledSibling ps) y ys q).least e)
siblings_once ps names (x ∷ xs) [] lines other p q stop stop' idle idle' e = absurd (stop' (x.rank, x.position) ((map (operation_line ps) x.operations ++ sibling_lines ps xs) ++ lines) (All-head (IsSpelledSibling ps) x xs p).least (sym e))
siblings_once ps names (x ∷ xs) (y ∷ ys) lines other p q stop stop' idle idle' e =
    let here = All-head (IsSpelledSibling ps) x xs p in
    let there = All-head (IsSpelledSibling ps) y ys q in
    let front : least_line ps (x.rank, x.position) ≡ least_line ps (y.rank, y.position) = cc in
    let tails : (map (operation_line ps) x.operations ++ sibling_lines ps xs) ++ lines ≡ (map (operation_line ps) y.operations ++ sibling_lines ps ys) ++ other = cc in
    let at = (leasts ps names).once (x.rank, x.position) (y.rank, y.position) here.least there.least front in
    let trees = section_once (operation_line ps) (IsSpelledOperation ps) (operations ps names).once x.operations y.operations (sibling_lines ps xs ++ lines) (sibling_lines ps ys ++ other) here.operations there.operations
    (siblings_stop ps xs lines idle) (siblings_stop ps ys other idle')
    (sym (append_assoc (map (operation_line ps) x.operations) (sibling_lines ps xs) lines) ∙ tails ∙ append_assoc (map (operation_line ps) y.operations) (sibling_lines ps ys) other) in
    let again = siblings_once ps names xs ys lines other (All-tail (IsSpelledSibling ps) x xs p) (All-tail (IsSpelledSibling ps) y ys q) stop stop' idle idle' trees.1 in
    (λ i. record { rank = (at i).0; position = (at i).1; operations = trees.0 i } ∷ again.0 i, again.1)

-- the lines of siblings contain no end of a line
pub siblings_are : (ps : List Position) → AreNames ps → (siblings : List ListedSibling) → All (IsSpelledSibling ps) siblings → AreLines (sibling_lines ps siblings)
siblings_are ps names [] s = All-nil (Avoids 10)
siblings_are ps names (x ∷ siblings) s =
    let here = All-head (IsSpelledSibling ps) x siblings s in
    let trees : AreLines (map (operation_line ps) x.operations) = All-map (Avoids 10) (operation_line ps) x.operations (All-weaker (IsSpelledOperation ps) (λ o. Avoids 10 (operation_line ps o)) (operations ps names).avoids x.operations here.operations) in
    All-cons (Avoids 10) (least_line ps (x.rank, x.position)) (map (operation_line ps) x.operations ++ sibling_lines ps siblings) ((leasts ps names).avoids (x.rank, x.position) here.least)
    (All-append (Avoids 10) (map (operation_line ps) x.operations) (sibling_lines ps siblings) trees (siblings_are ps names siblings (All-tail (IsSpelledSibling ps) x siblings s)))
