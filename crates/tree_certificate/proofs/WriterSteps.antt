-- texts that grow by one entry after another
use Rattle.std.proofs.Common.{◌≡◌, ℕ, List, [], ◌∷◌, ◌++◌, map, refl, ap, sym, ◌∙◌, codes, All}
use Rattle.std.proofs.lemmas.List.{append-nil, append_assoc}
use Rattle.hold_parts.specs.declared.parts.Position.{Position}
use Rattle.text_lines.specs.Lines.{text_of}
use Rattle.text_lines.specs.WordRuns.{run_text}
use Rattle.text_lines.proofs.RunLemmas.{run_text-push}
use Rattle.text_lines.proofs.SectionLemmas.{text_of-append}
use Rattle.certificate.specs.CertificateText.{claim_line}
use Rattle.tree_certificate.specs.declared.parts.PriceList.{PriceList}
use Rattle.tree_certificate.specs.declared.parts.Sibling.{Sibling}
use Rattle.tree_certificate.specs.Listed.{ListedPrices, ListedSibling, ListedTrees, listed_prices, listed_sibling}
use Rattle.certificate.specs.Starts.{IsEarlier}
use Rattle.tree_certificate.specs.TreeText.{start_line, clique_line, price_line, operation_line, root_line, least_line, sibling_lines, tree_text, IsSpelled, Spells}
use Rattle.tree_certificate.proofs.SectionSteps.{sibling_lines-append}

-- A run of which the first entries are written --------------------------------------------------

pub more_done : {X : Type 0} (done : List X) (x : X) (rest : List X) {all old : List X} → all ≡ done ++ old → old ≡ x ∷ rest → all ≡ (done ++ x ∷ []) ++ rest
more_done done x rest split took = split ∙ ap (λ xs. done ++ xs) took ∙ sym (append_assoc done (x ∷ []) rest)

pub more_written : {X : Type 0} (text : X → List ℕ) (done : List X) (x : X) (start old new : List ℕ) → old ≡ start ++ run_text text done → new ≡ old ++ text x → new ≡ start ++ run_text text (done ++ x ∷ [])
more_written text done x start old new was grew =
    grew ∙ ap (λ t. t ++ text x) was ∙ append_assoc start (run_text text done) (text x)
    ∙ ap (λ t. start ++ t) (sym (sym (append-nil (run_text text (done ++ x ∷ []))) ∙ run_text-push text done x [] ∙ ap (λ t. run_text text done ++ t) (append-nil (text x))))

pub all_written : {X : Type 0} (text : X → List ℕ) (done rest all : List X) (start out : List ℕ) → all ≡ done ++ rest → rest ≡ [] → out ≡ start ++ run_text text done → out ≡ start ++ run_text text all
all_written text done rest all start out split none written =
    written ∙ ap (λ xs. start ++ run_text text xs) (sym (split ∙ ap (λ xs. done ++ xs) none ∙ append-nil done))

-- A line of several pieces ----------------------------------------------------------------------

pub two : (old a b n1 n2 : List ℕ) → n1 ≡ old ++ a → n2 ≡ n1 ++ b → n2 ≡ old ++ (a ++ b)
two old a b n1 n2 first second = second ∙ ap (λ t. t ++ b) first ∙ append_assoc old a b

pub three : (old a b c n1 n2 n3 : List ℕ) → n1 ≡ old ++ a → n2 ≡ n1 ++ b → n3 ≡ n2 ++ c → n3 ≡ old ++ (a ++ (b ++ c))
three old a b c n1 n2 n3 first second third = two old a (b ++ c) n1 n3 first (two n1 b c n2 n3 second third)

pub six : (old a b c d e f n1 n2 n3 n4 n5 n6 : List ℕ) → n1 ≡ old ++ a → n2 ≡ n1 ++ b → n3 ≡ n2 ++ c → n4 ≡ n3 ++ d → n5 ≡ n4 ++ e → n6 ≡ n5 ++ f
    → n6 ≡ old ++ (a ++ (b ++ (c ++ (d ++ (e ++ f)))))
six old a b c d e f n1 n2 n3 n4 n5 n6 e1 e2 e3 e4 e5 e6 = rw (e6, e5, e4, e3, e2, e1) (simp append_assoc)

pub lines_of_lists : (line : ListedPrices → List ℕ) (lists : List PriceList) → map (λ (list : PriceList). line (listed_prices list)) lists ≡ map line (map listed_prices lists)
lines_of_lists line [] = refl
lines_of_lists line (list ∷ lists) = ap (λ (xs : List (List ℕ)). line (listed_prices list) ∷ xs) (lines_of_lists line lists)

-- Siblings --------------------------------------------------------------------------------------

pub siblings_run : (ps : List Position) (xs : List Sibling) → run_text (λ (x : Sibling). text_of (sibling_lines ps (listed_sibling x ∷ []))) xs ≡ text_of (sibling_lines ps (map listed_sibling xs))
siblings_run ps [] = refl
siblings_run ps (x ∷ xs) =
    let one = sibling_lines ps (listed_sibling x ∷ []) in
    let others = map listed_sibling xs in
    ap (λ t. text_of one ++ t) (siblings_run ps xs) ∙ sym (text_of-append one (sibling_lines ps others)) ∙ ap text_of (sym (sibling_lines-append ps (listed_sibling x ∷ []) others))

-- the line of a sibling and those of its tree
pub sibling_built : (ps : List Position) (x : ListedSibling) (old n1 n2 n3 n4 : List ℕ) (first name : List ℕ) → n1 ≡ old ++ first → n2 ≡ n1 ++ 32 ∷ name → n3 ≡ n2 ++ 10 ∷ [] → n4 ≡ n3 ++ text_of (map (operation_line ps) x.operations)
    → first ++ 32 ∷ name ≡ least_line ps (x.rank, x.position) → n4 ≡ old ++ text_of (sibling_lines ps (x ∷ []))
sibling_built ps x old n1 n2 n3 n4 first name e1 e2 e3 e4 line =
    let trees = text_of (map (operation_line ps) x.operations) in
    two old (least_line ps (x.rank, x.position) ++ 10 ∷ []) trees n3 n4
    (two old (least_line ps (x.rank, x.position)) (10 ∷ []) n2 n3 (two old first (32 ∷ name) n1 n2 e1 e2 ∙ ap (λ t. old ++ t) line) e3) e4
    ∙ ap (λ t. old ++ t) (append_assoc (least_line ps (x.rank, x.position)) (10 ∷ []) trees
    ∙ ap (λ (own : List (List ℕ)). least_line ps (x.rank, x.position) ++ 10 ∷ text_of own) (sym (append-nil (map (operation_line ps) x.operations))))

-- The whole text --------------------------------------------------------------------------------

pub text_built : (ps : List Position) (c : ListedTrees) (start n1 n2 n3 n4 n5 n6 n7 n8 : List ℕ) → n1 ≡ start ++ text_of (start_line ∷ []) → n2 ≡ n1 ++ text_of (claim_line ps c.claim ∷ []) → n3 ≡ n2 ++ text_of (map (clique_line ps) c.cliques)
    → n4 ≡ n3 ++ text_of (map (price_line ps) c.prices) → n5 ≡ n4 ++ text_of (root_line c.claim ∷ []) → n6 ≡ n5 ++ text_of (map (operation_line ps) c.root) → n7 ≡ n6 ++ text_of (sibling_lines ps c.siblings) → n8 ≡ n7 ++ text_of (codes "END" ∷ [])
    → n8 ≡ start ++ tree_text ps c
text_built ps c start n1 n2 n3 n4 n5 n6 n7 n8 e1 e2 e3 e4 e5 e6 e7 e8 = rw (e8, e7, e6, e5, e4, e3, e2, e1) (simp (append_assoc, text_of-append))

pub written_spells : (ps : List Position) (c : ListedTrees) → IsSpelled ps c → (text : List ℕ) → text ≡ tree_text ps c → (before : List (List ℕ)) → All (IsEarlier start_line) before → Spells ps (text_of before ++ text) c
written_spells ps c s text e before earlier = record { before = before; starts = record { earlier = earlier; is = ap (λ t. text_of before ++ t) e }; spelled = s }
