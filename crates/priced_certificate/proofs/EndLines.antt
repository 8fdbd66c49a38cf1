-- lines of prices are read in one way only
use Rattle.std.proofs.Common.{◌≡◌, ℕ, ℤ, ◌++◌, List, [], refl, sym, ◌∙◌, codes}
use Rattle.std.proofs.lemmas.List.{append-nil, append_cancel_left}
use Rattle.text_lines.specs.Cuts.{Avoids}
use Rattle.text_lines.proofs.FieldLemmas.{run_kind}
use Rattle.text_lines.proofs.WordLemmas.{avoids-append, plain_word}
use Rattle.priced_certificate.specs.PricedText.{end_line, IsSpelledEnd}
use Rattle.priced_certificate.specs.Reading.{ArePrices, IsEndLine}
use Rattle.priced_certificate.proofs.PriceRuns.{price_entries, run, mark_stops, end_stops, runs_once, prices_once}

-- the words behind a line's first word
abbrev ends : List ℤ → List ℤ → List ℕ
ends items places = run items ++ (codes " ;" ++ run places)

pub end_once : (word : List ℕ) (a1 a2 b1 b2 : List ℤ) → IsSpelledEnd a1 a2 → IsSpelledEnd b1 b2 → end_line word a1 a2 ≡ end_line word b1 b2 → (a1 ≡ b1) × (a2 ≡ b2)
end_once word a1 a2 b1 b2 p q e =
    let whole : ends a1 a2 ≡ ends b1 b2 = append_cancel_left word (ends a1 a2) (ends b1 b2) e in
    let one = runs_once a1 b1 (codes " ;" ++ run a2) (codes " ;" ++ run b2) p.containers.spelled q.containers.spelled refl refl (mark_stops (run a2)) (mark_stops (run b2)) whole in
    let tails : run a2 ≡ run b2 = append_cancel_left (codes " ;") (run a2) (run b2) one.1 in
    let two = runs_once a2 b2 [] [] p.positions.spelled q.positions.spelled tt tt end_stops end_stops (append-nil (run a2) ∙ tails ∙ sym (append-nil (run b2))) in
    (one.0, two.0)

pub end_avoids : (word : List ℕ) (items places : List ℤ) → Avoids 10 word → IsSpelledEnd items places → Avoids 10 (end_line word items places)
end_avoids word items places plain s =
    let runs = run_kind price_entries in
    let mark = plain_word 10 (codes " ;") refl in
    avoids-append 10 word (ends items places) plain
    (avoids-append 10 (run items) (codes " ;" ++ run places) (runs.avoids items s.containers.spelled)
    (avoids-append 10 (codes " ;") (run places) mark (runs.avoids places s.positions.spelled)))

-- The reader of a line --------------------------------------------------------------------------

-- what follows the line's first word
pub behind_word : (word line words : List ℕ) → line ≡ word ++ words → (s : IsEndLine word line) → words ≡ ends s.items s.places
behind_word word line words e s = append_cancel_left word words (ends s.items s.places) (sym e ∙ s.is)

-- what follows the prices of containers
pub behind_items : (word line words after : List ℕ) (got : List ℤ) → line ≡ word ++ words → ArePrices 60 words got after → (s : IsEndLine word line) → after ≡ codes " ;" ++ run s.places
behind_items word line words after got e are s =
    (prices_once 60 words got s.items after (codes " ;" ++ run s.places) are s.right.containers.spelled refl (mark_stops (run s.places)) (behind_word word line words e s)).1

-- what follows the semicolon
pub behind_mark : (word line words after more : List ℕ) (got : List ℤ) → line ≡ word ++ words → ArePrices 60 words got after → after ≡ codes " ;" ++ more → (s : IsEndLine word line) → more ≡ run s.places ++ []
behind_mark word line words after more got e are mark s =
    append_cancel_left (codes " ;") more (run s.places) (sym mark ∙ behind_items word line words after got e are s) ∙ sym (append-nil (run s.places))

-- nothing follows the prices of positions
pub behind_places : (word line words after more rest : List ℕ) (got two : List ℤ) → line ≡ word ++ words → ArePrices 60 words got after → after ≡ codes " ;" ++ more → ArePrices 64 more two rest → IsEndLine word line → rest ≡ []
behind_places word line words after more rest got two e are mark are' s =
    (prices_once 64 more two s.places rest [] are' s.right.positions.spelled tt end_stops (behind_mark word line words after more got e are mark s)).1
