-- a position line, and the kinds and masses at its end
use Rattle.std.proofs.Common.{◌≡◌, ℕ, ◌≤◌, Bool, ◌++◌, ◌∷◌, List, [], refl, sym, ◌∙◌, ap, All}
use Rattle.std.proofs.lemmas.List.{append-nil, append_assoc}
use Rattle.mass_units.specs.Spelling.{number_text, signed_text, IsSignedNumber}
use Rattle.hold_parts.specs.declared.lists.Fit.{Fit}
use Rattle.hold_parts.specs.declared.parts.Position.{Position}
use Rattle.hold_parts.specs.Spellings.{IsName}
use Rattle.text_lines.specs.Cuts.{IsCutAt}
use Rattle.text_lines.specs.Lines.{line_of}
use Rattle.text_lines.specs.WordRuns.{run_text}
use Rattle.text_lines.proofs.FieldLemmas.{HasWord, IsWordKind, AreEntries, numbers, signed, masses, names, kinds, two_words, and_then, then_run, pair_entries, entry_parts, of_parts, written_as}
use Rattle.text_lines.proofs.Rests.{IsLineKind}
use Rattle.text_lines.proofs.RunLemmas.{AreRead, run_text-begins}
use Rattle.problem_text.specs.TaskText.{fit_words, position_word, position_line, NamesKindsUnlessBulk, IsSpelledPosition}
use Rattle.problem_text.specs.WordRuns.{fit_text, IsSpelledFit}

-- kinds and masses
fits : AreEntries fit_text IsSpelledFit
fits = entry_parts (pair_entries kinds masses) (λ (f : Fit). (f.kind, f.most)) (λ f g e i. record { kind = (e i).0; most = (e i).1 }) (λ f s. (s.kind, tt))

pub fits_are_read : AreRead fit_text IsSpelledFit
fits_are_read = fits.read

-- the words of a position line are its first four words and its kinds and masses
line_of-fits : (word : List ℕ) (fits : List Fit) → line_of (word ∷ fit_words fits) ≡ word ++ run_text fit_text fits
line_of-fits word [] = sym (append-nil word)
line_of-fits word (f ∷ fits) = ap (λ t. word ++ 32 ∷ (f.kind ++ 32 ∷ t)) (line_of-fits (number_text f.most.0) fits) ∙ ap (λ t. word ++ 32 ∷ t) (sym (append_assoc f.kind (32 ∷ number_text f.most.0) (run_text fit_text fits)))

pub position_line-is : (q : Position) → position_line q ≡ position_word q.bulk ++ 32 ∷ (q.name ++ 32 ∷ (number_text q.compartment ++ 32 ∷ (signed_text q.influence ++ run_text fit_text q.fits)))
position_line-is q = ap (λ t. position_word q.bulk ++ 32 ∷ (q.name ++ 32 ∷ (number_text q.compartment ++ 32 ∷ t))) (line_of-fits (signed_text q.influence) q.fits)

pub spelled_fits : (q : Position) → IsSpelledPosition q → All IsSpelledFit q.fits
spelled_fits q s = λ k d l. record { kind = s.kinds k d l; mass = s.masses k d l }

pub fits_begin : (fits : List Fit) → IsCutAt 32 (run_text fit_text fits)
fits_begin fits = run_text-begins fit_text IsSpelledFit fits_are_read fits

-- the words of a line and the parts that they spell make a position line
pub position_found : (line name compartment influence words : List ℕ) (bulk : Bool) (fits : List Fit) (q : Position) → line ≡ position_word bulk ++ 32 ∷ (name ++ 32 ∷ (compartment ++ 32 ∷ (influence ++ words))) → words ≡ run_text fit_text fits → All IsSpelledFit fits → (bulk ≡ q.bulk) × (name ≡ q.name) × IsName q.name × (compartment ≡ number_text q.compartment) × (q.compartment ≤ 9) × (influence ≡ signed_text q.influence) × IsSignedNumber q.influence × (q.fits ≡ fits) × NamesKindsUnlessBulk q.bulk q.fits → (line ≡ position_line q) × IsSpelledPosition q
position_found line name compartment influence words bulk fits q e t spelled h =
    let same : line ≡ position_word q.bulk ++ 32 ∷ (q.name ++ 32 ∷ (number_text q.compartment ++ 32 ∷ (signed_text q.influence ++ run_text fit_text q.fits))) = rw (e, h.0, h.1, h.3, h.5, t, h.7) refl in
    let all : All IsSpelledFit q.fits = rw h.7 spelled in (
      same ∙ sym (position_line-is q),
      record {
        name = h.2;
        compartment = h.4;
        influence = h.6;
        some = h.8;
        kinds = λ k d l. (all k d l).kind;
        masses = λ k d l. (all k d l).mass;
      },
    )

-- the first word
pub words : IsWordKind position_word HasWord
words = two_words position_word refl refl refl

pub positions : IsLineKind position_line IsSpelledPosition
positions =
    written_as
    (of_parts (and_then words (and_then names (and_then numbers (then_run signed fits))))
    (λ (q : Position). (q.bulk, (q.name, (q.compartment, (q.influence, q.fits)))))
    (λ p q e i. record { name = (e i).1.0; compartment = (e i).1.1.0; influence = (e i).1.1.1.0; bulk = (e i).0; fits = (e i).1.1.1.1 })
    (λ q s. (tt, (s.name, (tt, (tt, spelled_fits q s))))))
    position_line-is
