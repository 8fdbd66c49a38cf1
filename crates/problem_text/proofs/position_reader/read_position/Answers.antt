use Rattle.std.proofs.Common.{◌∙◌, lit<}
use Rattle.std.proofs.lemmas.Option.{IfSome_then}
use Rattle.mass_units.specs.Spelling.{number_text, signed_text}
use Rattle.mass_units.proofs.SpellingLemmas.{number_text-avoids, signed_text-avoids}
use Rattle.problem_text.specs.WordRuns.{fit_text}
use Rattle.text_lines.specs.WordRuns.{run_text}
use Rattle.text_lines.specs.SpelledWords.{name_avoids}
use Rattle.text_lines.proofs.NameLemmas.{none_unless}
use Rattle.problem_text.proofs.PositionLemmas.{position_line-is, position_found, spelled_fits, fits_begin}
use Rattle.problem_text.proofs.position_reader.read_position.Goals as goal

pub returns-in_default-clause-none : goal.returns-in_default-clause-none
returns-in_default-clause-none c =
    λ q s e. c.in_default.ensures.read_back q.bulk q.name (number_text q.compartment) (signed_text q.influence) (run_text fit_text q.fits) (name_avoids 32 q.name (lit< tt) s.name) (number_text-avoids 32 q.compartment (lit< tt)) (signed_text-avoids 32 q.influence (lit< tt)) (fits_begin q.fits) (e ∙ position_line-is q)

pub returns-clause-found : goal.returns-clause-found
returns-clause-found c =
    let read = rw c.in-Some-2.is at c.in_ok-fits.ensures.found in
    IfSome_then c.position_of.result c.position_of.ensures.found (λ q h. position_found c.args.line.now c.in-Some.words.name.now c.in-Some.words.compartment.now c.in-Some.words.influence.now c.in-Some.words.fits.now c.in-Some.words.bulk c.in-Some-2.fits.items q c.in-Some.ensures.found read.0 read.1 h)

pub returns-clause-none : goal.returns-clause-none
returns-clause-none c =
    none_unless c.position_of.result (λ q s e.
    let words = c.in-Some.ensures.read_back q.bulk q.name (number_text q.compartment) (signed_text q.influence) (run_text fit_text q.fits) (name_avoids 32 q.name (lit< tt) s.name) (number_text-avoids 32 q.compartment (lit< tt)) (signed_text-avoids 32 q.influence (lit< tt)) (fits_begin q.fits) (e ∙ position_line-is q) in
    let read = rw c.in-Some-2.is at (c.in_ok-fits.ensures.read_back q.fits (spelled_fits q s) words.4) in
    c.position_of.ensures.read_back q s words.0 words.1 words.2 words.3 read)

pub returns-in_default-2-clause-none : goal.returns-in_default-2-clause-none
returns-in_default-2-clause-none c =
    λ q s e. let words = c.in-Some.ensures.read_back q.bulk q.name (number_text q.compartment) (signed_text q.influence) (run_text fit_text q.fits) (name_avoids 32 q.name (lit< tt) s.name) (number_text-avoids 32 q.compartment (lit< tt)) (signed_text-avoids 32 q.influence (lit< tt)) (fits_begin q.fits) (e ∙ position_line-is q) in
    rw c.in_default-2.is at (c.in_ok-fits.ensures.read_back q.fits (spelled_fits q s) words.4)
