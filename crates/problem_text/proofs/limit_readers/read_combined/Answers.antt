use Rattle.std.proofs.Common.{◌∙◌, ◌++◌, ap, sym, codes}
use Rattle.mass_units.specs.Spelling.{number_text}
use Rattle.text_lines.specs.Names.{IsNamed}
use Rattle.text_lines.specs.WordRuns.{run_text, name_text}
use Rattle.text_lines.proofs.RunLemmas.{run_text-begins}
use Rattle.text_lines.proofs.NameRuns.{names_are_read}
use Rattle.problem_text.proofs.LimitLemmas.{run_is_some, some_in_run}
use Rattle.problem_text.proofs.LineLemmas.{combined_line-is}
use Rattle.problem_text.proofs.limit_readers.read_combined.Goals as goal

pub returns-clause-found : goal.returns-clause-found
returns-clause-found c =
    let ps = c.args.names.now.positions.now in
    let read = rw c.in-Some-2.is at c.in_ok-places.ensures.found in
    let line = c.in-Some.ensures.found in
    let some = c.in-Some.ensures.words in
    record {
      said = record { places = read.0; most = c.in-Some.most };
      kept = λ i. record { places = (c.from.ensures ∙ read.1) i; most = c.in-Some.most };
      right = record { some = some_in_run ps read.0 c.in-Some.words.now some.1 read.3; places = read.2; most = line.1 };
      is = line.0 ∙ ap (λ t. codes "combined " ++ (number_text c.in-Some.most.0 ++ t)) read.3 ∙ sym (combined_line-is ps (record { places = read.0; most = c.in-Some.most }));
    }

pub returns-in_default-2-clause-none : goal.returns-in_default-2-clause-none
returns-in_default-2-clause-none c =
    λ limit s e.
    let ps = c.args.names.now.positions.now in
    let none = rw c.in_default-2.is at c.in_ok-places.ensures.none in
    let begins = run_text-begins (name_text ps) (IsNamed ps) (names_are_read ps c.args.names.now.clear) limit.places in
    let line = c.in-Some.ensures.read_back limit.most.0 (run_text (name_text ps) limit.places) s.most begins (run_is_some ps limit.places s.some) (e ∙ combined_line-is ps limit) in
    none limit.places s.places line.1
