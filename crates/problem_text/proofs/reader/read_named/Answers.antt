use Rattle.std.proofs.lemmas.Result.{err_from_is_err_and}
use Rattle.text_lines.specs.Grammar.Fails.{no_memory}
use Rattle.text_lines.proofs.PartSteps.{section_part}
use Rattle.problem_text.specs.TaskText.{exclude_line, combined_line, cumulative_line, IsSpelledExclude, IsSpelledCombined, IsSpelledCumulative}
use Rattle.problem_text.specs.PositionNumbers.{keep_pair, keep_combined, keep_cumulative}
use Rattle.problem_text.proofs.ReadLemmas.{fails_before_lateral}
use Rattle.problem_text.proofs.reader.read_named.Goals as goal

pub returns-in_err-excludes-clause-refused : goal.returns-in_err-excludes-clause-refused
returns-in_err-excludes-clause-refused c =
    let p = err_from_is_err_and c.from_residual.result c.from_residual.ensures.1 in
    rw (p.1, p.2) no_memory

pub returns-in_err-combined-clause-refused : goal.returns-in_err-combined-clause-refused
returns-in_err-combined-clause-refused c =
    let p = err_from_is_err_and c.from_residual-in_err-combined.result c.from_residual-in_err-combined.ensures.1 in
    rw (p.1, p.2) no_memory

pub returns-in_err-cumulative-clause-refused : goal.returns-in_err-cumulative-clause-refused
returns-in_err-cumulative-clause-refused c =
    let p = err_from_is_err_and c.from_residual-in_err-cumulative.result c.from_residual-in_err-cumulative.ensures.1 in
    rw (p.1, p.2) no_memory

pub returns-in_err-items-clause-refused : goal.returns-in_err-items-clause-refused
returns-in_err-items-clause-refused c =
    let p = err_from_is_err_and c.from_residual-in_err-items.result c.from_residual-in_err-items.ensures.1 in
    rw (p.1, p.2) no_memory

pub returns-in_err-loose-clause-refused : goal.returns-in_err-loose-clause-refused
returns-in_err-loose-clause-refused c =
    let p = err_from_is_err_and c.from_residual-in_err-loose.result c.from_residual-in_err-loose.ensures.1 in
    rw (p.1, p.2) no_memory

pub returns-in_err-lateral-clause-refused : goal.returns-in_err-lateral-clause-refused
returns-in_err-lateral-clause-refused c =
    let ps = c.args.names.now.positions.now in
    let l0 = c.args.lines.now in
    let l1 = c.read_section.new.lines in
    let l2 = c.read_section-2.new.lines in
    let l3 = c.read_section-3.new.lines in
    let excludes = c.in_ok-excludes.ensures in
    let combined = c.in_ok-combined.ensures in
    let cumulative = c.in_ok-cumulative.ensures in
    let p = err_from_is_err_and c.from_residual-in_err-lateral.result c.from_residual-in_err-lateral.ensures.1 in
    rw (p.1, p.2) (fails_before_lateral c.args.version ps c.requires.spelled l0 l1 l2 l3 excludes.said combined.said cumulative.said
    (section_part (exclude_line ps) (IsSpelledExclude ps) keep_pair l0.rest.now l1.rest.now l0.number l1.number c.in_ok-excludes.excludes.items excludes)
    (section_part (combined_line ps) (IsSpelledCombined ps) keep_combined l1.rest.now l2.rest.now l1.number l2.number c.in_ok-combined.combined.items combined)
    (section_part (cumulative_line ps) (IsSpelledCumulative ps) keep_cumulative l2.rest.now l3.rest.now l2.number l3.number c.in_ok-cumulative.cumulative.items cumulative)
    c.in_err-lateral.field-0.0 c.in_err-lateral.ensures.refused)

pub returns-clause-read : goal.returns-clause-read
returns-clause-read c = record {
  after_excludes = c.read_section.new.lines;
  after_combined = c.read_section-2.new.lines;
  after_cumulative = c.read_section-3.new.lines;
  after_lateral = c.read_lateral.new.lines;
  after_items = c.read_section-4.new.lines;
  excludes = c.in_ok-excludes.ensures;
  combined = c.in_ok-combined.ensures;
  cumulative = c.in_ok-cumulative.ensures;
  lateral = c.in_ok-lateral.ensures.read;
  items = c.in_ok-items.ensures;
  loose = c.in_ok-loose.ensures;
}
