use Rattle.std.proofs.Common.{sym, subst, refl}
use Rattle.std.proofs.lemmas.Result.{err_from_is_err_and}
use Rattle.text_lines.specs.Grammar.{Fails}
use Rattle.text_lines.specs.Grammar.Fails.{no_memory}
use Rattle.text_lines.proofs.PartSteps.{section_part}
use Rattle.problem_text.specs.TaskText.{side_line, IsSpelledSide}
use Rattle.problem_text.specs.PositionNumbers.{keep_side}
use Rattle.problem_text.specs.Grammar.{AreLateral}
use Rattle.problem_text.specs.Parts.IsLateral.{absent, present}
use Rattle.problem_text.specs.declared.parts.Version.{Version}
use Rattle.problem_text.proofs.ReadLemmas.{fails_behind_sides}
use Rattle.problem_text.proofs.reader.read_lateral.Goals as goal

pub returns-in_err-sides-in-Two-clause-refused : goal.returns-in_err-sides-in-Two-clause-refused
returns-in_err-sides-in-Two-clause-refused c =
    let p = err_from_is_err_and c.from_residual.result c.from_residual.ensures.1 in
    rw (p.1, p.2) no_memory

pub returns-in_err-most-in-Two-clause-refused : goal.returns-in_err-most-in-Two-clause-refused
returns-in_err-most-in-Two-clause-refused c =
    let ps = c.args.names.now.positions.now in
    let l0 = c.args.lines.now in
    let l1 = c.read_section.new.lines in
    let fault = c.in_err-most-in-Two.field-0.0 in
    let sides = c.in_ok-sides-in-Two.ensures in
    let part = section_part (side_line ps) (IsSpelledSide ps) keep_side l0.rest.now l1.rest.now l0.number l1.number c.in_ok-sides-in-Two.sides.items sides in
    let Of : Version → Type 0 = λ version. Fails (AreLateral version ps) l0.rest.now l0.number fault in
    let fails = fails_behind_sides ps c.requires.spelled l0 l1 sides.said fault part c.in_err-most-in-Two.ensures.refused in
    let p = err_from_is_err_and c.from_residual-in_err-most-in-Two.result c.from_residual-in_err-most-in-Two.ensures.1 in
    rw (p.1, p.2) (subst Of (sym c.in-Two.is) fails)

pub returns-in-One-clause-read : goal.returns-in-One-clause-read
returns-in-One-clause-read c = rw c.in-One.is (absent refl refl)

pub returns-in_ok-most-in-Two-clause-read : goal.returns-in_ok-most-in-Two-clause-read
returns-in_ok-most-in-Two-clause-read c =
    let line = c.in_ok-most-in-Two.ensures.read in
    rw (c.in-Two.is, c.from.ensures) (present _ c.read_section.new.lines c.in_ok-sides-in-Two.ensures line.0 line.1 c.in_ok-most-in-Two.ensures.counted)
