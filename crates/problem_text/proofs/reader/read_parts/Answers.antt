use Rattle.std.proofs.Common.{◌∙◌, refl, sym}
use Rattle.std.proofs.lemmas.Result.{err_from_is_err_and}
use Rattle.text_lines.specs.Grammar.Fails.{no_memory}
use Rattle.text_lines.specs.declared.fault.LineFault.TheVariants.{NoMemory}
use Rattle.text_lines.proofs.PartSteps.{whole_part}
use Rattle.text_lines.proofs.Rests.{fails_at}
use Rattle.problem_text.specs.TaskText.{position_line, IsSpelledPosition}
use Rattle.problem_text.specs.Reading.{IsVersionLine}
use Rattle.problem_text.specs.Refusals.IsRefused.{wrong_lines}
use Rattle.problem_text.specs.Parts.{AreSections}
use Rattle.problem_text.specs.declared.parts.Parts.{Parts}
use Rattle.problem_text.proofs.RefusalLemmas.{empty_task, empty_is, fails_text}
use Rattle.problem_text.proofs.TaskParts.{starts_with_version, to_limits}
use Rattle.problem_text.proofs.ReadLemmas.{fails_before_last, read_to_last, task_read, task_kept}
use Rattle.problem_text.proofs.reader.read_parts.Goals as goal

pub returns-in_err-version-clause-refused : goal.returns-in_err-version-clause-refused
returns-in_err-version-clause-refused c =
    let l0 = c.new-lines.result in
    let fault = c.in_err-version.field-0.0 in
    let p = err_from_is_err_and c.from_residual.result c.from_residual.ensures.1 in
    rw (p.1, p.2) (wrong_lines fault (fails_text c.args.text.now l0 fault c.new-lines.ensures.whole c.new-lines.ensures.first
    (fails_at IsVersionLine starts_with_version empty_task empty_is (λ version right. (version, refl)) l0 fault c.in_err-version.ensures.refused)))

pub returns-in_err-positions-clause-refused : goal.returns-in_err-positions-clause-refused
returns-in_err-positions-clause-refused c =
    let p = err_from_is_err_and c.from_residual-in_err-positions.result c.from_residual-in_err-positions.ensures.1 in
    rw (p.1, p.2) (wrong_lines NoMemory no_memory)

pub returns-in_err-sections-clause-refused : goal.returns-in_err-sections-clause-refused
returns-in_err-sections-clause-refused c =
    let ps = c.in_ok-positions.positions.items in
    let l0 = c.new-lines.result in
    let l1 = c.next_version.new.lines in
    let l2 = c.read_section.new.lines in
    let version = c.in_ok-version.version in
    let part = whole_part position_line IsSpelledPosition l1.rest.now l2.rest.now l1.number l2.number ps c.in_ok-positions.ensures in
    let to_here = to_limits l0 l1 l2 version c.in_ok-version.ensures.read c.in_ok-version.ensures.counted part in
    let fault = c.in_err-sections.field-0.0 in
    let p = err_from_is_err_and c.from_residual-in_err-sections.result c.from_residual-in_err-sections.ensures.1 in
    rw (p.1, p.2) (wrong_lines fault (fails_text c.args.text.now l0 fault c.new-lines.ensures.whole c.new-lines.ensures.first (to_here.fails fault (rw (sym c.deref.ensures.value) c.in_err-sections.ensures.refused))))

pub returns-in_err-indices-clause-refused : goal.returns-in_err-indices-clause-refused
returns-in_err-indices-clause-refused c =
    let ps = c.in_ok-positions.positions.items in
    let l0 = c.new-lines.result in
    let l1 = c.next_version.new.lines in
    let l2 = c.read_section.new.lines in
    let version = c.in_ok-version.version in
    let part = whole_part position_line IsSpelledPosition l1.rest.now l2.rest.now l1.number l2.number ps c.in_ok-positions.ensures in
    let to_here = to_limits l0 l1 l2 version c.in_ok-version.ensures.read c.in_ok-version.ensures.counted part in
    let l3 = c.read_sections.new.lines in
    let got = c.in_ok-sections.sections in
    let sections : AreSections version ps l2 l3 got = rw (sym c.deref.ensures.value) c.in_ok-sections.ensures.read in
    let fault = c.in_err-indices.field-0.0 in
    let p = err_from_is_err_and c.from_residual-in_err-indices.result c.from_residual-in_err-indices.ensures.1 in
    rw (p.1, p.2) (wrong_lines fault (fails_text c.args.text.now l0 fault c.new-lines.ensures.whole c.new-lines.ensures.first
    (to_here.fails fault (fails_before_last version ps part.right l2 l3 got sections fault c.in_err-indices.ensures.refused))))

pub returns-clause-read : goal.returns-clause-read
returns-clause-read c =
    let ps = c.in_ok-positions.positions.items in
    let l0 = c.new-lines.result in
    let l1 = c.next_version.new.lines in
    let l2 = c.read_section.new.lines in
    let version = c.in_ok-version.version in
    let part = whole_part position_line IsSpelledPosition l1.rest.now l2.rest.now l1.number l2.number ps c.in_ok-positions.ensures in
    let to_here = to_limits l0 l1 l2 version c.in_ok-version.ensures.read c.in_ok-version.ensures.counted part in
    let l3 = c.read_sections.new.lines in
    let got = c.in_ok-sections.sections in
    let sections : AreSections version ps l2 l3 got = rw (sym c.deref.ensures.value) c.in_ok-sections.ensures.read in
    let at = c.in_ok-indices.indices in
    let told = c.in_ok-indices.ensures.read in
    let task = task_read version ps part.right l2 l3 got sections at in
    let behind = read_to_last version ps part.right l2 l3 got sections at told.0 told.1 in
    let all = to_here.read task behind.0 behind.1 in
    let parts : Parts = record { positions = c.in_ok-positions.positions; sections = got; indices = at } in
    (task, record { is = sym c.new-lines.ensures.whole ∙ all.1; spelled = all.0 }, task_kept version ps part.right l2 l3 got sections parts refl refl)
