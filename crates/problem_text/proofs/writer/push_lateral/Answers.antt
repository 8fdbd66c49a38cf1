use Rattle.std.proofs.Common.{◌++◌, Option, ap, ◌∙◌}
use Rattle.hold_parts.specs.declared.parts.Lateral.{Lateral}
use Rattle.problem_text.specs.TaskText.{lateral_lines}
use Rattle.text_lines.specs.Lines.{text_of}
use Rattle.problem_text.proofs.WriterLemmas.{lateral_written}
use Rattle.problem_text.proofs.writer.push_lateral.Goals as goal

pub returns : goal.returns
returns c =
    let ps = c.args.hold.now.positions in
    let old = c.args.out.now in
    lateral_written ps c.in-Some.lateral.now c.as_slice.result.now old c.write_lines.new.out c.push_lateral_most.new.out
    c.as_slice.ensures c.in_ok-write_lines.ensures.added c.in_ok-push_lateral_most.ensures
    ∙ ap (λ (l : Option Lateral). old ++ text_of (lateral_lines ps l)) c.in-Some.ensures.value
