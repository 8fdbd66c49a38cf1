use Rattle.std.proofs.Common.{◌≡◌, List, ◌++◌, map, None, sym, ap, subst, ◌∙◌}
use Rattle.std.specs.Prelude.{All}
use Rattle.hold_limits.specs.Placement.{IsSound}
use Rattle.hold_limits.specs.Problem.{Problem}
use Rattle.ldm_cpm.specs.Messages.{Placing, IsSpelledPlacing}
use Rattle.ldm_cpm.specs.Reading.{placing_said}
use Rattle.transit_tasks.specs.NewTask.{task_around}
use Rattle.transit_tasks.specs.TransitFaults.{transit_fault}
use Rattle.transit_answers.specs.TransitReply.{transit_of}
use Rattle.transit_answers.proofs.AnswerLemmas.{onward-written}
use Rattle.transit_answers.proofs.answers.push_onward.Goals as goal

pub write_onward-requires-clause-stay : goal.write_onward-requires-clause-stay
write_onward-requires-clause-stay c = subst (All IsSpelledPlacing) (sym (ap (map placing_said) c.as_slice-stay.ensures.value)) c.requires.kept.spelled

pub write_onward-requires-clause-right : goal.write_onward-requires-clause-right
write_onward-requires-clause-right c =
    subst (λ (ps : List Placing). transit_fault c.args.flight.now.task.now ps ≡ None) (sym (ap (map placing_said) c.as_slice-stay.ensures.value)) c.requires.kept.right

pub write_onward-requires-clause-sound : goal.write_onward-requires-clause-sound
write_onward-requires-clause-sound c =
    let t = c.args.flight.now.task.now in
    subst (λ (p : Problem). IsSound p c.args.path.now.items)
    (c.requires.kept.task ∙ ap (task_around t) (sym (ap (map placing_said) c.as_slice-stay.ensures.value))) c.requires.sound

pub returns : goal.returns
returns c =
    let message = c.in_ok-message.message.items in (
      message,
      c.in_ok-extend_from_slice.ensures.items ∙ ap (λ t. c.args.text.now.items ++ t) c.as_slice.ensures.value,
      onward-written (transit_of c.args.flight.now) _ _ c.args.next.now c.args.path.now.items message
          (ap (map placing_said) c.as_slice-stay.ensures.value) c.bytes.ensures.value
          c.in_ok-message.ensures.read_back c.in_ok-message.ensures.carried c.in_ok-message.ensures.kept,
    )
