use Rattle.std.proofs.lemmas.Result.{IfOk-weaker}
use Rattle.transit_answers.specs.Limits.{longest_message}
use Rattle.transit_answers.specs.MessageFiles.{IsCpmIn, IsLdmIn, IsCpmRefusal, IsLdmRefusal}
use Rattle.ldm_cpm.specs.Reading.{cpm_said, ldm_said}
use Rattle.task_answers.specs.declared.reply.Reply.{Reply}
use Rattle.plan_commands.specs.Commands.{names_of}
use Rattle.plan_commands.proofs.FileLemmas.{IfErr-from_residual, IfErr-weaker, long-halt}
use Rattle.plan_commands.proofs.ReplyLemmas.{transit-answered}
use Rattle.plan_commands.proofs.TransitLemmas.{Holds-from_whole, halt-from_whole, long-cpm-refused, long-ldm-refused, transit-answer, wrong-task, wrong-cpm, wrong-ldm, wrong-transit}
use Rattle.plan_commands.proofs.transit_files.answer_in_transit_from.Goals as goal

pub returns-in_err-task-clause-refused : goal.returns-in_err-task-clause-refused
returns-in_err-task-clause-refused g c =
    let halt = c.in_err-task.field-0.0 in
    IfErr-from_residual c.from_residual.result halt _ c.from_residual.ensures.1
    (wrong-task (names_of c.args.names.now) c.args.question halt (g.F.Shelf.files c.args.shelf.now) c.in_err-task.ensures.refused)

pub returns-in_err-cpm_bytes-clause-refused : goal.returns-in_err-cpm_bytes-clause-refused
returns-in_err-cpm_bytes-clause-refused g c =
    let halt = c.in_err-cpm_bytes.field-0.0 in
    let exposed = g.F.Shelf.files c.args.shelf.now in
    let names = names_of c.args.names.now in
    let long = rw c.in_ok-task.ensures.same at c.in_err-cpm_bytes.ensures.long in
    IfErr-from_residual c.from_residual-in_err-cpm_bytes.result halt _ c.from_residual-in_err-cpm_bytes.ensures.1
    (wrong-cpm names c.args.question halt exposed c.in_ok-task.task c.in_ok-task.ensures.read
    (long-halt halt exposed names.cpm longest_message (λ line bytes. IsCpmRefusal bytes line) long c.in_err-cpm_bytes.ensures.line long-cpm-refused))

pub returns-in_err-cpm-clause-refused : goal.returns-in_err-cpm-clause-refused
returns-in_err-cpm-clause-refused g c =
    let halt = c.in_err-cpm.field-0.0 in
    let exposed = g.F.Shelf.files c.args.shelf.now in
    let names = names_of c.args.names.now in
    let whole = rw c.in_ok-task.ensures.same at c.in_ok-cpm_bytes.ensures.whole in
    let refused = rw c.as_slice.ensures.value at c.in_err-cpm.ensures.refused in
    IfErr-from_residual c.from_residual-in_err-cpm.result halt _ c.from_residual-in_err-cpm.ensures.1
    (wrong-cpm names c.args.question halt exposed c.in_ok-task.task c.in_ok-task.ensures.read
    (halt-from_whole halt exposed names.cpm c.in_ok-cpm_bytes.cpm_bytes.items IsCpmRefusal whole refused))

pub returns-in_err-ldm_bytes-clause-refused : goal.returns-in_err-ldm_bytes-clause-refused
returns-in_err-ldm_bytes-clause-refused g c =
    let halt = c.in_err-ldm_bytes.field-0.0 in
    let exposed = g.F.Shelf.files c.args.shelf.now in
    let names = names_of c.args.names.now in
    let whole = rw c.in_ok-task.ensures.same at c.in_ok-cpm_bytes.ensures.whole in
    let read = rw c.as_slice.ensures.value at c.in_ok-cpm.ensures.read in
    let long = rw (c.in_ok-cpm_bytes.ensures.same, c.in_ok-task.ensures.same) at c.in_err-ldm_bytes.ensures.long in
    let cpm = cpm_said c.in_ok-cpm.cpm in
    IfErr-from_residual c.from_residual-in_err-ldm_bytes.result halt _ c.from_residual-in_err-ldm_bytes.ensures.1
    (wrong-ldm names c.args.question halt exposed c.in_ok-task.task cpm c.in_ok-task.ensures.read
    (Holds-from_whole exposed names.cpm c.in_ok-cpm_bytes.cpm_bytes.items (λ bytes. IsCpmIn bytes cpm) whole read)
    (long-halt halt exposed names.ldm longest_message (λ line bytes. IsLdmRefusal bytes line) long c.in_err-ldm_bytes.ensures.line long-ldm-refused))

pub returns-in_err-ldm-clause-refused : goal.returns-in_err-ldm-clause-refused
returns-in_err-ldm-clause-refused g c =
    let halt = c.in_err-ldm.field-0.0 in
    let exposed = g.F.Shelf.files c.args.shelf.now in
    let names = names_of c.args.names.now in
    let whole = rw c.in_ok-task.ensures.same at c.in_ok-cpm_bytes.ensures.whole in
    let read = rw c.as_slice.ensures.value at c.in_ok-cpm.ensures.read in
    let other_whole = rw (c.in_ok-cpm_bytes.ensures.same, c.in_ok-task.ensures.same) at c.in_ok-ldm_bytes.ensures.whole in
    let refused = rw c.as_slice-2.ensures.value at c.in_err-ldm.ensures.refused in
    let cpm = cpm_said c.in_ok-cpm.cpm in
    IfErr-from_residual c.from_residual-in_err-ldm.result halt _ c.from_residual-in_err-ldm.ensures.1
    (wrong-ldm names c.args.question halt exposed c.in_ok-task.task cpm c.in_ok-task.ensures.read
    (Holds-from_whole exposed names.cpm c.in_ok-cpm_bytes.cpm_bytes.items (λ bytes. IsCpmIn bytes cpm) whole read)
    (halt-from_whole halt exposed names.ldm c.in_ok-ldm_bytes.ldm_bytes.items IsLdmRefusal other_whole refused))

pub returns-clause-refused : goal.returns-clause-refused
returns-clause-refused g c =
    let exposed = g.F.Shelf.files c.args.shelf.now in
    let names = names_of c.args.names.now in
    let whole = rw c.in_ok-task.ensures.same at c.in_ok-cpm_bytes.ensures.whole in
    let read = rw c.as_slice.ensures.value at c.in_ok-cpm.ensures.read in
    let other_whole = rw (c.in_ok-cpm_bytes.ensures.same, c.in_ok-task.ensures.same) at c.in_ok-ldm_bytes.ensures.whole in
    let other_read = rw c.as_slice-2.ensures.value at c.in_ok-ldm.ensures.read in
    let cpm = cpm_said c.in_ok-cpm.cpm in
    let ldm = ldm_said c.in_ok-ldm.ldm in
    IfErr-weaker c.answer_over.result _ _
    (λ halt refused. wrong-transit names c.args.question halt exposed c.in_ok-task.task cpm ldm c.in_ok-task.ensures.read
    (Holds-from_whole exposed names.cpm c.in_ok-cpm_bytes.cpm_bytes.items (λ bytes. IsCpmIn bytes cpm) whole read)
    (Holds-from_whole exposed names.ldm c.in_ok-ldm_bytes.ldm_bytes.items (λ bytes. IsLdmIn bytes ldm) other_whole other_read)
    refused)
    c.answer_over.ensures.refused

pub returns-clause-answered : goal.returns-clause-answered
returns-clause-answered g c =
    let exposed = g.F.Shelf.files c.args.shelf.now in
    let names = names_of c.args.names.now in
    let whole = rw c.in_ok-task.ensures.same at c.in_ok-cpm_bytes.ensures.whole in
    let read = rw c.as_slice.ensures.value at c.in_ok-cpm.ensures.read in
    let other_whole = rw (c.in_ok-cpm_bytes.ensures.same, c.in_ok-task.ensures.same) at c.in_ok-ldm_bytes.ensures.whole in
    let other_read = rw c.as_slice-2.ensures.value at c.in_ok-ldm.ensures.read in
    let cpm = cpm_said c.in_ok-cpm.cpm in
    let ldm = ldm_said c.in_ok-ldm.ldm in
    IfOk-weaker c.answer_over.result _ _
    (λ (reply : Reply) answer. transit-answer names c.args.question exposed c.in_ok-task.task cpm ldm answer.0 reply.outcome reply.text.items c.in_ok-task.ensures.read
    (Holds-from_whole exposed names.cpm c.in_ok-cpm_bytes.cpm_bytes.items (λ bytes. IsCpmIn bytes cpm) whole read)
    (Holds-from_whole exposed names.ldm c.in_ok-ldm_bytes.ldm_bytes.items (λ bytes. IsLdmIn bytes ldm) other_whole other_read)
    answer.1 answer.2)
    c.answer_over.ensures.answered

pub returns-clause-answers : goal.returns-clause-answers
returns-clause-answers g c =
    IfOk-weaker c.answer_over.result _ _ (λ (reply : Reply) answer. transit-answered answer.0 _ _ reply.outcome reply.text.items answer.2) c.answer_over.ensures.answered
