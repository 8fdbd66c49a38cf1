use Rattle.std.proofs.Common.{ℕ, ◌<◌, length, sym, ap, subst, ◌∙◌, arith, Bor}
use Rattle.arrayvec.specs.ArrayVec.{ArrayVec}
use Rattle.task_answers.specs.Limits.{longest_answer}
use Rattle.task_answers.specs.Found.{IsBestAnswer, short_text}
use Rattle.task_answers.specs.Found.IsBestAnswer.{whole, short}
use Rattle.task_answers.proofs.TreeJobLemmas.{items_of}
use Rattle.task_answers.proofs.BestLemmas.{found-best, long-decided, option-through, sound-through}
use Rattle.task_answers.proofs.best_answers.best_answer.Goals as goal

pub short_text-requires : goal.short_text-requires
short_text-requires g c =
    let t = c.args.task.now in
    let found = c.in_ok-found.found in
    let same = option-through (λ (x : Bor (ArrayVec ℕ)). x.now) (λ (p : ArrayVec ℕ). p.items) c.as_ref.result found.path c.as_ref.ensures.value in
    sound-through t (λ (x : Bor (ArrayVec ℕ)). x.now.items) c.as_ref.result (items_of found.path) same
    (found-best t found.reply.outcome (items_of found.path) c.in_ok-found.ensures.has_path)

pub returns-then-len-le-LONGEST_ANSWER : goal.returns-then-len-le-LONGEST_ANSWER
returns-then-len-le-LONGEST_ANSWER g c =
    let found = c.in_ok-found.found in
    whole (items_of found.path) found.reply.outcome found.reply.text.items c.in_ok-found.ensures (omega (arith, c.if-len-le-LONGEST_ANSWER.true, c.len.ensures))

pub returns : goal.returns
returns g c =
    let t = c.args.task.now in
    let found = c.in_ok-found.found in
    let path = items_of found.path in
    let whole_text = found.reply.text.items in
    let same = option-through (λ (x : Bor (ArrayVec ℕ)). x.now) (λ (p : ArrayVec ℕ). p.items) c.as_ref.result found.path c.as_ref.ensures.value in
    let long : longest_answer < length whole_text = omega (arith, c.if-len-le-LONGEST_ANSWER.false, c.len.ensures) in
    let decided = long-decided t c.args.looks found.reply.outcome whole_text (omega (arith, c.ranges.looks.fits)) c.in_ok-found.ensures.placing long in
    subst (IsBestAnswer t c.args.looks path) (sym (c.in_ok-text.ensures ∙ ap (short_text t) same))
    (short path found.reply.outcome whole_text c.in_ok-found.ensures long decided)
