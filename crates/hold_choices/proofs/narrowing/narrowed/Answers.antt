use Rattle.std.proofs.Common.{◌≡◌, ◌<◌, inl, inr, suc, ap, sym, subst, ◌∙◌}
use Rattle.std.proofs.lemmas.Bool.{false≢true}
use Rattle.price_trees.specs.Prices.{Choice}
use Rattle.price_trees.specs.Narrowing.{narrowed_once}
use Rattle.hold_choices.proofs.NarrowedLemmas.{size, size-less, times-last}
use Rattle.hold_choices.proofs.narrowing.narrowed.Goals as goal

pub loop-after-init : goal.loop-after-init
loop-after-init c = record { passes = (0, c.narrowed_once-after.ensures); last = c.narrowed_once-after.ensures }

pub loop-after-preserved : goal.loop-after-preserved
loop-after-preserved c =
    let t = c.args.task.now in
    let passes = c.loop-after.invariant.passes in
    record {
      passes = (suc passes.0, c.narrowed_once-after-in-loop-after.ensures ∙ ap (narrowed_once t) passes.1 ∙ sym (times-last (suc passes.0) t c.args.choice));
      last = c.narrowed_once-after-in-loop-after.ensures;
    }

pub loop-after-smaller : goal.loop-after-smaller
loop-after-smaller c =
    let t = c.args.task.now in
    let before : Choice = c.loop-after.before in
    let last : c.loop-after.after ≡ narrowed_once t before = c.loop-after.invariant.last in
    subst (λ (x : Choice). size x < size before) (sym last) (size-less t before (λ same. absurd (false≢true (sym c.if-not-same.true ∙ c.same.ensures.1 (last ∙ same)))))

pub returns-else-not-same : goal.returns-else-not-same
returns-else-not-same c =
    let passes = c.loop-after.invariant.passes in
    record {
      again = passes.0;
      left = passes.1;
      ended = inr (ap (narrowed_once c.args.task.now) (c.same.ensures.0 c.if-not-same.false) ∙ sym c.loop-after.invariant.last);
    }

pub returns-after-loop-after : goal.returns-after-loop-after
returns-after-loop-after c =
    let passes = c.loop-after.invariant.passes in
    record { again = passes.0; left = passes.1; ended = inl (c.has_empty.ensures.0 c.loop-after-test.false) }
