use Rattle.std.proofs.Common.{refl, ◌≡◌, ◌⊎◌, inl, inr, ℕ, ◌+◌, ◌-◌, ◌≤◌, List, ◌∷◌, [], ◌++◌, Some, length, sym, ap, ◌∙◌, subst, arith, length-append}
use Rattle.std.proofs.lemmas.Bool.{false≢true}
use Rattle.std.specs.Prelude.{All, slice_get}
use Rattle.base_words.specs.Lists.{Extends}
use Rattle.hold_parts.specs.declared.parts.Item.{Item}
use Rattle.hold_limits.specs.Layout.{Layout}
use Rattle.hold_limits.specs.Problem.{Problem}
use Rattle.hold_partial.specs.Placing.{Placing}
use Rattle.hold_reach.specs.Reach.{IsViable}
use Rattle.certificate.specs.Good.{IsBefore, IsUncut}
use Rattle.cert_checker.specs.FirstReason.{Pass}
use Rattle.cert_checker.specs.Evidence.{IsMeasured, IsAtLeast, claim_in, cuts_in}
use Rattle.cert_checker.specs.Steps.{AreFirst, Stops}
use Rattle.cert_checker.proofs.StandardLemmas.{at_least-no_better}
use Rattle.cert_checker.proofs.ViableFronts.{IsViable-extends}
use Rattle.cert_checker.proofs.CutOrder.{met-none, met-complete, met-first, met-last, uncut-next}
use Rattle.cert_checker.proofs.WalkLemmas.{Walked, Walked-cut, Walked-next, Walked-passed, IsVisited, advanced, undone, Pass-unviable, Pass-complete, Pass-first, Pass-last, Stops-here, Stops-next}
use Rattle.cert_checker.proofs.walk.+pass.Goals.{then-has_cut_at, else-has_cut_at+then-advances+else-not-pass, else-has_cut_at+else-advances}
use Rattle.cert_checker.proofs.walk.+pass.Goals as goal

-- how many containers there are, as the reader of the task tells it
item_count : {items : List Item} {now task : Problem} → items ≡ now.items → now ≡ task → length items ≡ length task.items
item_count is same = ap length is ∙ ap (λ (p : Problem). length p.items) same

pub returns-in_default-clause-met : goal.returns-in_default-clause-met
returns-in_default-clause-met g t c = λ _.
    let task = c.args.partial.now.task in
    let front = c.args.partial.now.prefix in
    met-none (cuts_in g.C.Cut.prefix_of c.args.evidence.now) c.args.progress.now.met front (IsViable task) c.requires.viable
    (λ cut can extends. c.in_default.ensures.none (IsViable-extends task front cut extends can))
    c.requires.met

pub returns-in_default-clause-passed : goal.returns-in_default-clause-passed
returns-in_default-clause-passed g t c = λ _.
    let task = c.args.partial.now.task in
    let front = c.args.partial.now.prefix in
    let claim = claim_in c.args.evidence.now in
    let cuts = cuts_in g.C.Cut.prefix_of c.args.evidence.now in
    let none : 0 ≡ c.args.progress.now.left - c.args.progress.now.left = omega arith in
    subst (Pass task claim cuts (Extends front)) none (Pass-unviable task claim cuts front c.in_default.ensures.none)

pub returns-then-prefix-items-clause-met : goal.returns-then-prefix-items-clause-met
returns-then-prefix-items-clause-met g t c = λ _.
    let complete = sym (ap length c.prefix.ensures.value) ∙ c.if-prefix-items.true ∙ item_count c.items.ensures.value c.task-task.ensures.value in
    met-complete c.args.partial.now.task (cuts_in g.C.Cut.prefix_of c.args.evidence.now) c.args.progress.now.met c.args.partial.now.prefix
    complete c.requires.viable c.requires.uncut c.requires.met

pub returns-then-prefix-items-clause-passed : goal.returns-then-prefix-items-clause-passed
returns-then-prefix-items-clause-passed g t c = λ yes.
    let task = c.args.partial.now.task in
    let front = c.args.partial.now.prefix in
    let standard = c.args.evidence.now.standard in
    let claim = claim_in c.args.evidence.now in
    let cuts = cuts_in g.C.Cut.prefix_of c.args.evidence.now in
    let complete = sym (ap length c.prefix.ensures.value) ∙ c.if-prefix-items.true ∙ item_count c.items.ensures.value c.task-task.ensures.value in
    let least : IsAtLeast standard (c.in-Some.bound, front) = subst (λ p. IsAtLeast standard (c.in-Some.bound, p)) c.prefix-then-prefix-items.ensures.value (c.is_at_least.ensures.0 yes) in
    let both = at_least-no_better task standard front c.in-Some.bound c.requires.measured complete c.in-Some.ensures.found.1 in
    let none : 0 ≡ c.args.progress.now.left - c.args.progress.now.left = omega arith in
    subst (Pass task claim cuts (Extends front)) none (Pass-complete task claim cuts front complete (both.0 least))

pub returns-then-prefix-items-clause-stopped : goal.returns-then-prefix-items-clause-stopped
returns-then-prefix-items-clause-stopped g t c = λ no.
    let task = c.args.partial.now.task in
    let front = c.args.partial.now.prefix in
    let standard = c.args.evidence.now.standard in
    let complete = sym (ap length c.prefix.ensures.value) ∙ c.if-prefix-items.true ∙ item_count c.items.ensures.value c.task-task.ensures.value in
    let both = at_least-no_better task standard front c.in-Some.bound c.requires.measured complete c.in-Some.ensures.found.1 in
    Stops-here task (claim_in c.args.evidence.now) (cuts_in g.C.Cut.prefix_of c.args.evidence.now) front c.args.progress.now.left c.in-Some.ensures.found.0 c.requires.uncut
    (inr (
      complete,
      λ no_better.
          let least : IsAtLeast standard (c.in-Some.bound, c.prefix-then-prefix-items.result.now) = subst (λ p. IsAtLeast standard (c.in-Some.bound, p)) (sym c.prefix-then-prefix-items.ensures.value) (both.1 no_better) in
          false≢true (sym no ∙ c.is_at_least.ensures.1 least),
    ))

pub returns-then-progress-eq0-clause-stopped : goal.returns-then-progress-eq0-clause-stopped
returns-then-progress-eq0-clause-stopped g t c = λ _.
    let task = c.args.partial.now.task in
    let front = c.args.partial.now.prefix in
    let items = item_count c.items.ensures.value c.task-task.ensures.value in
    let not : length front ≡ length task.items → ⊥ = λ complete. c.if-prefix-items.false (ap length c.prefix.ensures.value ∙ complete ∙ sym items) in
    Stops-here task (claim_in c.args.evidence.now) (cuts_in g.C.Cut.prefix_of c.args.evidence.now) front c.args.progress.now.left c.in-Some.ensures.found.0 c.requires.uncut
    (inl (omega (arith, not, c.in-Some.ensures.found.0.sound.short), sym c.if-progress-eq0.true))

pub loop-number-init : goal.loop-number-init
loop-number-init g t c =
    let task = c.args.partial.now.task in
    let front = c.args.partial.now.prefix in
    let claim = claim_in c.args.evidence.now in
    let cuts = cuts_in g.C.Cut.prefix_of c.args.evidence.now in
    let items = item_count c.items.ensures.value c.task-task.ensures.value in
    let not : length front ≡ length task.items → ⊥ = λ complete. c.if-prefix-items.false (ap length c.prefix.ensures.value ∙ complete ∙ sym items) in
    let one : 1 ≡ c.args.progress.now.left - (c.args.progress.now.left - 1) = omega (arith, c.if-progress-eq0.false) in
    record {
      same = refl;
      walked = record {
        met = met-first cuts c.args.progress.now.met front c.requires.uncut c.requires.met;
        left = omega arith;
        passed = subst (Pass task claim cuts (IsVisited front 0)) one
            (Pass-first task claim cuts front c.in-Some.ensures.found.0 c.requires.uncut (omega (arith, not, c.in-Some.ensures.found.0.sound.short)));
      };
    }

-- what the walk looks at is the front with the next number
seam : (at now : Placing) (prefix : List ℕ) → prefix ≡ at.prefix → at ≡ now → prefix ≡ now.prefix
seam at now prefix is same = is ∙ ap (λ (p : Placing). p.prefix) same

pub overflow_add-progress : goal.overflow_add-progress
overflow_add-progress g t c =
    let below = c.has_cut_at.ensures.next_fits c.if-has_cut_at.true in
    omega (arith, below)

pub pass-requires : goal.pass-requires
pass-requires g t c =
    let front = c.args.partial.now.prefix in
    let number = c.loop-number.number in
    let evidence = c.args.evidence.now in
    let cuts = cuts_in g.C.Cut.prefix_of evidence in
    let met = c.loop-number.progress.met in
    let walked = c.loop-number.invariant.walked in
    let placed = advanced c.loop-number.partial c.args.partial.now c.advances.new.partial number c.loop-number.invariant.same (c.advances.ensures.placed c.if-advances.true) in
    let items = item_count c.items.ensures.value c.task-task.ensures.value in
    let incomplete : length front ≡ length c.args.partial.now.task.items → ⊥ = λ complete. c.if-prefix-items.false (ap length c.prefix.ensures.value ∙ complete ∙ sym items) in
    let more : length c.advances.new.partial.prefix ≡ length (front ++ number ∷ []) = ap (λ (p : Placing). length p.prefix) placed in
    let same : length c.advances.new.partial.task.items ≡ length c.args.partial.now.task.items = ap (λ (p : Placing). length p.task.items) placed in
    let looked : c.prefix-in-loop-number.result.now ≡ front = seam c.loop-number.partial c.args.partial.now c.prefix-in-loop-number.result.now c.prefix-in-loop-number.ensures.value c.loop-number.invariant.same in
    let no_cut : slice_get cuts met ≡ Some (front ++ number ∷ []) → ⊥ = λ is.
    false≢true (sym c.if-has_cut_at.false ∙ c.has_cut_at.ensures.is.1 (subst (λ p. slice_get cuts met ≡ Some (p ++ number ∷ [])) (sym looked) is)) in
    let uncut = uncut-next cuts met front number c.requires.rising c.requires.uncut walked.met no_cut in
    λ κs lives. (
      omega (arith, c.decreases, more, same, incomplete, length-append front (number ∷ []), c.in-Some.ensures.found.0.sound.short),
      (
        lives,
        (
          subst (λ (p : Placing). IsMeasured p.task evidence.standard) (sym placed) c.requires.measured,
          (
            c.requires.rising,
            (
              subst (λ (p : Placing). All (IsViable p.task) cuts) (sym placed) c.requires.viable,
              (
                subst (λ (p : Placing). IsUncut cuts p.prefix) (sym placed) uncut,
                subst (λ (p : Placing). AreFirst cuts met (λ cut. IsBefore cut p.prefix)) (sym placed) walked.met,
              ),
            ),
          ),
        ),
      ),
    )

pub returns-then-not-pass-clause-stopped : goal.returns-then-not-pass-clause-stopped
returns-then-not-pass-clause-stopped g t c = λ _.
    let task = c.args.partial.now.task in
    let front = c.args.partial.now.prefix in
    let number = c.loop-number.number in
    let claim = claim_in c.args.evidence.now in
    let cuts = cuts_in g.C.Cut.prefix_of c.args.evidence.now in
    let before = c.args.progress.now.left in
    let left = c.loop-number.progress.left in
    let walked = c.loop-number.invariant.walked in
    let placed = advanced c.loop-number.partial c.args.partial.now c.advances.new.partial number c.loop-number.invariant.same (c.advances.ensures.placed c.if-advances.true) in
    let stops : Stops task claim cuts (Extends (front ++ number ∷ [])) left c.pass.new.partial.prefix =
    subst (λ (p : Placing). Stops p.task claim cuts (Extends p.prefix) left c.pass.new.partial.prefix) placed (c.pass.ensures.stopped c.if-not-pass.true) in
    Stops-next task claim cuts front number (before - left) left before c.pass.new.partial.prefix (omega (arith, walked.left)) walked.passed stops

pub undo-requires : goal.undo-requires
undo-requires g t c =
    let front = c.args.partial.now.prefix in
    let number = c.loop-number.number in
    let placed = advanced c.loop-number.partial c.args.partial.now c.advances.new.partial number c.loop-number.invariant.same (c.advances.ensures.placed c.if-advances.true) in
    let back : length c.pass.new.partial.prefix ≡ length (front ++ number ∷ []) = ap (λ (p : Placing). length p.prefix) (c.pass.ensures.same c.if-not-pass.false ∙ placed) in
    omega (arith, back, length-append front (number ∷ []))

pub loop-number-preserved : goal.loop-number-preserved
loop-number-preserved g t c =
    let task = c.args.partial.now.task in
    let front = c.args.partial.now.prefix in
    let number = c.loop-number.number in
    let claim = claim_in c.args.evidence.now in
    let cuts = cuts_in g.C.Cut.prefix_of c.args.evidence.now in
    let before = c.args.progress.now in
    let mid = c.loop-number.progress in
    let walked = c.loop-number.invariant.walked in
    let looked : c.prefix-in-loop-number.result.now ≡ front = seam c.loop-number.partial c.args.partial.now c.prefix-in-loop-number.result.now c.prefix-in-loop-number.ensures.value c.loop-number.invariant.same in
    elim c.if-has_cut_at.branch [
      | then-has_cut_at w ↦
          let stands : slice_get cuts mid.met ≡ Some (front ++ number ∷ []) =
          subst (λ p. slice_get cuts mid.met ≡ Some (p ++ number ∷ [])) looked (c.has_cut_at.ensures.is.0 w.if-has_cut_at.true) in
          record {
            same = w.partial-is ∙ c.loop-number.invariant.same;
            walked = subst (λ now. Walked task claim cuts front (number + 1) before now) (sym w.progress-is)
                (Walked-cut task claim cuts front number before mid c.requires.rising (c.has_cut_at.ensures.inside w.if-has_cut_at.true) stands walked);
          }
      | else-has_cut_at+then-advances+else-not-pass w ↦
          let placed = advanced c.loop-number.partial c.args.partial.now w.advances.new.partial number c.loop-number.invariant.same (w.advances.ensures.placed w.if-advances.true) in
          let now = w.pass.new.progress in
          let met : AreFirst cuts now.met (λ cut. IsBefore cut (front ++ number ∷ []) ⊎ Extends (front ++ number ∷ []) cut) =
          subst (λ (p : Placing). AreFirst cuts now.met (λ cut. IsBefore cut p.prefix ⊎ Extends p.prefix cut)) placed (w.pass.ensures.met w.if-not-pass.false) in
          let passed : Pass task claim cuts (Extends (front ++ number ∷ [])) (mid.left - now.left) =
          subst (λ (p : Placing). Pass p.task claim cuts (Extends p.prefix) (mid.left - now.left)) placed (w.pass.ensures.passed w.if-not-pass.false) in
          record {
            same = w.partial-is ∙ undone c.args.partial.now w.undo.new.self number w.undo.ensures.0 (sym placed ∙ sym (w.pass.ensures.same w.if-not-pass.false) ∙ w.undo.ensures.1);
            walked = subst (λ now. Walked task claim cuts front (number + 1) before now) (sym w.progress-is)
                (Walked-next task claim cuts front number before mid now c.requires.viable met (w.pass.ensures.left w.if-not-pass.false) passed walked);
          }
      | else-has_cut_at+else-advances w ↦
          let unviable : IsViable task (front ++ number ∷ []) → ⊥ =
          subst (λ (p : Placing). IsViable p.task (p.prefix ++ number ∷ []) → ⊥) c.loop-number.invariant.same (w.advances.ensures.unviable w.if-advances.false) in
          record {
            same = w.partial-is ∙ w.advances.ensures.same w.if-advances.false ∙ c.loop-number.invariant.same;
            walked = subst (λ now. Walked task claim cuts front (number + 1) before now) (sym w.progress-is)
                (Walked-passed task claim cuts front number before mid c.requires.viable unviable walked);
          }
    ]

pub returns-clause-met : goal.returns-clause-met
returns-clause-met g t c = λ _.
    let task = c.args.partial.now.task in
    let positions : length c.hold.result.now.positions ≡ length task.hold.positions =
    ap (λ (h : Layout). length h.positions) (c.hold.ensures.value ∙ ap (λ (p : Problem). p.hold) c.task-task.ensures.value) in
    let all : length task.hold.positions ≤ c.loop-number.number = omega (arith, positions, c.position_count-number-end.ensures.value, c.loop-number-test.false) in
    met-last task (cuts_in g.C.Cut.prefix_of c.args.evidence.now) c.loop-number.progress.met c.args.partial.now.prefix c.loop-number.number all c.requires.viable c.loop-number.invariant.walked.met

pub returns-clause-passed : goal.returns-clause-passed
returns-clause-passed g t c = λ _.
    let task = c.args.partial.now.task in
    let positions : length c.hold.result.now.positions ≡ length task.hold.positions =
    ap (λ (h : Layout). length h.positions) (c.hold.ensures.value ∙ ap (λ (p : Problem). p.hold) c.task-task.ensures.value) in
    let all : length task.hold.positions ≤ c.loop-number.number = omega (arith, positions, c.position_count-number-end.ensures.value, c.loop-number-test.false) in
    Pass-last task (claim_in c.args.evidence.now) (cuts_in g.C.Cut.prefix_of c.args.evidence.now) c.args.partial.now.prefix c.loop-number.number _ all c.loop-number.invariant.walked.passed
