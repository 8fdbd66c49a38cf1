use Rattle.std.proofs.Common.{Option, length, sym, ap, ◌∙◌, subst, arith}
use Rattle.std.specs.Prelude.{is_some}
use Rattle.cert_checker.specs.FirstReason.{PathFails}
use Rattle.cert_checker.specs.Evidence.{path_of, claim_in, cuts_in}
use Rattle.cert_checker.specs.declared.standard.Standard.{Standard}
use Rattle.hold_limits.specs.Problem.{Problem}
use Rattle.cert_checker.proofs.ReasonLemmas.{Stops-too_many, Stops-path}
use Rattle.cert_checker.proofs.walk.fault_at.Goals as goal

pub returns-then-prefix-items : goal.returns-then-prefix-items
returns-then-prefix-items g c = λ allowed stops.
    let items = ap length c.items.ensures.value ∙ ap (λ (p : Problem). length p.items) c.task.ensures.value in
    Stops-too_many c.args.partial.now.task (claim_in c.args.evidence.now) (cuts_in g.C.Cut.prefix_of c.args.evidence.now) allowed c.args.partial.now.prefix
    (omega (arith, items, ap length c.prefix-prefix.ensures.value, c.if-prefix-items.true)) stops

pub returns-in-Some : goal.returns-in-Some
returns-in-Some g c = λ allowed stops.
    let task = c.args.partial.now.task in
    let claim = claim_in c.args.evidence.now in
    let cuts = cuts_in g.C.Cut.prefix_of c.args.evidence.now in
    let items = ap length c.items.ensures.value ∙ ap (λ (p : Problem). length p.items) c.task.ensures.value in
    let fails = Stops-path task claim cuts allowed c.args.partial.now.prefix (omega (arith, items, ap length c.prefix-prefix.ensures.value, c.if-prefix-items.false)) stops in (
      ap (λ (s : Option Standard). is_some (path_of s)) c.in-Some.is,
      subst (PathFails task claim cuts allowed) (sym (c.copy_of-path.ensures ∙ c.prefix-prefix.ensures.value)) fails,
    )

pub returns-in-None : goal.returns-in-None
returns-in-None g c = λ allowed stops.
    let task = c.args.partial.now.task in
    let claim = claim_in c.args.evidence.now in
    let cuts = cuts_in g.C.Cut.prefix_of c.args.evidence.now in
    let items = ap length c.items.ensures.value ∙ ap (λ (p : Problem). length p.items) c.task.ensures.value in
    let fails = Stops-path task claim cuts allowed c.args.partial.now.prefix (omega (arith, items, ap length c.prefix-prefix.ensures.value, c.if-prefix-items.false)) stops in (
      ap (λ (s : Option Standard). is_some (path_of s)) c.in-None.is,
      subst (PathFails task claim cuts allowed) (sym (c.copy_of-path.ensures ∙ c.prefix-prefix.ensures.value)) fails,
    )
