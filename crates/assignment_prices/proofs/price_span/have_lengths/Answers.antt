use Rattle.std.proofs.Common.{◌≡◌, ◌-◌, ◌∙◌, ap, ap₂, sym, length}
use Rattle.std.proofs.lemmas.Bool.Decides.{Decides-eqb}
use Rattle.assignment_prices.proofs.SpanLemmas.{length-remaining}
use Rattle.assignment_prices.proofs.price_span.have_lengths.Goals as goal

pub returns-then-half-left : goal.returns-then-half-left
returns-then-half-left c =
    let t = c.args.partial.now.task in
    let left = length-remaining t c.args.partial.now.prefix in
    let items : length c.items.result.now ≡ length t.items = ap length (c.items.ensures.value ∙ ap (λ p. p.items) c.task-task.ensures.value) in
    let prefix = ap length c.prefix.ensures.value in
    let places : length c.positions.result.now ≡ length t.hold.positions = ap length (c.positions.ensures.value ∙ ap (λ h. h.positions) (c.hold.ensures.value ∙ ap (λ p. p.hold) c.task-task.ensures.value)) in
    let tells = Decides-eqb (length c.args.half.now.places.now) (length c.positions.result.now) in
    (λ yes. (c.if-half-left.true ∙ ap₂ (λ a b. a - b) items prefix ∙ sym left, tells.0 yes ∙ places), λ both. tells.1 (both.1 ∙ sym places))

pub returns-else-half-left : goal.returns-else-half-left
returns-else-half-left c =
    let t = c.args.partial.now.task in
    let left = length-remaining t c.args.partial.now.prefix in
    let items : length c.items.result.now ≡ length t.items = ap length (c.items.ensures.value ∙ ap (λ p. p.items) c.task-task.ensures.value) in
    let prefix = ap length c.prefix.ensures.value in
    let tells = Decides-eqb (length c.args.half.now.items.now) (length c.items.result.now - length c.prefix.result.now) in
    (λ yes. absurd (c.if-half-left.false (tells.0 yes)), λ both. absurd (c.if-half-left.false (both.0 ∙ left ∙ sym (ap₂ (λ a b. a - b) items prefix))))
