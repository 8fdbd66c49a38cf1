use Rattle.std.proofs.Common.{◌≤ℤ◌, length, ap, sym, ◌∙◌, subst}
use Rattle.std.proofs.lemmas.Bool.{false≢true}
use Rattle.std.proofs.lemmas.Bool.Decides.{Decides-eqb}
use Rattle.hold_limits.proofs.balance.is_admissible.Goals.{then-is_sound, else-is_sound, then-path-items, else-path-items}
use Rattle.hold_limits.proofs.balance.is_admissible.Goals as goal

pub returns-then-is_in_window : goal.returns-then-is_in_window
returns-then-is_in_window c =
    let t = c.args.task.now in
    elim c.if-path-items.branch [
      | then-path-items w ↦ elim c.if-is_sound.branch [
        | then-is_sound v ↦ (
          λ kept.
              let window = w.is_in_window.ensures.0 (sym w.value-is ∙ c.if-is_in_window.true) in
              record {
                sound = c.is_sound.ensures.0 v.if-is_sound.true;
                complete = (Decides-eqb (length c.args.path.now) (length v.items.result.now)).0 (sym v.value-is ∙ w.if-path-items.true) ∙ ap length v.items.ensures.value;
                low = subst (λ i. t.low ≤ℤ i) w.hold_index_of.ensures.value window.0;
                high = subst (λ i. i ≤ℤ t.high) w.hold_index_of.ensures.value window.1;
                lateral = c.keeps_lateral_limit.ensures.0 kept;
              },
          λ admissible. c.keeps_lateral_limit.ensures.1 admissible.lateral,
        )
        | else-is_sound v ↦ absurd (false≢true (sym v.if-is_sound.false ∙ sym v.value-is ∙ w.if-path-items.true))
      ]
      | else-path-items w ↦ absurd (false≢true (sym w.if-path-items.false ∙ sym w.value-is ∙ c.if-is_in_window.true))
    ]
