use Rattle.std.proofs.Common.{◌≤◌, List, sym, ◌∙◌, subst}
use Rattle.std.proofs.lemmas.Bool.{false≢true}
use Rattle.std.specs.Prelude.{All}
use Rattle.hold_parts.specs.declared.parts.Combined.{Combined}
use Rattle.hold_parts.specs.declared.parts.Cumulative.{Cumulative}
use Rattle.hold_parts.specs.Limits.{is_listed, is_counted}
use Rattle.hold_parts.specs.declared.parts.Loose.{Loose}
use Rattle.hold_limits.specs.Placement.{loose_load}
use Rattle.hold_limits.proofs.sound.are_limits_met.Goals as goal

AreCombinedMet : List Loose → List Combined → Type 0
AreCombinedMet stowage limits = All (λ limit. loose_load (is_listed limit.places) stowage ≤ limit.most.0) limits

AreCumulativeMet : List Loose → List Cumulative → Type 0
AreCumulativeMet stowage limits = All (λ limit. loose_load (is_counted limit) stowage ≤ limit.most.0) limits

pub returns-then-are_combined_met : goal.returns-then-are_combined_met
unfolding AreCombinedMet AreCumulativeMet
returns-then-are_combined_met c =
    let stowage = c.args.stowage.now.items in (
      λ met. record {
        combined = subst (AreCombinedMet stowage) c.combined.ensures.value (c.are_combined_met.ensures.0 c.if-are_combined_met.true);
        cumulative = subst (AreCumulativeMet stowage) c.cumulative.ensures.value (c.are_cumulative_met.ensures.0 met);
      },
      λ kept. c.are_cumulative_met.ensures.1 (subst (AreCumulativeMet stowage) (sym c.cumulative.ensures.value) kept.cumulative),
    )

pub returns-else-are_combined_met : goal.returns-else-are_combined_met
unfolding AreCombinedMet
returns-else-are_combined_met c = (
  λ is. absurd (false≢true (sym c.if-are_combined_met.false ∙ is)),
  λ kept. c.are_combined_met.ensures.1 (subst (AreCombinedMet c.args.stowage.now.items) (sym c.combined.ensures.value) kept.combined),
)
