use Rattle.std.proofs.Common.{◌++◌, ◌∙◌, ap}
use Rattle.toml.specs.View.{view}
use Rattle.aircraft_keys.specs.Skipped.{at_key}
use Rattle.aircraft_keys.specs.Texts.{names_in}
use Rattle.aircraft_keys.proofs.SkipLemmas.{keys_step, keys_end}
use Rattle.aircraft_keys.proofs.sections.push_skipped.Goals as goal

pub loop-key-preserved : goal.loop-key-preserved
loop-key-preserved c =
    keys_step at_key c.loop-key.key-iterator _ _ (names_in c.loop-key.out) _ _ c.in-Some.ensures.steps c.loop-key.invariant
    (c.in_ok-push_at_key.ensures ∙ ap (λ key. names_in c.loop-key.out ++ at_key key (view c.in-Some.value.now)) c.as_bytes.ensures.value)

pub returns : goal.returns
returns c = keys_end at_key c.loop-key.key-iterator (names_in c.loop-key.out) _ c.in-None.ensures.steps.0 c.loop-key.invariant
