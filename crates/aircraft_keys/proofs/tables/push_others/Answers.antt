use Rattle.std.proofs.Common.{List, ℕ, ◌++◌, ◌∙◌, ap}
use Rattle.toml.specs.Data.{Data}
use Rattle.aircraft_keys.specs.Skipped.{other_key}
use Rattle.aircraft_keys.specs.Texts.{texts, names_in}
use Rattle.aircraft_keys.proofs.SkipLemmas.{keys_step, keys_end}
use Rattle.aircraft_keys.proofs.tables.push_others.Goals as goal

pub loop-key-preserved : goal.loop-key-preserved
loop-key-preserved c =
    let other : List ℕ → List (List ℕ) = λ key. other_key (texts c.args.keys.now) c.args.front.now key in
    let names : List ℕ → Data → List (List ℕ) = λ key value. other key in
    keys_step names c.loop-key.key-iterator _ _ (names_in c.loop-key.out) _ _ c.in-Some.ensures.steps c.loop-key.invariant
    (c.in_ok-push_other.ensures ∙ ap (λ key. names_in c.loop-key.out ++ other key) c.as_bytes.ensures.value)

pub returns : goal.returns
returns c =
    let names : List ℕ → Data → List (List ℕ) = λ key value. other_key (texts c.args.keys.now) c.args.front.now key in
    keys_end names c.loop-key.key-iterator (names_in c.loop-key.out) _ c.in-None.ensures.steps.0 c.loop-key.invariant
