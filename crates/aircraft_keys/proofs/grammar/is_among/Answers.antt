use Rattle.std.proofs.Common.{arith, List, ℕ, Bool, Bor, ap, sym, ◌∙◌}
use Rattle.std.specs.List.{list_any}
use Rattle.std.specs.Str.{bytes_eq}
use Rattle.std.proofs.lemmas.List.{take_all}
use Rattle.std.proofs.lemmas.List.Folds.{list_any_at}
use Rattle.aircraft_keys.proofs.KeyLemmas.{any_text}
use Rattle.aircraft_keys.proofs.grammar.is_among.Goals as goal

pub returns-then-is_same : goal.returns-then-is_same
returns-then-is_same c =
    let test : Bor (List ℕ) → Bool = λ other. bytes_eq c.args.key.now other.now in
    sym (list_any_at test c.args.keys.now c.loop-other.other-index _ c.loop-other-test.true (sym c.is_same.ensures ∙ c.if-is_same.true))
    ∙ any_text (bytes_eq c.args.key.now) c.args.keys.now

pub returns : goal.returns
returns c =
    let test : Bor (List ℕ) → Bool = λ other. bytes_eq c.args.key.now other.now in
    sym c.loop-other.invariant ∙ ap (list_any test) (take_all c.loop-other.other-index c.args.keys.now (omega arith)) ∙ any_text (bytes_eq c.args.key.now) c.args.keys.now
