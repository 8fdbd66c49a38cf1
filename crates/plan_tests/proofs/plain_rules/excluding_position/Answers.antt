use Rattle.std.proofs.Common.{◌≡◌, ◌<◌, true, sym, ◌∙◌, length, arith, ◌&&◌}
use Rattle.std.proofs.lemmas.Bool.{and_from}
use Rattle.base_words.proofs.ListLemmas.{first_below-some}
use Rattle.hold_limits.specs.Enumeration.{exclude}
use Rattle.hold_reach.specs.Rules.{is_used}
use Rattle.plan_tests.proofs.plain_rules.excluding_position.Goals as goal

pub returns-then-exclude_each_other : goal.returns-then-exclude_each_other
returns-then-exclude_each_other c =
    let hold = c.args.hold.now in
    let other = c.loop-other.other in
    let within : other < length hold.positions = omega arith in
    let used : is_used c.args.prefix.now other ≡ true = sym c.uses.ensures ∙ c.if-uses.true in
    let excludes : exclude hold other c.args.number ≡ true = sym c.exclude_each_other.ensures.value ∙ c.if-exclude_each_other.true in
    sym (first_below-some (λ q. is_used c.args.prefix.now q && exclude hold q c.args.number) other (length hold.positions) c.loop-other.invariant (and_from _ _ used excludes) within)
