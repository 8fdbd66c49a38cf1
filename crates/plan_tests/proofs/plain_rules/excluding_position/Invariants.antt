use Rattle.std.proofs.Common.{◌≡◌, ◌&&◌, None}
use Rattle.base_words.specs.Lists.{first_below}
use Rattle.hold_limits.specs.Enumeration.{exclude}
use Rattle.hold_reach.specs.Rules.{is_used}
use Rattle.plan_tests.proofs.plain_rules.excluding_position.Given as goal

abbrev pub invariant-loop-other : goal.invariant-loop-other
invariant-loop-other l = first_below (λ q. is_used l.prefix q && exclude l.hold q l.number) l.other ≡ None
