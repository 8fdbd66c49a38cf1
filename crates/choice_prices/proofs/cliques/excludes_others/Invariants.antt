use Rattle.std.proofs.Common.{◌≡◌, ◌||◌, ◌==◌, length}
use Rattle.std.specs.List.{list_all}
use Rattle.hold_limits.specs.Enumeration.{exclude}
use Rattle.position_set.specs.Sets.{members}
use Rattle.choice_prices.proofs.cliques.excludes_others.Given as goal

-- those that are left decide
abbrev pub invariant-loop-other : goal.invariant-loop-other
invariant-loop-other l =
    list_all (λ b. (l.number == b) || exclude l.hold l.number b) (members l.rest)
    ≡ list_all (λ b. (l.number == b) || exclude l.hold l.number b) (members l.fn.set)

abbrev pub decreases-loop-other : goal.decreases-loop-other
decreases-loop-other l = length (members l.rest)
