use Rattle.std.proofs.Common.{◌≡◌, ◌||◌, ◌==◌, length}
use Rattle.std.specs.List.{list_all}
use Rattle.hold_limits.specs.Enumeration.{exclude}
use Rattle.position_set.specs.Sets.{members}
use Rattle.choice_prices.proofs.cliques.is_clique_of.Given as goal

-- those that are left decide
abbrev pub invariant-loop-number : goal.invariant-loop-number
invariant-loop-number l =
    list_all (λ a. list_all (λ b. (a == b) || exclude l.hold a b) (members l.set)) (members l.rest)
    ≡ list_all (λ a. list_all (λ b. (a == b) || exclude l.hold a b) (members l.set)) (members l.set)

abbrev pub decreases-loop-number : goal.decreases-loop-number
decreases-loop-number l = length (members l.rest)
