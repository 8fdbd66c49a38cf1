use Rattle.std.proofs.Common.{◌-◌, length}
use Rattle.choice_prices.specs.Pricing.{ticks_of}
use Rattle.tree_checker.specs.GoodTrees.{to_refute}
use Rattle.tree_checker.specs.Steps.{prices_listed}
use Rattle.tree_checker.proofs.WalkLemmas.{IsWalked}
use Rattle.tree_checker.proofs.walk.wrong_operation.Given as goal

abbrev pub invariant-loop-choice : goal.invariant-loop-choice
invariant-loop-choice l = IsWalked l.evidence.task.now (ticks_of l.ticks) (prices_listed l.evidence) (to_refute (ticks_of l.ticks) l.fn.choice) l.operations l.pending.items l.at

abbrev pub decreases-loop-choice : goal.decreases-loop-choice
decreases-loop-choice l = length l.operations - l.at
