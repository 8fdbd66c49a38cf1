use Rattle.std.proofs.Common.{◌≡◌, ℕ, true, false, ◌+ℤ◌, length}
use Rattle.position_set.specs.Sets.{has, members}
use Rattle.assignment.specs.Prices.{price_at}
use Rattle.assignment_draft.specs.Drafts.{AreMoved}
use Rattle.assignment_draft.proofs.search.Tree.lift_members.Given as goal

abbrev pub invariant-loop-number : goal.invariant-loop-number
invariant-loop-number l = record {
  moved : AreMoved l.fn.prices l.prices;
  places : l.prices.places ≡ l.fn.prices.places;
  members_too : (n : ℕ) → has l.rest n ≡ true → has l.self.members n ≡ true;
  waiting : (n : ℕ) → has l.rest n ≡ true → price_at l.prices.items.items n ≡ price_at l.fn.prices.items.items n;
  risen : (n : ℕ) → has l.self.members n ≡ true → has l.rest n ≡ false → price_at l.prices.items.items n ≡ price_at l.fn.prices.items.items n +ℤ l.by;
  others : (n : ℕ) → has l.self.members n ≡ false → price_at l.prices.items.items n ≡ price_at l.fn.prices.items.items n;
}

abbrev pub decreases-loop-number : goal.decreases-loop-number
decreases-loop-number l = length (members l.rest)
