use Rattle.std.proofs.Common.{◌≡◌, ℕ, true, false, ◌-ℤ◌, length}
use Rattle.position_set.specs.Sets.{has, members}
use Rattle.assignment.specs.Prices.{price_at}
use Rattle.assignment_draft.specs.Drafts.{AreMoved}
use Rattle.assignment_draft.proofs.search.Tree.lower_reached.Given as goal

abbrev pub invariant-loop-position : goal.invariant-loop-position
invariant-loop-position l = record {
  moved : AreMoved l.fn.prices l.prices;
  items : l.prices.items ≡ l.fn.prices.items;
  reached_too : (q : ℕ) → has l.rest q ≡ true → has l.self.reached q ≡ true;
  waiting : (q : ℕ) → has l.rest q ≡ true → price_at l.prices.places.items q ≡ price_at l.fn.prices.places.items q;
  fallen : (q : ℕ) → has l.self.reached q ≡ true → has l.rest q ≡ false → price_at l.prices.places.items q ≡ price_at l.fn.prices.places.items q -ℤ l.by;
  others : (q : ℕ) → has l.self.reached q ≡ false → price_at l.prices.places.items q ≡ price_at l.fn.prices.places.items q;
}

abbrev pub decreases-loop-position : goal.decreases-loop-position
decreases-loop-position l = length (members l.rest)
