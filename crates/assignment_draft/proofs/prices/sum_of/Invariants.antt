use Rattle.std.proofs.Common.{◌≡◌, ◌*◌, take}
use Rattle.assignment.specs.Prices.{total}
use Rattle.assignment.specs.Tables.{IsWithin}
use Rattle.assignment_draft.specs.Drafts.{item_span}
use Rattle.assignment_draft.proofs.prices.sum_of.Given as goal

abbrev pub invariant-loop-price : goal.invariant-loop-price
invariant-loop-price l = record {
  total : l.sum ≡ total (take l.price-index l.prices);
  near : IsWithin (item_span * l.price-index) l.sum;
}
