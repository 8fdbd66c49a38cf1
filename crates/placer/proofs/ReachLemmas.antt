-- the bounds that the reach of prefixes gives find the best path
use Rattle.std.proofs.Common.{◌≡◌, ℕ, ◌≤ℤ◌, Some, sym, ◌∙◌, arith}
use Rattle.hold_limits.specs.Problem.{Problem}
use Rattle.hold_reach.proofs.ViableLemmas.{bound-complete}
use Rattle.best_first.specs.Bounds.{AreBounds, HasReachBound}
use Rattle.best_first.proofs.FrontLemmas.{IsViable-shorter, bound-shorter}

some_same : (m n : ℕ) → Some m ≡ Some n → m ≡ n
some_same m n is = cc

pub reach-bounds : (t : Problem) → t.ideal_low ≤ℤ t.ideal_high → AreBounds t (HasReachBound t) (HasReachBound t)
reach-bounds t band = record {
  one = λ prefix a b first second. some_same a b (sym first.1 ∙ second.1);
  viable = λ prefix b is. is.0;
  narrows = λ prefix q b is.
      let here = bound-shorter t prefix q b band is.0 is.1 in
      (here.0, (IsViable-shorter t prefix q is.0, here.1), here.2);
  complete = λ path viable whole. (viable, bound-complete t path whole);
  waiting = λ prefix waited waits. waits.0;
  below = λ prefix waited b waits is. omega (arith, some_same waited b (sym waits.1 ∙ is.1));
  reach = λ prefix b is. is;
}
