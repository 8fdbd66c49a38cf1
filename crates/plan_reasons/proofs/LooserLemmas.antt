-- a limit that is loosened more admits no less
use Rattle.std.proofs.Common.{ℕ, ◌+◌, ◌≤◌, ℤ, pos, ◌+ℤ◌, ◌-ℤ◌, ◌≤ℤ◌, List, arith}
use Rattle.std.proofs.lemmas.Int.{ints}
use Rattle.hold_limits.specs.Placement.{IsAdmissible}
use Rattle.hold_limits.specs.Problem.{Problem}
use Rattle.cert_checker.specs.Claims.{HasNoPlacement}
use Rattle.changed_task.proofs.LawLemmas.{combined-leaves, cumulative-leaves, lateral-leaves, window-leaves, not-above-itself}
use Rattle.plan_reasons.specs.Decisions.{HasPlan}
use Rattle.plan_reasons.specs.Findings.{IsLeastStep}
use Rattle.plan_reasons.specs.Limits.{combined_most, cumulative_most, lateral_most, loosened, slack}
use Rattle.plan_reasons.specs.declared.limit.TaskLimit.{TaskLimit}
use Rattle.plan_reasons.specs.declared.limit.TaskLimit.TheVariants.{Exclude, Combined, Cumulative, Lateral, WindowLow, WindowHigh}

more : (base m n : ℕ) → m ≤ n → base + m ≤ base + n
more base m n less = omega (arith, less)

lower : (z : ℤ) (m n : ℕ) → m ≤ n → (z -ℤ pos n) ≤ℤ (z -ℤ pos m)
lower z m n less = omega (arith, ints, less)

higher : (z : ℤ) (m n : ℕ) → m ≤ n → (z +ℤ pos m) ≤ℤ (z +ℤ pos n)
higher z m n less = omega (arith, ints, less)

pub looser-admits : (t : Problem) (limit : TaskLimit) (m n : ℕ) (path : List ℕ) → m ≤ n → IsAdmissible (loosened t limit m) path → IsAdmissible (loosened t limit n) path
looser-admits t (Exclude at) m n path less is = is
looser-admits t (Combined at) m n path less is =
    combined-leaves t at (record { 0 = combined_most t at + m }) (record { 0 = combined_most t at + n }) path (more (combined_most t at) m n less) is
looser-admits t (Cumulative at) m n path less is =
    cumulative-leaves t at (record { 0 = cumulative_most t at + m }) (record { 0 = cumulative_most t at + n }) path (more (cumulative_most t at) m n less) is
looser-admits t Lateral m n path less is =
    lateral-leaves t (record { 0 = lateral_most t + m }) (record { 0 = lateral_most t + n }) path (more (lateral_most t) m n less) is
looser-admits t WindowLow m n path less is =
    window-leaves t (t.low -ℤ pos m) t.high (t.low -ℤ pos n) t.high path (lower t.low m n less) (not-above-itself t.high) is
looser-admits t WindowHigh m n path less is =
    window-leaves t t.low (t.high +ℤ pos m) t.low (t.high +ℤ pos n) path (not-above-itself t.low) (higher t.high m n less) is

-- where the one step admits no plan, no lesser step does
pub none-below : (t : Problem) (limit : TaskLimit) (n none : ℕ) → n ≤ none → HasNoPlacement (loosened t limit none) → HasNoPlacement (loosened t limit n)
none-below t limit n none less nothing = λ path is. nothing path (looser-admits t limit n none path less is)

-- the step above one that admits no plan is the least that admits one
pub step-above : (t : Problem) (limit : TaskLimit) (none plan : ℕ) → plan ≤ none + 1 → plan ≤ slack t limit → HasNoPlacement (loosened t limit none)
    → HasPlan (loosened t limit plan) → IsLeastStep t limit plan
step-above t limit none plan next within nothing has = record {
  within = within;
  plan = has;
  less = λ n less. none-below t limit n none (omega (arith, less, next)) nothing;
}
