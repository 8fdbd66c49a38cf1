-- the text that says why a task has no plan
use Rattle.std.specs.Prelude.{ℕ, suc, zero, ◌+◌, pos, ◌-ℤ◌, ◌+ℤ◌, if◌then◌else◌, Bool, true, false, List, [], ◌∷◌, ◌++◌, codes, count_by, slice_get}
use Rattle.std.specs.Option.{option_map_or}
use Rattle.mass_units.specs.Spelling.{number_text, index_text}
use Rattle.hold_parts.specs.Accepting.{kind_of}
use Rattle.hold_parts.specs.declared.parts.Item.{Item}
use Rattle.hold_limits.specs.Problem.{Problem}
use Rattle.text_lines.specs.WordRuns.{run_text}
use Rattle.plan_text.specs.PlanText.{one_line}
use Rattle.problem_text.specs.TaskText.{exclude_line, combined_line, cumulative_line, lateral_line}
use Rattle.plan_reasons.specs.Limits.{combined_most, cumulative_most, lateral_most}
use Rattle.plan_reasons.specs.Unfit.{is_unfit, begins_short_kind, offered_of_kind, positions_for_kind}
use Rattle.plan_reasons.specs.declared.finding.Finding.{Finding}
use Rattle.plan_reasons.specs.declared.finding.Finding.TheVariants as found
use Rattle.plan_reasons.specs.declared.finding.Least.{Least}
use Rattle.plan_reasons.specs.declared.finding.Least.TheVariants as least
use Rattle.plan_reasons.specs.declared.finding.TriedLimit.{TriedLimit}
use Rattle.plan_reasons.specs.declared.limit.TaskLimit.{TaskLimit}
use Rattle.plan_reasons.specs.declared.limit.TaskLimit.TheVariants.{Exclude, Combined, Cumulative, Lateral, WindowLow, WindowHigh}
use Rattle.plan_reasons.specs.declared.reasons.Reasons.{Reasons}
use Rattle.plan_reasons.specs.declared.reasons.Why.{Why}
use Rattle.plan_reasons.specs.declared.reasons.Why.TheVariants as answer

-- `UNFIT ID`, where no position accepts the container
abbrev pub unfit_text : Problem → Item → List ℕ
unfit_text t item = if is_unfit t item then one_line (codes "UNFIT" ∷ item.id ∷ []) else []

-- `SHORT KIND n m`, at the first container of a kind that has n containers and only m positions
abbrev pub short_text : Problem → Item → List ℕ
short_text t item =
    if begins_short_kind t item
    then one_line (codes "SHORT" ∷ kind_of item ∷ number_text (offered_of_kind t item) ∷ number_text (positions_for_kind t item) ∷ [])
    else []

-- the limit, as the text of the task has it
abbrev pub limit_text : Problem → TaskLimit → List ℕ
limit_text t (Exclude at) = option_map_or (exclude_line t.hold.positions) (slice_get t.hold.excludes at) []
limit_text t (Combined at) = option_map_or (combined_line t.hold.positions) (slice_get t.hold.combined at) []
limit_text t (Cumulative at) = option_map_or (cumulative_line t.hold.positions) (slice_get t.hold.cumulative at) []
limit_text t Lateral = lateral_line (lateral_most t)
limit_text t WindowLow = codes "window low"
limit_text t WindowHigh = codes "window high"

-- the limit's number, where it is loosened by so much
abbrev pub number_at : Problem → TaskLimit → ℕ → List ℕ
number_at t (Exclude at) step = []
number_at t (Combined at) step = number_text (combined_most t at + step)
number_at t (Cumulative at) step = number_text (cumulative_most t at + step)
number_at t Lateral step = number_text (lateral_most t + step)
number_at t WindowLow step = index_text (t.low -ℤ pos step)
number_at t WindowHigh step = index_text (t.high +ℤ pos step)

-- ` AT NUMBER`, where the least change is known
abbrev pub least_text : Problem → TaskLimit → Least → List ℕ
least_text t limit (least.Step step) = codes " AT " ++ number_at t limit step
least_text t limit _ = []

-- `WITHOUT LIMIT` or `WITHOUT LIMIT AT NUMBER`, where the task has a plan without the limit
abbrev pub without_text : Problem → TriedLimit → List ℕ
without_text t it = without it.finding
  where
    without : Finding → List ℕ
    without (found.Helps step) = codes "WITHOUT " ++ (limit_text t it.limit ++ (least_text t it.limit step ++ 10 ∷ []))
    without _ = []

-- something about the limit was not decided
abbrev pub is_unknown : Finding → Bool
is_unknown (found.Helps least.Open) = true
is_unknown found.Open = true
is_unknown _ = false

-- `UNKNOWN n`, where so many questions were not decided
abbrev pub unknown_text : ℕ → List ℕ
unknown_text zero = []
unknown_text (suc n) = one_line (codes "UNKNOWN" ∷ number_text (suc n) ∷ [])

-- how many questions about the limits were not decided
abbrev pub unknown_in : Reasons → ℕ
unknown_in reasons = count_by (λ (it : TriedLimit). is_unknown it.finding) reasons.tried.items

-- the text of the reasons, where so many other questions were not decided
abbrev pub reasons_text : Problem → Reasons → ℕ → List ℕ
reasons_text t reasons others =
    run_text (unfit_text t) t.items
    ++ (run_text (short_text t) t.items
    ++ (run_text (without_text t) reasons.tried.items
    ++ (unknown_text (unknown_in reasons + others)
    ++ codes "END\n")))

abbrev pub why_text : Problem → Why → List ℕ
why_text t answer.Plan = codes "PLAN\nEND\n"
why_text t (answer.NoPlan reasons) = reasons_text t reasons 0
why_text t (answer.Open reasons) = reasons_text t reasons 1
