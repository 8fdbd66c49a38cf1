use Rattle.std.proofs.Common.{◌≡◌, ◌∙◌, ℕ, List, sym, subst, arith}
use Rattle.std.proofs.lemmas.Bool.{false≢true}
use Rattle.flight_row.specs.RowText.{plan_line}
use Rattle.flight_row.specs.Spelled.{IsSpelledPlan}
use Rattle.flight_row.proofs.PlanLineLemmas.{all_names, wrong_name, too_many}
use Rattle.flight_row.proofs.single_lines.read_plan.Goals as goal

pub returns-in_default-clause-none : goal.returns-in_default-clause-none
returns-in_default-clause-none c =
    wrong_name c.args.line.now c.loop-words.names.items c.loop-words.words c.loop-words.invariant
    (λ none. false≢true (sym c.loop-words-test.true ∙ c.is_done.ensures.1 none)) c.in_default.ensures.none

pub returns-then-len-ge-MOST_NAMES-clause-none : goal.returns-then-len-ge-MOST_NAMES-clause-none
returns-then-len-ge-MOST_NAMES-clause-none c =
    too_many c.args.line.now c.loop-words.names.items c.loop-words.words c.name.new.self c.in-Some.name c.loop-words.invariant (omega arith) c.in-Some.ensures.found.1

pub returns-clause-found : goal.returns-clause-found
returns-clause-found c =
    subst (λ (names : List (List ℕ)). IsSpelledPlan names × (c.args.line.now ≡ plan_line names)) (sym c.from.ensures)
    (all_names c.args.line.now c.loop-words.names.items c.loop-words.words c.loop-words.invariant (c.is_done.ensures.0 c.loop-words-test.false))
