-- Placements by a search with prices.
use Rattle.std.proofs.Common.{◌≡◌, ℕ, List, Option, Some, None, refl, sym, ap, subst, ◌∙◌}
use Rattle.std.proofs.lemmas.Bool.{false≢true}
use Rattle.std.specs.Prelude.{IsSome, IsNone, MatchOption}
use Rattle.hold_limits.specs.Problem.{Problem}
use Rattle.hold_limits.specs.Faults.{IsLawful}
use Rattle.hold_limits.specs.Placement.{IsBest}
use Rattle.certificate.specs.Evidence.{claimed}
use Rattle.cert_checker.specs.Claims.{HasNoPlacement}
use Rattle.best_first.specs.Promising.{AreMoreThan}
use Rattle.placer.specs.AnswerText.{budget_text}
use Rattle.priced_placer.specs.PriceNear.{IsPriceNear}
use Rattle.priced_placer.specs.Answers.{IsPricedAnswerTo}
use Rattle.priced_placer.specs.AnswerText.{priced_answer_text}
use Rattle.priced_placer.specs.declared.answer.PricedAnswer.{PricedAnswer}
use Rattle.priced_placer.specs.declared.answer.PricedAnswer.TheVariants.{Best, NoneFits, Budget}
use Rattle.task_answers.specs.declared.reply.Outcome.TheVariants.{Done, NothingFits, OverBudget}
use Rattle.task_answers.specs.Names.{IsNamedTask}
use Rattle.plan_answers.specs.Outcomes.{priced_outcome}
use Rattle.plan_answers.specs.PricedReply.{IsPricedPlacing}
use Rattle.plan_answers.specs.PricedReply.IsPricedPlacing.{plan, nothing_fits, over_budget}
use Rattle.plan_answers.proofs.PricedBack.{prices-read_back}

-- a path that is claimed is the best
best-claimed : (t : Problem) (claim : Option (List ℕ)) → IsSome claim → MatchOption claim (HasNoPlacement t) (IsBest t) → (path : List ℕ) × (claim ≡ Some path) × IsBest t path
best-claimed t None some is = absurd (false≢true some)
best-claimed t (Some path) some is = (path, refl, is)

-- where none is claimed, no path is admissible
none-claimed : (t : Problem) (claim : Option (List ℕ)) → IsNone claim → MatchOption claim (HasNoPlacement t) (IsBest t) → (claim ≡ None) × HasNoPlacement t
none-claimed t None none is = (refl, is)
none-claimed t (Some path) none is = absurd (false≢true (sym none))

pub is-priced-placing : (t : Problem) (budget : ℕ) (answer : PricedAnswer) (text : List ℕ) → IsLawful t → IsNamedTask t → IsPricedAnswerTo t budget answer
    → text ≡ priced_answer_text t answer → IsPricedPlacing t budget (priced_outcome answer) text
is-priced-placing t budget (Best c) text lawful named to is =
    let path = best-claimed t (claimed c.claim) to.best to.near.claim in
    subst (IsPricedPlacing t budget Done) (sym is)
    (plan path.0 c path.2 path.1 (record { near = to.near; good = to.good; enough = to.enough }) (prices-read_back t lawful budget c named to.near to.good to.enough))
is-priced-placing t budget (NoneFits c) text lawful named to is =
    let none = none-claimed t (claimed c.claim) to.none to.near.claim in
    subst (IsPricedPlacing t budget NothingFits) (sym is)
    (nothing_fits c none.1 none.0 (record { near = to.near; good = to.good; enough = to.enough }) (prices-read_back t lawful budget c named to.near to.good to.enough))
is-priced-placing t budget (Budget n) text lawful named to is =
    subst (IsPricedPlacing t budget OverBudget) (sym (is ∙ ap budget_text to.spent)) (over_budget (subst (AreMoreThan (IsPriceNear t)) to.spent to.over))
