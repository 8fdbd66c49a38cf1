-- Replies to the arguments: there is one job for them, and its input is right or refused, never both.
use Rattle.std.proofs.Common.{◌∙◌, ◌≡◌, ◌≢◌, ℕ, zero, suc, List, Option, Some, None, arith, refl, sym, subst}
use Rattle.std.specs.Option.{IsSomeAnd}
use Rattle.std.specs.Prelude.{All}
use Rattle.std.proofs.lemmas.List.Elements.{All-weaker}
use Rattle.load_io.specs.Shelf.{Files}
use Rattle.hold_parts.specs.Spellings.{IsName}
use Rattle.hold_parts.specs.declared.parts.Position.{Position}
use Rattle.hold_limits.specs.Problem.{Problem}
use Rattle.stop_tasks.specs.Stops.{Stops}
use Rattle.stop_tasks.specs.StopFaults.{AreLawfulStops}
use Rattle.stop_text.specs.declared.fault.StopTextFault.TheVariants as stop
use Rattle.stop_text.proofs.LawLemmas.{lawful_not_refused as load_not_refused}
use Rattle.problem_text.specs.TaskText.{IsSpelledPosition}
use Rattle.problem_text.specs.declared.fault.TextFault.TheVariants as text
use Rattle.problem_text.proofs.RefusalLemmas.{spelled_once, lawful_not_refused}
use Rattle.certificate.specs.declared.fault.CertFault.TheVariants as cert
use Rattle.certificate.specs.declared.parts.Certificate.{Certificate}
use Rattle.certificate.proofs.ReadLemmas.{spelled_has_no_fault}
use Rattle.tree_certificate.specs.Listed.{ListedTrees}
use Rattle.tree_certificate.proofs.ReadLemmas.{spelled_has_no_fault as trees_have_no_fault}
use Rattle.task_answers.specs.declared.reply.Outcome.{Outcome}
use Rattle.task_answers.specs.declared.reply.Outcome.TheVariants.{Usage, BadInput}
use Rattle.plan_commands.specs.Arguments.{FlightNames, Job, IsCommand, AreInvalid}
use Rattle.plan_commands.specs.Arguments.Job.{generate}
use Rattle.plan_answers.specs.ReplyText.{usage_text}
use Rattle.plan_answers.specs.NearReply.{IsCertificateIn, IsCertificateRefusal, IsPlacing, IsJudgement}
use Rattle.plan_answers.specs.NearReply.IsCertificateRefusal.{too_long as certificate_too_long, no_certificate}
use Rattle.plan_answers.specs.NearReply.IsPlacing.{plan, nothing_fits, over_budget}
use Rattle.plan_answers.specs.NearReply.IsJudgement.{good, rejected}
use Rattle.plan_answers.specs.TreeReply.{AreTreesIn, IsTreeRefusal, IsTreePlacing, IsTreeJudgement}
use Rattle.plan_answers.specs.TreeReply.IsTreeRefusal.{too_long as trees_too_long, no_trees}
use Rattle.plan_answers.specs.TreeReply.IsTreePlacing.{plan as tree_plan, nothing_fits as tree_nothing_fits, near_plan, nothing_near, undecided}
use Rattle.plan_answers.specs.TreeReply.IsTreeJudgement.{good as good_trees, rejected as rejected_trees}
use Rattle.priced_certificate.specs.declared.parts.PricedCertificate.{PricedCertificate}
use Rattle.priced_certificate.proofs.PricedParts.{spelled_has_no_fault as prices_have_no_fault}
use Rattle.plan_answers.specs.PricedReply.{IsPricedIn, IsPricedRefusal, IsPricedPlacing, IsPricedJudgement}
use Rattle.plan_answers.specs.PricedReply.IsPricedRefusal.{too_long as prices_too_long, no_certificate as no_prices}
use Rattle.plan_answers.specs.PricedReply.IsPricedPlacing.{plan as priced_plan, nothing_fits as priced_nothing_fits, over_budget as priced_over_budget}
use Rattle.plan_answers.specs.PricedReply.IsPricedJudgement.{good as good_prices, rejected as rejected_prices}
use Rattle.plan_answers.specs.StopReply.{IsStopsIn, IsStopRefusal, IsStopPlacing}
use Rattle.plan_answers.specs.StopReply.IsStopRefusal.{too_long as stops_too_long, no_load}
use Rattle.plan_answers.specs.StopReply.IsStopPlacing.{plan as stop_plan, nothing_fits as stop_nothing_fits, over_budget as stop_over_budget}
use Rattle.ldm_cpm.specs.Messages.{LoadMessage, HoldMessage}
use Rattle.transit_tasks.specs.declared.fault.TransitFault.{TransitFault}
use Rattle.transit_answers.specs.Flights.{Transit, IsTransitIn, IsTransitFault}
use Rattle.transit_answers.specs.Flights.IsTransitFault.{of_heads, of_totals, of_staying}
use Rattle.transit_answers.specs.MessageFiles.{IsCpmIn, IsLdmIn, IsCpmRefusal, IsLdmRefusal}
use Rattle.transit_answers.specs.MessageFiles.IsCpmRefusal.{too_long as cpm_too_long, no_message as no_cpm}
use Rattle.transit_answers.specs.MessageFiles.IsLdmRefusal.{too_long as ldm_too_long, no_message as no_ldm}
use Rattle.transit_answers.specs.TransitReply.{IsTransitPlacing, IsAnswerAbout, IsTransitAnswer}
use Rattle.transit_answers.specs.TransitReply.IsTransitPlacing.{plan as transit_plan, nothing_fits as transit_nothing_fits, over_budget as transit_over_budget}
use Rattle.transit_answers.specs.TransitReply.IsAnswerAbout.{placed as placed_around, made}
use Rattle.transit_answers.specs.declared.answers.TransitQuestion.{TransitQuestion}
use Rattle.plan_reasons.specs.Explanation.{IsExplanation, outcome_of, outcome_with}
use Rattle.plan_reasons.specs.WhyText.{unknown_in}
use Rattle.plan_reasons.specs.declared.reasons.Why.{Why}
use Rattle.plan_reasons.specs.declared.reasons.Why.TheVariants as explained_by
use Rattle.plan_answers.specs.AnyReply.{AnyListed, IsAnyIn, IsAnyRefusal, IsAnyJudgement}
use Rattle.plan_answers.specs.AnyReply.AnyListed.{of_cuts, of_trees}
use Rattle.plan_answers.specs.AnyReply.IsAnyRefusal.{too_long as any_too_long, no_cuts, no_trees as none_of_trees}
use Rattle.plan_commands.specs.Reply.{IsTaskIn, IsRefusal, IsCertificateFile, IsAnyFile, IsPricedFile, StateTransit, AreRefusedInTransit, IsAnswer, IsAnswerAlone, IsAnswerOver, IsBadInput, NeedsFiles, IsBadInputOver, IsReply, IsReplyOver, HasInput, HaveInput, HaveBadInput, IsAnswered}
use Rattle.plan_answers.specs.SummaryReply.{IsSummary}
use Rattle.plan_commands.specs.Reply.IsRefusal.{too_long as task_too_long, no_task}
use Rattle.plan_answers.specs.SummaryReply.IsSummary.{plan_summed, none_summed, budget_summed}
use Rattle.plan_commands.specs.Reply.IsAnswer.{placed, judged, placed_by_trees, explained, any_judged, placed_with_prices, prices_judged, placed_over_sectors, answered_in_transit, summed}
use Rattle.plan_commands.specs.Reply.IsBadInput.{bad_task, bad_checked_task, bad_certificate, bad_best_task, bad_task_of_why, bad_task_of_any, bad_any, bad_priced_task, bad_task_of_prices, bad_prices, bad_stops, bad_transit}
use Rattle.plan_commands.specs.Reply.AreRefusedInTransit.{wrong_task, wrong_cpm, wrong_ldm, no_transit}
use Rattle.plan_commands.specs.Reply.IsReply.{answered, refused, usage}
use Rattle.plan_commands.specs.Reply.IsAnswered.{is_done, is_nothing_fits, is_over_budget, is_undecided, is_rejected}
use Rattle.plan_commands.proofs.OneJob.{one_form}

-- Right and refused -----------------------------------------------------------------------------

-- what holds of the bytes of a file, twice
both : {X : Type 0} (file : Option (List ℕ)) (P Q : List ℕ → Type 0) → IsSomeAnd file P → IsSomeAnd file Q → ((bytes : List ℕ) → P bytes → Q bytes → X) → X
both None P Q p q then = absurd p
both (Some bytes) P Q p q then = then bytes p q

task-not_refused : (bytes line : List ℕ) (t : Problem) → IsTaskIn bytes t → IsRefusal bytes line → ⊥
task-not_refused bytes _ t right (task_too_long long) = absurd (omega (arith, right.short))
task-not_refused bytes _ t right (no_task fault line short why is) =
    let none : fault ≡ text.NoMemory = lawful_not_refused bytes t fault right.spelled right.hold right.task why in
    rw none at is

-- the positions of a task that a text spells have names
names : (bytes : List ℕ) (t : Problem) → IsTaskIn bytes t → All (λ (q : Position). IsName q.name) t.hold.positions
names bytes t right = All-weaker IsSpelledPosition (λ (q : Position). IsName q.name) (λ q spelled. spelled.name) t.hold.positions right.spelled.spelled.positions

certificate-not_refused : (t : Problem) (bytes line : List ℕ) (c : Certificate) → All (λ (q : Position). IsName q.name) t.hold.positions
    → IsCertificateIn t bytes c → IsCertificateRefusal t bytes line → ⊥
certificate-not_refused t bytes _ c named right (certificate_too_long long) = absurd (omega (arith, right.short))
certificate-not_refused t bytes _ c named right (no_certificate fault line short why is) =
    let ps = t.hold.positions in
    let none : fault ≡ cert.NoMemory = spelled_has_no_fault ps named bytes c fault right.spelled why in
    rw none at is

trees-not_refused : (t : Problem) (bytes line : List ℕ) (c : ListedTrees) → All (λ (q : Position). IsName q.name) t.hold.positions
    → AreTreesIn t bytes c → IsTreeRefusal t bytes line → ⊥
trees-not_refused t bytes _ c named right (trees_too_long long) = absurd (omega (arith, right.short))
trees-not_refused t bytes _ c named right (no_trees fault line short why is) =
    let none : fault ≡ cert.NoMemory = trees_have_no_fault t.hold.positions named bytes c fault right.spelled why in
    rw none at is

prices-not_refused : (t : Problem) (bytes line : List ℕ) (c : PricedCertificate) → All (λ (q : Position). IsName q.name) t.hold.positions
    → IsPricedIn t bytes c → IsPricedRefusal t bytes line → ⊥
prices-not_refused t bytes _ c named right (prices_too_long long) = absurd (omega (arith, right.short))
prices-not_refused t bytes _ c named right (no_prices fault line short why is) =
    let none : fault ≡ cert.NoMemory = prices_have_no_fault t.hold.positions named bytes c fault right.spelled why in
    rw none at is

any-not_refused : (t : Problem) (bytes line : List ℕ) (c : AnyListed) → All (λ (q : Position). IsName q.name) t.hold.positions
    → IsAnyIn t bytes c → IsAnyRefusal t bytes line → ⊥
any-not_refused t bytes _ (of_cuts c) named right (any_too_long long) = absurd (omega (arith, right.1.short))
any-not_refused t bytes _ (of_cuts c) named right (no_cuts line begins refusal) = certificate-not_refused t bytes line c named right.1 refusal
any-not_refused t bytes _ (of_cuts c) named right (none_of_trees line none refusal) = none right.0
any-not_refused t bytes _ (of_trees c) named right (any_too_long long) = absurd (omega (arith, right.1.short))
any-not_refused t bytes _ (of_trees c) named right (no_cuts line begins refusal) = right.0 begins
any-not_refused t bytes _ (of_trees c) named right (none_of_trees line none refusal) = trees-not_refused t bytes line c named right.1 refusal

stops-not_refused : (bytes line : List ℕ) (t : Stops) → IsStopsIn bytes t → IsStopRefusal bytes line → ⊥
stops-not_refused bytes _ t right (stops_too_long long) = absurd (omega (arith, right.short))
stops-not_refused bytes _ t right (no_load fault line short why is) =
    let lawful = subst AreLawfulStops right.is right.lawful in
    let none : fault ≡ stop.NoMemory = load_not_refused bytes right.file fault right.spelled right.tasks lawful why in
    rw none at is

cpm-not_refused : (bytes line : List ℕ) (m : HoldMessage) → IsCpmIn bytes m → IsCpmRefusal bytes line → ⊥
cpm-not_refused bytes _ m right (cpm_too_long long) = absurd (omega (arith, right.short))
cpm-not_refused bytes _ m right (no_cpm fault line short none why is) = none m right.is

ldm-not_refused : (bytes line : List ℕ) (m : LoadMessage) → IsLdmIn bytes m → IsLdmRefusal bytes line → ⊥
ldm-not_refused bytes _ m right (ldm_too_long long) = absurd (omega (arith, right.short))
ldm-not_refused bytes _ m right (no_ldm fault line short none why is) = none m right.is

-- messages that agree, of a flight of which nothing is wrong, have no fault
transit-no_fault : (station : List ℕ) (t : Problem) (cpm : HoldMessage) (ldm : LoadMessage) (flight : Transit) (fault : TransitFault)
    → IsTransitIn station t cpm ldm flight → IsTransitFault station t cpm ldm fault → ⊥
transit-no_fault station t cpm ldm flight _ stated (of_heads differ) = differ stated.agree.heading
transit-no_fault station t cpm ldm flight _ stated (of_totals heading differ) = differ stated.agree.mass
transit-no_fault station t cpm ldm flight _ stated (of_staying fault agree is) = let e = sym stated.right ∙ is in cc

-- the files of a flight in transit are not refused where they state one
transit-not_refused : (files : Files) (names : FlightNames) (line : List ℕ) (flight : Transit) → StateTransit files names flight
    → AreRefusedInTransit files names line → ⊥
transit-not_refused files names _ flight right (wrong_task line wrong) =
    both (files names.task) (λ bytes. IsTaskIn bytes right.t) (λ bytes. IsRefusal bytes line) right.files.task wrong
    (λ bytes task refusal. task-not_refused bytes line right.t task refusal)
transit-not_refused files names _ flight right (wrong_cpm t line task wrong) =
    both (files names.cpm) (λ bytes. IsCpmIn bytes right.cpm) (λ bytes. IsCpmRefusal bytes line) right.files.cpm wrong
    (λ bytes cpm refusal. cpm-not_refused bytes line right.cpm cpm refusal)
transit-not_refused files names _ flight right (wrong_ldm t cpm line task container wrong) =
    both (files names.ldm) (λ bytes. IsLdmIn bytes right.ldm) (λ bytes. IsLdmRefusal bytes line) right.files.ldm wrong
    (λ bytes ldm refusal. ldm-not_refused bytes line right.ldm ldm refusal)
transit-not_refused files names _ flight right (no_transit t cpm ldm line are refusal) =
    both (files names.task) (λ bytes. IsTaskIn bytes right.t) (λ bytes. IsTaskIn bytes t) right.files.task are.task
    (λ _ task other_task.
    both (files names.cpm) (λ bytes. IsCpmIn bytes right.cpm) (λ bytes. IsCpmIn bytes cpm) right.files.cpm are.cpm
    (λ _ container other_container.
    both (files names.ldm) (λ bytes. IsLdmIn bytes right.ldm) (λ bytes. IsLdmIn bytes ldm) right.files.ldm are.ldm
    (λ _ load other_load.
    let same_task : right.t ≡ t = spelled_once _ right.t t task.spelled other_task.spelled in
    let same_cpm : right.cpm ≡ cpm = container.alone cpm other_container.is in
    let same_ldm : right.ldm ≡ ldm = load.alone ldm other_load.is in
    let stated : IsTransitIn names.station t cpm ldm flight =
    subst (λ (m : LoadMessage). IsTransitIn names.station t cpm m flight) same_ldm
    (subst (λ (m : HoldMessage). IsTransitIn names.station t m right.ldm flight) same_cpm
    (subst (λ (p : Problem). IsTransitIn names.station p right.cpm right.ldm flight) same_task right.stated)) in
    transit-no_fault names.station t cpm ldm flight refusal.fault stated refusal.first)))

-- the files of a job are not refused where they are right
right-not_bad : (files : Files) (job : Job) (line : List ℕ) → IsBadInput files job line → HasInput files job → ⊥
right-not_bad files _ _ (bad_task task budget line wrong) input =
    both (files task) (λ bytes. IsTaskIn bytes input.0) (λ bytes. IsRefusal bytes line) input.1 wrong (λ bytes right long. task-not_refused bytes line input.0 right long)
right-not_bad files _ _ (bad_checked_task task certificate line wrong) input =
    both (files task) (λ bytes. IsTaskIn bytes input.0) (λ bytes. IsRefusal bytes line) input.2 wrong (λ bytes right long. task-not_refused bytes line input.0 right long)
right-not_bad files _ _ (bad_certificate task certificate t line there wrong) input =
    both (files task) (λ bytes. IsTaskIn bytes input.0) (λ bytes. IsTaskIn bytes t) input.2 there
    (λ bytes right other.
    let same : input.0 ≡ t = spelled_once bytes input.0 t right.spelled other.spelled in
    both (files certificate) (λ bytes. IsCertificateIn t bytes input.1) (λ bytes. IsCertificateRefusal t bytes line)
    (subst (λ (p : Problem). IsCertificateFile files certificate p input.1) same input.3) wrong
    (λ evidence whole refusal. certificate-not_refused t evidence line input.1 (names bytes t other) whole refusal))
right-not_bad files _ _ (bad_best_task task looks line wrong) input =
    both (files task) (λ bytes. IsTaskIn bytes input.0) (λ bytes. IsRefusal bytes line) input.1 wrong (λ bytes right long. task-not_refused bytes line input.0 right long)
right-not_bad files _ _ (bad_task_of_why task looks line wrong) input =
    both (files task) (λ bytes. IsTaskIn bytes input.0) (λ bytes. IsRefusal bytes line) input.1 wrong (λ bytes right long. task-not_refused bytes line input.0 right long)
right-not_bad files _ _ (bad_task_of_any task certificate line wrong) input =
    both (files task) (λ bytes. IsTaskIn bytes input.0) (λ bytes. IsRefusal bytes line) input.2 wrong (λ bytes right long. task-not_refused bytes line input.0 right long)
right-not_bad files _ _ (bad_any task certificate t line there wrong) input =
    both (files task) (λ bytes. IsTaskIn bytes input.0) (λ bytes. IsTaskIn bytes t) input.2 there
    (λ bytes right other.
    let same : input.0 ≡ t = spelled_once bytes input.0 t right.spelled other.spelled in
    both (files certificate) (λ bytes. IsAnyIn t bytes input.1) (λ bytes. IsAnyRefusal t bytes line)
    (subst (λ (p : Problem). IsAnyFile files certificate p input.1) same input.3) wrong
    (λ evidence whole refusal. any-not_refused t evidence line input.1 (names bytes t other) whole refusal))
right-not_bad files _ _ (bad_priced_task task budget line wrong) input =
    both (files task) (λ bytes. IsTaskIn bytes input.0) (λ bytes. IsRefusal bytes line) input.1 wrong (λ bytes right long. task-not_refused bytes line input.0 right long)
right-not_bad files _ _ (bad_task_of_prices task certificate line wrong) input =
    both (files task) (λ bytes. IsTaskIn bytes input.0) (λ bytes. IsRefusal bytes line) input.2 wrong (λ bytes right long. task-not_refused bytes line input.0 right long)
right-not_bad files _ _ (bad_prices task certificate t line there wrong) input =
    both (files task) (λ bytes. IsTaskIn bytes input.0) (λ bytes. IsTaskIn bytes t) input.2 there
    (λ bytes right other.
    let same : input.0 ≡ t = spelled_once bytes input.0 t right.spelled other.spelled in
    both (files certificate) (λ bytes. IsPricedIn t bytes input.1) (λ bytes. IsPricedRefusal t bytes line)
    (subst (λ (p : Problem). IsPricedFile files certificate p input.1) same input.3) wrong
    (λ evidence whole refusal. prices-not_refused t evidence line input.1 (names bytes t other) whole refusal))
right-not_bad files _ _ (bad_transit names question line wrong) input = transit-not_refused files names line input.0 input.1 wrong
right-not_bad files _ _ (bad_stops file budget line wrong) input =
    both (files file) (λ bytes. IsStopsIn bytes input.0) (λ bytes. IsStopRefusal bytes line) input.1 wrong (λ bytes right refusal. stops-not_refused bytes line input.0 right refusal)

-- Answers ---------------------------------------------------------------------------------------

pub placing-answered : (t : Problem) (budget : ℕ) (outcome : Outcome) (text : List ℕ) → IsPlacing t budget outcome text → IsAnswered outcome
placing-answered t budget _ _ (plan path c best claim evidence back) = is_done
placing-answered t budget _ _ (nothing_fits c none claim evidence back) = is_nothing_fits
placing-answered t budget _ _ (over_budget more) = is_over_budget

pub judgement-answered : (t : Problem) (c : Certificate) (outcome : Outcome) (text : List ℕ) → IsJudgement t c outcome text → IsAnswered outcome
judgement-answered t c _ _ (good is so) = is_done
judgement-answered t c _ _ (rejected reason first) = is_rejected

pub summary-answered : (number : ℕ) (outcome : Outcome) (text : List ℕ) → IsSummary number outcome text → IsAnswered outcome
summary-answered number _ _ (plan_summed path c best claim evidence) = is_done
summary-answered number _ _ (none_summed c none claim evidence) = is_done
summary-answered number _ _ (budget_summed more) = is_over_budget

pub tree-placing-answered : (t : Problem) (looks : ℕ) (outcome : Outcome) (text : List ℕ) → IsTreePlacing t looks outcome text → IsAnswered outcome
tree-placing-answered t looks _ _ (tree_plan path c best claim is_good back) = is_done
tree-placing-answered t looks _ _ (tree_nothing_fits c none claim is_good back) = is_nothing_fits
tree-placing-answered t looks _ _ (near_plan path c best claim evidence back) = is_done
tree-placing-answered t looks _ _ (nothing_near c none claim evidence back) = is_nothing_fits
tree-placing-answered t looks _ _ (undecided more) = is_undecided

counted-answered : (unknown : ℕ) → IsAnswered (outcome_with unknown)
counted-answered zero = is_nothing_fits
counted-answered (suc n) = is_undecided

why-answered : (why : Why) → IsAnswered (outcome_of why)
why-answered explained_by.Plan = is_done
why-answered (explained_by.NoPlan reasons) = counted-answered (unknown_in reasons)
why-answered (explained_by.Open reasons) = is_undecided

pub explanation-answered : (t : Problem) (looks : ℕ) (outcome : Outcome) (text : List ℕ) → IsExplanation t looks outcome text → IsAnswered outcome
explanation-answered t looks outcome text is = subst IsAnswered (sym is.outcome_is) (why-answered is.why)

tree-judgement-answered : (t : Problem) (c : ListedTrees) (outcome : Outcome) (text : List ℕ) → IsTreeJudgement t c outcome text → IsAnswered outcome
tree-judgement-answered t c _ _ (good_trees is so) = is_done
tree-judgement-answered t c _ _ (rejected_trees reason line not_good first is) = is_rejected

pub any-judgement-answered : (t : Problem) (c : AnyListed) (outcome : Outcome) (text : List ℕ) → IsAnyJudgement t c outcome text → IsAnswered outcome
any-judgement-answered t (of_cuts c) outcome text is = judgement-answered t c outcome text is
any-judgement-answered t (of_trees c) outcome text is = tree-judgement-answered t c outcome text is

pub priced-placing-answered : (t : Problem) (budget : ℕ) (outcome : Outcome) (text : List ℕ) → IsPricedPlacing t budget outcome text → IsAnswered outcome
priced-placing-answered t budget _ _ (priced_plan path c best claim evidence back) = is_done
priced-placing-answered t budget _ _ (priced_nothing_fits c none claim evidence back) = is_nothing_fits
priced-placing-answered t budget _ _ (priced_over_budget more) = is_over_budget

pub priced-judgement-answered : (t : Problem) (c : PricedCertificate) (outcome : Outcome) (text : List ℕ) → IsPricedJudgement t c outcome text → IsAnswered outcome
priced-judgement-answered t c _ _ (good_prices is so) = is_done
priced-judgement-answered t c _ _ (rejected_prices reason first) = is_rejected

pub stop-placing-answered : (t : Stops) (budget : ℕ) (outcome : Outcome) (text : List ℕ) → IsStopPlacing t budget outcome text → IsAnswered outcome
stop-placing-answered t budget _ _ (stop_plan path best enough) = is_done
stop-placing-answered t budget _ _ (stop_nothing_fits none enough) = is_nothing_fits
stop-placing-answered t budget _ _ (stop_over_budget more) = is_over_budget

transit-placing-answered : (flight : Transit) (next : List ℕ) (budget : ℕ) (outcome : Outcome) (text : List ℕ) → IsTransitPlacing flight next budget outcome text
    → IsAnswered outcome
transit-placing-answered flight next budget _ _ (transit_plan path c message best claim is onward) = is_done
transit-placing-answered flight next budget _ _ (transit_nothing_fits text is) = is_nothing_fits
transit-placing-answered flight next budget _ _ (transit_over_budget text is) = is_over_budget

about-answered : (flight : Transit) (next : List ℕ) (question : TransitQuestion) (outcome : Outcome) (text : List ℕ)
    → IsAnswerAbout flight next question outcome text → IsAnswered outcome
about-answered flight next _ _ _ (placed_around budget outcome text is) = transit-placing-answered flight next budget outcome text is
about-answered flight next _ _ _ (made text is) = is_done

pub transit-answered : (flight : Transit) (next : List ℕ) (question : TransitQuestion) (outcome : Outcome) (text : List ℕ)
    → IsTransitAnswer flight next question outcome text → IsAnswered outcome
transit-answered flight next question outcome text is = about-answered flight next question outcome text is.answer

answer-answered : (files : Files) (job : Job) (outcome : Outcome) (text : List ℕ) → IsAnswer files job outcome text → IsAnswered outcome
answer-answered files _ _ _ (placed task budget t outcome text file is) = placing-answered t budget outcome text is
answer-answered files _ _ _ (judged task certificate t c outcome text file evidence is) = judgement-answered t c outcome text is
answer-answered files _ _ _ (placed_by_trees task looks t outcome text file is) = tree-placing-answered t looks outcome text is
answer-answered files _ _ _ (explained task looks t outcome text file is) = explanation-answered t looks outcome text is
answer-answered files _ _ _ (any_judged task certificate t c outcome text file evidence is) = any-judgement-answered t c outcome text is
answer-answered files _ _ _ (placed_with_prices task budget t outcome text file is) = priced-placing-answered t budget outcome text is
answer-answered files _ _ _ (prices_judged task certificate t c outcome text file evidence is) = priced-judgement-answered t c outcome text is
answer-answered files _ _ _ (placed_over_sectors file budget t outcome text read is) = stop-placing-answered t budget outcome text is
answer-answered files _ _ _ (answered_in_transit names question flight outcome text stated is) = transit-answered flight names.next question outcome text is
answer-answered files _ _ _ (summed number outcome text is) = summary-answered number outcome text is

answer-input : (files : Files) (job : Job) (outcome : Outcome) (text : List ℕ) → IsAnswer files job outcome text → HasInput files job
answer-input files _ _ _ (placed task budget t outcome text file is) = (t, file)
answer-input files _ _ _ (judged task certificate t c outcome text file evidence is) = (t, c, file, evidence)
answer-input files _ _ _ (placed_by_trees task looks t outcome text file is) = (t, file)
answer-input files _ _ _ (explained task looks t outcome text file is) = (t, file)
answer-input files _ _ _ (any_judged task certificate t c outcome text file evidence is) = (t, c, file, evidence)
answer-input files _ _ _ (placed_with_prices task budget t outcome text file is) = (t, file)
answer-input files _ _ _ (prices_judged task certificate t c outcome text file evidence is) = (t, c, file, evidence)
answer-input files _ _ _ (placed_over_sectors file budget t outcome text read is) = (t, read)
answer-input files _ _ _ (answered_in_transit names question flight outcome text stated is) = (flight, stated)
answer-input files _ _ _ (summed number outcome text is) = tt

pub answered-not_usage : (outcome : Outcome) → IsAnswered outcome → outcome ≢ Usage
answered-not_usage _ is_done = λ e. cc
answered-not_usage _ is_nothing_fits = λ e. cc
answered-not_usage _ is_over_budget = λ e. cc
answered-not_usage _ is_undecided = λ e. cc
answered-not_usage _ is_rejected = λ e. cc

-- Replies ---------------------------------------------------------------------------------------

pub answered-from_reply : (arguments : List (List ℕ)) (files : Files) (outcome : Outcome) (text : List ℕ) → HaveInput arguments files
    → IsReply arguments files outcome text → IsAnswered outcome
answered-from_reply arguments files _ _ input (answered job outcome text command is) = answer-answered files job outcome text is
answered-from_reply arguments files _ _ input (refused job line command bad) =
    let same : input.0 ≡ job = one_form arguments input.0 job input.1.form command.form in
    absurd (right-not_bad files job line bad (subst (HasInput files) same input.2))
answered-from_reply arguments files _ _ input (usage invalid) = absurd (invalid input.0 input.1)

pub bad_input-from_reply : (arguments : List (List ℕ)) (files : Files) (outcome : Outcome) (text : List ℕ) → HaveBadInput arguments files
    → IsReply arguments files outcome text → outcome ≡ BadInput
bad_input-from_reply arguments files _ _ input (answered job outcome text command is) =
    let same : input.0 ≡ job = one_form arguments input.0 job input.2.form command.form in
    absurd (right-not_bad files job input.1 (subst (λ j. IsBadInput files j input.1) same input.3) (answer-input files job outcome text is))
bad_input-from_reply arguments files _ _ input (refused job line command bad) = refl
bad_input-from_reply arguments files _ _ input (usage invalid) = absurd (invalid input.0 input.2)

pub usage-reply : (arguments : List (List ℕ)) (exposed : Option Files) (outcome : Outcome) (text : List ℕ) → AreInvalid arguments → outcome ≡ Usage → text ≡ usage_text
    → IsReplyOver arguments exposed outcome text
usage-reply arguments None outcome text invalid is line = λ number command. absurd (invalid (generate number) command)
usage-reply arguments (Some files) outcome text invalid is line =
    subst (λ o. IsReply arguments files o text) (sym is) (subst (IsReply arguments files Usage) (sym line) (usage invalid))

pub answered-reply : (arguments : List (List ℕ)) (exposed : Option Files) (job : Job) (outcome : Outcome) (text : List ℕ) → IsCommand arguments job
    → IsAnswerOver exposed job outcome text → IsReplyOver arguments exposed outcome text
answered-reply arguments None job outcome text command is = λ number generates.
    subst (λ j. IsAnswerAlone j outcome text) (one_form arguments job (generate number) command.form generates.form) is
answered-reply arguments (Some files) job outcome text command is = answered job outcome text command is

pub refused-reply : (arguments : List (List ℕ)) (exposed : Option Files) (job : Job) (line : List ℕ) → IsCommand arguments job
    → IsBadInputOver exposed job line → IsReplyOver arguments exposed BadInput line
refused-reply arguments None job line command is = λ number generates.
    absurd (subst NeedsFiles (one_form arguments job (generate number) command.form generates.form) is)
refused-reply arguments (Some files) job line command is = refused job line command is
