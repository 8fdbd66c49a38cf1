-- The answers to questions about a flight in transit.
use Rattle.std.proofs.Common.{◌≡◌, ℕ, List, ◌++◌, Some, sym, ap, subst, ◌∙◌}
use Rattle.hold_limits.specs.Placement.{IsBest}
use Rattle.certificate.specs.Evidence.{claimed}
use Rattle.certificate.specs.declared.parts.Certificate.{Certificate}
use Rattle.placer.specs.AnswerText.{evidence_text}
use Rattle.task_answers.specs.declared.reply.Outcome.{Outcome}
use Rattle.task_answers.specs.declared.reply.Outcome.TheVariants.{Done, NothingFits, OverBudget}
use Rattle.task_answers.specs.NearReply.{IsPlacing}
use Rattle.hold_limits.specs.Problem.{Problem}
use Rattle.ldm_cpm.specs.Messages.{Placing, IsCpm}
use Rattle.transit_messages.specs.Onward.{onward_message, onward_placings, Carries, Keeps}
use Rattle.transit_answers.specs.Flights.{Transit, around}
use Rattle.transit_answers.specs.TransitReply.{IsOnward, IsTransitPlacing}
use Rattle.transit_answers.specs.TransitReply.IsTransitPlacing.{plan, nothing_fits, over_budget}

-- the message of the path, which is written for what stays and for the next station
pub onward-written : (flight : Transit) (stay : List Placing) (to next path text : List ℕ) → stay ≡ flight.stay → to ≡ next
    → IsCpm text (onward_message flight.heading to stay flight.task path) → Carries to flight.task path (onward_placings to stay flight.task path)
    → Keeps stay (onward_placings to stay flight.task path) → IsOnward flight next path text
onward-written flight stay to next path text same told is carries keeps =
    let t = flight.task in
    record {
      is = subst (λ n. IsCpm text (onward_message flight.heading n flight.stay t path)) told
          (subst (λ (ps : List Placing). IsCpm text (onward_message flight.heading to ps t path)) same is);
      carries = subst (λ n. Carries n t path (onward_placings n flight.stay t path)) told
          (subst (λ (ps : List Placing). Carries to t path (onward_placings to ps t path)) same carries);
      keeps = subst (λ n. Keeps flight.stay (onward_placings n flight.stay t path)) told
          (subst (λ (ps : List Placing). Keeps ps (onward_placings to ps t path)) same keeps);
    }

module _ (flight : Transit) (next : List ℕ) (budget : ℕ) where
  -- a plan of the task around what stays, and the onward message behind it
  pub plan-onward : (u : Problem) (path : List ℕ) (c : Certificate) (outcome : Outcome) (text told : List ℕ) → u ≡ around flight → IsBest u path → claimed c.claim ≡ Some path
      → IsPlacing u budget outcome text → outcome ≡ Done → text ≡ evidence_text u c
      → (message : List ℕ) × (told ≡ text ++ message) × IsOnward flight next path message → IsTransitPlacing flight next budget outcome told
  plan-onward u path c outcome text told same best claim placing done is behind =
      let written : text ≡ evidence_text (around flight) c = is ∙ ap (λ (p : Problem). evidence_text p c) same in
      let placed : IsPlacing (around flight) budget Done (evidence_text (around flight) c) =
      subst (λ (o : Outcome). IsPlacing (around flight) budget o (evidence_text (around flight) c)) done
      (subst (IsPlacing (around flight) budget outcome) written (subst (λ (p : Problem). IsPlacing p budget outcome text) same placing)) in
      let whole : told ≡ evidence_text (around flight) c ++ behind.0 = behind.1 ∙ ap (λ t. t ++ behind.0) written in
      subst (λ (o : Outcome). IsTransitPlacing flight next budget o told) (sym done)
      (subst (IsTransitPlacing flight next budget Done) (sym whole)
      (plan path c behind.0 (subst (λ (p : Problem). IsBest p path) same best) claim placed behind.2))

  pub none-onward : (u : Problem) (outcome : Outcome) (text : List ℕ) → u ≡ around flight → IsPlacing u budget outcome text → outcome ≡ NothingFits
      → IsTransitPlacing flight next budget outcome text
  none-onward u outcome text same placing is =
      subst (λ (o : Outcome). IsTransitPlacing flight next budget o text) (sym is)
      (nothing_fits text (subst (λ (o : Outcome). IsPlacing (around flight) budget o text) is (subst (λ (p : Problem). IsPlacing p budget outcome text) same placing)))

  pub budget-onward : (u : Problem) (outcome : Outcome) (text : List ℕ) → u ≡ around flight → IsPlacing u budget outcome text → outcome ≡ OverBudget
      → IsTransitPlacing flight next budget outcome text
  budget-onward u outcome text same placing is =
      subst (λ (o : Outcome). IsTransitPlacing flight next budget o text) (sym is)
      (over_budget text (subst (λ (o : Outcome). IsPlacing (around flight) budget o text) is (subst (λ (p : Problem). IsPlacing p budget outcome text) same placing)))
