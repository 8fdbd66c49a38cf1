-- a reply is defined once
use Rattle.std.proofs.Common.{◌≡◌, ℕ, true, List, [], ◌∷◌, ◌++◌, Option, None, Some, refl, sym, ap, ◌∙◌, subst}
use Rattle.std.specs.Prelude.{bytes_eq, option_map, IfSome}
use Rattle.std.specs.List.{All}
use Rattle.std.proofs.lemmas.Slice.Eq.{bytes_eq-Decides}
use Rattle.aircraft_file.specs.Craft.{Craft}
use Rattle.aircraft_file.specs.Lawful.{IsLawfulCraft}
use Rattle.trim.proofs.LawLemmas.{task-once}
use Rattle.flight_state.specs.declared.leg.Leg.{Leg}
use Rattle.flight_state.specs.declared.state.FlightState.{FlightState}
use Rattle.flight_state.specs.Effective.{effective}
use Rattle.flight_row.specs.Loading.{aircraft_of}
use Rattle.flight_history.specs.declared.entry.Act.{Act}
use Rattle.flight_history.specs.declared.entry.Act.TheVariants.{NewFlight, Set, Take, Install, Release, Late, Reopen, Depart, Show}
use Rattle.flight_history.specs.declared.entry.Outcome.{Outcome}
use Rattle.flight_history.specs.declared.entry.Outcome.TheVariants as ended
use Rattle.flight_history.specs.declared.reply.Refusal.{Refusal}
use Rattle.flight_history.specs.declared.reply.Reply.{Reply}
use Rattle.flight_history.specs.declared.reply.Reply.TheVariants as says
use Rattle.flight_history.specs.declared.request.What.TheVariants.{State}
use Rattle.flight_history.specs.Fleet.{new_flight}
use Rattle.flight_history.specs.Step.{after}
use Rattle.flight_history.specs.Standing.{standing}
use Rattle.flight_history.specs.History.{Judged, acts_of, flight_at, standing_of, AreJudgedAfter}
use Rattle.flight_history.specs.Replies.{IsTaskReply, IsSheetReply, AnswersWith, Answers, IsReplyBy, IsReply}
use Rattle.reply_laws.specs.Alike.{AgreeOn, AreWithin}
use Rattle.reply_laws.proofs.AgreeLemmas.{Told, told, last-alike}
use Rattle.reply_laws.proofs.ChainLemmas.{IsOnce, some-once}
use Rattle.reply_laws.proofs.MassLemmas.{IsHeavy, lawful-found, standing-mass}
use Rattle.reply_laws.proofs.SheetLemmas.{sheet-once}

task-reply-once : (a : Craft) (s : FlightState) → IsOnce (IsTaskReply a s)
task-reply-once a s r q h g = h.2 ∙ ap says.Task (task-once a (effective s) h.0 g.0 h.1 g.1) ∙ sym g.2

sheet-reply-once : (a : Craft) (s : FlightState) → IsLawfulCraft a → IsHeavy s → IsOnce (IsSheetReply a s)
sheet-reply-once a s lawful mass r q h g = h.2 ∙ ap says.Sheet (sheet-once a s h.0 g.0 lawful mass h.1 g.1) ∙ sym g.2

-- an act that is answered with a sheet is answered for a flight with a mass
abbrev HasItsMass : Act → FlightState → Type 0
HasItsMass (Release edition) s = IsHeavy s
HasItsMass (Show what) s = IsHeavy s
HasItsMass _ s = Unit {0}

answers-once : (a : Craft) (s : FlightState) (act : Act) → IsLawfulCraft a → HasItsMass act s → IsOnce (AnswersWith a s act)
answers-once a s (NewFlight leg) lawful mass r q h g = h ∙ sym g
answers-once a s (Set edition told) lawful mass r q h g = h ∙ sym g
answers-once a s (Take edition) lawful mass r q h g = task-reply-once a s r q h g
answers-once a s (Install edition path same) lawful mass r q h g = h ∙ sym g
answers-once a s (Release edition) lawful mass r q h g = sheet-reply-once a s lawful mass r q h g
answers-once a s (Late edition change) lawful mass r q h g = h ∙ sym g
answers-once a s (Reopen edition) lawful mass r q h g = h ∙ sym g
answers-once a s (Depart edition) lawful mass r q h g = h ∙ sym g
answers-once a s (Show State) lawful mass r q h g = h ∙ sym g
answers-once a s (Show _) lawful mass r q h g = sheet-reply-once a s lawful mass r q h g

-- a flight after an act that leaves its figures has its mass
opened-any : (leg : Leg) (c : Option Craft) → IfSome (option_map (λ (a : Craft). new_flight a leg) c) (HasItsMass (NewFlight leg))
opened-any leg None = tt
opened-any leg (Some a) = tt

after-mass : (fleet : List Craft) (s : Option FlightState) (act : Act) → IfSome s IsHeavy → IfSome (after fleet s act) (HasItsMass act)
after-mass fleet None (NewFlight leg) mass = opened-any leg (aircraft_of fleet leg)
after-mass fleet None (Set edition told) mass = tt
after-mass fleet None (Take edition) mass = tt
after-mass fleet None (Install edition path same) mass = tt
after-mass fleet None (Release edition) mass = tt
after-mass fleet None (Late edition change) mass = tt
after-mass fleet None (Reopen edition) mass = tt
after-mass fleet None (Depart edition) mass = tt
after-mass fleet None (Show what) mass = tt
after-mass fleet (Some s) (NewFlight leg) mass = tt
after-mass fleet (Some s) (Set edition told) mass = tt
after-mass fleet (Some s) (Take edition) mass = tt
after-mass fleet (Some s) (Install edition path same) mass = tt
after-mass fleet (Some s) (Release edition) mass = mass
after-mass fleet (Some s) (Late edition change) mass = tt
after-mass fleet (Some s) (Reopen edition) mass = tt
after-mass fleet (Some s) (Depart edition) mass = tt
after-mass fleet (Some s) (Show what) mass = mass

-- the reply to an act at a flight with a mass
pub reply-once : (fleet : List Craft) (s : Option FlightState) (act : Act) (outcome : Outcome) (v : Option Refusal) → All IsLawfulCraft fleet → IfSome s IsHeavy → IsOnce (IsReplyBy fleet s act outcome v)
reply-once fleet s act ended.Done (Some refusal) lawful mass r q h g = h ∙ sym g
reply-once fleet s act ended.Done None lawful mass r q h g =
    some-once (HasItsMass act) (λ (next : FlightState) (x : Reply). Answers fleet next act x)
    (λ next heavy. some-once IsLawfulCraft (λ (a : Craft) (x : Reply). AnswersWith a next act x) (λ a right. answers-once a next act right heavy) (aircraft_of fleet next.leg) (lawful-found fleet next.leg lawful))
    (after fleet s act) (after-mass fleet s act mass) r q h g
reply-once fleet s act ended.KeeperFailed v lawful mass r q h g = h ∙ sym g
reply-once fleet s act ended.NoMemory v lawful mass r q h g = h ∙ sym g

-- Two histories that agree on a flight reply alike --------------------------------------------------------

eq-itself : (key : List ℕ) → bytes_eq key key ≡ true
eq-itself key = (bytes_eq-Decides key key).1 refl

pub same-replies : (fleet : List Craft) (opening opening' : List FlightState) (history history' : List Judged) (j j' : Judged) (reply reply' : Reply)
    → All IsLawfulCraft fleet → AreJudgedAfter fleet opening [] (history ++ j ∷ []) → AreJudgedAfter fleet opening' [] (history' ++ j' ∷ [])
    → j'.entry.key ≡ j.entry.key → AgreeOn j.entry.key opening opening' (history ++ j ∷ []) (history' ++ j' ∷ [])
    → AreWithin (flight_at opening j.entry.key) (acts_of j.entry.key history)
    → IsReply fleet opening history j reply → IsReply fleet opening' history' j' reply' → reply ≡ reply'
same-replies fleet opening opening' history history' j j' reply reply' lawful one other same agree within h g =
    let key = j.entry.key in
    let at' : bytes_eq j'.entry.key key ≡ true = ap (λ (k : List ℕ). bytes_eq k key) same ∙ eq-itself key in
    let alike = last-alike fleet key opening opening' history history' j j' (eq-itself key) at' one other agree in
    let own : IsReplyBy fleet (standing fleet (flight_at opening' key) (acts_of key history')) j'.entry.act j'.entry.outcome j'.verdict reply' =
    subst (λ (k : List ℕ). IsReplyBy fleet (standing_of fleet opening' history' k) j'.entry.act j'.entry.outcome j'.verdict reply') same g in
    let acts = subst (λ (xs : List Act). IsReplyBy fleet (standing fleet (flight_at opening' key) xs) j'.entry.act j'.entry.outcome j'.verdict reply') (sym alike.acts) own in
    let opened = subst (λ (o : Option FlightState). IsReplyBy fleet (standing fleet o (acts_of key history)) j'.entry.act j'.entry.outcome j'.verdict reply') (sym agree.opened) acts in
    let here = subst (λ (t : Told). IsReplyBy fleet (standing_of fleet opening history key) t.0.act t.0.outcome t.1 reply') (sym alike.last) opened in
    reply-once fleet (standing_of fleet opening history key) j.entry.act j.entry.outcome j.verdict lawful
    (standing-mass fleet (flight_at opening key) (acts_of key history) lawful within) reply reply' h here
