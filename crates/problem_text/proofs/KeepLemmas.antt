-- position numbers as bytes change no answer
use Rattle.std.proofs.Common.{◌≡◌, ⊎_elim, ℕ, ◌≤◌, true, false, Bool, ◌||◌, nat_lt, List, [], ◌∷◌, length, map, refl, sym, ◌∙◌, ap, subst, arith, All, Result, Ok, Err, Option, Some, None, option_map, IfSome, IfOk, IfErr, MatchResult}
use Rattle.std.proofs.lemmas.Bool.{cases_Bool, ltb-false}
use Rattle.std.specs.Bool.{◌==◌}
use Rattle.std.specs.Option.{option_or}
use Rattle.std.proofs.lemmas.Option.{none-some}
use Rattle.std.proofs.lemmas.List.Elements.{All-head, All-tail, All-map}
use Rattle.hold_parts.specs.declared.parts.Position.{Position}
use Rattle.hold_parts.specs.declared.parts.Combined.{Combined}
use Rattle.hold_parts.specs.declared.parts.Cumulative.{Cumulative}
use Rattle.hold_parts.specs.declared.parts.Lateral.{Lateral}
use Rattle.hold_limits.specs.declared.fault.HoldFault.{HoldFault}
use Rattle.hold_limits.specs.declared.fault.HoldFault.TheVariants.{Positions}
use Rattle.hold_limits.specs.Layout.{Layout}
use Rattle.hold_limits.specs.Problem.{Problem}
use Rattle.hold_limits.specs.Faults.{fault_if, hold_fault, task_fault, has_wrong_number, IsWellSpelled, IsLawful}
use Rattle.problem_text.specs.TaskText.{IsSpelledExclude, IsSpelledCombined, IsSpelledCumulative, IsSpelledSide, IsSpelledLateral, IsSpelledLoose, IsSpelled, Spells}
use Rattle.text_lines.specs.Names.{IsNamed}
use Rattle.problem_text.specs.PositionNumbers.{keep_pair, keep_combined, keep_cumulative, keep_side, keep_lateral, keep_loose, keep_problem}
use Rattle.text_lines.specs.Names.{byte_of}
use Rattle.problem_text.specs.Refusals.{IsRefused}
use Rattle.problem_text.specs.Refusals.IsRefused.{wrong_hold, wrong_task}
use Rattle.problem_text.specs.Reading.{IsFaultOf}
use Rattle.problem_text.specs.declared.fault.TextFault.{TextFault}
use Rattle.problem_text.specs.declared.fault.TextFault.TheVariants.{Line, NoEnd, Hold, Task, NoMemory}
use Rattle.problem_text.proofs.RefusalLemmas.{spelled_once, lawful_not_refused}

map_kept : {X : Type 0} (keep : X → X) (IsRight : X → Type 0) → ((x : X) → IsRight x → keep x ≡ x) → (xs : List X) → All IsRight xs → map keep xs ≡ xs
map_kept keep P same [] right = refl
map_kept keep P same (x ∷ xs) right =
    let here = same x (All-head P x xs right) in
    let rest = map_kept keep P same xs (All-tail P x xs right) in
    λ i. here i ∷ rest i

byte_is : (ps : List Position) (q : ℕ) → length ps ≤ 64 → IsNamed ps q → byte_of q ≡ q
byte_is ps q few named = let known = named.known in omega (arith, known)

kept_sides : (ps : List Position) → length ps ≤ 64 → (lateral : Option Lateral) → IfSome lateral (IsSpelledLateral ps) → option_map keep_lateral lateral ≡ lateral
kept_sides ps few None s = refl
kept_sides ps few (Some lateral) s =
    let sides = map_kept keep_side (IsSpelledSide ps) (λ side named i. (byte_is ps side.0 few named i, side.1)) lateral.sides s.sides in
    λ i. Some (record { most = lateral.most; sides = sides i })

-- a hold with as many positions as it may have keeps its numbers
kept_whole : (t : Problem) → IsSpelled t → length t.hold.positions ≤ 64 → keep_problem t ≡ t
kept_whole t s few =
    let ps = t.hold.positions in
    let byte = λ (q : ℕ) (named : IsNamed ps q). byte_is ps q few named in
    let excludes = map_kept keep_pair (IsSpelledExclude ps) (λ pair r i. (byte pair.0 r.0 i, byte pair.1 r.1 i)) t.hold.excludes s.excludes in
    let combined = map_kept keep_combined (IsSpelledCombined ps) (λ limit r i. record { places = map_kept byte_of (IsNamed ps) byte limit.places r.places i; most = limit.most }) t.hold.combined s.combined in
    let cumulative = map_kept keep_cumulative (IsSpelledCumulative ps) (λ limit r i. record { forward = limit.forward; place = byte limit.place r.place i; most = limit.most }) t.hold.cumulative s.cumulative in
    let lateral = kept_sides ps few t.hold.lateral s.lateral in
    let loose = map_kept keep_loose (IsSpelledLoose ps) (λ load r i. record { position = byte load.position r.position i; mass = load.mass }) t.loose s.loose in
    λ i. record {
      hold = record { positions = ps; excludes = excludes i; combined = combined i; cumulative = cumulative i; lateral = lateral i };
      items = t.items;
      loose = loose i;
      base = t.base;
      low = t.low;
      high = t.high;
      ideal_low = t.ideal_low;
      ideal_high = t.ideal_high;
    }

-- one with more is refused for having too many
or_true : (b : Bool) → (b || true) ≡ true
or_true true = refl
or_true false = refl

first_fault : (wrong : Bool) (fault : HoldFault) (other last : Option HoldFault) → wrong ≡ true → option_or (option_or (fault_if wrong fault) other) last ≡ Some fault
first_fault true fault other last e = refl
first_fault false fault other last e = absurd (cc)

too_many : (h : Layout) → nat_lt 64 (length h.positions) ≡ true → hold_fault h ≡ Some (Positions (length h.positions))
too_many h more =
    let wrong : has_wrong_number h.positions ≡ true = ap (λ b. (length h.positions == 0) || b) more ∙ or_true (length h.positions == 0) in
    first_fault (has_wrong_number h.positions) (Positions (length h.positions)) _ _ wrong

-- what is kept has the fault of the task, and is the task where there is none
pub kept_fault : (t : Problem) → IsSpelled t → (hold_fault (keep_problem t).hold ≡ hold_fault t.hold) × (hold_fault t.hold ≡ None → keep_problem t ≡ t)
kept_fault t s =
    ⊎_elim
    (λ (more : nat_lt 64 (length t.hold.positions) ≡ true). (too_many (keep_problem t).hold more ∙ sym (too_many t.hold more), λ none. absurd (none-some _ (sym none ∙ too_many t.hold more))))
    (λ (few : nat_lt 64 (length t.hold.positions) ≡ false).
    let same = kept_whole t s (ltb-false 64 (length t.hold.positions) few) in
    (ap (λ (x : Problem). hold_fault x.hold) same, λ none. same))
    (cases_Bool (nat_lt 64 (length t.hold.positions)))

most_kept : (ps : List Position) (lateral : Option Lateral) → IfSome lateral (IsSpelledLateral ps) → IfSome (option_map keep_lateral lateral) (λ (limit : Lateral). limit.most.0 ≤ 999999999)
most_kept ps None s = tt
most_kept ps (Some lateral) s = let most = s.most in omega (arith, most)

pub well_spelled : (t : Problem) → IsSpelled t → IsWellSpelled (keep_problem t).hold
well_spelled t s = record {
  compartments = λ k d l. (s.positions k d l).compartment;
  kinds = λ k d l. (s.positions k d l).kinds;
  combined = All-map (λ (limit : Combined). limit.most.0 ≤ 999999999) keep_combined t.hold.combined (λ k d l. let most = (s.combined k d l).most in omega (arith, most));
  cumulative = All-map (λ (limit : Cumulative). limit.most.0 ≤ 999999999) keep_cumulative t.hold.cumulative (λ k d l. let most = (s.cumulative k d l).most in omega (arith, most));
  lateral = most_kept t.hold.positions t.hold.lateral s.lateral;
}

-- ---- the result of the reader

pub task_is_read : (text : List ℕ) (t p : Problem) → Spells text t → p ≡ keep_problem t → (r : Result Problem TextFault) → IfOk r (λ task. (task ≡ p) × IsLawful task) → IfOk r (λ task. Spells text task × IsLawful task)
task_is_read text t p s e (Ok task) made =
    let same : hold_fault (keep_problem t).hold ≡ hold_fault task.hold = ap (λ (x : Problem). hold_fault x.hold) (sym (made.0 ∙ e)) in
    let kept = kept_fault t s.spelled in
    let whole : task ≡ t = made.0 ∙ e ∙ kept.1 (sym kept.0 ∙ same ∙ made.1.hold.right) in
    (subst (Spells text) (sym whole) s, made.1)
task_is_read text t p s e (Err fault) made = tt

fault_is_cause : (text : List ℕ) (t p : Problem) → Spells text t → p ≡ keep_problem t → (fault : TextFault) → IsFaultOf p fault → IsRefused text fault
fault_is_cause text t p s e (Line n) h = absurd h
fault_is_cause text t p s e NoEnd h = absurd h
fault_is_cause text t p s e (Hold fault) h = wrong_hold t fault s (sym (kept_fault t s.spelled).0 ∙ ap (λ (x : Problem). hold_fault x.hold) (sym e) ∙ h)
fault_is_cause text t p s e (Task fault) h =
    let kept = kept_fault t s.spelled in
    let none : hold_fault t.hold ≡ None = sym kept.0 ∙ ap (λ (x : Problem). hold_fault x.hold) (sym e) ∙ h.0 in
    wrong_task t fault s none (ap task_fault (sym (e ∙ kept.1 none)) ∙ h.1)
fault_is_cause text t p s e NoMemory h = absurd h

pub fault_is_told : (text : List ℕ) (t p : Problem) → Spells text t → p ≡ keep_problem t → (r : Result Problem TextFault) → IfErr r (IsFaultOf p) → IfErr r (IsRefused text)
fault_is_told text t p s e (Ok task) h = tt
fault_is_told text t p s e (Err fault) h = fault_is_cause text t p s e fault h

pub lawful_is_read : (text : List ℕ) (r : Result Problem TextFault) → IfOk r (λ task. Spells text task × IsLawful task) → IfErr r (IsRefused text) → (t : Problem) → Spells text t → hold_fault t.hold ≡ None → task_fault t ≡ None → MatchResult r (λ task. task ≡ t) (λ fault. fault ≡ NoMemory)
lawful_is_read text (Ok task) read refused t s h k = spelled_once text task t read.0 s
lawful_is_read text (Err fault) read refused t s h k = lawful_not_refused text t fault s h k refused
