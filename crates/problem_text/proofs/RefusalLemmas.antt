-- each text has exactly one answer
use Rattle.std.proofs.Common.{◌≡◌, ◌≢◌, ℕ, pos, List, [], refl, sym, ◌∙◌, ap, subst, Option, Some, None, lit≤}
use Rattle.std.proofs.lemmas.Option.{none-some, same_Some}
use Rattle.std.proofs.lemmas.List.Elements.{All-nil}
use Rattle.mass_units.specs.Spelling.{IsIndex}
use Rattle.hold_limits.specs.Problem.{Problem}
use Rattle.hold_limits.specs.Layout.{layout_of}
use Rattle.hold_limits.specs.Faults.{hold_fault, task_fault}
use Rattle.hold_limits.specs.declared.fault.HoldFault.{HoldFault}
use Rattle.hold_limits.specs.declared.fault.TaskFault.{TaskFault}
use Rattle.text_lines.specs.Grammar.{Fails}
use Rattle.text_lines.specs.declared.fault.LineFault.{LineFault}
use Rattle.text_lines.specs.declared.fault.LineFault.TheVariants as line
use Rattle.text_lines.specs.declared.lines.Lines.{Lines as Point}
use Rattle.text_lines.proofs.Rests.{FailsAt}
use Rattle.text_lines.proofs.OneAnswer as one
use Rattle.problem_text.specs.TaskText.{IsSpelledPosition, IsSpelledExclude, IsSpelledCombined, IsSpelledCumulative, IsSpelledItem, IsSpelledLoose, IsSpelled, Spells}
use Rattle.problem_text.specs.Reading.{text_fault}
use Rattle.problem_text.specs.Refusals.{AreTask, IsRefused}
use Rattle.problem_text.specs.Refusals.IsRefused.{wrong_lines, wrong_hold, wrong_task}
use Rattle.problem_text.specs.declared.fault.TextFault.{TextFault}
use Rattle.problem_text.specs.declared.fault.TextFault.TheVariants.{Hold, Task, NoMemory}
use Rattle.problem_text.proofs.TaskParts.{tasks, is_read_once}

-- ---- one task, and one fault

-- a fault from the first line on is one of the text
pub fails_text : (text : List ℕ) (at : Point) (fault : LineFault) → at.rest.now ≡ text → at.number ≡ 1 → FailsAt tasks at fault → Fails AreTask text 1 fault
fails_text text at fault whole first fails =
    let At : List ℕ → ℕ → Type 0 = λ t n. Fails AreTask t n fault in
    subst (λ (n : ℕ). At text n) first (subst (λ (t : List ℕ). At t at.number) whole fails)

pub spelled_once : (text : List ℕ) (a b : Problem) → Spells text a → Spells text b → a ≡ b
spelled_once text a b s t = one.one_said tasks is_read_once text a b s.spelled t.spelled s.is t.is

-- the lines of a task have no fault
lines_right : (text : List ℕ) (t : Problem) (f : LineFault) → Spells text t → Fails AreTask text 1 f → text_fault f ≡ NoMemory
lines_right text t f s fails = ap text_fault (one.no_fault tasks is_read_once text 1 f t s.spelled s.is fails)

in_memory : (f : LineFault) → text_fault f ≢ NoMemory → f ≢ line.NoMemory
in_memory f other e = other (ap text_fault e)

pub refused_once : (text : List ℕ) (a b : TextFault) → IsRefused text a → IsRefused text b → a ≢ NoMemory → b ≢ NoMemory → a ≡ b
refused_once text _ _ (wrong_lines f p) (wrong_lines g q) not_a not_b = ap text_fault (one.one_fault tasks is_read_once text 1 f g p q (in_memory f not_a) (in_memory g not_b))
refused_once text _ _ (wrong_lines f p) (wrong_hold t fault s h) not_a not_b = absurd (not_a (lines_right text t f s p))
refused_once text _ _ (wrong_lines f p) (wrong_task t fault s h k) not_a not_b = absurd (not_a (lines_right text t f s p))
refused_once text _ _ (wrong_hold t fault s h) (wrong_lines g q) not_a not_b = absurd (not_b (lines_right text t g s q))
refused_once text _ _ (wrong_hold t fault s h) (wrong_hold t' fault' s' h') not_a not_b =
    ap Hold (same_Some fault fault' (sym h ∙ ap (λ (x : Problem). hold_fault x.hold) (spelled_once text t t' s s') ∙ h'))
refused_once text _ _ (wrong_hold t fault s h) (wrong_task t' fault' s' h' k') not_a not_b =
    absurd (none-some fault (sym h' ∙ ap (λ (x : Problem). hold_fault x.hold) (spelled_once text t' t s' s) ∙ h))
refused_once text _ _ (wrong_task t fault s h k) (wrong_lines g q) not_a not_b = absurd (not_b (lines_right text t g s q))
refused_once text _ _ (wrong_task t fault s h k) (wrong_hold t' fault' s' h') not_a not_b =
    absurd (none-some fault' (sym h ∙ ap (λ (x : Problem). hold_fault x.hold) (spelled_once text t t' s s') ∙ h'))
refused_once text _ _ (wrong_task t fault s h k) (wrong_task t' fault' s' h' k') not_a not_b =
    ap Task (same_Some fault fault' (sym k ∙ ap task_fault (spelled_once text t t' s s') ∙ k'))

pub lawful_not_refused : (text : List ℕ) (t : Problem) (fault : TextFault) → Spells text t → hold_fault t.hold ≡ None → task_fault t ≡ None → IsRefused text fault → fault ≡ NoMemory
lawful_not_refused text t _ s h k (wrong_lines f p) = lines_right text t f s p
lawful_not_refused text t _ s h k (wrong_hold t' fault s' h') = absurd (none-some fault (sym h ∙ ap (λ (x : Problem). hold_fault x.hold) (spelled_once text t t' s s') ∙ h'))
lawful_not_refused text t _ s h k (wrong_task t' fault s' h' k') = absurd (none-some fault (sym k ∙ ap task_fault (spelled_once text t t' s s') ∙ k'))

-- ---- a lawful task, or a fault

abbrev pub empty_task : Problem
empty_task = record {
  hold = layout_of [] [] [] [];
  items = [];
  loose = [];
  base = pos 0;
  low = pos 0;
  high = pos 0;
  ideal_low = pos 0;
  ideal_high = pos 0;
}

pub zero_index : IsIndex (pos 0)
zero_index = lit≤ tt

pub empty_is : IsSpelled empty_task
empty_is = record {
  positions = All-nil IsSpelledPosition;
  excludes = All-nil (IsSpelledExclude []);
  combined = All-nil (IsSpelledCombined []);
  cumulative = All-nil (IsSpelledCumulative []);
  lateral = tt;
  items = All-nil IsSpelledItem;
  loose = All-nil (IsSpelledLoose []);
  base = zero_index;
  low = zero_index;
  high = zero_index;
  ideal_low = zero_index;
  ideal_high = zero_index;
}

abbrev SpellsNoLawful : List ℕ → Type 0
SpellsNoLawful text = (t : Problem) → Spells text t → hold_fault t.hold ≡ None → task_fault t ≡ None → ⊥

abbrev HasNoFault : List ℕ → Type 0
HasNoFault text = (fault : TextFault) → IsRefused text fault → fault ≡ NoMemory

of_task : (text : List ℕ) (t : Problem) → SpellsNoLawful text → HasNoFault text → Spells text t → (h : Option HoldFault) (k : Option TaskFault) → hold_fault t.hold ≡ h → task_fault t ≡ k → ⊥
of_task text t lawful faults spells (Some fault) k e g = let same = faults (Hold fault) (wrong_hold t fault spells e) in absurd (cc)
of_task text t lawful faults spells None (Some fault) e g = let same = faults (Task fault) (wrong_task t fault spells e g) in absurd (cc)
of_task text t lawful faults spells None None e g = lawful t spells e g

out_of_memory : (f : LineFault) → text_fault f ≡ NoMemory → f ≡ line.NoMemory
out_of_memory (line.Line n) e = absurd (cc)
out_of_memory line.NoEnd e = absurd (cc)
out_of_memory line.NoMemory e = refl

pub some_answer : (text : List ℕ) → SpellsNoLawful text → HasNoFault text → ⊥
some_answer text lawful faults =
    one.some_answer tasks empty_task empty_is text 1
    (λ t spelled e. of_task text t lawful faults (record { is = e; spelled = spelled }) (hold_fault t.hold) (task_fault t) refl refl)
    (λ f fails. out_of_memory f (faults (text_fault f) (wrong_lines f fails)))
