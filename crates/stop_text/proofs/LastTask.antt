-- the task that the last lines of a text spell
use Rattle.std.proofs.Common.{◌≡◌, ℕ, ◌∷◌, List, [], length, refl, sym, ◌∙◌, subst, arith, Some}
use Rattle.std.proofs.lemmas.List.{append-nil}
use Rattle.text_lines.specs.Lines.{text_of}
use Rattle.text_lines.specs.Grammar.{Fails}
use Rattle.text_lines.specs.Grammar.Fails.{more_bytes}
use Rattle.text_lines.specs.declared.fault.LineFault.{LineFault}
use Rattle.text_lines.specs.declared.fault.LineFault.TheVariants.{Line}
use Rattle.text_lines.proofs.Rests.{StartsWithBlock}
use Rattle.problem_text.specs.TaskText.{task_lines, IsSpelled}
use Rattle.problem_text.specs.Refusals.{AreTask}
use Rattle.problem_text.proofs.TaskParts.{tasks, is_read_once}
use Rattle.stop_text.specs.Reading.{IsTaskBetween, IsLastTask, HasNoTask}
use Rattle.stop_text.specs.declared.parts.Sector.{Sector}
use Rattle.stop_text.proofs.TaskEnds.{tasks_once}
use Rattle.stop_text.proofs.TaskBlocks.{fails_task}

alone : StartsWithBlock tasks task_lines IsSpelled (λ t. t) (λ t. [])
alone = record {
  once = tasks_once;
  clear = λ t s. is_read_once.clear t s;
  right = λ t s. s;
  are = λ t s. sym (append-nil (task_lines t));
}

pub fails_last : (before : List ℕ) (number : ℕ) (fault : LineFault) → HasNoTask before number fault → Fails AreTask before number fault
fails_last before number fault h = fails_task alone (λ t s. (t, s, refl)) before number fault h

-- there are bytes behind it
pub goes_on_last : (before : List ℕ) (number : ℕ) (after : List ℕ) (next : ℕ) (sector : Sector) → IsTaskBetween before number after next sector → (length after ≡ 0 → ⊥) → Fails AreTask before number (Line next)
goes_on_last before number [] next sector b some = absurd (some refl)
goes_on_last before number (byte ∷ after) next sector b some =
    let At : ℕ → Type 0 = λ n. Fails AreTask before number (Line n) in
    let at = b.counted in
    subst At (omega (arith, at)) (more_bytes (task_lines b.task) byte after b.read (record { said = b.task; spelled = b.spelled; are = refl }))

pub last_read : (before : List ℕ) (number : ℕ) (after : List ℕ) (next : ℕ) (sector : Sector) → IsTaskBetween before number after next sector → length after ≡ 0 → IsLastTask before (Some sector)
last_read before number [] next sector b none = record { task = Some b.task; spelled = b.spelled; is = b.is; read = b.read ∙ append-nil (text_of (task_lines b.task)) }
last_read before number (byte ∷ after) next sector b none = absurd (omega (arith, none))
