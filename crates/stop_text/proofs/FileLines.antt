-- the lines of a file, part by part
use Rattle.std.proofs.Common.{◌≡◌, ◌≢◌, ℕ, ◌+◌, ◌++◌, ◌∷◌, List, [], map, length, get_or, refl, sym, ◌∙◌, ap, subst, arith, All, Option, Some, None, IfSome, codes}
use Rattle.std.proofs.lemmas.List.{append_assoc}
use Rattle.std.proofs.lemmas.List.Elements.{All-nil}
use Rattle.hold_limits.specs.Problem.{Problem}
use Rattle.hold_parts.specs.declared.parts.Lateral.{Lateral}
use Rattle.text_lines.specs.Cuts.{Avoids}
use Rattle.text_lines.specs.Lines.{text_of, IsStopped}
use Rattle.text_lines.specs.Grammar.{Fails}
use Rattle.text_lines.specs.Grammar.Fails.{more_bytes}
use Rattle.text_lines.specs.declared.lines.Lines.{Lines as Point}
use Rattle.text_lines.specs.declared.fault.LineFault.{LineFault}
use Rattle.text_lines.specs.declared.fault.LineFault.TheVariants.{Line, NoEnd, NoMemory}
use Rattle.text_lines.proofs.WordLemmas.{plain_word}
use Rattle.text_lines.proofs.FieldLemmas.{names, numbers, identities, last_field, and_then, behind_word, of_parts}
use Rattle.text_lines.proofs.PartSteps.{IsAny, PartBetween, whole_part}
use Rattle.text_lines.specs.Sections.{IsSection}
use Rattle.text_lines.specs.Stated.{AreLinesOf}
use Rattle.text_lines.proofs.Rests.{Rest, behind, FailsAt, Leads, then, IsLineKind, HasOther, other_first, other_behind, StartsWithBlock, past_block, StartsWithOne, past_said, fails_at}
use Rattle.text_lines.proofs.RunsOfLines.{StartsWithRun, past_run}
use Rattle.text_lines.proofs.OneReading.{IsReadOnce, block_then, one_then, run_then}
use Rattle.text_lines.proofs.OneAnswer as one
use Rattle.text_lines.proofs.SectionLemmas.{text_of-append}
use Rattle.problem_text.specs.TaskText.{task_lines, header_line, IsSpelled}
use Rattle.problem_text.specs.Refusals.{AreTask}
use Rattle.problem_text.proofs.SmallerTexts.{IsWithin, Holds, fails_within, within_then}
use Rattle.problem_text.proofs.TaskParts.{tasks, is_read_once}
use Rattle.problem_text.proofs.RefusalLemmas.{empty_task, empty_is}
use Rattle.stop_text.specs.StopFile.{StopFile, file_lines, leave_line, behind_line, sector_lines, third_lines, IsSpelledLeave, IsSpelledBehind, IsSpelledFile, Spells}
use Rattle.stop_text.specs.StopRefusals.{IsThere, HasWrongLines}
use Rattle.stop_text.specs.StopRefusals.HasWrongLines.{wrong, memory}
use Rattle.stop_text.specs.declared.parts.Leave.{Leave}
use Rattle.stop_text.specs.Reading.{HasNoTask}
use Rattle.stop_text.proofs.TaskEnds.{tasks_once}
use Rattle.stop_text.proofs.TaskBlocks.{fails_task}

abbrev Lines : Type 0
Lines = List (List ℕ)

-- The kinds of lines ------------------------------------------------------------------------------

leaves : IsLineKind leave_line IsSpelledLeave
leaves = of_parts (behind_word (codes "leave ") refl (and_then identities (last_field numbers)))
    (λ (x : Leave). (x.id, x.sector)) (λ x y e i. record { id = (e i).0; sector = (e i).1 }) (λ x s. (s.id, tt))

pairs : IsLineKind behind_line IsSpelledBehind
pairs = behind_word (codes "behind ") refl (and_then names (last_field names))

first_byte : (a b : List ℕ) (x y : ℕ) → get_or a 0 0 ≡ x → get_or b 0 0 ≡ y → (x ≡ y → ⊥) → a ≢ b
first_byte a b x y f g differ e = differ (sym f ∙ ap (λ l. get_or l 0 0) e ∙ g)

header_first : (lateral : Option Lateral) → get_or (header_line lateral) 0 0 ≡ 84
header_first None = refl
header_first (Some l) = refl

header_ahead : {X : Type 0} (line : X → List ℕ) (P : X → Type 0) (b : ℕ) → ((x : X) → get_or (line x) 0 0 ≡ b) → (84 ≡ b → ⊥) → (file : StopFile) → HasOther line P (sector_lines file)
header_ahead line P b first differ file =
    other_first (header_line file.first.hold.lateral) _ (λ x right. first_byte (header_line file.first.hold.lateral) (line x) 84 b (header_first file.first.hold.lateral) (first x) differ)

-- The parts ---------------------------------------------------------------------------------------

-- the first line says nothing
abbrev no_part : StopFile → Unit {0}
no_part file = tt

abbrev behind_part : StopFile → Lines
behind_part file = map behind_line file.behind ++ sector_lines file

abbrev leave_part : StopFile → Lines
leave_part file = map leave_line file.leaves ++ behind_part file

abbrev second_part : StopFile → Lines
second_part file = task_lines file.second ++ third_lines file.third

-- files whose third task is such a one
module _ (R : Option Problem → Type 0) where
  abbrev pub files : Rest StopFile
  files = record { Is = λ file. IsSpelledFile file × R file.third; lines = file_lines }

  abbrev from_leaves : Rest StopFile
  from_leaves = behind files no_part tt leave_part

  abbrev from_behind : List Leave → Rest StopFile
  from_behind ls = behind from_leaves (λ file. file.leaves) ls behind_part

  abbrev pub from_first : List Leave → List (List ℕ × List ℕ) → Rest StopFile
  from_first ls ps = behind (from_behind ls) (λ file. file.behind) ps sector_lines

  abbrev pub from_second : List Leave → List (List ℕ × List ℕ) → Problem → Rest StopFile
  from_second ls ps first = behind (from_first ls ps) (λ file. file.first) first second_part

  abbrev pub from_third : List Leave → List (List ℕ × List ℕ) → Problem → Problem → Rest StopFile
  from_third ls ps first second = behind (from_second ls ps first) (λ file. file.second) second (λ file. third_lines file.third)

  starts_with_header : StartsWithOne files (λ (u : Unit {0}). codes "STOPS 1") (λ u. Unit {0}) no_part leave_part
  starts_with_header = record {
    kind = record { once = λ x y p q e. refl; avoids = λ x p. plain_word 10 (codes "STOPS 1") refl };
    right = λ file s. tt;
    are = λ file s. refl;
  }

  starts_with_leaves : StartsWithRun from_leaves leave_line IsSpelledLeave IsAny (λ file. file.leaves) behind_part
  starts_with_leaves = record {
    kind = leaves;
    front = λ xs ys any. tt;
    right = λ file s. s.0.0.leaves;
    allowed = λ file s. tt;
    are = λ file s. refl;
    other = λ file s.
        other_behind behind_line (λ y x right. first_byte (behind_line y) (leave_line x) 98 108 refl refl (λ e. absurd (omega (arith, e)))) file.behind (sector_lines file)
        (header_ahead leave_line IsSpelledLeave 108 (λ x. refl) (λ e. absurd (omega (arith, e))) file);
  }

  starts_with_behind : (ls : List Leave) → StartsWithRun (from_behind ls) behind_line IsSpelledBehind IsAny (λ file. file.behind) sector_lines
  starts_with_behind ls = record {
    kind = pairs;
    front = λ xs ys any. tt;
    right = λ file s. s.0.0.0.behind;
    allowed = λ file s. tt;
    are = λ file s. refl;
    other = λ file s. header_ahead behind_line IsSpelledBehind 98 (λ x. refl) (λ e. absurd (omega (arith, e))) file;
  }

  pub starts_with_first : (ls : List Leave) (ps : List (List ℕ × List ℕ)) → StartsWithBlock (from_first ls ps) task_lines IsSpelled (λ file. file.first) second_part
  starts_with_first ls ps = record { once = tasks_once; clear = λ t s. is_read_once.clear t s; right = λ file s. s.0.0.0.0.first; are = λ file s. refl }

  pub starts_with_second : (ls : List Leave) (ps : List (List ℕ × List ℕ)) (first : Problem) → StartsWithBlock (from_second ls ps first) task_lines IsSpelled (λ file. file.second) (λ file. third_lines file.third)
  starts_with_second ls ps first = record { once = tasks_once; clear = λ t s. is_read_once.clear t s; right = λ file s. s.0.0.0.0.0.second; are = λ file s. refl }

  files_then : ((ls : List Leave) (ps : List (List ℕ × List ℕ)) (first second : Problem) → IsReadOnce (from_third ls ps first second)) → IsReadOnce files
  files_then last =
      one_then starts_with_header (λ u. run_then starts_with_leaves (λ ls. run_then (starts_with_behind ls) (λ ps.
      block_then (starts_with_first ls ps) (λ first. block_then (starts_with_second ls ps first) (last ls ps first)))))

  -- from the first line to the first task
  pub to_first : (l0 l1 l2 l3 : Point) (ls : List Leave) (ps : List (List ℕ × List ℕ)) → l0.rest.now ≡ codes "STOPS 1" ++ 10 ∷ l1.rest.now → l1.number ≡ l0.number + 1
      → PartBetween leave_line IsSpelledLeave IsAny l1 l2 ls → PartBetween behind_line IsSpelledBehind IsAny l2 l3 ps → Leads files l0 (from_first ls ps) l3
  to_first l0 l1 l2 l3 ls ps read counted a b =
      then (past_said starts_with_header l0 l1 tt (tt, read) counted) (then (past_run starts_with_leaves l1 l2 a) (past_run (starts_with_behind ls) l2 l3 b))

  pub fails_header : (some : StopFile) → IsSpelledFile some × R some.third → (here : Point) (fault : LineFault) → IsStopped here.rest.now here.number (λ line. line ≡ codes "STOPS 1") fault → FailsAt files here fault
  fails_header some is here fault stopped = fails_at (λ line. line ≡ codes "STOPS 1") starts_with_header some is (λ u right. refl) here fault stopped

pub to_second : (R : Option Problem → Type 0) (ls : List Leave) (ps : List (List ℕ × List ℕ)) (here there : Point) (t : Problem) → IsSpelled t → here.rest.now ≡ text_of (task_lines t) ++ there.rest.now → there.number ≡ here.number + length (task_lines t)
    → Leads (from_first R ls ps) here (from_second R ls ps t) there
to_second R ls ps here there t s read counted = past_block (starts_with_first R ls ps) here there t s read counted

pub to_third : (R : Option Problem → Type 0) (ls : List Leave) (ps : List (List ℕ × List ℕ)) (first : Problem) (here there : Point) (t : Problem) → IsSpelled t → here.rest.now ≡ text_of (task_lines t) ++ there.rest.now → there.number ≡ here.number + length (task_lines t)
    → Leads (from_second R ls ps first) here (from_third R ls ps first t) there
to_third R ls ps first here there t s read counted = past_block (starts_with_second R ls ps first) here there t s read counted

abbrev pub file_with : List Leave → List (List ℕ × List ℕ) → Problem → Problem → Option Problem → StopFile
file_with ls ps first second third = record { leaves = ls; behind = ps; first = first; second = second; third = third }

-- The third task ----------------------------------------------------------------------------------

third_within : (ls : List Leave) (ps : List (List ℕ × List ℕ)) (first second : Problem) → (file : StopFile) → (from_third IsThere ls ps first second).Is file
    → IsWithin (from_third IsThere ls ps first second) tasks (λ t. file_with ls ps first second (Some t)) file
third_within ls ps first second file s = of file.third refl
  where
    of : (third : Option Problem) → file.third ≡ third → IsWithin (from_third IsThere ls ps first second) tasks (λ t. file_with ls ps first second (Some t)) file
    of None e = absurd (subst IsThere e s.0.0.0.0.0.1)
    of (Some t) e = (
      t,
      subst (λ (o : Option Problem). IfSome o IsSpelled) e s.0.0.0.0.0.0.third,
      ap third_lines e,
      λ i. record { leaves = sym s.0.0.0.1 i; behind = sym s.0.0.1 i; first = sym s.0.1 i; second = sym s.1 i; third = sym e i },
    )

-- of files with three tasks, the third one is what is still to come
there : (ls : List Leave) (ps : List (List ℕ × List ℕ)) (first second : Problem) → All IsSpelledLeave ls → All IsSpelledBehind ps → IsSpelled first → IsSpelled second
    → Holds (from_third IsThere ls ps first second) tasks (λ t. file_with ls ps first second (Some t))
there ls ps first second a b c d = record {
  forth = λ t s. (((((((record { leaves = a; behind = b; first = c; second = d; third = s }, tt), refl), refl), refl), refl), refl), refl);
  back = third_within ls ps first second;
}

three_once : IsReadOnce (files IsThere)
three_once = files_then IsThere (λ ls ps first second. within_then (third_within ls ps first second) is_read_once)

abbrev IsNone : Option Problem → Type 0
IsNone third = third ≡ None

two_once : IsReadOnce (files IsNone)
two_once = files_then IsNone (λ ls ps first second. record {
  once = λ v w more p q e.
      let none : more ≡ [] = sym (ap (λ (o : Option Problem). third_lines o ++ more) p.0.0.0.0.0.1) ∙ e ∙ ap third_lines q.0.0.0.0.0.1 in (
        λ i. record {
          leaves = (p.0.0.0.1 ∙ sym q.0.0.0.1) i;
          behind = (p.0.0.1 ∙ sym q.0.0.1) i;
          first = (p.0.1 ∙ sym q.0.1) i;
          second = (p.1 ∙ sym q.1) i;
          third = (p.0.0.0.0.0.1 ∙ sym q.0.0.0.0.0.1) i;
        },
        none,
      );
  clear = λ v p. subst (λ (o : Option Problem). All (Avoids 10) (third_lines o)) (sym p.0.0.0.0.0.1) (All-nil (Avoids 10));
})

-- Faults ------------------------------------------------------------------------------------------

abbrev pub FailsAs : (Option Problem → Type 0) → List ℕ → LineFault → Type 0
FailsAs R text fault = Fails (AreLinesOf (files R).Is file_lines) text 1 fault

-- what spells a file has no fault
none_right : (text : List ℕ) (file : StopFile) (other fault : LineFault) → (other ≡ NoMemory → fault ≡ NoMemory) → Spells text file → FailsAs IsNone text other → FailsAs IsThere text fault → fault ≡ NoMemory
none_right text file other fault out s two three = of file.third refl
  where
    of : (third : Option Problem) → file.third ≡ third → fault ≡ NoMemory
    of None e = out (one.no_fault (files IsNone) two_once text 1 other file (s.spelled, e) s.is two)
    of (Some t) e = one.no_fault (files IsThere) three_once text 1 fault file (s.spelled, subst IsThere (sym e) tt) s.is three

wrong_lines : (text : List ℕ) (other fault : LineFault) → (other ≡ NoMemory → fault ≡ NoMemory) → FailsAs IsNone text other → FailsAs IsThere text fault → HasWrongLines text fault
wrong_lines text other (Line n) m two three = wrong (λ file s. let e = none_right text file other (Line n) m s two three in absurd (cc)) three
wrong_lines text other NoEnd m two three = wrong (λ file s. let e = none_right text file other NoEnd m s two three in absurd (cc)) three
wrong_lines text other NoMemory m two three = memory refl

at_text : (R : Option Problem → Type 0) (text : List ℕ) (at : Point) (fault : LineFault) → at.rest.now ≡ text → at.number ≡ 1 → FailsAt (files R) at fault → FailsAs R text fault
at_text R text at fault whole first fails =
    let At : List ℕ → ℕ → Type 0 = λ t n. Fails (AreLinesOf (files R).Is file_lines) t n fault in
    subst (λ (n : ℕ). At text n) first (subst (λ (t : List ℕ). At t at.number) whole fails)

empty_file : (third : Option Problem) → IfSome third IsSpelled → IsSpelledFile (file_with [] [] empty_task empty_task third)
empty_file third s = record { leaves = All-nil IsSpelledLeave; behind = All-nil IsSpelledBehind; first = empty_is; second = empty_is; third = s }

pub wrong_header : (text : List ℕ) (l0 : Point) (fault : LineFault) → l0.rest.now ≡ text → l0.number ≡ 1 → IsStopped l0.rest.now l0.number (λ line. line ≡ codes "STOPS 1") fault → HasWrongLines text fault
wrong_header text l0 fault whole first stopped =
    wrong_lines text fault fault (λ e. e)
    (at_text IsNone text l0 fault whole first (fails_header IsNone (file_with [] [] empty_task empty_task None) (empty_file None tt, refl) l0 fault stopped))
    (at_text IsThere text l0 fault whole first (fails_header IsThere (file_with [] [] empty_task empty_task (Some empty_task)) (empty_file (Some empty_task) empty_is, tt) l0 fault stopped))

module _ (text : List ℕ) (l0 l1 l2 l3 : Point) (ls : List Leave) (ps : List (List ℕ × List ℕ)) (whole : l0.rest.now ≡ text) (first : l0.number ≡ 1) (header : l0.rest.now ≡ codes "STOPS 1" ++ 10 ∷ l1.rest.now)
    (counted : l1.number ≡ l0.number + 1) (a : IsSection leave_line IsSpelledLeave (λ x. x) l1.rest.now l2.rest.now l1.number l2.number ls) (b : IsSection behind_line IsSpelledBehind (λ x. x) l2.rest.now l3.rest.now l2.number l3.number ps) where
  leaf : PartBetween leave_line IsSpelledLeave IsAny l1 l2 ls
  leaf = whole_part leave_line IsSpelledLeave l1.rest.now l2.rest.now l1.number l2.number ls a

  pair : PartBetween behind_line IsSpelledBehind IsAny l2 l3 ps
  pair = whole_part behind_line IsSpelledBehind l2.rest.now l3.rest.now l2.number l3.number ps b

  lead : (R : Option Problem → Type 0) → Leads (files R) l0 (from_first R ls ps) l3
  lead R = to_first R l0 l1 l2 l3 ls ps header counted leaf pair

  pub wrong_first : (fault : LineFault) → HasNoTask l3.rest.now l3.number fault → HasWrongLines text fault
  wrong_first fault h = wrong_lines text fault fault (λ e. e) (of IsNone None refl tt) (of IsThere (Some empty_task) tt empty_is)
    where
      of : (R : Option Problem → Type 0) (third : Option Problem) → R third → IfSome third IsSpelled → FailsAs R text fault
      of R third right s =
          let some : (t : Problem) → IsSpelled t → (file : StopFile) × (from_first R ls ps).Is file × (file.first ≡ t) =
          λ t q. (file_with ls ps t empty_task third, ((((record { leaves = leaf.right; behind = pair.right; first = q; second = empty_is; third = s }, right), refl), refl), refl), refl) in
          at_text R text l0 fault whole first ((lead R).fails fault (fails_task (starts_with_first R ls ps) some l3.rest.now l3.number fault h))

  module _ (l4 : Point) (one : Problem) (one_is : IsSpelled one) (one_read : l3.rest.now ≡ text_of (task_lines one) ++ l4.rest.now) (one_counted : l4.number ≡ l3.number + length (task_lines one)) where
    lead_second : (R : Option Problem → Type 0) → Leads (files R) l0 (from_second R ls ps one) l4
    lead_second R = then (lead R) (to_second R ls ps l3 l4 one one_is one_read one_counted)

    pub wrong_second : (fault : LineFault) → HasNoTask l4.rest.now l4.number fault → HasWrongLines text fault
    wrong_second fault h = wrong_lines text fault fault (λ e. e) (of IsNone None refl tt) (of IsThere (Some empty_task) tt empty_is)
      where
        of : (R : Option Problem → Type 0) (third : Option Problem) → R third → IfSome third IsSpelled → FailsAs R text fault
        of R third right s =
            let some : (t : Problem) → IsSpelled t → (file : StopFile) × (from_second R ls ps one).Is file × (file.second ≡ t) =
            λ t q. (file_with ls ps one t third, (((((record { leaves = leaf.right; behind = pair.right; first = one_is; second = q; third = s }, right), refl), refl), refl), refl), refl) in
            at_text R text l0 fault whole first ((lead_second R).fails fault (fails_task (starts_with_second R ls ps one) some l4.rest.now l4.number fault h))

    module _ (l5 : Point) (two : Problem) (two_is : IsSpelled two) (two_read : l4.rest.now ≡ text_of (task_lines two) ++ l5.rest.now) (two_counted : l5.number ≡ l4.number + length (task_lines two)) where
      lead_third : (R : Option Problem → Type 0) → Leads (files R) l0 (from_third R ls ps one two) l5
      lead_third R = then (lead_second R) (to_third R ls ps one l4 l5 two two_is two_read two_counted)

      spelled : (third : Option Problem) → IfSome third IsSpelled → IsSpelledFile (file_with ls ps one two third)
      spelled third s = record { leaves = leaf.right; behind = pair.right; first = one_is; second = two_is; third = s }

      goes_on : (rest : List ℕ) → l5.rest.now ≡ rest → (rest ≡ [] → ⊥) → FailsAt (from_third IsNone ls ps one two) l5 (Line l5.number)
      goes_on [] e some = absurd (some refl)
      goes_on (byte ∷ after) e some =
          let At : ℕ → Type 0 = λ n. FailsAt (from_third IsNone ls ps one two) l5 (Line n) in
          subst At (omega arith)
          (more_bytes [] byte after e (record { said = file_with ls ps one two None; spelled = ((((((spelled None tt, refl), refl), refl), refl), refl), refl); are = refl }))

      pub wrong_third : (fault : LineFault) → Fails AreTask l5.rest.now l5.number fault → (l5.rest.now ≡ [] → ⊥) → HasWrongLines text fault
      wrong_third fault fails some =
          wrong_lines text (Line l5.number) fault (λ e. absurd (cc))
          (at_text IsNone text l0 (Line l5.number) whole first ((lead_third IsNone).fails (Line l5.number) (goes_on l5.rest.now refl some)))
          (at_text IsThere text l0 fault whole first ((lead_third IsThere).fails fault (fails_within (there ls ps one two leaf.right pair.right one_is two_is) l5 fault fails)))

      pub file_read : (third : Option Problem) → IfSome third IsSpelled → l5.rest.now ≡ text_of (third_lines third) → Spells text (file_with ls ps one two third)
      file_read third s e =
          let all = (lead_third (λ o. Unit {0})).read (file_with ls ps one two third) ((((((spelled third s, tt), refl), refl), refl), refl), refl) e in
          record { is = sym whole ∙ all.1; spelled = all.0.0 }

-- One file ----------------------------------------------------------------------------------------

-- a text with a third task goes on where one of two tasks ends
longer : (text : List ℕ) (file : StopFile) (t : Problem) → Spells text file → file.third ≡ Some t → (n : ℕ) × FailsAs IsNone text (Line n)
longer text file t s e =
    let first = file_with file.leaves file.behind file.first file.second None in
    let are : file_lines file ≡ file_lines first ++ task_lines t = ap (λ (o : Option Problem). file_lines (file_with file.leaves file.behind file.first file.second o)) e ∙ sym (cut (task_lines t)) in
    let is : text ≡ text_of (file_lines first) ++ text_of (task_lines t) = s.is ∙ ap text_of are ∙ text_of-append (file_lines first) (task_lines t) in
    let kind : AreLinesOf (files IsNone).Is file_lines (file_lines first) = record {
      said = first;
      spelled = (record { leaves = s.spelled.leaves; behind = s.spelled.behind; first = s.spelled.first; second = s.spelled.second; third = tt }, refl);
      are = refl;
    } in
    of (header_line t.hold.lateral) _ first kind is
  where
    cut : (more : Lines) → file_lines (file_with file.leaves file.behind file.first file.second None) ++ more ≡ codes "STOPS 1" ∷ (map leave_line file.leaves ++ (map behind_line file.behind ++ (task_lines file.first ++ (task_lines file.second ++ more))))
    cut more =
        let a = map leave_line file.leaves in
        let b = map behind_line file.behind in
        let x = task_lines file.first in
        let y = task_lines file.second in
        ap (λ (xs : Lines). codes "STOPS 1" ∷ xs)
        (append_assoc a (b ++ (x ++ (y ++ []))) more
        ∙ ap (λ (xs : Lines). a ++ xs) (append_assoc b (x ++ (y ++ [])) more ∙ ap (λ (xs : Lines). b ++ xs) (append_assoc x (y ++ []) more ∙ ap (λ (xs : Lines). x ++ xs) (append_assoc y [] more))))

    of : (line : List ℕ) (more : Lines) (first : StopFile) → AreLinesOf (files IsNone).Is file_lines (file_lines first) → text ≡ text_of (file_lines first) ++ text_of (line ∷ more) → (n : ℕ) × FailsAs IsNone text (Line n)
    of [] more first kind is = (length (file_lines first) + 1, more_bytes (file_lines first) 10 (text_of more) is kind)
    of (b ∷ line) more first kind is = (length (file_lines first) + 1, more_bytes (file_lines first) b (line ++ 10 ∷ text_of more) is kind)

not_both : (text : List ℕ) (a b : StopFile) (t : Problem) → Spells text a → Spells text b → a.third ≡ None → b.third ≡ Some t → ⊥
not_both text a b t s u e g =
    let fails = longer text b t u g in
    let same = one.no_fault (files IsNone) two_once text 1 (Line fails.0) a (s.spelled, e) s.is fails.1 in
    absurd (cc)

-- a text spells one file at most
pub spelled_once : (text : List ℕ) (a b : StopFile) → Spells text a → Spells text b → a ≡ b
spelled_once text a b s u = of a.third b.third refl refl
  where
    of : (x y : Option Problem) → a.third ≡ x → b.third ≡ y → a ≡ b
    of None None e g = one.one_said (files IsNone) two_once text a b (s.spelled, e) (u.spelled, g) s.is u.is
    of None (Some t) e g = absurd (not_both text a b t s u e g)
    of (Some t) None e g = absurd (not_both text b a t u s g e)
    of (Some t) (Some v) e g =
        one.one_said (files IsThere) three_once text a b (s.spelled, subst IsThere (sym e) tt) (u.spelled, subst IsThere (sym g) tt) s.is u.is

-- and has one fault of its lines at most
pub wrong_once : (text : List ℕ) (a b : LineFault) → HasWrongLines text a → HasWrongLines text b → a ≢ NoMemory → b ≢ NoMemory → a ≡ b
wrong_once text a b (memory e) h not_a not_b = absurd (not_a e)
wrong_once text a b (wrong none fails) (memory e) not_a not_b = absurd (not_b e)
wrong_once text a b (wrong none fails) (wrong none' fails') not_a not_b = one.one_fault (files IsThere) three_once text 1 a b fails fails' not_a not_b
