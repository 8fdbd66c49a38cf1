-- a text has exactly one answer where what it states stands behind a start
use Rattle.std.proofs.Common.{◌≡◌, ◌≢◌, ⊎_elim, ℕ, ◌+◌, true, false, ◌++◌, ◌∷◌, List, [], length, refl, sym, ◌∙◌, ap, subst, All}
use Rattle.std.specs.Prelude.{bytes_eq}
use Rattle.std.proofs.lemmas.Bool.{cases_Bool, true≢false}
use Rattle.std.proofs.lemmas.Slice.Eq.{bytes_eq-Decides}
use Rattle.std.proofs.lemmas.List.{append_assoc}
use Rattle.std.proofs.lemmas.List.Elements.{All-head, All-tail, All-nil, All-push}
use Rattle.text_lines.specs.Cuts.{Avoids}
use Rattle.text_lines.specs.Lines.{text_of}
use Rattle.text_lines.specs.Grammar.{Fails}
use Rattle.text_lines.specs.Stated.{AreLinesOf}
use Rattle.text_lines.specs.declared.fault.LineFault.{LineFault}
use Rattle.text_lines.specs.declared.fault.LineFault.TheVariants as fault
use Rattle.text_lines.proofs.TextCuts.{AreLines, cut_text, joined}
use Rattle.text_lines.proofs.Rests.{Rest}
use Rattle.text_lines.proofs.OneReading.{IsReadOnce}
use Rattle.text_lines.proofs.OneAnswer.{one_said, one_fault, no_fault, some_answer}
use Rattle.certificate.specs.Starts.{IsEarlier, StartsAfter, StatesAfter}
use Rattle.certificate.specs.Refusals.{IsRefusedAfter, cert_fault}
use Rattle.certificate.specs.Refusals.IsRefusedAfter.{no_start, wrong_lines}
use Rattle.certificate.specs.declared.fault.CertFault.{CertFault}
use Rattle.certificate.specs.declared.fault.CertFault.TheVariants.{NoStart, NoMemory}
use Rattle.certificate.proofs.StartLemmas.{starts_once, no_start_starts}

abbrev Lines : Type 0
Lines = List (List ℕ)

out_of_memory : (f : LineFault) → (cert_fault f ≡ NoMemory → ⊥) → f ≢ fault.NoMemory
out_of_memory f other e = other (ap cert_fault e)

line_out_of_memory : (f : LineFault) → cert_fault f ≡ NoMemory → f ≡ fault.NoMemory
line_out_of_memory (fault.Line n) e = absurd (cc)
line_out_of_memory fault.NoEnd e = absurd (cc)
line_out_of_memory fault.NoMemory e = refl

abbrev States : List ℕ → {V : Type 0} → Rest V → List ℕ → V → Type 0
States start all = StatesAfter start all.Is all.lines

abbrev IsRefusedBy : List ℕ → {V : Type 0} → Rest V → List ℕ → CertFault → Type 0
IsRefusedBy start all = IsRefusedAfter start (AreLinesOf all.Is all.lines)

-- What was found ----------------------------------------------------------------------------------

-- behind the start comes this rest, the first line of which has this number
abbrev pub IsFound : List ℕ → List ℕ → List ℕ → ℕ → Type 0
IsFound start text rest number = (before : Lines) × StartsAfter start before text rest × (number ≡ length before + 2)

pub refused_lines : {start : List ℕ} {IsKind : Lines → Type 0} {text rest : List ℕ} {number : ℕ} {f : LineFault} → IsFound start text rest number → Fails IsKind rest number f → IsRefusedAfter start IsKind text (cert_fault f)
refused_lines {IsKind = K} {rest = rest} {f = f} found fails =
    let At : ℕ → Type 0 = λ n. Fails K rest n f in
    wrong_lines found.0 rest f found.1 (subst At found.2 fails)

pub states_after : {start : List ℕ} {V : Type 0} (all : Rest V) {text rest : List ℕ} {number : ℕ} (v : V) → IsFound start text rest number → all.Is v × (rest ≡ text_of (all.lines v)) → States start all text v
states_after {start = start} all {text = text} v found read = record { before = found.0; starts = subst (StartsAfter start found.0 text) read.1 found.1; spelled = read.0 }

-- Something stated, or a fault --------------------------------------------------------------------

module _ (start : List ℕ) {V : Type 0} (all : Rest V) where
  abbrev StatesNothing : List ℕ → Type 0
  StatesNothing text = (v : V) → States start all text v → ⊥

  abbrev HasNoFault : List ℕ → Type 0
  HasNoFault text = (f : CertFault) → IsRefusedBy start all text f → f ≡ NoMemory

  -- the text's lines, one after another: these were skipped
  pass : (some : V) → all.Is some → (text : List ℕ) (before more : Lines) (rest : List ℕ) → StatesNothing text → HasNoFault text → All (IsEarlier start) before → text ≡ text_of before ++ (text_of more ++ rest) → AreLines more → Avoids 10 rest → ⊥
  pass some is text before [] rest none faults earlier e clear end =
      let same = faults NoStart (no_start (record { lines = before; rest = rest; earlier = earlier; end = end; is = e })) in absurd (cc)
  pass some is text before (line ∷ more) rest none faults earlier e clear end =
      let after : List ℕ = text_of more ++ rest in
      let whole : text ≡ text_of before ++ (line ++ 10 ∷ after) = e ∙ ap (λ t. text_of before ++ t) (append_assoc line (10 ∷ text_of more) rest) in
      ⊎_elim
      (λ (same : bytes_eq line start ≡ true).
      let starts : StartsAfter start before text after = record { earlier = earlier; is = whole ∙ ap (λ l. text_of before ++ (l ++ 10 ∷ after)) ((bytes_eq-Decides line start).0 same) } in
      some_answer all some is after (length before + 2)
      (λ v spelled g. none v (record { before = before; starts = subst (StartsAfter start before text) g starts; spelled = spelled }))
      (λ f fails. line_out_of_memory f (faults (cert_fault f) (wrong_lines before after f starts fails))))
      (λ (other : bytes_eq line start ≡ false).
      let one : IsEarlier start line = record { whole = All-head (Avoids 10) line more clear; other = λ g. true≢false (sym ((bytes_eq-Decides line start).1 g) ∙ other) } in
      pass some is text (before ++ line ∷ []) more rest none faults (All-push (IsEarlier start) before line earlier one) (whole ∙ sym (joined before line after)) (All-tail (Avoids 10) line more clear) end)
      (cases_Bool (bytes_eq line start))

  pub states_something : (some : V) → all.Is some → (text : List ℕ) → StatesNothing text → HasNoFault text → ⊥
  states_something some is text none faults =
      let cut = cut_text text in
      pass some is text [] cut.lines cut.rest none faults (All-nil (IsEarlier start)) cut.is cut.clear cut.end

-- One thing stated, or one fault -------------------------------------------------------------------

module _ (start : List ℕ) (plain : Avoids 10 start) {V : Type 0} (all : Rest V) (read : IsReadOnce all) where
  pub states_once : (text : List ℕ) (v w : V) → States start all text v → States start all text w → v ≡ w
  states_once text v w s t =
      let same = starts_once start plain s.before t.before text (text_of (all.lines v)) (text_of (all.lines w)) s.starts t.starts in
      one_said all read (text_of (all.lines v)) v w s.spelled t.spelled refl same.1

  pub stated_has_no_fault : (text : List ℕ) (v : V) (f : CertFault) → States start all text v → IsRefusedBy start all text f → f ≡ NoMemory
  stated_has_no_fault text v _ s (no_start none) = absurd (no_start_starts start plain text s.before (text_of (all.lines v)) none s.starts)
  stated_has_no_fault text v _ s (wrong_lines before rest f starts fails) =
      let same = starts_once start plain before s.before text rest (text_of (all.lines v)) starts s.starts in
      ap cert_fault (no_fault all read rest (length before + 2) f v s.spelled same.1 fails)

  pub refused_once : (text : List ℕ) (a b : CertFault) → IsRefusedBy start all text a → IsRefusedBy start all text b → a ≢ NoMemory → b ≢ NoMemory → a ≡ b
  refused_once text _ _ (no_start none) (no_start none') not_a not_b = refl
  refused_once text _ _ (no_start none) (wrong_lines before rest f starts fails) not_a not_b = absurd (no_start_starts start plain text before rest none starts)
  refused_once text _ _ (wrong_lines before rest f starts fails) (no_start none) not_a not_b = absurd (no_start_starts start plain text before rest none starts)
  refused_once text _ _ (wrong_lines before rest f starts fails) (wrong_lines before' rest' f' starts' fails') not_a not_b =
      let same = starts_once start plain before before' text rest rest' starts starts' in
      let At : Lines → List ℕ → Type 0 = λ lines t. Fails (AreLinesOf all.Is all.lines) t (length lines + 2) f' in
      let here = subst (λ (lines : Lines). At lines rest) (sym same.0) (subst (λ (t : List ℕ). At before' t) (sym same.1) fails') in
      ap cert_fault (one_fault all read rest (length before + 2) f f' fails here (out_of_memory f not_a) (out_of_memory f' not_b))
