-- how a refusal further on in a text is a refusal of the text from an earlier point on
use Rattle.std.proofs.Common.{◌≡◌, ℕ, ◌+◌, ◌++◌, ◌∷◌, List, [], length, refl, sym, ◌∙◌, ap, subst, arith}
use Rattle.std.specs.Prelude.{Result, Ok, Err, IfErr}
use Rattle.std.specs.Result.{IsErrAnd}
use Rattle.std.proofs.lemmas.List.{append_assoc, length-append}
use Rattle.text_lines.specs.Cuts.{Avoids}
use Rattle.text_lines.specs.Lines.{text_of}
use Rattle.text_lines.specs.Grammar.{Begins, Fails}
use Rattle.text_lines.specs.Grammar.Fails.{wrong_line, more_bytes, early_end, no_memory}
use Rattle.text_lines.specs.Sections.{HasNoneAhead}
use Rattle.text_lines.specs.declared.fault.LineFault.{LineFault}
use Rattle.text_lines.specs.declared.fault.LineFault.TheVariants.{Line, NoMemory}
use Rattle.text_lines.proofs.SectionLemmas.{text_of-append}
use Rattle.text_lines.proofs.RunOfLines.{Stops}

abbrev Lines : Type 0
Lines = List (List ℕ)

-- ---- the first line of a text

-- where there are lines, the text begins with the first of them
abbrev pub HasFirst : List ℕ → Lines → Type 0
HasFirst text lines = (line : List ℕ) (more : Lines) → lines ≡ line ∷ more → (after : List ℕ) × (text ≡ line ++ 10 ∷ after)

first_of_text : (line : List ℕ) (lines more : Lines) (text after : List ℕ) → text ≡ text_of (line ∷ lines) ++ after → HasFirst text (line ∷ more)
first_of_text line lines more text after e =
    λ l rest g. let same : line ≡ l = cc in
    (text_of lines ++ after, e ∙ append_assoc line (10 ∷ text_of lines) after ∙ ap (λ t. t ++ 10 ∷ (text_of lines ++ after)) same)

first_of_all : (done : Lines) (text rest : List ℕ) → text ≡ text_of done ++ rest → HasFirst text done
first_of_all [] text rest e = λ line more g. absurd (cc)
first_of_all (d ∷ done) text rest e = first_of_text d done done text rest e

first_of_done : (done : Lines) (line : List ℕ) (more : Lines) (text after : List ℕ) → text ≡ text_of done ++ (line ++ 10 ∷ after) → HasFirst text (done ++ line ∷ more)
first_of_done [] line more text after e = first_of_text line [] more text after (e ∙ sym (append_assoc line (10 ∷ []) after))
first_of_done (d ∷ done) line more text after e = first_of_text d done (done ++ line ∷ more) text (line ++ 10 ∷ after) e

-- ---- from a later point of a text to an earlier one

-- lines of the one kind, and lines of the other that follow these: what the text goes on with decides which they are
pub record IsStep (IsWhole IsLater : Lines → Type 0) (lines : Lines) (rest : List ℕ) : Type 0 where
  pub forth : (more : Lines) → IsLater more → IsWhole (lines ++ more)
  pub back : (more : Lines) → HasFirst rest more → IsWhole (lines ++ more) → IsLater more

joined : (lines done : Lines) (text rest behind : List ℕ) → text ≡ text_of lines ++ rest → rest ≡ text_of done ++ behind → text ≡ text_of (lines ++ done) ++ behind
joined lines done text rest behind e g =
    e ∙ ap (λ t. text_of lines ++ t) g ∙ sym (append_assoc (text_of lines) (text_of done) behind) ∙ ap (λ t. t ++ behind) (sym (text_of-append lines done))

begins_earlier : (IsWhole IsLater : Lines → Type 0) (lines done : Lines) (rest : List ℕ) → IsStep IsWhole IsLater lines rest → Begins IsLater done → Begins IsWhole (lines ++ done)
begins_earlier W L lines done rest step b = record {
  more = b.more;
  kind = subst W (sym (append_assoc lines done b.more)) (step.forth (done ++ b.more) b.kind);
}

goes_on_later : (IsWhole IsLater : Lines → Type 0) (lines done : Lines) (line rest after : List ℕ) → IsStep IsWhole IsLater lines rest → rest ≡ text_of done ++ (line ++ 10 ∷ after) → Begins IsWhole ((lines ++ done) ++ line ∷ []) → Begins IsLater (done ++ line ∷ [])
goes_on_later W L lines done line rest after step e b =
    let whole : W (lines ++ (done ++ line ∷ b.more)) = subst W (append_assoc (lines ++ done) (line ∷ []) b.more ∙ append_assoc lines done (line ∷ b.more)) b.kind in
    let later : L (done ++ line ∷ b.more) = step.back (done ++ line ∷ b.more) (first_of_done done line b.more rest after e) whole in
    record { more = b.more; kind = subst L (sym (append_assoc done (line ∷ []) b.more)) later }

all_later : (IsWhole IsLater : Lines → Type 0) (lines done : Lines) (rest behind : List ℕ) → IsStep IsWhole IsLater lines rest → rest ≡ text_of done ++ behind → IsWhole (lines ++ done) → IsLater done
all_later W L lines done rest behind step e whole = step.back done (first_of_all done rest behind e) whole

line_number : (lines done : Lines) (number next : ℕ) → next ≡ length lines + number → length done + next ≡ length (lines ++ done) + number
line_number lines done number next counted = let both = length-append lines done in omega (arith, both, counted)

pub fails_earlier : (IsWhole IsLater : Lines → Type 0) (lines : Lines) (text rest : List ℕ) (number next : ℕ) (fault : LineFault) → IsStep IsWhole IsLater lines rest → text ≡ text_of lines ++ rest → next ≡ length lines + number → Fails IsLater rest next fault → Fails IsWhole text number fault
fails_earlier W L lines text rest number next _ step e counted (wrong_line done line after g clear b none) =
    let At : ℕ → Type 0 = λ n. Fails W text number (Line n) in
    subst At (sym (line_number lines done number next counted))
    (wrong_line (lines ++ done) line after (joined lines done text rest (line ++ 10 ∷ after) e g) clear (begins_earlier W L lines done rest step b)
    (λ b'. none (goes_on_later W L lines done line rest after step g b')))
fails_earlier W L lines text rest number next _ step e counted (more_bytes done byte after g all) =
    let At : ℕ → Type 0 = λ n. Fails W text number (Line n) in
    subst At (sym (line_number lines done number next counted))
    (more_bytes (lines ++ done) byte after (joined lines done text rest (byte ∷ after) e g) (step.forth done all))
fails_earlier W L lines text rest number next _ step e counted (early_end done behind g clear b none) =
    early_end (lines ++ done) behind (joined lines done text rest behind e g) clear (begins_earlier W L lines done rest step b)
    (λ whole. none (all_later W L lines done rest behind step g whole))
fails_earlier W L lines text rest number next _ step e counted no_memory = no_memory

-- being out of memory is a fault of each text
pub fails_of_memory : {X : Type 0} (r : Result X LineFault) (IsKind : Lines → Type 0) (text : List ℕ) (number : ℕ) → IsErrAnd r (λ fault. fault ≡ NoMemory) → IfErr r (Fails IsKind text number)
fails_of_memory (Ok x) K text number e = tt
fails_of_memory (Err fault) K text number e = subst (Fails K text number) (sym e) no_memory

-- lines of two kinds that are one have the same faults
pub fails_same : {K L : Lines → Type 0} → ((lines : Lines) → K lines → L lines) → ((lines : Lines) → L lines → K lines) → (text : List ℕ) (number : ℕ) (fault : LineFault) → Fails K text number fault → Fails L text number fault
fails_same forth back text number _ (wrong_line done line after e clear b none) =
    wrong_line done line after e clear (record { more = b.more; kind = forth (done ++ b.more) b.kind }) (λ more. none (record { more = more.more; kind = back ((done ++ line ∷ []) ++ more.more) more.kind }))
fails_same forth back text number _ (more_bytes done byte after e all) = more_bytes done byte after e (forth done all)
fails_same forth back text number _ (early_end done rest e clear b none) = early_end done rest e clear (record { more = b.more; kind = forth (done ++ b.more) b.kind }) (λ a. none (back done a))
fails_same forth back text number _ no_memory = no_memory

-- ---- past a run of lines of one kind

pub stops_from : {X : Type 0} (line : X → List ℕ) (IsRight : X → Type 0) → ((x : X) → IsRight x → Avoids 10 (line x)) → (text : List ℕ) (lines : Lines) → HasNoneAhead line IsRight text → HasFirst text lines → Stops line IsRight lines
stops_from line P avoids text lines none first = λ x more p e. let found = first (line x) more e in none (line x) found.0 found.1 (avoids x p) x p refl
