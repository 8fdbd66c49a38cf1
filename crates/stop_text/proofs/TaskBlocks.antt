-- a fault of the next task's text is one of every text that goes on with a task there
use Rattle.std.proofs.Common.{◌≡◌, ◌≢◌, true, false, take, ◌⊎◌, ⊎_elim, inl, inr, ℕ, ◌+◌, ◌-◌, ◌<◌, ◌≤◌, ◌^◌, ◌++◌, ◌∷◌, List, [], length, refl, sym, ◌∙◌, ap, subst, arith, IfOk, IfErr}
use Rattle.std.proofs.lemmas.List.{append_assoc, append-nil, length-append}
use Rattle.std.proofs.lemmas.List.Elements.{All-push}
use Rattle.std.proofs.Math.Seq.{take-append_seam}
use Rattle.text_lines.specs.Cuts.{Avoids}
use Rattle.hold_limits.specs.Problem.{Problem}
use Rattle.hold_limits.specs.Faults.{IsLawful}
use Rattle.text_lines.specs.Lines.{text_of}
use Rattle.text_lines.specs.Grammar.{Fails, Begins}
use Rattle.text_lines.specs.Grammar.Fails.{wrong_line, more_bytes, early_end, no_memory}
use Rattle.text_lines.specs.Stated.{AreLinesOf}
use Rattle.text_lines.specs.declared.fault.LineFault.{LineFault}
use Rattle.text_lines.specs.declared.fault.LineFault.TheVariants as line
use Rattle.text_lines.proofs.SectionLemmas.{text_of-append}
use Rattle.text_lines.proofs.Rests.{Rest, StartsWithBlock}
use Rattle.problem_text.specs.TaskText.{task_lines, IsSpelled, Spells}
use Rattle.problem_text.specs.Reading.{text_fault}
use Rattle.problem_text.specs.Refusals.{AreTask, IsRefused}
use Rattle.problem_text.specs.Refusals.IsRefused.{wrong_lines, wrong_hold, wrong_task}
use Rattle.problem_text.specs.declared.fault.TextFault.{TextFault}
use Rattle.problem_text.specs.declared.fault.TextFault.TheVariants as text
use Rattle.stop_text.specs.Reading.{AreInside, IsPast, IsSlice, told, IsTaskBetween, HasNoTask}
use Rattle.stop_text.specs.Reading.IsSlice.{ended, open_ended}
use Rattle.stop_text.specs.declared.parts.Sector.TheVariants.{Lawful}
use Rattle.stop_text.proofs.TaskEnds.{end, before_end, lines-ended, ended_alone, none_open, stops_whole}

abbrev Lines : Type 0
Lines = List (List ℕ)

-- of lines that begin in the same way, one goes on where the other stops
either : (xs ys a b : Lines) → xs ++ a ≡ ys ++ b → ((zs : Lines) × (ys ≡ xs ++ zs)) ⊎ ((zs : Lines) × (xs ≡ ys ++ zs))
either [] ys a b e = inl (ys, refl)
either (x ∷ xs) [] a b e = inr (x ∷ xs, refl)
either (x ∷ xs) (y ∷ ys) a b e =
    let head : x ≡ y = cc in
    let tails : xs ++ a ≡ ys ++ b = cc in
    ⊎_elim
    (λ (h : (zs : Lines) × (ys ≡ xs ++ zs)). inl (h.0, λ i. sym head i ∷ h.1 i))
    (λ (h : (zs : Lines) × (xs ≡ ys ++ zs)). inr (h.0, λ i. head i ∷ h.1 i))
    (either xs ys a b tails)

none_in : (zs : Lines) (rest : List ℕ) → text_of zs ++ rest ≡ [] → zs ≡ []
none_in [] rest e = refl
none_in (z ∷ zs) rest e = absurd (of z e)
  where
    of : (z : List ℕ) → (z ++ 10 ∷ text_of zs) ++ rest ≡ [] → ⊥
    of [] e = absurd (cc)
    of (b ∷ z) e = absurd (cc)

module _ {V : Type 0} {rest : Rest V} {part : V → Problem} {later : V → Lines} (starts : StartsWithBlock rest task_lines IsSpelled part later)
    (some : (t : Problem) → IsSpelled t → (v : V) × rest.Is v × (part v ≡ t)) (before : List ℕ) (number : ℕ) where
  abbrev AreAll : Lines → Type 0
  AreAll = AreLinesOf rest.Is rest.lines

  begins : (done : Lines) → Begins AreTask done → Begins AreAll done
  begins done b =
      let v = some b.kind.said b.kind.spelled in
      record {
        more = b.more ++ later v.0;
        kind = record {
          said = v.0;
          spelled = v.1;
          are = sym (append_assoc done b.more (later v.0)) ∙ ap (λ (xs : Lines). xs ++ later v.0) (b.kind.are ∙ ap task_lines (sym v.2)) ∙ sym (starts.are v.0 v.1);
        };
      }

  module _ (slice after : List ℕ) (are : before ≡ slice ++ after) (alone : (t : Problem) (rest : List ℕ) → IsSpelled t → slice ≡ text_of (task_lines t) ++ rest → rest ≡ []) where
    goes_on : (done : Lines) (line behind : List ℕ) → slice ≡ text_of done ++ (line ++ 10 ∷ behind) → (Begins AreTask (done ++ line ∷ []) → ⊥) → Begins AreAll (done ++ line ∷ []) → ⊥
    goes_on done line behind e none b =
        let v = b.kind.said in
        let t = part v in
        let s = starts.right v b.kind.spelled in
        ⊎_elim
        (λ (h : (zs : Lines) × (task_lines t ≡ (done ++ line ∷ []) ++ zs)). none (record { more = h.0; kind = record { said = t; spelled = s; are = sym h.1 } }))
        (λ (h : (zs : Lines) × (done ++ line ∷ [] ≡ task_lines t ++ zs)).
        let whole : slice ≡ text_of (task_lines t) ++ (text_of h.0 ++ behind) =
        e ∙ sym (ap (λ xs. xs ++ behind) (text_of-append done (line ∷ [])) ∙ append_assoc (text_of done) (line ++ 10 ∷ []) behind ∙ ap (λ xs. text_of done ++ xs) (append_assoc line (10 ∷ []) behind))
        ∙ ap (λ (xs : Lines). text_of xs ++ behind) h.1 ∙ ap (λ xs. xs ++ behind) (text_of-append (task_lines t) h.0) ∙ append_assoc (text_of (task_lines t)) (text_of h.0) behind in
        let no_more = none_in h.0 behind (alone t (text_of h.0 ++ behind) s whole) in
        none (record { more = []; kind = record { said = t; spelled = s; are = append-nil (done ++ line ∷ []) ∙ h.1 ∙ ap (λ (zs : Lines). task_lines t ++ zs) no_more ∙ append-nil (task_lines t) } }))
        (either (done ++ line ∷ []) (task_lines t) b.more (later v) (b.kind.are ∙ starts.are v b.kind.spelled))

    lift : (fault : LineFault) → (fault ≡ line.NoEnd → after ≡ []) → Fails AreTask slice number fault → Fails AreAll before number fault
    lift _ whole (wrong_line done line behind e clear b none) =
        wrong_line done line (behind ++ after)
        (are ∙ ap (λ t. t ++ after) e ∙ append_assoc (text_of done) (line ++ 10 ∷ behind) after ∙ ap (λ t. text_of done ++ t) (append_assoc line (10 ∷ behind) after))
        clear (begins done b) (goes_on done line behind e none)
    lift _ whole (more_bytes done byte behind e all) =
        let none = alone all.said (byte ∷ behind) all.spelled (e ∙ ap (λ (xs : Lines). text_of xs ++ byte ∷ behind) all.are) in absurd (cc)
    lift _ whole (early_end done behind e clear b none) =
        early_end done behind (are ∙ ap (λ t. slice ++ t) (whole refl) ∙ append-nil slice ∙ e) clear (begins done b)
        (λ all.
        let v = all.said in
        let s = starts.right v all.spelled in
        let told : slice ≡ text_of (task_lines (part v)) ++ (text_of (later v) ++ behind) =
        e ∙ ap (λ (xs : Lines). text_of xs ++ behind) (all.are ∙ starts.are v all.spelled) ∙ ap (λ xs. xs ++ behind) (text_of-append (task_lines (part v)) (later v)) ∙ append_assoc (text_of (task_lines (part v))) (text_of (later v)) behind in
        let no_more = none_in (later v) behind (alone (part v) (text_of (later v) ++ behind) s told) in
        none (record { said = part v; spelled = s; are = all.are ∙ starts.are v all.spelled ∙ ap (λ (zs : Lines). task_lines (part v) ++ zs) no_more ∙ append-nil (task_lines (part v)) }))
    lift _ whole no_memory = no_memory

  pub fails_task : (fault : LineFault) → HasNoTask before number fault → Fails AreAll before number fault
  fails_task fault h = lift h.slice h.after h.are h.alone fault h.whole h.fails

-- A slice of a text -------------------------------------------------------------------------------

slice_alone : (before : List ℕ) (number : ℕ) (slice after : List ℕ) (next : ℕ) → IsSlice before number slice after next → (t : Problem) (rest : List ℕ) → IsSpelled t → slice ≡ text_of (task_lines t) ++ rest → rest ≡ []
slice_alone before number slice after next (ended lines inside e are counted) t rest s g = (ended_alone lines inside t rest s (sym e ∙ g)).0
slice_alone before number slice after next (open_ended lines last inside avoids e are) t rest s g = absurd (none_open lines inside t last rest avoids s (sym e ∙ g))

task_is_between : (before : List ℕ) (number : ℕ) (slice after : List ℕ) (next : ℕ) → IsSlice before number slice after next → (t : Problem) → Spells slice t
    → (before ≡ text_of (task_lines t) ++ after) × (next ≡ number + length (task_lines t))
task_is_between before number slice after next (ended lines inside e are counted) t spells =
    let same = (ended_alone lines inside t [] spells.spelled (sym e ∙ spells.is ∙ sym (append-nil (text_of (task_lines t))))).1 in
    let long = length-append (before_end t) (end ∷ []) in
    let all = ap (λ (xs : Lines). length xs) (lines-ended t) in
    let few = ap (λ (xs : Lines). length xs) same in
    (are ∙ ap (λ xs. xs ++ after) spells.is, omega (arith, counted, long, all, few))
task_is_between before number slice after next (open_ended lines last inside avoids e are) t spells =
    absurd (none_open lines inside t last [] avoids spells.spelled (sym e ∙ spells.is ∙ sym (append-nil (text_of (task_lines t)))))

no_early_end : (number : ℕ) (slice : List ℕ) (lines : Lines) → AreInside lines → slice ≡ text_of (lines ++ end ∷ []) → (fault : LineFault) → Fails AreTask slice number fault → fault ≡ line.NoEnd → ⊥
no_early_end number slice lines inside e _ (wrong_line done first behind g clear b none) is = absurd (cc)
no_early_end number slice lines inside e _ (more_bytes done byte behind g all) is = absurd (cc)
no_early_end number slice lines inside e _ (early_end done behind g clear b none) is =
    let no_more = stops_whole lines inside b.kind.said done b.more behind b.kind.spelled b.kind.are clear (sym e ∙ g) in
    none (record { said = b.kind.said; spelled = b.kind.spelled; are = sym (append-nil done) ∙ ap (λ (xs : Lines). done ++ xs) (sym no_more) ∙ b.kind.are })
no_early_end number slice lines inside e _ no_memory is = absurd (cc)

no_task : (before : List ℕ) (number : ℕ) (slice after : List ℕ) (next : ℕ) → IsSlice before number slice after next → (fault : LineFault) → Fails AreTask slice number fault → HasNoTask before number fault
no_task before number slice after next (ended lines inside e are counted) fault fails = record {
  slice = slice;
  after = after;
  are = are;
  fails = fails;
  alone = slice_alone before number slice after next (ended lines inside e are counted);
  whole = λ is. absurd (no_early_end number slice lines inside e fault fails is);
}
no_task before number slice after next (open_ended lines last inside avoids e are) fault fails = record {
  slice = slice;
  after = [];
  are = sym are ∙ sym (append-nil slice);
  fails = fails;
  alone = slice_alone before number slice after next (open_ended lines last inside avoids e are);
  whole = λ is. refl;
}

-- What a refusal of the slice says ----------------------------------------------------------------

long_text : (lines : Lines) → length lines ≤ length (text_of lines)
long_text [] = omega arith
long_text (l ∷ lines) = let long = length-append l (10 ∷ text_of lines) in let so = long_text lines in omega (arith, long, so)

line_inside : (slice : List ℕ) (f : LineFault) (n : ℕ) → Fails AreTask slice 1 f → text_fault f ≡ text.Line n → (1 ≤ n) × (n ≤ length slice)
line_inside slice _ n (wrong_line done first behind e clear b none) is =
    let at : length done + 1 ≡ n = cc in
    let whole = ap (λ (xs : List ℕ). length xs) e in
    let both = length-append (text_of done) (first ++ 10 ∷ behind) in
    let last = length-append first (10 ∷ behind) in
    let so = long_text done in
    (omega (arith, at), omega (arith, at, whole, both, last, so))
line_inside slice _ n (more_bytes done byte behind e all) is =
    let at : length done + 1 ≡ n = cc in
    let whole = ap (λ (xs : List ℕ). length xs) e in
    let both = length-append (text_of done) (byte ∷ behind) in
    let so = long_text done in
    (omega (arith, at), omega (arith, at, whole, both, so))
line_inside slice _ n (early_end done behind e clear b none) is = absurd (cc)
line_inside slice _ n no_memory is = absurd (cc)

refused_inside : (slice : List ℕ) (fault : TextFault) (n : ℕ) → IsRefused slice fault → fault ≡ text.Line n → (1 ≤ n) × (n ≤ length slice)
refused_inside slice _ n (wrong_lines f fails) is = line_inside slice f n fails is
refused_inside slice _ n (wrong_hold t fault s h) is = absurd (cc)
refused_inside slice _ n (wrong_task t fault s h k) is = absurd (cc)

short_slice : (before : List ℕ) (number : ℕ) (slice after : List ℕ) (next : ℕ) → IsSlice before number slice after next → length slice ≤ length before
short_slice before number slice after next (ended lines inside e are counted) = let long = length-append slice after in let all = ap (λ (xs : List ℕ). length xs) are in omega (arith, long, all)
short_slice before number slice after next (open_ended lines last inside avoids e are) = let all = ap (λ (xs : List ℕ). length xs) are in omega (arith, all)

pub line_fits : (before : List ℕ) (number : ℕ) (slice after : List ℕ) (next : ℕ) (fault : TextFault) → IsSlice before number slice after next → number + length before < 2 ^ 64 → IsRefused slice fault
    → (n : ℕ) → fault ≡ text.Line n → (1 ≤ n) × (number + n < 2 ^ 64)
line_fits before number slice after next fault s bound refused n is =
    let inside = refused_inside slice fault n refused is in
    let at = inside.1 in
    let short = short_slice before number slice after next s in
    (inside.0, omega (arith, at, short, bound))

pub lawful_between : (before : List ℕ) (number : ℕ) (slice after : List ℕ) (next : ℕ) (t : Problem) → IsSlice before number slice after next → Spells slice t × IsLawful t → IsTaskBetween before number after next (Lawful t)
lawful_between before number slice after next t s read =
    let at = task_is_between before number slice after next s t read.0 in
    record { task = t; spelled = read.0.spelled; is = (refl, read.1); read = at.0; counted = at.1 }

pub told_read : (before : List ℕ) (number : ℕ) (slice after : List ℕ) (next : ℕ) (fault : TextFault) → IsSlice before number slice after next → IsRefused slice fault → IfOk (told number fault) (IsTaskBetween before number after next)
told_read before number slice after next _ s (wrong_lines f fails) = of f
  where
    of : (f : LineFault) → IfOk (told number (text_fault f)) (IsTaskBetween before number after next)
    of (line.Line n) = tt
    of line.NoEnd = tt
    of line.NoMemory = tt
told_read before number slice after next _ s (wrong_hold t fault spells h) =
    let at = task_is_between before number slice after next s t spells in
    record { task = t; spelled = spells.spelled; is = h; read = at.0; counted = at.1 }
told_read before number slice after next _ s (wrong_task t fault spells h k) =
    let at = task_is_between before number slice after next s t spells in
    record { task = t; spelled = spells.spelled; is = (h, k); read = at.0; counted = at.1 }

pub told_refused : (before : List ℕ) (number : ℕ) (slice after : List ℕ) (next : ℕ) (fault : TextFault) → IsSlice before number slice after next → IsRefused slice fault → IfErr (told number fault) (HasNoTask before number)
told_refused before number slice after next _ s (wrong_lines f fails) = of f fails
  where
    of : (f : LineFault) → Fails AreTask slice 1 f → IfErr (told number (text_fault f)) (HasNoTask before number)
    of _ (wrong_line done first behind e clear b none) =
        let At : ℕ → Type 0 = λ n. HasNoTask before number (line.Line n) in
        subst At (omega arith) (no_task before number slice after next s (line.Line (length done + number)) (wrong_line done first behind e clear b none))
    of _ (more_bytes done byte behind e all) =
        let At : ℕ → Type 0 = λ n. HasNoTask before number (line.Line n) in
        subst At (omega arith) (no_task before number slice after next s (line.Line (length done + number)) (more_bytes done byte behind e all))
    of _ (early_end done behind e clear b none) = no_task before number slice after next s line.NoEnd (early_end done behind e clear b none)
    of _ no_memory = no_task before number slice after next s line.NoMemory no_memory
told_refused before number slice after next _ s (wrong_hold t fault spells h) = tt
told_refused before number slice after next _ s (wrong_task t fault spells h k) = tt

-- From lines to a slice ---------------------------------------------------------------------------

pub slice_open : (before : List ℕ) (number : ℕ) (after : List ℕ) (next : ℕ) → IsPast false before number after next → IsSlice before number before after next
slice_open before number after next p = open_ended p.lines after p.inside p.goes_on.1 p.goes_on.0 refl

pub slice_ended : (before : List ℕ) (number : ℕ) (after : List ℕ) (next : ℕ) → IsPast true before number after next → IsSlice before number (take (length before - length after) before) after next
slice_ended before number after next p =
    let slice = text_of (p.lines ++ end ∷ []) in
    let are : before ≡ slice ++ after = p.goes_on.0 in
    let both = length-append slice after in
    let all = ap (λ (xs : List ℕ). length xs) are in
    let few : length before - length after ≡ length slice = omega (arith, both, all) in
    let same : take (length before - length after) before ≡ slice = (λ i. take (few i) (are i)) ∙ take-append_seam slice after in
    ended p.lines p.inside same (are ∙ ap (λ xs. xs ++ after) (sym same)) p.goes_on.1

module _ (before : List ℕ) (number : ℕ) (lines : Lines) (inside : AreInside lines) (now : List ℕ) (at : ℕ) (read : before ≡ text_of lines ++ now) (counted : at ≡ number + length lines)
    (first after : List ℕ) (next : ℕ) (is : now ≡ first ++ 10 ∷ after) (clear : Avoids 10 first) (more : next ≡ at + 1) where
  grown : before ≡ text_of (lines ++ first ∷ []) ++ after
  grown =
      read ∙ ap (λ t. text_of lines ++ t) (is ∙ sym (append_assoc first (10 ∷ []) after)) ∙ sym (append_assoc (text_of lines) (first ++ 10 ∷ []) after)
      ∙ ap (λ t. t ++ after) (sym (text_of-append lines (first ∷ [])))

  pub past_end : first ≡ end → IsPast true before number after next
  past_end e = record {
    lines = lines;
    inside = inside;
    goes_on = (grown ∙ ap (λ l. text_of (lines ++ l ∷ []) ++ after) e, omega (arith, counted, more));
  }

  abbrev pub IsLonger : Type 0
  IsLonger = (all : Lines) × AreInside all × (before ≡ text_of all ++ after) × (next ≡ number + length all)

  pub past_other : (first ≡ end → ⊥) → IsLonger
  past_other other =
      let long = length-append lines (first ∷ []) in (
        lines ++ first ∷ [],
        record { clear = All-push (Avoids 10) lines first inside.clear clear; others = All-push (λ line. line ≢ end) lines first inside.others other },
        grown,
        omega (arith, counted, more, long),
      )
