-- a text of lines has exactly one answer: what its lines state, or the first fault
use Rattle.std.proofs.Common.{◌≡◌, ◌≢◌, ⊎_elim, ◌⊎◌, inl, inr, ℕ, ◌+◌, eqb, false, ◌++◌, ◌∷◌, List, [], length, refl, sym, ◌∙◌, ap, subst}
use Rattle.std.proofs.lemmas.List.{append_assoc, append-nil}
use Rattle.std.proofs.lemmas.List.Elements.{All-head, All-tail, All-nil, All-cons, All-same}
use Rattle.text_lines.specs.Cuts.{Avoids}
use Rattle.text_lines.specs.Lines.{text_of}
use Rattle.text_lines.specs.Grammar.{Begins, Fails}
use Rattle.text_lines.specs.Grammar.Fails.{wrong_line, more_bytes, early_end, no_memory}
use Rattle.text_lines.specs.Stated.{AreLinesOf}
use Rattle.text_lines.specs.declared.fault.LineFault.{LineFault}
use Rattle.text_lines.specs.declared.fault.LineFault.TheVariants.{Line, NoEnd, NoMemory}
use Rattle.text_lines.proofs.CutLemmas.{split_once_again, has_mark}
use Rattle.text_lines.proofs.SectionLemmas.{text_of-append}
use Rattle.text_lines.proofs.TextCuts.{AreLines, compare, cut_text}
use Rattle.text_lines.proofs.Rests.{Rest}
use Rattle.text_lines.proofs.OneReading.{IsReadOnce}

abbrev Lines : Type 0
Lines = List (List ℕ)

first_lines : (xs ys : Lines) → AreLines (xs ++ ys) → AreLines xs
first_lines [] ys all = All-nil (Avoids 10)
first_lines (x ∷ xs) ys all = All-cons (Avoids 10) x xs (All-head (Avoids 10) x (xs ++ ys) all) (first_lines xs ys (All-tail (Avoids 10) x (xs ++ ys) all))

last_lines : (xs ys : Lines) → AreLines (xs ++ ys) → AreLines ys
last_lines [] ys all = all
last_lines (x ∷ xs) ys all = last_lines xs ys (All-tail (Avoids 10) x (xs ++ ys) all)

-- these are all lines of something
abbrev AreAll : {V : Type 0} → Rest V → Lines → Type 0
AreAll all = AreLinesOf all.Is all.lines

-- Something stated, or a fault --------------------------------------------------------------------

module _ {V : Type 0} (all : Rest V) where
  abbrev StatesNothing : List ℕ → Type 0
  StatesNothing text = (v : V) → all.Is v → text ≡ text_of (all.lines v) → ⊥

  abbrev HasNoFault : List ℕ → ℕ → Type 0
  HasNoFault text number = (fault : LineFault) → Fails (AreAll all) text number fault → fault ≡ NoMemory

  -- no text goes on with these lines and the next one of the others
  abbrev NoneGoesOn : Lines → Lines → Type 0
  NoneGoesOn lines more = (line : List ℕ) (after : Lines) → more ≡ line ∷ after → Begins (AreAll all) (lines ++ line ∷ []) → ⊥

  abbrev HasNoLongest : Lines → Type 0
  HasNoLongest whole = (lines more : Lines) → whole ≡ lines ++ more → Begins (AreAll all) lines → NoneGoesOn lines more → ⊥

  has_longest : (lines more : Lines) → Begins (AreAll all) lines → HasNoLongest (lines ++ more) → ⊥
  has_longest lines [] begins none = none lines [] refl begins (λ line after e longer. absurd (cc))
  has_longest lines (line ∷ more) begins none =
      let halt : Begins (AreAll all) (lines ++ line ∷ []) → ⊥ = λ longer. has_longest (lines ++ line ∷ []) more longer (subst HasNoLongest (sym (append_assoc lines (line ∷ []) more)) none) in
      none lines (line ∷ more) refl begins (λ other after e longer. let same : other ≡ line = cc in halt (subst (λ (x : List ℕ). Begins (AreAll all) (lines ++ x ∷ [])) same longer))

  of_lines : (text : List ℕ) (number : ℕ) (lines : Lines) (rest : List ℕ) → StatesNothing text → HasNoFault text number → text ≡ text_of lines ++ rest → AreAll all lines → ⊥
  of_lines text number lines [] none faults e a = none a.said a.spelled (e ∙ append-nil (text_of lines) ∙ ap text_of a.are)
  of_lines text number lines (byte ∷ rest) none faults e a = let same = faults (Line (length lines + number)) (more_bytes lines byte rest e a) in absurd (cc)

  of_longest : (text : List ℕ) (number : ℕ) (lines more : Lines) (rest : List ℕ) → StatesNothing text → HasNoFault text number → text ≡ text_of (lines ++ more) ++ rest → AreLines more → Avoids 10 rest → Begins (AreAll all) lines → NoneGoesOn lines more → ⊥
  of_longest text number lines [] rest none faults e clear end begins halt =
      let whole : text ≡ text_of lines ++ rest = e ∙ ap (λ (xs : Lines). text_of xs ++ rest) (append-nil lines) in
      let same = faults NoEnd (early_end lines rest whole end begins (of_lines text number lines rest none faults whole)) in
      absurd (cc)
  of_longest text number lines (line ∷ more) rest none faults e clear end begins halt =
      let whole : text ≡ text_of lines ++ (line ++ 10 ∷ (text_of more ++ rest)) =
      e ∙ ap (λ t. t ++ rest) (text_of-append lines (line ∷ more)) ∙ append_assoc (text_of lines) (text_of (line ∷ more)) rest
      ∙ ap (λ t. text_of lines ++ t) (append_assoc line (10 ∷ text_of more) rest) in
      let same = faults (Line (length lines + number)) (wrong_line lines line (text_of more ++ rest) whole (All-head (Avoids 10) line more clear) begins (halt line more refl)) in
      absurd (cc)

  -- no text is without something that it states and without a fault
  pub some_answer : (some : V) → all.Is some → (text : List ℕ) (number : ℕ) → StatesNothing text → HasNoFault text number → ⊥
  some_answer some is text number none faults =
      let cut = cut_text text in
      has_longest [] cut.lines (record { more = all.lines some; kind = record { said = some; spelled = is; are = refl } }) (λ lines more e begins halt.
      of_longest text number lines more cut.rest none faults (cut.is ∙ ap (λ (xs : Lines). text_of xs ++ cut.rest) e) (last_lines lines more (subst AreLines e cut.clear)) cut.end begins halt)

-- One thing stated, or one fault -------------------------------------------------------------------

module _ {V : Type 0} (all : Rest V) (read : IsReadOnce all) where
  are_lines : (lines : Lines) → AreAll all lines → AreLines lines
  are_lines lines a = All-same (Avoids 10) _ _ a.are (read.clear a.said a.spelled)

  begin_lines : (lines : Lines) → Begins (AreAll all) lines → AreLines lines
  begin_lines lines b = first_lines lines b.more (are_lines (lines ++ b.more) b.kind)

  ends_once : (done more : Lines) → AreAll all done → AreAll all (done ++ more) → more ≡ []
  ends_once done more a b = (read.once a.said b.said more a.spelled b.spelled (ap (λ t. t ++ more) (sym a.are) ∙ b.are)).1

  fewer : (lines more : Lines) → Begins (AreAll all) (lines ++ more) → Begins (AreAll all) lines
  fewer lines more b = record { more = more ++ b.more; kind = subst (AreAll all) (append_assoc lines more b.more) b.kind }

  -- the first lines of a text, as far as some text goes on so
  record Longest (text : List ℕ) (lines : Lines) (rest : List ℕ) : Type 0 where
    is : text ≡ text_of lines ++ rest
    begin : Begins (AreAll all) lines
    end : (line after : List ℕ) → rest ≡ line ++ 10 ∷ after → Begins (AreAll all) (lines ++ line ∷ []) → ⊥

  goes_on : (text : List ℕ) (xs zs : Lines) (rest other : List ℕ) → Longest text xs rest → Begins (AreAll all) (xs ++ zs) → rest ≡ text_of zs ++ other → zs ≡ []
  goes_on text xs [] rest other a b e = refl
  goes_on text xs (z ∷ zs) rest other a b e =
      absurd (a.end z (text_of zs ++ other) (e ∙ append_assoc z (10 ∷ text_of zs) other) (fewer (xs ++ z ∷ []) zs (subst (Begins (AreAll all)) (sym (append_assoc xs (z ∷ []) zs)) b)))

  longest_once : (text : List ℕ) (xs ys : Lines) (rest other : List ℕ) → Longest text xs rest → Longest text ys other → (xs ≡ ys) × (rest ≡ other)
  longest_once text xs ys rest other a b =
      ⊎_elim
      (λ (h : (zs : Lines) × (ys ≡ xs ++ zs) × (rest ≡ text_of zs ++ other)).
      let none = goes_on text xs h.0 rest other a (subst (Begins (AreAll all)) h.1 b.begin) h.2 in
      (sym (h.1 ∙ ap (λ (zs : Lines). xs ++ zs) none ∙ append-nil xs), h.2 ∙ ap (λ (zs : Lines). text_of zs ++ other) none))
      (λ (h : (zs : Lines) × (xs ≡ ys ++ zs) × (other ≡ text_of zs ++ rest)).
      let none = goes_on text ys h.0 other rest b (subst (Begins (AreAll all)) h.1 a.begin) h.2 in
      (h.1 ∙ ap (λ (zs : Lines). ys ++ zs) none ∙ append-nil ys, sym (h.2 ∙ ap (λ (zs : Lines). text_of zs ++ rest) none)))
      (compare xs ys rest other (begin_lines xs a.begin) (begin_lines ys b.begin) (sym a.is ∙ b.is))

  none_follows : (done : Lines) (line : List ℕ) → AreAll all done → Begins (AreAll all) (done ++ line ∷ []) → ⊥
  none_follows done line a b =
      let none : line ∷ b.more ≡ [] = ends_once done (line ∷ b.more) a (subst (AreAll all) (append_assoc done (line ∷ []) b.more) b.kind) in
      cc

  are_longest : (text : List ℕ) (lines : Lines) (rest : List ℕ) → text ≡ text_of lines ++ rest → AreAll all lines → Longest text lines rest
  are_longest text lines rest e a = record {
    is = e;
    begin = record { more = []; kind = subst (AreAll all) (sym (append-nil lines)) a };
    end = λ line after g b. none_follows lines line a b;
  }

  -- a text states one thing at most
  pub one_said : (text : List ℕ) (v w : V) → all.Is v → all.Is w → text ≡ text_of (all.lines v) → text ≡ text_of (all.lines w) → v ≡ w
  one_said text v w p q e g =
      let longest : (x : V) → all.Is x → text ≡ text_of (all.lines x) → Longest text (all.lines x) [] =
      λ x is h. are_longest text (all.lines x) [] (h ∙ sym (append-nil (text_of (all.lines x)))) (record { said = x; spelled = is; are = refl }) in
      let same = longest_once text (all.lines v) (all.lines w) [] [] (longest v p e) (longest w q g) in
      (read.once v w [] p q (append-nil (all.lines v) ∙ same.0)).0

  -- what a fault says of the longest lines, and of what follows them
  data Cause (lines : Lines) (rest : List ℕ) (number : ℕ) : LineFault → Type 0 where
    stops : rest ≢ [] → (Avoids 10 rest → AreAll all lines) → Cause lines rest number (Line (length lines + number))
    ends : Avoids 10 rest → ((AreAll all) lines → ⊥) → Cause lines rest number NoEnd

  record HasCause (text : List ℕ) (number : ℕ) (fault : LineFault) : Type 0 where
    lines : Lines
    rest : List ℕ
    longest : Longest text lines rest
    cause : Cause lines rest number fault

  last_line : (lines : Lines) (line : List ℕ) → AreLines (lines ++ line ∷ []) → Avoids 10 line
  last_line lines line clear = All-head (Avoids 10) line [] (last_lines lines (line ∷ []) clear)

  some_line : (line rest : List ℕ) → line ++ 10 ∷ rest ≢ []
  some_line [] rest e = absurd (cc)
  some_line (b ∷ line) rest e = absurd (cc)

  cause_of : (text : List ℕ) (number : ℕ) (fault : LineFault) → Fails (AreAll all) text number fault → (fault ≡ NoMemory) ⊎ HasCause text number fault
  cause_of text number _ (wrong_line done line after e clear b none) = inr (record {
    lines = done;
    rest = line ++ 10 ∷ after;
    longest = record {
      is = e;
      begin = b;
      end = λ other more g b'.
          let same = (split_once_again 10 line after other more clear (last_line done other (begin_lines (done ++ other ∷ []) b')) g).0 in
          none (subst (Begins (AreAll all)) (λ i. done ++ sym same i ∷ []) b');
    };
    cause = stops (some_line line after) (λ avoids. absurd (has_mark 10 line after avoids));
  })
  cause_of text number _ (more_bytes done byte after e a) = inr (record {
    lines = done;
    rest = byte ∷ after;
    longest = are_longest text done (byte ∷ after) e a;
    cause = stops (λ none. absurd (cc)) (λ avoids. a);
  })
  cause_of text number _ (early_end done rest e clear b none) = inr (record {
    lines = done;
    rest = rest;
    longest = record { is = e; begin = b; end = λ line after g b'. has_mark 10 line after (All-same (λ b. eqb b 10 ≡ false) _ _ (sym g) clear) };
    cause = ends clear none;
  })
  cause_of text number _ no_memory = inl refl

  cause_once : (lines : Lines) (rest : List ℕ) (number : ℕ) (a b : LineFault) → Cause lines rest number a → Cause lines rest number b → a ≡ b
  cause_once lines rest number _ _ (stops some are) (stops some' are') = refl
  cause_once lines rest number _ _ (stops some are) (ends clear goes) = absurd (goes (are clear))
  cause_once lines rest number _ _ (ends clear goes) (stops some are) = absurd (goes (are clear))
  cause_once lines rest number _ _ (ends clear goes) (ends clear' goes') = refl

  at_longest : (text : List ℕ) (number : ℕ) (a : LineFault) (p : HasCause text number a) (lines : Lines) (rest : List ℕ) → Longest text lines rest → Cause lines rest number a
  at_longest text number a p lines rest longest =
      let same = longest_once text p.lines lines p.rest rest p.longest longest in
      let Of : Lines → List ℕ → Type 0 = λ xs t. Cause xs t number a in
      subst (λ (t : List ℕ). Of lines t) same.1 (subst (λ (xs : Lines). Of xs p.rest) same.0 p.cause)

  -- a text has one fault at most
  pub one_fault : (text : List ℕ) (number : ℕ) (a b : LineFault) → Fails (AreAll all) text number a → Fails (AreAll all) text number b → a ≢ NoMemory → b ≢ NoMemory → a ≡ b
  one_fault text number a b p q not_a not_b =
      ⊎_elim
      (λ (e : a ≡ NoMemory). absurd (not_a e))
      (λ (x : HasCause text number a).
      ⊎_elim
      (λ (e : b ≡ NoMemory). absurd (not_b e))
      (λ (y : HasCause text number b). cause_once x.lines x.rest number a b x.cause (at_longest text number b y x.lines x.rest x.longest))
      (cause_of text number b q))
      (cause_of text number a p)

  no_cause : (lines : Lines) (number : ℕ) (a : LineFault) → AreAll all lines → Cause lines [] number a → ⊥
  no_cause lines number _ are (stops some goes) = some refl
  no_cause lines number _ are (ends clear goes) = goes are

  -- and none where it states something
  pub no_fault : (text : List ℕ) (number : ℕ) (fault : LineFault) (v : V) → all.Is v → text ≡ text_of (all.lines v) → Fails (AreAll all) text number fault → fault ≡ NoMemory
  no_fault text number fault v is e p =
      let are : AreAll all (all.lines v) = record { said = v; spelled = is; are = refl } in
      ⊎_elim
      (λ (none : fault ≡ NoMemory). none)
      (λ (x : HasCause text number fault). absurd (no_cause (all.lines v) number fault are
      (at_longest text number fault x (all.lines v) [] (are_longest text (all.lines v) [] (e ∙ sym (append-nil (text_of (all.lines v)))) are))))
      (cause_of text number fault p)
