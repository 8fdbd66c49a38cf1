-- what is still to come of a text that states one thing, and how a fault of that is a fault of the text
use Rattle.std.proofs.Common.{◌≡◌, ◌≢◌, ℕ, ◌+◌, ◌++◌, ◌∷◌, List, [], length, map, refl, sym, ◌∙◌, ap, subst, arith}
use Rattle.std.proofs.lemmas.List.{append_assoc}
use Rattle.std.proofs.lemmas.List.Elements.{All-nil, All-cons}
use Rattle.text_lines.specs.Cuts.{Avoids}
use Rattle.text_lines.specs.Lines.{text_of, IsStopped}
use Rattle.text_lines.specs.Lines.IsStopped.{at_line, at_end}
use Rattle.text_lines.specs.Grammar.{Fails}
use Rattle.text_lines.specs.Grammar.Fails.{wrong_line, early_end}
use Rattle.text_lines.specs.Sections.{IsOfKind}
use Rattle.text_lines.specs.Stated.{AreLinesOf}
use Rattle.text_lines.specs.declared.lines.Lines.{Lines as Point}
use Rattle.text_lines.specs.declared.fault.LineFault.{LineFault}
use Rattle.text_lines.specs.declared.fault.LineFault.TheVariants.{Line}
use Rattle.text_lines.proofs.SectionLemmas.{text_of-append}
use Rattle.text_lines.proofs.RunOfLines.{Stops}
use Rattle.text_lines.proofs.TextCuts.{AreLines}
use Rattle.text_lines.proofs.GrammarLemmas.{HasFirst, IsStep, fails_earlier}

abbrev Lines : Type 0
Lines = List (List ℕ)

-- the rest of a text that states a V: which V it may be, as far as that is known, and the lines that are still to come
pub record Rest (V : Type 0) : Type 1 where
  pub Is : V → Type 0
  pub lines : V → Lines

abbrev pub FailsAt : {V : Type 0} → Rest V → Point → LineFault → Type 0
FailsAt rest at fault = Fails (AreLinesOf rest.Is rest.lines) at.rest.now at.number fault

-- the rest behind lines that say what one part is
abbrev pub behind : {V X : Type 0} → Rest V → (V → X) → X → (V → Lines) → Rest V
behind rest part x later = record { Is = λ v. rest.Is v × (part v ≡ x); lines = later }

-- From point to point -----------------------------------------------------------------------------

-- a step from one point of a text to a later one
pub record Leads {V : Type 0} (from : Rest V) (here : Point) (to : Rest V) (there : Point) : Type 0 where
  -- where the text fails from the later point on, it fails from the earlier one
  pub fails : (fault : LineFault) → FailsAt to there fault → FailsAt from here fault
  -- what the lines from the later point on state, those from the earlier one state
  pub read : (v : V) → to.Is v → there.rest.now ≡ text_of (to.lines v) → from.Is v × (here.rest.now ≡ text_of (from.lines v))

pub then : {V : Type 0} {a b c : Rest V} {here there end : Point} → Leads a here b there → Leads b there c end → Leads a here c end
then first second = record {
  fails = λ fault fails. first.fails fault (second.fails fault fails);
  read = λ v is e. let r = second.read v is e in first.read v r.0 r.1;
}

-- past these lines
pub past : {V : Type 0} (from to : Rest V) (here there : Point) (lines : Lines) → here.rest.now ≡ text_of lines ++ there.rest.now → there.number ≡ here.number + length lines
    → ((v : V) → to.Is v → from.Is v × (from.lines v ≡ lines ++ to.lines v))
    → ((v : V) (more : Lines) → HasFirst there.rest.now more → from.Is v → from.lines v ≡ lines ++ more → to.Is v × (more ≡ to.lines v))
    → Leads from here to there
past from to here there lines e counted forth back =
    let step : IsStep (AreLinesOf from.Is from.lines) (AreLinesOf to.Is to.lines) lines there.rest.now = record {
      forth = λ more s. let f = forth s.said s.spelled in record { said = s.said; spelled = f.0; are = ap (λ t. lines ++ t) s.are ∙ sym f.1 };
      back = λ more first s. let b = back s.said more first s.spelled (sym s.are) in record { said = s.said; spelled = b.0; are = b.1 };
    } in
    record {
      fails = λ fault fails. fails_earlier (AreLinesOf from.Is from.lines) (AreLinesOf to.Is to.lines) lines here.rest.now there.rest.now here.number there.number fault step e (omega (arith, counted)) fails;
      read = λ v is rest. let f = forth v is in (f.0, e ∙ ap (λ t. text_of lines ++ t) rest ∙ sym (text_of-append lines (to.lines v)) ∙ ap text_of (sym f.1));
    }

-- A kind of line ----------------------------------------------------------------------------------

-- a kind of line that is read in one way only
pub record IsLineKind {X : Type 0} (line : X → List ℕ) (IsRight : X → Type 0) : Type 0 where
  pub once : (x y : X) → IsRight x → IsRight y → line x ≡ line y → x ≡ y
  pub avoids : (x : X) → IsRight x → Avoids 10 (line x)

-- the next line is of another kind
pub record HasOther {X : Type 0} (line : X → List ℕ) (IsRight : X → Type 0) (lines : Lines) : Type 0 where
  pub first : List ℕ
  pub more : Lines
  pub are : lines ≡ first ∷ more
  pub other : (x : X) → IsRight x → first ≢ line x

pub other_first : {X : Type 0} {line : X → List ℕ} {P : X → Type 0} (first : List ℕ) (more : Lines) → ((x : X) → P x → first ≢ line x) → HasOther line P (first ∷ more)
other_first first more other = record { first = first; more = more; are = refl; other = other }

-- the same behind a run of lines of another kind
pub other_behind : {X Y : Type 0} {line : X → List ℕ} {P : X → Type 0} (before : Y → List ℕ) → ((y : Y) (x : X) → P x → before y ≢ line x) → (ys : List Y) (lines : Lines) → HasOther line P lines → HasOther line P (map before ys ++ lines)
other_behind before differ [] lines h = h
other_behind before differ (y ∷ ys) lines h = other_first (before y) (map before ys ++ lines) (differ y)

pub stops-before : {X : Type 0} (line : X → List ℕ) (P : X → Type 0) (lines more : Lines) → HasOther line P lines → Stops line P (lines ++ more)
stops-before line P lines more h x rest right e =
    let whole : h.first ∷ (h.more ++ more) ≡ line x ∷ rest = sym (ap (λ t. t ++ more) h.are) ∙ e in
    let head : h.first ≡ line x = cc in
    h.other x right head

pub stops-at : {X : Type 0} (line : X → List ℕ) (P : X → Type 0) (lines : Lines) → HasOther line P lines → Stops line P lines
stops-at line P lines h x rest right e = let head : h.first ≡ line x = cc (h.are, e) in h.other x right head

-- Lines that say one part -------------------------------------------------------------------------

-- the rest begins with lines that say what this part is, whatever follows them
pub record StartsWithBlock {V X : Type 0} (rest : Rest V) (block : X → Lines) (IsRight : X → Type 0) (part : V → X) (later : V → Lines) : Type 0 where
  pub once : (x y : X) (lines other : Lines) → IsRight x → IsRight y → block x ++ lines ≡ block y ++ other → (x ≡ y) × (lines ≡ other)
  pub clear : (x : X) → IsRight x → AreLines (block x)
  pub right : (v : V) → rest.Is v → IsRight (part v)
  pub are : (v : V) → rest.Is v → rest.lines v ≡ block (part v) ++ later v

pub past_block : {V X : Type 0} {rest : Rest V} {block : X → Lines} {P : X → Type 0} {part : V → X} {later : V → Lines} → StartsWithBlock rest block P part later
    → (here there : Point) (said : X) → P said → here.rest.now ≡ text_of (block said) ++ there.rest.now → there.number ≡ here.number + length (block said) → Leads rest here (behind rest part said later) there
past_block {rest = rest} {block = block} {part = part} {later = later} starts here there said right read counted =
    past rest (behind rest part said later) here there (block said) read counted
    (λ v is. (is.0, starts.are v is.0 ∙ (λ i. block (is.1 i) ++ later v)))
    (λ v more first is e.
    let same = starts.once (part v) said (later v) more (starts.right v is) right (sym (starts.are v is) ∙ e) in
    ((is, same.0), sym same.1))

-- the rest begins with one line of the kind, which says what this part is
pub record StartsWithOne {V X : Type 0} (rest : Rest V) (line : X → List ℕ) (IsRight : X → Type 0) (part : V → X) (later : V → Lines) : Type 0 where
  pub kind : IsLineKind line IsRight
  pub right : (v : V) → rest.Is v → IsRight (part v)
  pub are : (v : V) → rest.Is v → rest.lines v ≡ line (part v) ∷ later v

pub one_block : {V X : Type 0} {rest : Rest V} {line : X → List ℕ} {P : X → Type 0} {part : V → X} {later : V → Lines} → StartsWithOne rest line P part later → StartsWithBlock rest (λ x. line x ∷ []) P part later
one_block {line = line} starts = record {
  once = λ x y lines other p q e.
      let head : line x ≡ line y = cc in
      let tail : lines ≡ other = cc in
      (starts.kind.once x y p q head, tail);
  clear = λ x p. All-cons (Avoids 10) (line x) [] (starts.kind.avoids x p) (All-nil (Avoids 10));
  right = starts.right;
  are = starts.are;
}

-- the line between two points says this
pub record SaysOne {X : Type 0} (line : X → List ℕ) (IsRight : X → Type 0) (here there : Point) (said : X) : Type 0 where
  pub right : IsRight said
  pub read : here.rest.now ≡ line said ++ 10 ∷ there.rest.now
  pub counted : there.number ≡ here.number + 1

pub past_one : {V X : Type 0} {rest : Rest V} {line : X → List ℕ} {P : X → Type 0} {part : V → X} {later : V → Lines} → StartsWithOne rest line P part later → {here there : Point} {said : X} → SaysOne line P here there said → Leads rest here (behind rest part said later) there
past_one {line = line} starts {here = here} {there = there} {said = said} says =
    past_block (one_block starts) here there said says.right (says.read ∙ sym (append_assoc (line said) (10 ∷ []) there.rest.now)) says.counted

-- the same of a line that was read
pub past_said : {V X : Type 0} {rest : Rest V} {line : X → List ℕ} {P : X → Type 0} {part : V → X} {later : V → Lines} → StartsWithOne rest line P part later → (here there : Point) (said : X)
    → P said × (here.rest.now ≡ line said ++ 10 ∷ there.rest.now) → there.number ≡ here.number + 1 → Leads rest here (behind rest part said later) there
past_said starts here there said read counted = past_one starts (record { right = read.0; read = read.1; counted = counted })

-- the reader stopped at the line, or there is none
pub fails_at : {V X : Type 0} {rest : Rest V} {line : X → List ℕ} {P : X → Type 0} {part : V → X} {later : V → Lines} (IsExpected : List ℕ → Type 0) → StartsWithOne rest line P part later → (some : V) → rest.Is some
    → ((x : X) → P x → IsExpected (line x)) → (here : Point) (fault : LineFault) → IsStopped here.rest.now here.number IsExpected fault → FailsAt rest here fault
fails_at {rest = rest} {line = line} {part = part} {later = later} E starts some is expected here _ (at_line first after e clear wrong) =
    let At : ℕ → Type 0 = λ n. FailsAt rest here (Line n) in
    subst At (omega arith)
    (wrong_line [] first after e clear (record { more = rest.lines some; kind = record { said = some; spelled = is; are = refl } })
    (λ b.
    let s = b.kind in
    let are : first ∷ b.more ≡ line (part s.said) ∷ later s.said = s.are ∙ starts.are s.said s.spelled in
    let head : line (part s.said) ≡ first = cc in
    wrong (subst E head (expected (part s.said) (starts.right s.said s.spelled)))))
fails_at {rest = rest} {line = line} {part = part} {later = later} E starts some is expected here _ (at_end clear) =
    early_end [] here.rest.now refl clear (record { more = rest.lines some; kind = record { said = some; spelled = is; are = refl } })
    (λ s. let none : [] ≡ line (part s.said) ∷ later s.said = s.are ∙ starts.are s.said s.spelled in absurd (cc))

pub fails_at_one : {V X : Type 0} {rest : Rest V} {line : X → List ℕ} {P : X → Type 0} {part : V → X} {later : V → Lines} → StartsWithOne rest line P part later → (some : V) → rest.Is some
    → (here : Point) (fault : LineFault) → IsStopped here.rest.now here.number (IsOfKind line P) fault → FailsAt rest here fault
fails_at_one {line = line} {P = P} starts some is = fails_at (IsOfKind line P) starts some is (λ x right. (x, right, refl))
