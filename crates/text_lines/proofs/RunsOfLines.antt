-- past a run of lines of one kind, and past the last line
use Rattle.std.proofs.Common.{◌≡◌, ℕ, ◌+◌, ◌++◌, ◌∷◌, List, [], length, map, refl, sym, ◌∙◌, ap, subst, arith, All}
use Rattle.std.proofs.lemmas.List.{append_assoc, append-nil, length-map}
use Rattle.std.proofs.lemmas.List.Elements.{All-head, All-tail}
use Rattle.text_lines.specs.Cuts.{Avoids}
use Rattle.text_lines.specs.Lines.{text_of, IsStopped}
use Rattle.text_lines.specs.Lines.IsStopped.{at_line, at_end}
use Rattle.text_lines.specs.Grammar.{Fails, IsOnly}
use Rattle.text_lines.specs.Grammar.Fails.{wrong_line, more_bytes, early_end}
use Rattle.text_lines.specs.Sections.{ArePart}
use Rattle.text_lines.specs.declared.lines.Lines.{Lines as Point}
use Rattle.text_lines.specs.declared.fault.LineFault.{LineFault}
use Rattle.text_lines.specs.declared.fault.LineFault.TheVariants.{Line}
use Rattle.text_lines.proofs.GrammarLemmas.{fails_same}
use Rattle.text_lines.proofs.RunOfLines.{Stops}
use Rattle.text_lines.proofs.Rests.{Rest, FailsAt, behind, Leads, past, IsLineKind, HasOther, stops-at}

abbrev Lines : Type 0
Lines = List (List ℕ)

-- A run of lines ----------------------------------------------------------------------------------

-- the rest begins with a run of lines of the kind, which say what this part is, and goes on with a line of another kind
pub record StartsWithRun {V X : Type 0} (rest : Rest V) (line : X → List ℕ) (IsRight : X → Type 0) (AreAllowed : List X → Type 0) (part : V → List X) (later : V → Lines) : Type 0 where
  pub kind : IsLineKind line IsRight
  -- what is allowed together is allowed as far as it goes
  pub front : (xs ys : List X) → AreAllowed (xs ++ ys) → AreAllowed xs
  pub right : (v : V) → rest.Is v → All IsRight (part v)
  pub allowed : (v : V) → rest.Is v → AreAllowed (part v)
  pub are : (v : V) → rest.Is v → rest.lines v ≡ map line (part v) ++ later v
  pub other : (v : V) → rest.Is v → HasOther line IsRight (later v)

-- no entry comes next that would be allowed with these
abbrev pub StopsWith : {X : Type 0} → (X → List ℕ) → (X → Type 0) → (List X → Type 0) → List X → Lines → Type 0
StopsWith {X} line IsRight AreAllowed got lines = (x : X) (more : Lines) → IsRight x → AreAllowed (got ++ x ∷ []) → lines ≡ line x ∷ more → ⊥

-- a part is read in one way only; the entries that both begin with stand before
pub part_once : {X : Type 0} (line : X → List ℕ) (P : X → Type 0) (Fit : List X → Type 0) → ((xs ys : List X) → Fit (xs ++ ys) → Fit xs) → ((x y : X) → P x → P y → line x ≡ line y → x ≡ y)
    → (done xs ys : List X) (lines other : Lines) → All P xs → All P ys → Fit (done ++ ys) → StopsWith line P Fit (done ++ xs) lines → Stops line P other → map line xs ++ lines ≡ map line ys ++ other → (xs ≡ ys) × (lines ≡ other)
part_once line P Fit front once done [] [] lines other p q fit stop stop' e = (refl, e)
part_once line P Fit front once done [] (y ∷ ys) lines other p q fit stop stop' e =
    let whole : (done ++ y ∷ []) ++ ys ≡ done ++ y ∷ ys = append_assoc done (y ∷ []) ys in
    let here : Fit (done ++ y ∷ []) = front (done ++ y ∷ []) ys (subst Fit (sym whole) fit) in
    absurd (stop y (map line ys ++ other) (All-head P y ys q) (subst (λ zs. Fit (zs ++ y ∷ [])) (sym (append-nil done)) here) e)
part_once line P Fit front once done (x ∷ xs) [] lines other p q fit stop stop' e = absurd (stop' x (map line xs ++ lines) (All-head P x xs p) (sym e))
part_once {X} line P Fit front once done (x ∷ xs) (y ∷ ys) lines other p q fit stop stop' e =
    let first : line x ≡ line y = cc in
    let tails : map line xs ++ lines ≡ map line ys ++ other = cc in
    let same : x ≡ y = once x y (All-head P x xs p) (All-head P y ys q) first in
    let fit' : Fit ((done ++ x ∷ []) ++ ys) = subst Fit (sym (append_assoc done (x ∷ []) ys)) (subst (λ z. Fit (done ++ z ∷ ys)) (sym same) fit) in
    let At : List X → Type 0 = λ zs. StopsWith line P Fit zs lines in
    let again = part_once line P Fit front once (done ++ x ∷ []) xs ys lines other (All-tail P x xs p) (All-tail P y ys q) fit' (subst At (sym (append_assoc done (x ∷ []) xs)) stop) stop' tails in
    (λ i. same i ∷ again.0 i, again.1)

pub past_run : {V X : Type 0} {rest : Rest V} {line : X → List ℕ} {P : X → Type 0} {Fit : List X → Type 0} {part : V → List X} {later : V → Lines} → StartsWithRun rest line P Fit part later
    → (here there : Point) {got : List X} → ArePart line P Fit here.rest.now there.rest.now here.number there.number got → Leads rest here (behind rest part got later) there
past_run {rest = rest} {line = line} {P = P} {Fit = Fit} {part = part} {later = later} starts here there {got = got} are =
    let long = length-map got line in
    let counted = are.counted in
    past rest (behind rest part got later) here there (map line got) are.read (omega (arith, long, counted))
    (λ v is. (is.0, starts.are v is.0 ∙ (λ i. map line (is.1 i) ++ later v)))
    (λ v more first is e.
    let stop : StopsWith line P Fit got more = λ x after right fits g. let found = first (line x) after g in are.stops x found.0 right (starts.kind.avoids x right) fits found.1 in
    let same = part_once line P Fit starts.front starts.kind.once [] got (part v) more (later v) are.right (starts.right v is) (starts.allowed v is) stop (stops-at line P (later v) (starts.other v is)) (sym e ∙ starts.are v is) in
    ((is, sym same.0), same.1))

-- The last line -----------------------------------------------------------------------------------

-- nothing but this line is still to come, and the thing is known
pub record IsLast {V : Type 0} (rest : Rest V) (word : List ℕ) : Type 0 where
  pub plain : Avoids 10 word
  pub known : (v w : V) → rest.Is v → rest.Is w → v ≡ w
  pub are : (v : V) → rest.Is v → rest.lines v ≡ word ∷ []

pub fails_at_last : {V : Type 0} {rest : Rest V} {word : List ℕ} → IsLast rest word → (some : V) → rest.Is some → (here : Point) (fault : LineFault) → Fails (IsOnly word) here.rest.now here.number fault → FailsAt rest here fault
fails_at_last last some is here fault fails =
    fails_same
    (λ lines e. record { said = some; spelled = is; are = e ∙ sym (last.are some is) })
    (λ lines s. s.are ∙ last.are s.said s.spelled)
    here.rest.now here.number fault fails

pub read_last : {V : Type 0} {rest : Rest V} {word : List ℕ} → IsLast rest word → (v : V) → rest.Is v → (here : Point) → here.rest.now ≡ word ++ 10 ∷ [] → here.rest.now ≡ text_of (rest.lines v)
read_last last v is here e = e ∙ ap text_of (sym (last.are v is))

-- The reader of the last line ---------------------------------------------------------------------

pub stops_at_last : (word : List ℕ) (here : Point) (fault : LineFault) → IsStopped here.rest.now here.number (λ line. line ≡ word) fault → Fails (IsOnly word) here.rest.now here.number fault
stops_at_last word here _ (at_line first after e clear wrong) =
    let At : ℕ → Type 0 = λ n. Fails (IsOnly word) here.rest.now here.number (Line n) in
    subst At (omega arith) (wrong_line [] first after e clear (record { more = word ∷ []; kind = refl }) (λ b. let head : first ≡ word = cc (b.kind) in wrong head))
stops_at_last word here _ (at_end clear) = early_end [] here.rest.now refl clear (record { more = word ∷ []; kind = refl }) (λ e. absurd (cc))

-- there are bytes behind it
pub goes_on : (word : List ℕ) (here there : Point) → here.rest.now ≡ word ++ 10 ∷ there.rest.now → there.number ≡ here.number + 1 → (length there.rest.now ≡ 0 → ⊥) → Fails (IsOnly word) here.rest.now here.number (Line there.number)
goes_on word here there e counted more = of there.rest.now e more
  where
    of : (after : List ℕ) → here.rest.now ≡ word ++ 10 ∷ after → (length after ≡ 0 → ⊥) → Fails (IsOnly word) here.rest.now here.number (Line there.number)
    of [] e more = absurd (more refl)
    of (byte ∷ after) e more =
        let At : ℕ → Type 0 = λ n. Fails (IsOnly word) here.rest.now here.number (Line n) in
        subst At (omega (arith, counted)) (more_bytes (word ∷ []) byte after (e ∙ sym (append_assoc word (10 ∷ []) (byte ∷ after))) refl)
