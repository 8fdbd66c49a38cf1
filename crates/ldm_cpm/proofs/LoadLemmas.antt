-- Compartments with their masses, and the seats behind them, among the elements of a line.
use Rattle.std.proofs.Common.{◌≡◌, ℕ, ◌+◌, ◌≤◌, List, [], ◌∷◌, ◌++◌, length, get_or, drop, Option, Some, None, Result, Ok, Err, refl, sym, ap, ap₂, subst, ◌∙◌, arith, append_assoc}
use Rattle.std.specs.List.{flat_map}
use Rattle.std.specs.Prelude.{◌≢◌, IfSome, IfNone, IfOk, IsSomeAnd, codes}
use Rattle.std.proofs.lemmas.Option.{same_Some}
use Rattle.std.proofs.lemmas.List.{append-nil}
use Rattle.mass_units.specs.Spelling.{number_text}
use Rattle.mass_units.specs.declared.Kg.{Kg}
use Rattle.telex.specs.Elements.{Element, slashed, said}
use Rattle.telex.specs.Parts.{dot, slash}
use Rattle.telex.specs.declared.reading.Part.{Part}
use Rattle.ldm_cpm.specs.Messages.{load_elements, seat_elements, AreLoads}
use Rattle.ldm_cpm.proofs.ShortLines.{length-number}

abbrev nothing : Element
nothing = (0, [])

pub not-PAX : (n : ℕ) → n ≤ 9 → number_text n ≢ codes "PAX"
not-PAX n few e = omega (arith, ap length e, length-number 1 n (omega arith) (omega arith) (omega (arith, few)) (omega (arith, few)))

-- where `PAX` comes first, there is no compartment
pub only-seats : (least : ℕ) (more : List (ℕ × Kg)) (seats : List ℕ) (one two : Element) (rest : List Element) → AreLoads least more
    → one ∷ two ∷ rest ≡ flat_map load_elements more ++ seat_elements seats → one.1 ≡ codes "PAX"
    → (more ≡ []) × (one.0 ≡ dot) × (two ≡ slashed seats) × (rest ≡ [])
only-seats least [] seats one two rest are e pax = (
  refl,
  ap (λ (es : List Element). (get_or es 0 nothing).0) e,
  ap (λ (es : List Element). get_or es 1 nothing) e,
  ap (λ (es : List Element). drop 2 es) e,
)
only-seats least (load ∷ more) seats one two rest are e pax = absurd (not-PAX load.0 are.1 (sym (ap (λ (es : List Element). (get_or es 0 nothing).1) e) ∙ pax))

-- where another element comes first, there is one
pub record HasLoad (least : ℕ) (more : List (ℕ × Kg)) (seats : List ℕ) (one two : Element) (rest : List Element) : Type 0 where
  pub load : ℕ × Kg
  pub others : List (ℕ × Kg)
  pub are : more ≡ load ∷ others
  pub right : AreLoads least (load ∷ [])
  pub later : AreLoads (load.0 + 1) others
  pub elements : one ∷ two ∷ [] ≡ load_elements load
  pub behind : rest ≡ flat_map load_elements others ++ seat_elements seats

pub some-load : (least : ℕ) (more : List (ℕ × Kg)) (seats : List ℕ) (one two : Element) (rest : List Element) → AreLoads least more
    → one ∷ two ∷ rest ≡ flat_map load_elements more ++ seat_elements seats → one.1 ≢ codes "PAX" → HasLoad least more seats one two rest
some-load least [] seats one two rest are e other = absurd (other (ap (λ (es : List Element). (get_or es 0 nothing).1) e))
some-load least (load ∷ more) seats one two rest are e other = record {
  load = load;
  others = more;
  are = refl;
  right = (are.0, are.1, are.2, are.3, tt);
  later = are.4;
  elements = ap₂ (λ (a b : Element). a ∷ b ∷ []) (ap (λ (es : List Element). get_or es 0 nothing) e) (ap (λ (es : List Element). get_or es 1 nothing) e);
  behind = ap (λ (es : List Element). drop 2 es) e;
}

-- ---- parts

pub said-nil : (parts : List Part) → said parts ≡ [] → parts ≡ []
said-nil [] e = refl
said-nil (part ∷ parts) e = absurd (omega (arith, ap length e))

pub some-and : {X : Type 0} (r : Option X) {P Q : X → Type 0} → IsSomeAnd r P → ((x : X) → P x → Q x) → IsSomeAnd r Q
some-and None h f = h
some-and (Some x) h f = f x h

-- what the seats say
pub seats-said : (parts more : List Part) (one two got : Part) → parts ≡ one ∷ two ∷ more → one.before ≡ dot → one.text.now ≡ codes "PAX"
    → got.before ≡ slash → got ≡ two → more ≡ [] → said parts ≡ seat_elements got.text.now
seats-said parts more one two got e mark pax behind same last =
    ap said (e ∙ ap₂ (λ (x : Part) (xs : List Part). one ∷ x ∷ xs) (sym same) last) ∙ rw (mark, pax, behind) refl

abbrev AreSeats : Part → Part → List Part → Part → Type 0
AreSeats one two more got = (one.before ≡ dot) × (got.before ≡ slash) × (got ≡ two) × (more ≡ [])

seats-found : (r : Option Part) (one two : Part) (more : List Part) → IfSome r (AreSeats one two more)
    → IfNone r (one.before ≡ dot → two.before ≡ slash → more ≡ [] → ⊥) → one.before ≡ dot → two.before ≡ slash → more ≡ []
    → IsSomeAnd r (λ (got : Part). got ≡ two)
seats-found None one two more some none mark behind last = none mark behind last
seats-found (Some got) one two more some none mark behind last = some.2

-- seats that are said are found
pub seats-back : (r : Option Part) (parts more : List Part) (one two : Part) (least : ℕ) (old new : List (ℕ × Kg)) (loads : List (ℕ × Kg)) (seats : List ℕ)
    → parts ≡ one ∷ two ∷ more → one.text.now ≡ codes "PAX" → new ≡ old
    → IfSome r (AreSeats one two more) → IfNone r (one.before ≡ dot → two.before ≡ slash → more ≡ [] → ⊥)
    → AreLoads least loads → said parts ≡ flat_map load_elements loads ++ seat_elements seats
    → IsSomeAnd r (λ (got : Part). (got.text.now ≡ seats) × (new ≡ old ++ loads))
seats-back r parts more one two least old new loads seats e pax kept some none are says =
    let only = only-seats least loads seats (one.before, one.text.now) (two.before, two.text.now) (said more) are (sym (ap said e) ∙ says) pax in
    let behind : two.before ≡ slash = ap (λ (el : Element). el.0) only.2 in
    let text : two.text.now ≡ seats = ap (λ (el : Element). el.1) only.2 in
    some-and r (seats-found r one two more some none only.1 behind (said-nil more only.3))
    (λ got same. (ap (λ (p : Part). p.text.now) same ∙ text, kept ∙ sym (append-nil old) ∙ ap (λ ls. old ++ ls) (sym only.0)))

-- a compartment that is said is read
pub load-said : (parts more : List Part) (one two : Part) (least : ℕ) (loads : List (ℕ × Kg)) (seats : List ℕ) → parts ≡ one ∷ two ∷ more → one.text.now ≢ codes "PAX"
    → AreLoads least loads → said parts ≡ flat_map load_elements loads ++ seat_elements seats
    → HasLoad least loads seats (one.before, one.text.now) (two.before, two.text.now) (said more)
load-said parts more one two least loads seats e other are says =
    some-load least loads seats (one.before, one.text.now) (two.before, two.text.now) (said more) are (sym (ap said e) ∙ says) other

-- what was read behind one compartment
pub loads-back : (r : Option Part) (old pushed new : List (ℕ × Kg)) (load : ℕ × Kg) (others loads : List (ℕ × Kg)) (seats : List ℕ) → pushed ≡ old ++ load ∷ []
    → loads ≡ load ∷ others → IsSomeAnd r (λ (got : Part). (got.text.now ≡ seats) × (new ≡ pushed ++ others))
    → IsSomeAnd r (λ (got : Part). (got.text.now ≡ seats) × (new ≡ old ++ loads))
loads-back r old pushed new load others loads seats push are found =
    some-and r found (λ got both. (both.0, both.1 ∙ ap (λ ls. ls ++ others) push ∙ append_assoc old (load ∷ []) others ∙ ap (λ ls. old ++ ls) (sym are)))

-- what the parts say from a compartment on is read
abbrev pub ReadsBack : ℕ → List Part → List (ℕ × Kg) → List (ℕ × Kg) → Option Part → Type 0
ReadsBack least parts old new r = (loads : List (ℕ × Kg)) (seats : List ℕ) → AreLoads least loads → said parts ≡ flat_map load_elements loads ++ seat_elements seats
    → IsSomeAnd r (λ (got : Part). (got.text.now ≡ seats) × (new ≡ old ++ loads))

pub behind-one : {E : Type 0} (result : Result (Option Part) E) (least : ℕ) (parts rest : List Part) (one two : Part) (load : ℕ × Kg) (old pushed new : List (ℕ × Kg))
    → parts ≡ one ∷ two ∷ rest → one.text.now ≢ codes "PAX"
    → ((l : ℕ × Kg) → AreLoads least (l ∷ []) → said (one ∷ two ∷ []) ≡ load_elements l → Some load ≡ Some l) → pushed ≡ old ++ load ∷ []
    → IfOk result (ReadsBack (load.0 + 1) rest pushed new) → IfOk result (ReadsBack least parts old new)
behind-one (Ok r) least parts rest one two load old pushed new e other read push h = λ loads seats are is.
    let s = load-said parts rest one two least loads seats e other are is in
    let same : load ≡ s.load = same_Some load s.load (read s.load s.right s.elements) in
    let later : AreLoads (load.0 + 1) s.others = subst (λ (l : ℕ × Kg). AreLoads (l.0 + 1) s.others) (sym same) s.later in
    loads-back r old pushed new load s.others loads seats push (s.are ∙ ap (λ (l : ℕ × Kg). l ∷ s.others) (sym same)) (h s.others seats later s.behind)
behind-one (Err e) least parts rest one two load old pushed new f other read push h = tt
