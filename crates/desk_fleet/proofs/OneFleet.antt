-- files are those of one fleet, or one of them is refused for one reason, and never both
use Rattle.std.proofs.Common.{◌≡◌, ℕ, ◌+◌, ◌<◌, ◌⊎◌, inl, inr, true, List, [], ◌∷◌, ◌++◌, length, refl, sym, ◌∙◌, ap, ap₂, subst, arith, Option, Some, Result, Ok, Err, IsSomeAnd}
use Rattle.std.specs.Prelude.{bytes_eq}
use Rattle.std.specs.List.{AllZip}
use Rattle.std.proofs.Common.{length-append}
use Rattle.std.proofs.lemmas.List.{get_or_append_left, get_or_at}
use Rattle.std.proofs.lemmas.List.Folds.{Any-from_list_any}
use Rattle.std.proofs.lemmas.Option.{same_Some}
use Rattle.std.proofs.lemmas.Slice.Eq.{bytes_eq-Decides}
use Rattle.load_io.specs.Shelf.{Files, HasMoreThan}
use Rattle.aircraft_file.specs.Craft.{Craft, AreApart}
use Rattle.aircraft_file.specs.Lawful.{IsAnswerTo}
use Rattle.aircraft_file.specs.declared.fault.FileFault.{FileFault}
use Rattle.aircraft_file.proofs.AnswerLemmas.{one_answer}
use Rattle.desk_fleet.specs.declared.fault.FileReason.{FileReason}
use Rattle.desk_fleet.specs.declared.fault.FileReason.TheVariants.{Long, Fault, Twice}
use Rattle.desk_fleet.specs.declared.fault.RefusedFile.{RefusedFile}
use Rattle.desk_fleet.specs.Fleet.{longest_file, CannotJoin, too_long, no_aircraft, taken, IsShortFile, IsFileOf, IsFleet, IsRefused, is_taken}

-- One file --------------------------------------------------------------------------------------

one-text : (files : Files) (name a b : List ℕ) → files name ≡ Some a → files name ≡ Some b → a ≡ b
one-text files name a b is also = same_Some a b (sym is ∙ also)

longer : (file : Option (List ℕ)) (text : List ℕ) (most : ℕ) → file ≡ Some text → IsSomeAnd file (λ bytes. most < length bytes) → most < length text
longer file text most is long = subst (λ f. IsSomeAnd f (λ bytes. most < length bytes)) is long

long-not_short : (files : Files) (name text : List ℕ) → HasMoreThan (Some files) name longest_file → IsShortFile files name text → ⊥
long-not_short files name text long file = omega (arith, longer (files name) text longest_file file.is long, file.short)

-- a file describes one aircraft at most
one-craft : (files : Files) (name : List ℕ) (a b : Craft) → IsFileOf files name a → IsFileOf files name b → a ≡ b
one-craft files name a b f g =
    let same = one-text files name g.text f.text g.file.is f.file.is in
    let both : ◌≡◌ {A = Result Craft FileFault} (Ok a) (Ok b) =
    one_answer f.text (Ok a) (Ok b) f.described (subst (λ text. IsAnswerTo text (Ok b)) same g.described) in cc

-- a file with a fault describes none
faulty-no_craft : (files : Files) (name text : List ℕ) (craft : Craft) (fault : FileFault) → IsFileOf files name craft → IsShortFile files name text
    → IsAnswerTo text (Err fault) → ⊥
faulty-no_craft files name text craft fault file short answer =
    let same = one-text files name file.text text file.file.is short.is in
    let both : ◌≡◌ {A = Result Craft FileFault} (Ok craft) (Err fault) =
    one_answer text (Ok craft) (Err fault) (subst (λ text. IsAnswerTo text (Ok craft)) same file.described) answer in absurd cc

one-fault : (files : Files) (name a b : List ℕ) (f g : FileFault) → IsShortFile files name a → IsShortFile files name b
    → IsAnswerTo a (Err f) → IsAnswerTo b (Err g) → f ≡ g
one-fault files name a b f g short also answer other =
    let same = one-text files name b a also.is short.is in
    let both : ◌≡◌ {A = Result Craft FileFault} (Err f) (Err g) =
    one_answer a (Err f) (Err g) answer (subst (λ text. IsAnswerTo text (Err g)) same other) in cc

-- a file cannot join for one reason at most
one-reason : (files : Files) (fleet : List Craft) (name : List ℕ) (a b : FileReason) → CannotJoin files fleet name a → CannotJoin files fleet name b → a ≡ b
one-reason files fleet name Long Long (too_long long) (too_long also) = refl
one-reason files fleet name Long (Fault g) (too_long long) (no_aircraft text short answer) = absurd (long-not_short files name text long short)
one-reason files fleet name Long Twice (too_long long) (taken craft file held) = absurd (long-not_short files name file.text long file.file)
one-reason files fleet name (Fault f) Long (no_aircraft text short answer) (too_long long) = absurd (long-not_short files name text long short)
one-reason files fleet name (Fault f) (Fault g) (no_aircraft a short answer) (no_aircraft b also other) = ap Fault (one-fault files name a b f g short also answer other)
one-reason files fleet name (Fault f) Twice (no_aircraft text short answer) (taken craft file held) = absurd (faulty-no_craft files name text craft f file short answer)
one-reason files fleet name Twice Long (taken craft file held) (too_long long) = absurd (long-not_short files name file.text long file.file)
one-reason files fleet name Twice (Fault g) (taken craft file held) (no_aircraft text short answer) = absurd (faulty-no_craft files name text craft g file short answer)
one-reason files fleet name Twice Twice (taken craft file held) (taken other also found) = refl

-- Files in their order --------------------------------------------------------------------------

one-list : {A B : Type 0} (R : A → B → Type 0) → ((x : A) (a b : B) → R x a → R x b → a ≡ b) → (xs : List A) (ys zs : List B) → AllZip R xs ys → AllZip R xs zs → ys ≡ zs
one-list R once [] [] [] each also = refl
one-list R once [] [] (z ∷ zs) each also = absurd also
one-list R once [] (y ∷ ys) zs each also = absurd each
one-list R once (x ∷ xs) [] zs each also = absurd each
one-list R once (x ∷ xs) (y ∷ ys) [] each also = absurd also
one-list R once (x ∷ xs) (y ∷ ys) (z ∷ zs) each also = ap₂ (λ a b. a ∷ b) (once x y z each.0 also.0) (one-list R once xs ys zs each.1 also.1)

-- the files before one of them, that one, and those after it
zip-split : {A B : Type 0} (R : A → B → Type 0) (before : List A) (x : A) (after : List A) (ys : List B) → AllZip R (before ++ x ∷ after) ys
    → (front : List B) × (y : B) × (rest : List B) × (ys ≡ front ++ y ∷ rest) × AllZip R before front × R x y
zip-split R [] x after [] each = absurd each
zip-split R [] x after (y ∷ ys) each = ([], y, ys, refl, tt, each.0)
zip-split R (a ∷ before) x after [] each = absurd each
zip-split R (a ∷ before) x after (y ∷ ys) each =
    let s = zip-split R before x after ys each.1 in
    (y ∷ s.0, s.1, s.2, ap (λ more. y ∷ more) s.3, (each.0, s.4), s.5)

-- the elements before one of a list and before another are the same, or one of the two stands before the other
which-first : {X : Type 0} (xs ys : List X) (x y : X) (us vs : List X) → xs ++ x ∷ us ≡ ys ++ y ∷ vs
    → ((xs ≡ ys) × (x ≡ y)) ⊎ (((more : List X) × (ys ≡ xs ++ x ∷ more)) ⊎ ((more : List X) × (xs ≡ ys ++ y ∷ more)))
which-first [] [] x y us vs e = let same : x ≡ y = cc in inl (refl, same)
which-first [] (b ∷ ys) x y us vs e = let same : b ≡ x = cc in inr (inl (ys, ap (λ z. z ∷ ys) same))
which-first (a ∷ xs) [] x y us vs e = let same : a ≡ y = cc in inr (inr (xs, ap (λ z. z ∷ xs) same))
which-first (a ∷ xs) (b ∷ ys) x y us vs e =
    let same : a ≡ b = cc in
    let rest : xs ++ x ∷ us ≡ ys ++ y ∷ vs = cc in
    elim (which-first xs ys x y us vs rest) [
      | inl both ↦ inl (ap₂ (λ z zs. z ∷ zs) same both.0, both.1)
      | inr (inl later) ↦ inr (inl (later.0, ap₂ (λ z zs. z ∷ zs) (sym same) later.1))
      | inr (inr later) ↦ inr (inr (later.0, ap₂ (λ z zs. z ∷ zs) same later.1))
    ]

-- Fleets ----------------------------------------------------------------------------------------

pub one-fleet : (files : Files) (names : List (List ℕ)) (a b : List Craft) → IsFleet files names a → IsFleet files names b → a ≡ b
one-fleet files names a b f g = one-list (IsFileOf files) (one-craft files) names a b f.each g.each

taken-not_apart : (front : List Craft) (craft : Craft) (rest : List Craft) → AreApart (front ++ craft ∷ rest) → is_taken front craft.registration ≡ true → ⊥
taken-not_apart front craft rest apart held =
    let found = Any-from_list_any (λ (one : Craft). bytes_eq one.registration craft.registration) front held in
    let same = (bytes_eq-Decides found.1.registration craft.registration).0 found.4 in
    let first = get_or_append_left front (craft ∷ rest) found.1 found.0 found.2 ∙ found.3 in
    let second = get_or_at front craft rest found.1 (length front) refl in
    let register : Craft → List ℕ = λ one. one.registration in
    apart found.0 (length front) found.1 found.2 (omega (arith, length-append front (craft ∷ rest))) (ap register first ∙ same ∙ sym (ap register second))

-- a file that is one of a fleet can join those before it
joined-can_join : (files : Files) (front : List Craft) (name : List ℕ) (craft : Craft) (rest : List Craft) (reason : FileReason) → IsFileOf files name craft
    → AreApart (front ++ craft ∷ rest) → CannotJoin files front name reason → ⊥
joined-can_join files front name craft rest Long file apart (too_long long) = long-not_short files name file.text long file.file
joined-can_join files front name craft rest (Fault fault) file apart (no_aircraft text short answer) = faulty-no_craft files name text craft fault file short answer
joined-can_join files front name craft rest Twice file apart (taken other also held) =
    taken-not_apart front craft rest apart (subst (λ (one : Craft). is_taken front one.registration ≡ true) (one-craft files name other craft also file) held)

-- files of which one is refused are those of no fleet
pub fleet-not_refused : (files : Files) (names : List (List ℕ)) (fleet : List Craft) (file : RefusedFile) → IsFleet files names fleet → IsRefused files names file → ⊥
fleet-not_refused files names fleet file whole refused =
    let s = zip-split (IsFileOf files) refused.before refused.name refused.after fleet (subst (λ names. AllZip (IsFileOf files) names fleet) refused.at whole.each) in
    let same = one-list (IsFileOf files) (one-craft files) refused.before refused.fleet s.0 refused.described.each s.4 in
    joined-can_join files s.0 refused.name s.1 s.2 file.reason s.5 (subst AreApart s.3 whole.apart)
    (subst (λ front. CannotJoin files front refused.name file.reason) same refused.reason)

-- the file that is refused, where it stands before another one
earlier-refused : (files : Files) (names : List (List ℕ)) (a b : RefusedFile) (f : IsRefused files names a) (g : IsRefused files names b) (more : List (List ℕ))
    → g.before ≡ f.before ++ f.name ∷ more → ⊥
earlier-refused files names a b f g more later = fleet-not_refused files g.before g.fleet a g.described record {
  before = f.before;
  name = f.name;
  after = more;
  fleet = f.fleet;
  at = later;
  number = f.number;
  described = f.described;
  reason = f.reason;
}

-- the file that is refused, where both stand at one place
same-refused : (files : Files) (names : List (List ℕ)) (a b : RefusedFile) (f : IsRefused files names a) (g : IsRefused files names b)
    → f.before ≡ g.before → f.name ≡ g.name → a ≡ b
same-refused files names a b f g place name =
    let number : a.number ≡ b.number = f.number ∙ ap (λ before. length before + 1) place ∙ sym g.number in
    let fleet = one-fleet files f.before f.fleet g.fleet f.described (subst (λ before. IsFleet files before g.fleet) (sym place) g.described) in
    let other : CannotJoin files f.fleet f.name b.reason =
    subst (λ fleet. CannotJoin files fleet f.name b.reason) (sym fleet) (subst (λ name. CannotJoin files g.fleet name b.reason) (sym name) g.reason) in
    let reason = one-reason files f.fleet f.name a.reason b.reason f.reason other in
    let made : ℕ → FileReason → RefusedFile = λ n r. record { number = n; reason = r } in
    ap₂ made number reason

-- one file is refused at most, for one reason
pub one-refused : (files : Files) (names : List (List ℕ)) (a b : RefusedFile) → IsRefused files names a → IsRefused files names b → a ≡ b
one-refused files names a b f g =
    elim (which-first f.before g.before f.name g.name f.after g.after (sym f.at ∙ g.at)) [
      | inl both ↦ same-refused files names a b f g both.0 both.1
      | inr (inl later) ↦ absurd (earlier-refused files names a b f g later.0 later.1)
      | inr (inr later) ↦ absurd (earlier-refused files names b a g f later.0 later.1)
    ]
