-- the first place that passes, and what a figure tells of
use Rattle.std.proofs.Common.{◌≡◌, ℕ, ◌<◌, ◌≤◌, Bool, true, false, if◌then◌else◌, List, [], ◌∷◌, length, get_or, Some, None, refl, arith, nat_lt, ◌*◌, ◌||◌, map, sum_by, All}
use Rattle.std.proofs.lemmas.Bool.Decides.{nat_tests}
use Rattle.std.proofs.lemmas.List.Sums.{position_or_len_is}
use Rattle.std.proofs.lemmas.List.Sums.{sum_by-le}
use Rattle.std.specs.List.{position, position_or_len}
use Rattle.base_words.proofs.Arrangements.{sum_by-map}
use Rattle.hold_parts.specs.declared.parts.Loose.{Loose}
use Rattle.aircraft_file.specs.Craft.{Craft}
use Rattle.trim.specs.declared.figures.LooseFigure.{LooseFigure}
use Rattle.trim.specs.Loads.{figure_mass, is_no_load, load_told, loose_mass}

pub first-here : {X : Type 0} (p : X → Bool) (xs : List X) (i : ℕ) (d : X) → i < length xs → ((k : ℕ) → k < i → p (get_or xs k d) ≡ false) → p (get_or xs i d) ≡ true → position p xs ≡ Some i
first-here p xs i d within below here =
    let is : position_or_len p xs ≡ i = position_or_len_is p xs i d (omega arith) below (λ _. here) in
    let inside : nat_lt i (length xs) ≡ true = grind (arith, nat_tests) in
    rw (is, inside) refl

pub first-none : {X : Type 0} (p : X → Bool) (xs : List X) → ((k : ℕ) (d : X) → k < length xs → p (get_or xs k d) ≡ false) → position p xs ≡ None
first-none p [] none = refl
first-none p (x ∷ xs) none =
    let is : position_or_len p (x ∷ xs) ≡ length (x ∷ xs) = position_or_len_is p (x ∷ xs) (length (x ∷ xs)) x (omega arith) (λ k h. none k x h) (λ h. absurd (omega arith)) in
    let past : nat_lt (length (x ∷ xs)) (length (x ∷ xs)) ≡ false = grind (arith, nat_tests) in
    rw (is, past) refl

-- what an answer by a test says of the test
pub tested-none : {X : Type 0} (b : Bool) (x : X) → None ≡ (if b then None else Some x) → b ≡ true
tested-none true x is = refl
tested-none false x is = cc

-- Lists -------------------------------------------------------------------------------------------

-- a figure that is a load has at most 20,000 kg
figure-light : (none : Bool) (mass : ℕ) → (none || nat_lt 20000 mass) ≡ false → mass ≤ 20000
figure-light none mass is = grind (arith, nat_tests)

pub loads-light : (a : Craft) (figures : List LooseFigure) → length figures ≤ 64 → ((k : ℕ) → k < length figures → (d : LooseFigure) → is_no_load a (get_or figures k d) ≡ false)
    → loose_mass (map (load_told a) figures) ≤ 1280000
loads-light a figures few right =
    let each : All (λ (figure : LooseFigure). figure_mass a figure ≤ 20000) figures = λ k d within. figure-light _ _ (right k within d) in
    let most : sum_by (λ (figure : LooseFigure). figure_mass a figure) figures ≤ length figures * 20000 = sum_by-le (λ (figure : LooseFigure). figure_mass a figure) 20000 figures each in
    let same : loose_mass (map (load_told a) figures) ≡ sum_by (λ (figure : LooseFigure). figure_mass a figure) figures = sum_by-map (λ (l : Loose). l.mass.0) (load_told a) figures in
    omega (arith, most, same)
