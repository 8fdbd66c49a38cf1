-- the keys decide by the first of them that fails
use Rattle.std.proofs.Common.{◌≡◌, ℕ, ◌+◌, Bool, true, false, pos, int_le, nat_le, ◌&&◌, if◌then◌else◌, List, [], ◌∷◌, ◌++◌, length, codes, is_some, IfSome, Option, Some, None, Result, Ok, Err, inl, inr, refl, sym, ap, ap₂, ◌∙◌}
use Rattle.std.proofs.lemmas.Bool.{cases_Bool}
use Rattle.std.specs.Option.{option_or}
use Rattle.std.specs.Result.{result_err}
use Rattle.toml.specs.Data.{Data}
use Rattle.mass_units.specs.declared.Ticks.{Ticks}
use Rattle.base_words.specs.Lists.{first_repeat}
use Rattle.payload.specs.declared.figures.Zone.{Zone}
use Rattle.mass_units.specs.declared.Kg.{Kg}
use Rattle.mass_units.specs.declared.Band.{Band}
use Rattle.hold_parts.specs.declared.parts.Position.{Position}
use Rattle.hold_parts.specs.declared.parts.Lateral.{Lateral}
use Rattle.hold_limits.specs.Layout.{Layout}
use Rattle.aircraft_file.specs.declared.fault.FileFault.{FileFault}
use Rattle.aircraft_file.specs.declared.fault.FileFault.TheVariants.{Wrong}
use Rattle.aircraft_file.specs.declared.side_keys.NamedSide.{NamedSide}
use Rattle.aircraft_file.specs.declared.figures.Tolerance.{Tolerance}
use Rattle.aircraft_file.specs.Spellings.{is_registration, is_version}
use Rattle.aircraft_file.specs.Document.{Contents, section_at, value_at, in_form, required, key, optional, ◌>>=◌}
use Rattle.aircraft_file.specs.Forms.{array_of, whole, signed, mass, text, index, zone, position_of, exclude, combined, cumulative, named_side, fuel_row, corner}
use Rattle.aircraft_file.specs.Figures.{dry_of, chord_of, certified_of, tolerance_of, ideal_of, averages_of, figures_of}
use Rattle.aircraft_file.specs.Loading.{LimitLists, zones_of, limits_of, hold_of, fuel_of, outline_of, apart, sides_of, lateral_with, lateral_of, layout_with, same_number}
use Rattle.aircraft_file.specs.Craft.{craft_in, envelopes_of}
use Rattle.aircraft_file.specs.Keys.{Findings, IsOfKey, AreFrom, first_of, list_of, dry_keys, chord_keys, certified_keys, below_zero, tolerance_keys, below_low, ideal_keys, averages_keys, figure_keys, positions_key, limit_keys, outline_keys, envelope_keys, left_key, lateral_keys, all_keys}

or_assoc : {A : Type 0} (a b c : Option A) → option_or (option_or a b) c ≡ option_or a (option_or b c)
or_assoc (Some x) b c = refl
or_assoc None b c = refl

first_append : (xs ys : Findings) → first_of (xs ++ ys) ≡ option_or (first_of xs) (first_of ys)
first_append [] ys = refl
first_append (x ∷ xs) ys = ap (option_or x) (first_append xs ys) ∙ sym (or_assoc x (first_of xs) (first_of ys))

or_none : {A : Type 0} (a : Option A) → option_or a None ≡ a
or_none (Some x) = refl
or_none None = refl

-- steps of which none depends on what another says
two : {A B C : Type 0} (r : Result A FileFault) (s : Result B FileFault) (make : A → B → C)
    → result_err (r >>= (λ a. s >>= (λ b. Ok (make a b)))) ≡ option_or (result_err r) (option_or (result_err s) None)
two (Ok a) (Ok b) make = refl
two (Ok a) (Err f) make = refl
two (Err f) s make = refl

three : {A B C D : Type 0} (r : Result A FileFault) (s : Result B FileFault) (t : Result C FileFault) (make : A → B → C → D)
    → result_err (r >>= (λ a. s >>= (λ b. t >>= (λ c. Ok (make a b c))))) ≡ option_or (result_err r) (option_or (result_err s) (option_or (result_err t) None))
three (Ok a) s t make = two s t (make a)
three (Err f) s t make = refl

four : {A B C D E : Type 0} (r : Result A FileFault) (s : Result B FileFault) (t : Result C FileFault) (u : Result D FileFault) (make : A → B → C → D → E)
    → result_err (r >>= (λ a. s >>= (λ b. t >>= (λ c. u >>= (λ d. Ok (make a b c d)))))) ≡ option_or (result_err r) (option_or (result_err s) (option_or (result_err t) (option_or (result_err u) None)))
four (Ok a) s t u make = three s t u (make a)
four (Err f) s t u make = refl

five : {A B C D E F : Type 0} (r : Result A FileFault) (s : Result B FileFault) (t : Result C FileFault) (u : Result D FileFault) (v : Result E FileFault) (make : A → B → C → D → E → F)
    → result_err (r >>= (λ a. s >>= (λ b. t >>= (λ c. u >>= (λ d. v >>= (λ e. Ok (make a b c d e))))))) ≡ option_or (result_err r) (option_or (result_err s) (option_or (result_err t) (option_or (result_err u) (option_or (result_err v) None))))
five (Ok a) s t u v make = four s t u v (make a)
five (Err f) s t u v make = refl

eight : {A B C D E F G H I : Type 0} (r : Result A FileFault) (s : Result B FileFault) (t : Result C FileFault) (u : Result D FileFault) (v : Result E FileFault) (w : Result F FileFault) (x : Result G FileFault) (y : Result H FileFault) (make : A → B → C → D → E → F → G → H → I)
    → result_err (r >>= (λ a. s >>= (λ b. t >>= (λ c. u >>= (λ d. v >>= (λ e. w >>= (λ f. x >>= (λ g. y >>= (λ h. Ok (make a b c d e f g h))))))))))
    ≡ option_or (result_err r) (option_or (result_err s) (option_or (result_err t) (option_or (result_err u) (option_or (result_err v) (option_or (result_err w) (option_or (result_err x) (option_or (result_err y) None)))))))
eight (Ok a) (Ok b) (Ok c) t u v w x make = five t u v w x (make a b c)
eight (Err f) s t u v w x y make = refl
eight (Ok a) (Err f) t u v w x y make = refl
eight (Ok a) (Ok b) (Err f) u v w x y make = refl

dry_first : (dry : Contents) → result_err (dry_of dry) ≡ first_of (dry_keys dry)
dry_first dry = two (key 3 (mass 1 1000000) (codes "mass") dry) (key 4 index (codes "index") dry) _

chord_first : (chord : Contents) → result_err (chord_of chord) ≡ first_of (chord_keys chord)
chord_first chord = five (key 5 index (codes "k") chord) (key 6 (whole 1 1000000) (codes "c") chord) (key 7 (signed 100000) (codes "reference") chord) (key 8 (signed 100000) (codes "lemac") chord) (key 9 (whole 1 100000) (codes "mac") chord) _

certified_first : (limits : Contents) → result_err (certified_of limits) ≡ first_of (certified_keys limits)
certified_first limits = four (key 10 (mass 1 1000000) (codes "ramp") limits) (key 11 (mass 1 1000000) (codes "zero_fuel") limits) (key 12 (mass 1 1000000) (codes "take_off") limits) (key 13 (mass 1 1000000) (codes "landing") limits) _

averages_first : (averages : Contents) → result_err (averages_of averages) ≡ first_of (averages_keys averages)
averages_first averages = four (key 18 (mass 0 300) (codes "adult") averages) (key 19 (mass 0 300) (codes "child") averages) (key 20 (mass 0 300) (codes "infant") averages) (key 21 (mass 0 300) (codes "bag") averages) _

tolerance_first_of : (r : Result Kg FileFault) (s : Result Ticks FileFault) (make : Kg → Ticks → Tolerance)
    → result_err (r >>= (λ mass. s >>= (λ at. if int_le (pos 0) at.0 then Ok (make mass at) else Err (Wrong 15)))) ≡ option_or (result_err r) (option_or (below_zero s) None)
tolerance_first_of (Ok m) (Ok at) make = elim (cases_Bool (int_le (pos 0) at.0)) [
  | inl passed ↦ rw passed refl
  | inr failed ↦ rw failed refl
]
tolerance_first_of (Ok m) (Err f) make = refl
tolerance_first_of (Err f) s make = refl

tolerance_first : (t : Contents) → result_err (tolerance_of t) ≡ first_of (tolerance_keys t)
tolerance_first t = tolerance_first_of (key 14 (mass 0 1000000) (codes "mass") t) (key 15 index (codes "index") t) _

ideal_first_of : (r s : Result Ticks FileFault) (make : Ticks → Ticks → Band)
    → result_err (r >>= (λ low. s >>= (λ high. if int_le low.0 high.0 then Ok (make low high) else Err (Wrong 17)))) ≡ option_or (result_err r) (option_or (below_low r s) None)
ideal_first_of (Ok low) (Ok high) make = elim (cases_Bool (int_le low.0 high.0)) [
  | inl passed ↦ rw passed refl
  | inr failed ↦ rw failed refl
]
ideal_first_of (Ok low) (Err f) make = refl
ideal_first_of (Err f) (Ok high) make = refl
ideal_first_of (Err f) (Err g) make = refl

ideal_first : (t : Contents) → result_err (ideal_of t) ≡ first_of (ideal_keys t)
ideal_first t = ideal_first_of (key 16 index (codes "low") t) (key 17 index (codes "high") t) _

join : (x : Option FileFault) (xs ys : Findings) (y : Option FileFault) → x ≡ first_of xs → y ≡ first_of ys → option_or x y ≡ first_of (xs ++ ys)
join x xs ys y p q = ap₂ option_or p q ∙ sym (first_append xs ys)

figures_first : (document : Contents) → result_err (figures_of document) ≡ first_of (figure_keys document)
figures_first document =
    let dry = section_at (codes "dry") document in
    let chord = section_at (codes "chord") document in
    let limits = section_at (codes "limits") document in
    let tolerance = section_at (codes "tolerance") document in
    let trim = section_at (codes "trim") document in
    let averages = section_at (codes "averages") document in
    let registration = key 1 (text is_registration) (codes "registration") document in
    let version = key 2 (text is_version) (codes "version") document in
    let last = averages_keys averages in
    let from_ideal = ideal_keys trim ++ last in
    let from_tolerance = tolerance_keys tolerance ++ from_ideal in
    let from_certified = certified_keys limits ++ from_tolerance in
    let from_chord = chord_keys chord ++ from_certified in
    eight registration version (dry_of dry) (chord_of chord) (certified_of limits) (tolerance_of tolerance) (ideal_of trim) (averages_of averages) _
    ∙ ap (option_or (result_err registration)) (ap (option_or (result_err version))
    (join _ (dry_keys dry) from_chord _ (dry_first dry)
    (join _ (chord_keys chord) from_certified _ (chord_first chord)
    (join _ (certified_keys limits) from_tolerance _ (certified_first limits)
    (join _ (tolerance_keys tolerance) from_ideal _ (tolerance_first tolerance)
    (join _ (ideal_keys trim) last _ (ideal_first trim)
    (or_none _ ∙ averages_first averages)))))))

one : {A B : Type 0} (r : Result A FileFault) (make : A → B) → result_err (r >>= (λ a. Ok (make a))) ≡ result_err r
one (Ok a) make = refl
one (Err f) make = refl

limits_first : (positions : List Position) (hold : Contents) → result_err (limits_of positions hold) ≡ first_of (limit_keys positions hold)
limits_first positions hold = four
    (optional 24 (array_of (exclude positions)) (value_at (codes "exclude") hold))
    (optional 25 (array_of (combined positions)) (value_at (codes "combined") hold))
    (optional 26 (array_of (cumulative true positions)) (value_at (codes "forward") hold))
    (optional 27 (array_of (cumulative false positions)) (value_at (codes "aft") hold)) _

hold_first : (r : Result (List Position) FileFault) (section : Contents)
    → result_err (r >>= (λ positions. limits_of positions section >>= (λ limits. Ok (layout_with positions limits)))) ≡ option_or (result_err r) (first_of (limit_keys (list_of r) section))
hold_first (Ok positions) section = one (limits_of positions section) (layout_with positions) ∙ limits_first positions section
hold_first (Err f) section = refl

made_positions : (positions : List Position) (s : Result LimitLists FileFault) (hold : Layout)
    → (s >>= (λ limits. Ok (layout_with positions limits))) ≡ Ok hold → hold.positions ≡ positions
made_positions positions (Ok limits) hold is = let same : layout_with positions limits ≡ hold = cc in sym (ap (λ (h : Layout). h.positions) same)
made_positions positions (Err f) hold is = absurd (cc is)

hold_positions : (r : Result (List Position) FileFault) (section : Contents) (hold : Layout)
    → (r >>= (λ positions. limits_of positions section >>= (λ limits. Ok (layout_with positions limits)))) ≡ Ok hold → hold.positions ≡ list_of r
hold_positions (Ok positions) section hold is = made_positions positions (limits_of positions section) hold is
hold_positions (Err f) section hold is = absurd (cc is)

outline_first : (number : ℕ) (sides : Contents) → result_err (outline_of number sides) ≡ first_of (outline_keys number sides)
outline_first number sides = two (key number (array_of corner) (codes "forward") sides) (key (number + 1) (array_of corner) (codes "aft") sides) _

envelopes_first : (envelope : Contents) → result_err (envelopes_of envelope) ≡ first_of (envelope_keys envelope)
envelopes_first envelope =
    let zero_fuel = section_at (codes "zero_fuel") envelope in
    let take_off = section_at (codes "take_off") envelope in
    let landing = section_at (codes "landing") envelope in
    three (outline_of 29 zero_fuel) (outline_of 31 take_off) (outline_of 33 landing) _
    ∙ join _ (outline_keys 29 zero_fuel) (outline_keys 31 take_off ++ outline_keys 33 landing) _ (outline_first 29 zero_fuel)
    (join _ (outline_keys 31 take_off) (outline_keys 33 landing) _ (outline_first 31 take_off) (or_none _ ∙ outline_first 33 landing))

right_first : (s right : Result (List NamedSide) FileFault)
    → result_err (s >>= (λ left. right >>= (λ more. apart 37 (left ++ more)))) ≡ option_or (result_err s) (option_or (result_err (right >>= (λ more. apart 37 (list_of s ++ more)))) None)
right_first (Ok left) right = sym (or_none _)
right_first (Err f) right = refl

sides_first : (named right : Result (List NamedSide) FileFault)
    → result_err (named >>= (λ names. apart 36 names >>= (λ left. right >>= (λ more. apart 37 (left ++ more)))))
    ≡ option_or (result_err (named >>= apart 36)) (option_or (result_err (right >>= (λ more. apart 37 (list_of (named >>= apart 36) ++ more)))) None)
sides_first (Ok names) right = right_first (apart 36 names) right
sides_first (Err f) right = refl

lateral_first : (positions : List Position) (hold : Contents) (value : Option Data) → result_err (lateral_with positions hold value) ≡ first_of (lateral_keys positions hold value)
lateral_first positions hold None = refl
lateral_first positions hold (Some d) =
    two (in_form 35 (mass 0 1000000 d)) (sides_of positions hold) _
    ∙ ap (option_or (result_err (in_form 35 (mass 0 1000000 d)))) (or_none _
    ∙ sides_first (optional 36 (array_of (named_side false positions)) (value_at (codes "left") hold)) (optional 37 (array_of (named_side true positions)) (value_at (codes "right") hold)))

craft_first : {A B C D E : Type 0} (figures : Result A FileFault) (zones : Result B FileFault) (hold : Result Layout FileFault) (fuel : Result C FileFault) (envelopes : Result D FileFault)
    (lateral : List Position → Result (Option Lateral) FileFault) (positions : List Position) (make : A → B → Layout → C → D → Option Lateral → E)
    → ((h : Layout) → hold ≡ Ok h → h.positions ≡ positions)
    → result_err (figures >>= (λ a. zones >>= (λ b. hold >>= (λ h. fuel >>= (λ c. envelopes >>= (λ d. lateral h.positions >>= (λ l. Ok (make a b h c d l))))))))
    ≡ option_or (result_err figures) (option_or (result_err zones) (option_or (result_err hold) (option_or (result_err fuel) (option_or (result_err envelopes) (option_or (result_err (lateral positions)) None)))))
craft_first (Ok a) (Ok b) (Ok h) fuel envelopes lateral positions make same =
    three fuel envelopes (lateral h.positions) (make a b h)
    ∙ ap (λ ps. option_or (result_err fuel) (option_or (result_err envelopes) (option_or (result_err (lateral ps)) None))) (same h refl)
craft_first (Err f) zones hold fuel envelopes lateral positions make same = refl
craft_first (Ok a) (Err f) hold fuel envelopes lateral positions make same = refl
craft_first (Ok a) (Ok b) (Err f) fuel envelopes lateral positions make same = refl

hold_join : (h p : Option FileFault) (xs ys : Findings) (y : Option FileFault) → h ≡ option_or p (first_of xs) → y ≡ first_of ys → option_or h y ≡ first_of (p ∷ (xs ++ ys))
hold_join h p xs ys y e q = ap₂ option_or e q ∙ or_assoc p (first_of xs) (first_of ys) ∙ ap (option_or p) (sym (first_append xs ys))

-- a document's fault is that of the first key that has one
pub keys_first : (document : Contents) → result_err (craft_in document) ≡ first_of (all_keys document)
keys_first document =
    let positions = list_of (positions_key document) in
    let section = section_at (codes "hold") document in
    let fuel = section_at (codes "fuel") document in
    let envelope = section_at (codes "envelope") document in
    let from_envelopes = envelope_keys envelope ++ lateral_keys positions section (value_at (codes "lateral") section) in
    let from_fuel = result_err (fuel_of fuel) ∷ from_envelopes in
    let from_zones = result_err (zones_of document) ∷ result_err (positions_key document) ∷ (limit_keys positions section ++ from_fuel) in
    craft_first (figures_of document) (zones_of document) (hold_of document) (fuel_of fuel) (envelopes_of envelope) (λ ps. lateral_of ps section) positions _ (hold_positions (positions_key document) section)
    ∙ join _ (figure_keys document) from_zones _ (figures_first document)
    (ap (option_or (result_err (zones_of document)))
    (hold_join _ (result_err (positions_key document)) (limit_keys positions section) from_fuel _ (hold_first (positions_key document) section)
    (ap (option_or (result_err (fuel_of fuel)))
    (join _ (envelope_keys envelope) (lateral_keys positions section (value_at (codes "lateral") section)) _ (envelopes_first envelope)
    (or_none _ ∙ lateral_first positions section (value_at (codes "lateral") section))))))

-- ---- the number of a key's fault

in_form_is : {A : Type 0} (n : ℕ) (o : Option A) → IfSome (result_err (in_form n o)) (IsOfKey n)
in_form_is n (Some a) = tt
in_form_is n None = inr refl

required_is : {A : Type 0} (n : ℕ) (form : Data → Option A) (v : Option Data) → IfSome (result_err (required n form v)) (IsOfKey n)
required_is n form None = inl refl
required_is n form (Some d) = in_form_is n (form d)

key_is : {A : Type 0} (n : ℕ) (form : Data → Option A) (name : List ℕ) (section : Contents) → IfSome (result_err (key n form name section)) (IsOfKey n)
key_is n form name section = required_is n form (value_at name section)

optional_is : {A : Type 0} (n : ℕ) (form : Data → Option (List A)) (v : Option Data) → IfSome (result_err (optional n form v)) (IsOfKey n)
optional_is n form None = tt
optional_is n form (Some d) = in_form_is n (form d)

unless_wrong : (n : ℕ) (passed : Bool) → IfSome (if passed then None else Some (Wrong n)) (IsOfKey n)
unless_wrong n true = tt
unless_wrong n false = inr refl

test_is : {A : Type 0} (n : ℕ) (passed : Bool) (a : A) → IfSome (result_err (if passed then Ok a else Err (Wrong n))) (IsOfKey n)
test_is n true a = tt
test_is n false a = inr refl

below_zero_is : (r : Result Ticks FileFault) → IfSome (result_err r) (IsOfKey 15) → IfSome (below_zero r) (IsOfKey 15)
below_zero_is (Ok at) h = unless_wrong 15 (int_le (pos 0) at.0)
below_zero_is (Err f) h = h

below_low_is : (r s : Result Ticks FileFault) → IfSome (result_err s) (IsOfKey 17) → IfSome (below_low r s) (IsOfKey 17)
below_low_is (Ok low) (Ok high) h = unless_wrong 17 (int_le low.0 high.0)
below_low_is (Err f) (Ok high) h = tt
below_low_is (Ok low) (Err f) h = h
below_low_is (Err g) (Err f) h = h

zones_is : (r : Result (List Zone) FileFault) → IfSome (result_err r) (IsOfKey 22)
    → IfSome (result_err (r >>= (λ zones. if nat_le 1 (length zones) && nat_le (length zones) 16 then Ok zones else Err (Wrong 22)))) (IsOfKey 22)
zones_is (Ok zones) h = test_is 22 (nat_le 1 (length zones) && nat_le (length zones) 16) zones
zones_is (Err f) h = h

twice_is : (n : ℕ) (twice : Bool) (sides : List NamedSide) → IfSome (result_err (if twice then Err (Wrong n) else Ok sides)) (IsOfKey n)
twice_is n true sides = inr refl
twice_is n false sides = tt

apart_is : (n : ℕ) (sides : List NamedSide) → IfSome (result_err (apart n sides)) (IsOfKey n)
apart_is n sides = twice_is n (is_some (first_repeat same_number sides)) sides

sides_is : (n : ℕ) (r : Result (List NamedSide) FileFault) (before : List NamedSide) → IfSome (result_err r) (IsOfKey n)
    → IfSome (result_err (r >>= (λ sides. apart n (before ++ sides)))) (IsOfKey n)
sides_is n (Ok sides) before h = apart_is n (before ++ sides)
sides_is n (Err f) before h = h

lateral_from : (positions : List Position) (hold : Contents) (v : Option Data) → AreFrom 35 (lateral_keys positions hold v)
lateral_from positions hold None = tt
lateral_from positions hold (Some d) =
    let left = optional 36 (array_of (named_side false positions)) (value_at (codes "left") hold) in
    let right = optional 37 (array_of (named_side true positions)) (value_at (codes "right") hold) in (
      in_form_is 35 (mass 0 1000000 d),
      (
        sides_is 36 left [] (optional_is 36 (array_of (named_side false positions)) (value_at (codes "left") hold)),
        (sides_is 37 right (list_of (left_key positions hold)) (optional_is 37 (array_of (named_side true positions)) (value_at (codes "right") hold)), tt),
      ),
    )

-- the findings of all keys have the keys' numbers
pub keys_from : (document : Contents) → AreFrom 1 (all_keys document)
keys_from document =
    let positions = list_of (positions_key document) in
    let hold = section_at (codes "hold") document in
    let dry = section_at (codes "dry") document in
    let chord = section_at (codes "chord") document in
    let limits = section_at (codes "limits") document in
    let tolerance = section_at (codes "tolerance") document in
    let trim = section_at (codes "trim") document in
    let averages = section_at (codes "averages") document in
    let fuel = section_at (codes "fuel") document in
    let envelope = section_at (codes "envelope") document in
    let zero_fuel = section_at (codes "zero_fuel") envelope in
    let take_off = section_at (codes "take_off") envelope in
    let landing = section_at (codes "landing") envelope in (
      key_is 1 (text is_registration) (codes "registration") document,
      (
        key_is 2 (text is_version) (codes "version") document,
        (
          key_is 3 (mass 1 1000000) (codes "mass") dry,
          (
            key_is 4 (index) (codes "index") dry,
            (
              key_is 5 (index) (codes "k") chord,
              (
                key_is 6 (whole 1 1000000) (codes "c") chord,
                (
                  key_is 7 (signed 100000) (codes "reference") chord,
                  (
                    key_is 8 (signed 100000) (codes "lemac") chord,
                    (
                      key_is 9 (whole 1 100000) (codes "mac") chord,
                      (
                        key_is 10 (mass 1 1000000) (codes "ramp") limits,
                        (
                          key_is 11 (mass 1 1000000) (codes "zero_fuel") limits,
                          (
                            key_is 12 (mass 1 1000000) (codes "take_off") limits,
                            (
                              key_is 13 (mass 1 1000000) (codes "landing") limits,
                              (
                                key_is 14 (mass 0 1000000) (codes "mass") tolerance,
                                (
                                  below_zero_is (key 15 index (codes "index") tolerance) (key_is 15 (index) (codes "index") tolerance),
                                  (
                                    key_is 16 (index) (codes "low") trim,
                                    (
                                      below_low_is (key 16 index (codes "low") trim) (key 17 index (codes "high") trim) (key_is 17 (index) (codes "high") trim),
                                      (
                                        key_is 18 (mass 0 300) (codes "adult") averages,
                                        (
                                          key_is 19 (mass 0 300) (codes "child") averages,
                                          (
                                            key_is 20 (mass 0 300) (codes "infant") averages,
                                            (
                                              key_is 21 (mass 0 300) (codes "bag") averages,
                                              (
                                                zones_is (key 22 (array_of zone) (codes "zone") document) (key_is 22 (array_of zone) (codes "zone") document),
                                                (
                                                  key_is 23 (array_of position_of) (codes "position") document,
                                                  (
                                                    optional_is 24 (array_of (exclude positions)) (value_at (codes "exclude") hold),
                                                    (
                                                      optional_is 25 (array_of (combined positions)) (value_at (codes "combined") hold),
                                                      (
                                                        optional_is 26 (array_of (cumulative true positions)) (value_at (codes "forward") hold),
                                                        (
                                                          optional_is 27 (array_of (cumulative false positions)) (value_at (codes "aft") hold),
                                                          (
                                                            key_is 28 (array_of fuel_row) (codes "rows") fuel,
                                                            (
                                                              key_is 29 (array_of corner) (codes "forward") zero_fuel,
                                                              (
                                                                key_is 30 (array_of corner) (codes "aft") zero_fuel,
                                                                (
                                                                  key_is 31 (array_of corner) (codes "forward") take_off,
                                                                  (
                                                                    key_is 32 (array_of corner) (codes "aft") take_off,
                                                                    (
                                                                      key_is 33 (array_of corner) (codes "forward") landing,
                                                                      (
                                                                        key_is 34 (array_of corner) (codes "aft") landing,
                                                                        lateral_from positions hold (value_at (codes "lateral") hold),
                                                                      ),
                                                                    ),
                                                                  ),
                                                                ),
                                                              ),
                                                            ),
                                                          ),
                                                        ),
                                                      ),
                                                    ),
                                                  ),
                                                ),
                                              ),
                                            ),
                                          ),
                                        ),
                                      ),
                                    ),
                                  ),
                                ),
                              ),
                            ),
                          ),
                        ),
                      ),
                    ),
                  ),
                ),
              ),
            ),
          ),
        ),
      ),
    )
