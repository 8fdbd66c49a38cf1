-- the key of a flight is text
use Rattle.std.proofs.Common.{◌≡◌, ℕ, ◌-◌, List, [], ◌∷◌, length, take, drop, sym, subst, true, ◌&&◌, arith, codes, inl, inr}
use Rattle.std.specs.Prelude.{All, IsAscii, IsUtf8, bytes_eq, nat_le}
use Rattle.std.proofs.lemmas.Bool.{and_parts, cases_lt}
use Rattle.std.proofs.lemmas.List.{take-append-drop, get_or_past}
use Rattle.std.proofs.lemmas.List.Elements.{All-nil, All-cons, All-append}
use Rattle.std.proofs.lemmas.Slice.Eq.{bytes_eq-Decides}
use Rattle.std.proofs.lemmas.Str.{IsUtf8-from_ascii}
use Rattle.flight_state.specs.Spellings.{is_flight_key, is_flight_name, is_day}
use Rattle.ldm_cpm.proofs.Plain.{IsPlain, plain-flight, plain-day}

hyphen : IsPlain 45
hyphen = record { least = omega arith; most = omega arith; no_dot = λ e. omega (arith, e); no_slash = λ e. omega (arith, e) }

-- its letters are capitals, digits and hyphens
plain-key : (text : List ℕ) → is_flight_key text ≡ true → All IsPlain text
plain-key text spelled =
    let n = length text - 3 in
    let back = drop n text in
    let flight = and_parts (is_flight_name (take n text)) (bytes_eq (take 1 back) (codes "-") && is_day (drop 1 back)) (and_parts (nat_le 3 (length text)) (is_flight_name (take n text) && (bytes_eq (take 1 back) (codes "-") && is_day (drop 1 back))) spelled).1 in
    let day = and_parts (bytes_eq (take 1 back) (codes "-")) (is_day (drop 1 back)) flight.1 in
    let mark : take 1 back ≡ 45 ∷ [] = (bytes_eq-Decides (take 1 back) (codes "-")).0 day.0 in
    let rest : All IsPlain back = subst (All IsPlain) (take-append-drop 1 back)
    (All-append IsPlain (take 1 back) (drop 1 back) (subst (All IsPlain) (sym mark) (All-cons IsPlain 45 [] hyphen (All-nil IsPlain))) (plain-day (drop 1 back) day.1)) in
    subst (All IsPlain) (take-append-drop n text) (All-append IsPlain (take n text) back (plain-flight (take n text) flight.0) rest)

ascii-plain : (text : List ℕ) → All IsPlain text → IsAscii text
ascii-plain text plain i = elim (cases_lt i (length text)) [
  | inl within ↦ (let most = (plain i 0 within).most in omega (arith, most))
  | inr past ↦ (let none = get_or_past text i 0 past in omega (arith, none))
]

pub text-key : (text : List ℕ) → is_flight_key text ≡ true → IsUtf8 text
text-key text spelled = IsUtf8-from_ascii text (ascii-plain text (plain-key text spelled))
