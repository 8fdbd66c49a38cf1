-- the key of a leg is spelled, and short
use Rattle.std.proofs.Common.{◌≡◌, ℕ, ◌+◌, ◌-◌, ◌≤◌, true, ◌&&◌, ◌∷◌, ◌++◌, List, length, take, drop, ◌∙◌, ap, arith, codes}
use Rattle.std.specs.Prelude.{bytes_eq, nat_le, ◌==◌}
use Rattle.std.specs.List.{list_all}
use Rattle.std.specs.Str.Parse.{digits_value}
use Rattle.std.proofs.lemmas.Bool.{and_parts, and_from, eqb-true, le-leb}
use Rattle.std.proofs.lemmas.List.{length-append, take_at, drop_at}
use Rattle.base_words.specs.Letters.{is_digit}
use Rattle.flight_state.specs.Spellings.{is_flight_name, is_day, is_flight_key}

pub two_digits : (text : List ℕ) → is_day text ≡ true → length text ≡ 2
two_digits text spelled = eqb-true (length text) 2 (and_parts (length text == 2) (list_all is_digit text && (nat_le 1 (digits_value 10 text) && nat_le (digits_value 10 text) 31)) spelled).0

pub key_spelled : (flight day : List ℕ) → is_flight_name flight ≡ true → is_day day ≡ true → is_flight_key (flight ++ 45 ∷ day) ≡ true
key_spelled flight day f d =
    let two = two_digits day d in
    let long = length-append flight (45 ∷ day) in
    let at : length flight ≡ length (flight ++ 45 ∷ day) - 3 = omega (arith, two, long) in
    let some : 3 ≤ length (flight ++ 45 ∷ day) = omega (arith, two, long) in
    let front : take (length (flight ++ 45 ∷ day) - 3) (flight ++ 45 ∷ day) ≡ flight = take_at flight (45 ∷ day) (length (flight ++ 45 ∷ day) - 3) at in
    let back : drop (length (flight ++ 45 ∷ day) - 3) (flight ++ 45 ∷ day) ≡ 45 ∷ day = drop_at flight (45 ∷ day) (length (flight ++ 45 ∷ day) - 3) at in
    and_from _ _ (le-leb 3 (length (flight ++ 45 ∷ day)) some)
    (and_from _ _ (ap is_flight_name front ∙ f)
    (and_from _ _ (ap (λ (t : List ℕ). bytes_eq (take 1 t) (codes "-")) back) (ap (λ (t : List ℕ). is_day (drop 1 t)) back ∙ d)))
