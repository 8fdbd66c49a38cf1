-- One more digit.
use Rattle.std.proofs.Common.{◌≡◌, ℕ, ◌+◌, ◌-◌, ◌*◌, ◌<◌, ◌≤◌, ◌^◌, get_or, true, arith, rules, add-one}
use Rattle.std.proofs.Math.Nat.{pow-suc}
use Rattle.std.proofs.lemmas.Bool.Decides.{nat_tests}
use Rattle.std.proofs.lemmas.List.Folds.{list_all_more}
use Rattle.std.proofs.lemmas.Int.Digits.{digits_value_more}
use Rattle.std.proofs.lemmas.Str.{digit_value_digit}
use Rattle.std.specs.Char.{is_ascii_digit, digit_value}
use Rattle.std.specs.Int.{IsInRange}
use Rattle.http_wire.proofs.fields.read_length.Goals as goal

in_range : (d : ℕ) → is_ascii_digit d ≡ true → IsInRange 48 57 d
in_range d is = grind (arith, nat_tests)

one_below : (n d at : ℕ) → d ≤ 57 → n < 10 ^ at → n * 10 + (d - 48) < 10 ^ (at + 1)
one_below n d at small below = let next : 10 ^ (at + 1) ≡ 10 ^ at * 10 = rw add-one (pow-suc 10 at) in omega (arith, next)

pub loop-byte-preserved : goal.loop-byte-preserved
loop-byte-preserved c =
    let text = c.args.text.now in
    let at = c.loop-byte.byte-index in
    let old = c.loop-byte.invariant in
    let digit : is_ascii_digit (get_or text at 0) ≡ true = search rules in
    let inside : IsInRange 48 57 (get_or text at 0) = in_range _ digit in
    record {
      digits = rw (list_all_more _ text at 0 (search rules), old.digits) digit;
      value = rw (digits_value_more 10 text at (search rules)) (let v : digit_value (get_or text at 0) + 48 ≡ get_or text at 0 = digit_value_digit _ inside in omega (arith, v, old.value));
      below = one_below _ _ at inside.1 old.below;
    }
