use Rattle.std.proofs.Common.{◌≡◌, ◌+◌, ◌||◌, ◌==◌, nat_lt, nat_le, ℕ, arith, ap, ◌∙◌}
use Rattle.std.proofs.lemmas.Bool.Decides.{nat_tests}
use Rattle.std.proofs.lemmas.List.{length-set}
use Rattle.position_set.specs.declared.set.PositionSet.{PositionSet}
use Rattle.position_set.specs.Sets.{has}
use Rattle.hold_choices.proofs.ListLemmas.{each-set}
use Rattle.hold_choices.proofs.conflicts.up_to_each.Goals as goal

one-more : (p n : ℕ) → (nat_lt p n || (p == n)) ≡ nat_lt p (n + 1)
one-more p n = grind (arith, nat_tests)

up-to : (p n : ℕ) → nat_lt p (n + 1) ≡ nat_le p n
up-to p n = grind (arith, nat_tests)

pub loop-number-preserved : goal.loop-number-preserved
loop-number-preserved c =
    let n = c.loop-number.number in
    let more : (p : ℕ) → has c.with-numbers.result p ≡ nat_lt p (n + 1) = λ p. c.with-numbers.ensures p ∙ ap (λ b. b || (p == n)) (c.loop-number.invariant.numbers p) ∙ one-more p n in
    record {
      long = length-set c.loop-number.up_to _ _ ∙ c.loop-number.invariant.long;
      numbers = more;
      each = each-set (λ q (set : PositionSet). (p : ℕ) → has set p ≡ nat_le p q) c.loop-number.up_to n c.from.result c.with-numbers.result (omega arith)
          (omega (arith, c.loop-number.invariant.long)) c.loop-number.invariant.each (λ p. more p ∙ up-to p n);
    }

pub returns : goal.returns
returns c = λ q p d within below. c.loop-number.invariant.each q d (omega (arith, within)) p
