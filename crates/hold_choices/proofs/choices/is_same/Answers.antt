use Rattle.std.proofs.Common.{◌≡◌, ⊎_elim, ◌==◌, true, ℕ, ap, sym, ◌∙◌, arith}
use Rattle.std.proofs.lemmas.Bool.{false≢true}
use Rattle.std.proofs.lemmas.Bool.Decides.{eqb_tells}
use Rattle.position_set.specs.declared.set.PositionSet.{PositionSet}
use Rattle.position_set.specs.Sets.{members}
use Rattle.position_set.proofs.OrderLemmas.{members-same}
use Rattle.hold_choices.proofs.choices.is_same.Goals as goal

one-set : (a b : PositionSet) → a.0 ≡ b.0 → a ≡ b
one-set a b same = λ i. record { 0 = same i }

from-test : (a b : ℕ) → (a == b) ≡ true → a ≡ b
from-test a b equal = ⊎_elim (λ same. same.1) (λ apart. absurd (false≢true (sym apart.0 ∙ equal))) (eqb_tells a b)

to-test : (a b : ℕ) → a ≡ b → (a == b) ≡ true
to-test a b is = ⊎_elim (λ same. same.0) (λ apart. absurd (apart.1 is)) (eqb_tells a b)

pub returns : goal.returns
returns c =
    let a : PositionSet = c.args.one in
    let b : PositionSet = c.args.other in (
      λ equal. ap members (one-set a b (from-test a.0 b.0 (sym c.eq.ensures ∙ equal))),
      λ is. c.eq.ensures ∙ to-test a.0 b.0 (ap (λ (s : PositionSet). s.0) (members-same a b (omega arith) (omega arith) is)),
    )
