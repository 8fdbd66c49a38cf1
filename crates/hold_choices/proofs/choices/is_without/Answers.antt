use Rattle.std.proofs.Common.{◌≡◌, ⊎_elim, true, false, length, ap, sym, ◌∙◌, arith}
use Rattle.std.proofs.lemmas.Bool.{cases_Bool, false≢true}
use Rattle.position_set.specs.Sets.{members}
use Rattle.position_set.proofs.MemberLemmas.{members-none, members-empty}
use Rattle.price_trees.specs.Narrowing.{is_empty}
use Rattle.hold_choices.proofs.ChoiceLemmas.{empty-is}
use Rattle.hold_choices.proofs.choices.is_without.Goals as goal

pub returns : goal.returns
returns c = ⊎_elim
    (λ (yes : c.is_empty.result ≡ true). yes ∙ sym (ap is_empty (members-none c.args.set (c.is_empty.ensures.0 yes))))
    (λ (no : c.is_empty.result ≡ false). no ∙ ⊎_elim
    (λ (empty : is_empty (members c.args.set) ≡ true).
    let none : length (members c.args.set) ≡ 0 = ap length (empty-is (members c.args.set) empty) in
    absurd (false≢true (sym no ∙ c.is_empty.ensures.1 (members-empty c.args.set (omega arith) none))))
    (λ (some : is_empty (members c.args.set) ≡ false). sym some)
    (cases_Bool (is_empty (members c.args.set))))
    (cases_Bool c.is_empty.result)
