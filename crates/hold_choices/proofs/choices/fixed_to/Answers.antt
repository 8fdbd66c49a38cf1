use Rattle.std.proofs.Common.{◌≡◌, ⊎_elim, ◌&&◌, ◌==◌, ℕ, Bool, true, false, refl, ap, sym, ◌∙◌, arith}
use Rattle.std.proofs.lemmas.Bool.Decides.{eqb_tells}
use Rattle.position_set.specs.declared.set.PositionSet.{PositionSet}
use Rattle.position_set.specs.Sets.{has}
use Rattle.hold_choices.proofs.NumberLemmas.{eq-swap, members-filtered}
use Rattle.hold_choices.proofs.choices.fixed_to.Goals as goal
use Rattle.hold_choices.proofs.choices.fixed_to.Goals.{else-number-lt64-via-then-number-lt64+else-contains, else-number-lt64-via-else-number-lt64}

and-false : (b : Bool) → (b && false) ≡ false
and-false true = refl
and-false false = refl

only-one : (set : PositionSet) (k q : ℕ) → has set k ≡ true → (q == k) ≡ (has set q && (k == q))
only-one set k q in_set = ⊎_elim
    (λ same. rw (ap (has set) (sym same.1) ∙ in_set) (eq-swap q k))
    (λ apart. eq-swap q k ∙ apart.0 ∙ sym (ap (λ b. has set q && b) apart.0 ∙ and-false (has set q)))
    (eqb_tells k q)

none-of : (set : PositionSet) (k q : ℕ) → (k ≡ q → has set q ≡ false) → false ≡ (has set q && (k == q))
none-of set k q not_in = ⊎_elim
    (λ same. rw (not_in same.1) refl)
    (λ apart. sym (ap (λ b. has set q && b) apart.0 ∙ and-false (has set q)))
    (eqb_tells k q)

pub returns-then-contains : goal.returns-then-contains
returns-then-contains c =
    members-filtered c.of.result c.args.set (λ p. c.args.number == p)
    (λ q within. c.of.ensures q ∙ only-one c.args.set c.args.number q (sym c.contains.ensures ∙ c.if-contains.true))

pub returns-else-number-lt64 : goal.returns-else-number-lt64
returns-else-number-lt64 c = elim c.else-number-lt64.branch [
  | else-number-lt64-via-then-number-lt64+else-contains w ↦
      members-filtered c.empty.result c.args.set (λ p. c.args.number == p)
      (λ q within. c.empty.ensures q ∙ none-of c.args.set c.args.number q (λ same. ap (has c.args.set) (sym same) ∙ sym w.contains.ensures ∙ w.if-contains.false))
  | else-number-lt64-via-else-number-lt64 w ↦
      members-filtered c.empty.result c.args.set (λ p. c.args.number == p)
      (λ q within. c.empty.ensures q ∙ none-of c.args.set c.args.number q (λ same. absurd (omega (arith, w.if-number-lt64.false, same, within))))
]
