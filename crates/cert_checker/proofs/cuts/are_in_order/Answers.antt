use Rattle.std.proofs.Common.{◌≡◌, ⊎_elim, true, false, not, Ordering, Less, Equal, Greater, is_lt, refl, sym, ◌∙◌, ap, drop, length}
use Rattle.std.proofs.lemmas.Bool.{cases_Bool, false≢true}
use Rattle.std.proofs.lemmas.Bool.Decides.{Decides-eqb}
use Rattle.std.proofs.lemmas.Slice.Eq.{starts_is}
use Rattle.cert_checker.proofs.cuts.are_in_order.Goals as goal

is_lt-less : (o : Ordering) → is_lt o ≡ true → o ≡ Less
is_lt-less Less is = refl
is_lt-less Equal is = absurd (false≢true is)
is_lt-less Greater is = absurd (false≢true is)

pub returns-then-is_lt : goal.returns-then-is_lt
returns-then-is_lt c =
    let starts = starts_is Decides-eqb c.args.later.now c.args.earlier.now c.starts_with.result c.starts_with.ensures.value in (
      λ yes. record {
        before = sym c.cmp.ensures ∙ is_lt-less c.cmp.result (sym c.is_lt.ensures ∙ c.if-is_lt.true);
        apart = λ extends. false≢true (sym (ap not (starts.1 extends.0 extends.1)) ∙ yes);
      },
      λ order. ⊎_elim
          (λ (yes : c.starts_with.result ≡ true). absurd (order.apart (drop (length c.args.earlier.now) c.args.later.now, starts.0 yes)))
          (λ (no : c.starts_with.result ≡ false). ap not no)
          (cases_Bool c.starts_with.result),
    )
