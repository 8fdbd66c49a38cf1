use Rattle.std.proofs.Common.{◌≡◌, ◌||◌, ◌==◌, true, nat_lt, nat_le, length, ap, ◌∙◌, refl, arith}
use Rattle.std.proofs.lemmas.Bool.Decides.{nat_tests}
use Rattle.std.proofs.lemmas.Int.{ints}
use Rattle.hold_limits.specs.Enumeration.{exclude}
use Rattle.position_set.specs.Sets.{has}
use Rattle.hold_partial.proofs.AheadLemmas.{blocked-by}
use Rattle.hold_partial.proofs.ArrangementLemmas.{at_rank-same}
use Rattle.hold_partial.proofs.position_table.entry_of.Goals as goal

pub with-requires : goal.with-requires
with-requires c = omega (arith, c.requires.few, c.requires.arranged.count, c.requires.known)

pub returns : goal.returns
returns c =
    let hold = c.args.hold.now in
    let q = c.args.number in
    record {
      influence = omega (arith, ints);
      side = omega (arith, ints);
      rank = c.rank_of.ensures;
      excluding = c.excluding_positions-excluding.ensures;
      blocked_ranks = λ r. c.ranks_of.ensures r ∙ at_rank-same hold c.args.ranks.now c.requires.arranged (has c.with.result) (λ a. (q == a) || exclude hold q a)
          (λ a below.
          let inside : nat_lt a (length hold.positions) ≡ true = grind (arith, nat_tests) in
          let excluded : has c.excluding_positions-excluding.result a ≡ exclude hold a q = c.excluding_positions-excluding.ensures a ∙ rw inside refl in
          c.with.ensures a ∙ ap (λ e. e || (a == q)) excluded ∙ blocked-by hold a q) r;
      closed_ranks = λ r. c.ranks_of-2.ensures r ∙ at_rank-same hold c.args.ranks.now c.requires.arranged (has c.closed_positions.result) (λ a. nat_le a q)
          (λ a below. let inside : nat_lt a (length hold.positions) ≡ true = grind (arith, nat_tests) in c.closed_positions.ensures.value a ∙ rw inside refl) r;
    }
