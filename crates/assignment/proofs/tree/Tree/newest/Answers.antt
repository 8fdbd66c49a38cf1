use Rattle.std.proofs.Common.{◌≡◌, ◌-◌, length, get_or, FitsSigned, w64, refl, ap, ◌∙◌, arith}
use Rattle.std.specs.Prelude.{pos}
use Rattle.std.proofs.lemmas.Int.{ints}
use Rattle.assignment.specs.Prices.{price_at}
use Rattle.assignment.specs.Tables.{number_at, candidate_at}
use Rattle.assignment.proofs.Bounds.{items-near}
use Rattle.assignment.proofs.tree.Tree.newest.Goals as goal

pub overflow_sub-result : goal.overflow_sub-result
overflow_sub-result c =
    let m = number_at c.args.self.now.members.items (length c.args.self.now.members.items - 1) in
    let near = items-near c.args.standing.now c.args.self.now c.requires m in
    let item : get_or c.deref-2.result.now c.from-2.result (pos 0) ≡ price_at c.args.standing.now.items.items m =
    rw (c.deref-2.ensures.0, c.from-2.ensures, c.deref.ensures.0, c.len-place.ensures.value) refl in
    rw item (let f : FitsSigned w64 (price_at c.args.standing.now.items.items m) = omega (arith, ints, near.above, near.below) in
    omega (arith, ints, near.above, near.below, c.requires.near.moved_low, c.requires.near.moved_high, c.requires.near.root_high))

pub returns : goal.returns
returns c =
    let m = number_at c.args.self.now.members.items (length c.args.self.now.members.items - 1) in
    let near = items-near c.args.standing.now c.args.self.now c.requires m in
    let item : get_or c.deref-2.result.now c.from-2.result (pos 0) ≡ price_at c.args.standing.now.items.items m =
    rw (c.deref-2.ensures.0, c.from-2.ensures, c.deref.ensures.0, c.len-place.ensures.value) refl in
    let at : c.candidate-candidate.result ≡ candidate_at c.args.standing.now.costs m = c.candidate-candidate.ensures ∙ rw (c.deref.ensures.0, c.len-place.ensures.value) refl in
    record {
      member = rw c.len-place.ensures.value refl;
      mass = omega (arith, ints, c.from.ensures) ∙ ap (λ k. pos k) (ap (λ candidate. candidate.mass) at);
      may = ap (λ candidate. candidate.«open») at;
      offset = omega (arith, ints, item, near.above, near.below, c.requires.near.moved_low, c.requires.near.moved_high, c.requires.near.root_high);
    }
