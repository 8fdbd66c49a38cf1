use Rattle.std.proofs.Common.{inl, inr, ⊎_elim, refl, w64, sym, ◌∙◌, subst, arith}
use Rattle.std.proofs.lemmas.Bool.{false≢true}
use Rattle.std.proofs.lemmas.Int.{ints, to_z-of_z}
use Rattle.cert_checker.specs.Evidence.{IsAtLeast}
use Rattle.cert_checker.proofs.StandardLemmas.{at_least-key}
use Rattle.hold_reach.specs.Reach.{gap_to_ideal}
use Rattle.priced_checker.proofs.cuts.is_beyond.Goals as goal

pub returns-then-not-meets_window : goal.returns-then-not-meets_window
returns-then-not-meets_window c =
    let low = to_z-of_z w64 c.args.ends.0 (omega (arith, ints, c.requires.low)) in
    let high = to_z-of_z w64 c.args.ends.1 (omega (arith, ints, c.requires.high)) in
    let meets = rw (low, high) at c.meets_window.ensures in (
      λ apart. inl (λ common. false≢true (sym c.if-not-meets_window.true ∙ meets.1 common)),
      λ beyond. rw c.if-not-meets_window.true refl,
    )

pub returns-else-not-meets_window : goal.returns-else-not-meets_window
returns-else-not-meets_window c =
    let t = c.args.task.now in
    let standard = c.args.evidence.now.standard in
    let prefix = c.args.prefix.now in
    let low = to_z-of_z w64 c.args.ends.0 (omega (arith, ints, c.requires.low)) in
    let high = to_z-of_z w64 c.args.ends.1 (omega (arith, ints, c.requires.high)) in
    let meets = rw (low, high) at c.meets_window.ensures in
    let gap = rw (low, high) at c.gap_to_ideal.ensures in
    let both = at_least-key t standard (gap_to_ideal t c.args.ends, prefix) c.requires.measured in (
      λ least. inr (both.0 (subst (λ n. IsAtLeast standard (n, prefix)) gap (c.is_at_least.ensures.0 least))),
      λ beyond. ⊎_elim
          (λ apart. absurd (apart (meets.0 c.if-not-meets_window.false)))
          (λ least. c.is_at_least.ensures.1 (subst (λ n. IsAtLeast standard (n, prefix)) (sym gap) (both.1 least)))
          beyond,
    )
