use Rattle.std.proofs.Common.{[], ◌+◌, ◌&&◌, Bool, cond, take, ap, sym, ◌∙◌, arith}
use Rattle.flight_history.specs.declared.entry.Entry.{Entry}
use Rattle.flight_history.specs.Plain.{acts_in}
use Rattle.flight_history.specs.Standing.{is_release, is_planned, stage_after, releases_among}
use Rattle.flight_history.proofs.PlainLemmas.{acts-all, releases-more}
use Rattle.flight_history.proofs.plain.releases_among.Goals.{then-releases_planned, else-releases_planned}
use Rattle.flight_history.proofs.plain.releases_among.Goals as goal

pub loop-at-preserved : goal.loop-at-preserved
loop-at-preserved c =
    let n = c.loop-at.releases in
    let is = c.index-entries-at.is in
    let told = ap (λ (e : Entry). is_release e.act && is_planned (stage_after c.args.opened.now (acts_in (take c.loop-at.at c.args.entries.now)))) is ∙ sym c.releases_planned.ensures in
    let counted = releases-more c.args.opened.now c.args.entries.now c.loop-at.at n c.index-entries-at.result c.loop-at-test.true is c.loop-at.invariant.0 in
    elim c.if-releases_planned.branch [
      | then-releases_planned w ↦ (w.releases-is ∙ sym (ap (λ (b : Bool). cond b (n + 1) n) (told ∙ w.if-releases_planned.true)) ∙ counted, omega (arith, w.releases-is, c.loop-at.invariant.1))
      | else-releases_planned w ↦ (w.releases-is ∙ sym (ap (λ (b : Bool). cond b (n + 1) n) (told ∙ w.if-releases_planned.false)) ∙ counted, omega (arith, w.releases-is, c.loop-at.invariant.1))
    ]

pub returns : goal.returns
returns c = c.loop-at.invariant.0 ∙ ap (releases_among c.args.opened.now []) (acts-all c.args.entries.now c.loop-at.at c.loop-at-test.false)
