use Rattle.std.proofs.Common.{refl, sym}
use Rattle.std.proofs.lemmas.Bool.{false≢true}
use Rattle.std.proofs.lemmas.Slice.Eq.{bytes_eq-Decides}
use Rattle.certificate.specs.CertificateText.{start_line as cuts_start}
use Rattle.certificate.proofs.PathLemmas.{other_text}
use Rattle.tree_certificate.specs.TreeText.{start_line as trees_start}
use Rattle.task_answers.proofs.KindLemmas.{BeginsWithCuts-after, BeginsWithCuts-before, BeginsWithCuts-here, BeginsWithCuts-trees, BeginsWithCuts-none}
use Rattle.plan_answers.proofs.any_certificate.begins_with_cuts.Goals as goal

pub returns-then-eq : goal.returns-then-eq
returns-then-eq c =
    let line = c.in-Some.line.now in
    let same = (bytes_eq-Decides line cuts_start).0 (sym c.if-eq.ensures) in
    (λ is. c.loop-line.invariant.1 (BeginsWithCuts-here c.loop-line.lines.rest.now line c.in-Some.after.rest.now c.in-Some.ensures.found.0 same), λ begins. refl)

pub returns-then-eq-2 : goal.returns-then-eq-2
returns-then-eq-2 c =
    let line = c.in-Some.line.now in
    let same = (bytes_eq-Decides line trees_start).0 (sym c.if-eq-2.ensures) in (
      λ is. absurd (false≢true is),
      λ begins. absurd (BeginsWithCuts-trees c.loop-line.lines.rest.now line c.in-Some.after.rest.now c.in-Some.ensures.found.0 same (c.loop-line.invariant.0 begins)),
    )

pub loop-line-preserved : goal.loop-line-preserved
loop-line-preserved c =
    let text = c.loop-line.lines.rest.now in
    let line = c.in-Some.line.now in
    let after = c.in-Some.after.rest.now in
    let found = c.in-Some.ensures.found in
    let other = other_text line cuts_start c.eq.result c.if-eq.false c.eq.ensures in
    let no_trees = other_text line trees_start c.eq-in-Some.result c.if-eq-2.false c.eq-in-Some.ensures in (
      λ begins. BeginsWithCuts-after text line after found.0 found.1 other (c.loop-line.invariant.0 begins),
      λ begins. c.loop-line.invariant.1 (BeginsWithCuts-before text line after found.0 found.1 other no_trees begins),
    )

pub returns : goal.returns
returns c = (
  λ is. absurd (false≢true is),
  λ begins. absurd (BeginsWithCuts-none c.loop-line.lines.rest.now c.in_default.ensures.none (c.loop-line.invariant.0 begins)),
)
