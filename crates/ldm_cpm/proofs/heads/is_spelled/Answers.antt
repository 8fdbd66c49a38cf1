use Rattle.std.proofs.Common.{sym, ap, ◌∙◌}
use Rattle.std.specs.Option.{is_some}
use Rattle.std.proofs.lemmas.Bool.{false≢true}
use Rattle.ldm_cpm.specs.Reading.{heading_of}
use Rattle.ldm_cpm.proofs.SpelledLemmas.{spelled-heading}
use Rattle.ldm_cpm.proofs.heads.is_spelled.Goals.{then-is_some, else-is_some, then-is_some-2, else-is_some-2}
use Rattle.ldm_cpm.proofs.heads.is_spelled.Goals as goal

pub returns-then-is_some-3 : goal.returns-then-is_some-3
returns-then-is_some-3 c =
    elim c.if-is_some-2.branch [
      | then-is_some-2 w ↦ elim c.if-is_some.branch [
        | then-is_some v ↦ spelled-heading (heading_of c.args.head.now) c.is_some.result v.is_some-then-is_some.result w.is_some-then-is_some-2.result c.is_some-then-is_some-3.result
            (c.is_some.ensures ∙ ap is_some c.read.ensures) (v.is_some-then-is_some.ensures ∙ ap is_some v.read-then-is_some.ensures)
            (w.is_some-then-is_some-2.ensures ∙ ap is_some w.read-then-is_some-2.ensures) (c.is_some-then-is_some-3.ensures ∙ ap is_some c.read-then-is_some-3.ensures)
            v.if-is_some.true (sym v.value-is ∙ w.if-is_some-2.true) (sym w.value-is ∙ c.if-is_some-3.true)
        | else-is_some v ↦ absurd (false≢true (sym (v.value-is ∙ v.if-is_some.false) ∙ w.if-is_some-2.true))
      ]
      | else-is_some-2 w ↦ absurd (false≢true (sym (w.value-is ∙ w.if-is_some-2.false) ∙ c.if-is_some-3.true))
    ]
