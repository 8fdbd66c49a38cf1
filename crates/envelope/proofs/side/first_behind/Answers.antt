use Rattle.std.proofs.Common.{pos}
use Rattle.envelope.specs.declared.corner.Corner.{Corner}
use Rattle.envelope.specs.Edges.{IsOnOrForwardOf}
use Rattle.envelope.proofs.SideLemmas.{FirstOutside-skip_at, FirstOutside-take_at, holds_from_true, fails_from_false}
use Rattle.envelope.proofs.side.first_behind.Goals as goal
use Rattle.envelope.proofs.side.first_behind.Goals.{then-not-is_on_or_forward, else-not-is_on_or_forward}

pub loop-corner-preserved : goal.loop-corner-preserved
loop-corner-preserved c =
    let aft = c.args.aft.now in
    let zero : Corner = record { mass = record { 0 = 0 }; index = record { 0 = pos 0 } } in
    elim c.if-not-is_on_or_forward.branch [
      | then-not-is_on_or_forward w ↦
          let out = fails_from_false c.is_on_or_forward.result c.is_on_or_forward.ensures w.if-not-is_on_or_forward.true in
          rw w.first-is (FirstOutside-take_at (λ c. IsOnOrForwardOf aft c.mass.0 c.index.0) c.args.corners.now c.loop-corner.corner-index zero c.loop-corner.first w.lesser_mass.result c.loop-corner-test.true c.loop-corner.invariant out w.lesser_mass.ensures)
      | else-not-is_on_or_forward w ↦
          let within = holds_from_true c.is_on_or_forward.result c.is_on_or_forward.ensures w.if-not-is_on_or_forward.false in
          rw w.first-is (FirstOutside-skip_at (λ c. IsOnOrForwardOf aft c.mass.0 c.index.0) c.args.corners.now c.loop-corner.corner-index zero c.loop-corner.first c.loop-corner-test.true c.loop-corner.invariant within)
    ]
