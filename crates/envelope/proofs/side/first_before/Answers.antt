use Rattle.std.proofs.Common.{pos}
use Rattle.envelope.specs.declared.corner.Corner.{Corner}
use Rattle.envelope.specs.Edges.{IsOnOrAftOf}
use Rattle.envelope.proofs.SideLemmas.{FirstOutside-skip_at, FirstOutside-take_at, holds_from_true, fails_from_false}
use Rattle.envelope.proofs.side.first_before.Goals as goal
use Rattle.envelope.proofs.side.first_before.Goals.{then-not-is_on_or_aft, else-not-is_on_or_aft}

pub loop-corner-preserved : goal.loop-corner-preserved
loop-corner-preserved c =
    let forward = c.args.forward.now in
    let zero : Corner = record { mass = record { 0 = 0 }; index = record { 0 = pos 0 } } in
    elim c.if-not-is_on_or_aft.branch [
      | then-not-is_on_or_aft w ↦
          let out = fails_from_false c.is_on_or_aft.result c.is_on_or_aft.ensures w.if-not-is_on_or_aft.true in
          rw w.first-is (FirstOutside-take_at (λ c. IsOnOrAftOf forward c.mass.0 c.index.0) c.args.corners.now c.loop-corner.corner-index zero c.loop-corner.first w.lesser_mass.result c.loop-corner-test.true c.loop-corner.invariant out w.lesser_mass.ensures)
      | else-not-is_on_or_aft w ↦
          let within = holds_from_true c.is_on_or_aft.result c.is_on_or_aft.ensures w.if-not-is_on_or_aft.false in
          rw w.first-is (FirstOutside-skip_at (λ c. IsOnOrAftOf forward c.mass.0 c.index.0) c.args.corners.now c.loop-corner.corner-index zero c.loop-corner.first c.loop-corner-test.true c.loop-corner.invariant within)
    ]
