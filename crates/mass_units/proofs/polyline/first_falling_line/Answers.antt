use Rattle.std.proofs.Common.{arith, ◌^◌, rules, tests, inl, nat_le, List}
use Rattle.std.proofs.lemmas.Iterator.Search.{position_from_yields_List}
use Rattle.std.proofs.lemmas.Iterator.Consumers.{YieldsList-from_first}
use Rattle.mass_units.specs.declared.line.Line.{Line}
use Rattle.mass_units.specs.Polyline.{lines}
use Rattle.mass_units.proofs.PolylineLemmas.{length-lines, position-bound, IsRising-from_none}
use Rattle.mass_units.proofs.polyline.first_falling_line.Goals as goal

pub position-requires-clause-fits : goal.position-requires-clause-fits
position-requires-clause-fits g c =
    inl (rw c.between.ensures (omega (arith, length-lines g.P.ToPoint.point c.args.points.now)))

pub returns-clause-place : goal.returns-clause-place
returns-clause-place g c =
    position_from_yields_List (λ (line : Line). nat_le line.to.0 line.from.0) c.position.new.self _ c.position.result c.position.ensures.ran (YieldsList-from_first (λ (line : Line). line) (λ (left : List Line). left) (lines g.P.ToPoint.point c.args.points.now) c.between.ensures) (λ x b q k. search (rules, tests))

pub returns-clause-bound : goal.returns-clause-bound
returns-clause-bound g c =
    let place = position_from_yields_List (λ (line : Line). nat_le line.to.0 line.from.0) c.position.new.self _ c.position.result c.position.ensures.ran (YieldsList-from_first (λ (line : Line). line) (λ (left : List Line). left) (lines g.P.ToPoint.point c.args.points.now) c.between.ensures) (λ x b q k. search (rules, tests)) in
    position-bound (λ (line : Line). nat_le line.to.0 line.from.0) (lines g.P.ToPoint.point c.args.points.now) c.position.result (2 ^ 63) place (omega (arith, length-lines g.P.ToPoint.point c.args.points.now))

pub returns-clause-rising : goal.returns-clause-rising
returns-clause-rising g c =
    let place = position_from_yields_List (λ (line : Line). nat_le line.to.0 line.from.0) c.position.new.self _ c.position.result c.position.ensures.ran (YieldsList-from_first (λ (line : Line). line) (λ (left : List Line). left) (lines g.P.ToPoint.point c.args.points.now) c.between.ensures) (λ x b q k. search (rules, tests)) in
    IsRising-from_none g.P.ToPoint.point c.args.points.now c.position.result place
