use Rattle.std.proofs.Common.{rules, sym, ap, ◌∙◌, ◌≡◌, ◌++◌, ◌∷◌}
use Rattle.mass_units.specs.Line.{Spans}
use Rattle.fuel_table.specs.Rows.{point_of, lines}
use Rattle.fuel_table.proofs.RowLemmas.{Any-at}
use Rattle.mass_units.proofs.PolylineLemmas.{IsRising-chain}
use Rattle.mass_units.proofs.ChainLemmas.{IsChain, chain_floor}
use Rattle.fuel_table.proofs.row.index_on_lines.Goals as goal

pub returns-then-spans-clause-some : goal.returns-then-spans-clause-some
returns-then-spans-clause-some c =
    let line = c.in-Some.line in
    let before = c.loop-line.yielded in
    let after = c.next.new.self in
    let all : before ++ line ∷ after ≡ lines c.args.rows.now = ap (λ t. before ++ t) (sym c.in-Some.ensures.steps) ∙ c.loop-line.invariant.rest in
    let spans : Spans line c.args.fuel.0 = search rules in
    let chain : IsChain (before ++ line ∷ after) = rw all (IsRising-chain point_of c.args.rows.now c.requires) in
    rw (← all) (
      Any-at (λ line. Spans line c.args.fuel.0) before line after spans,
      chain_floor before line after c.args.fuel.0 c.floor_at.result.0 chain c.loop-line.invariant.apart spans c.floor_at.ensures.floor,
    )
