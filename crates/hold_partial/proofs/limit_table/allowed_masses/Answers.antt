use Rattle.std.proofs.Common.{ap, sym, ◌∙◌, arith}
use Rattle.std.proofs.Math.ListN.{length-set}
use Rattle.std.specs.Option.{option_map_or}
use Rattle.hold_partial.specs.Limits.{Allowance, limit_most}
use Rattle.hold_partial.proofs.LimitLemmas.{table-set}
use Rattle.hold_partial.proofs.limit_table.allowed_masses.Goals as goal

pub loop-place-preserved : goal.loop-place-preserved
loop-place-preserved c =
    let hold = c.args.hold.now in
    let place = c.loop-place.place in
    let there = c.limit_at.ensures in
    record {
      long = length-set c.loop-place.masses place _ ∙ c.loop-place.invariant.long;
      right = table-set (limit_most hold) c.loop-place.masses place c.most.result (omega arith) c.loop-place.invariant.right
          (c.most.ensures ∙ sym (ap (λ o. option_map_or (λ (l : Allowance). l.1) o 0) there));
    }
