use Rattle.std.proofs.Common.{[], ap, sym, ◌∙◌, arith}
use Rattle.std.proofs.Math.ListN.{length-set}
use Rattle.std.specs.Option.{option_map_or}
use Rattle.std.specs.Prelude.{slice_get}
use Rattle.hold_limits.specs.Layout.{Layout}
use Rattle.hold_limits.specs.Placement.{load_of}
use Rattle.hold_partial.specs.Limits.{Allowance, limits_of, limit_load}
use Rattle.hold_parts.specs.Limits.{is_limited}
use Rattle.hold_partial.proofs.LimitLemmas.{table-set, load-empty}
use Rattle.hold_partial.proofs.limit_table.loose_masses.Goals as goal

pub loop-place-preserved : goal.loop-place-preserved
loop-place-preserved c =
    let t = c.args.task.now in
    let place = c.loop-place.place in
    let there = ap (λ (h : Layout). slice_get (limits_of h) place) (sym c.hold-hold.ensures.value) ∙ c.limit_at.ensures in
    record {
      long = length-set c.loop-place.masses place _ ∙ c.loop-place.invariant.long;
      right = table-set (limit_load t []) c.loop-place.masses place c.load_loose.result (omega arith) c.loop-place.invariant.right
          (c.load_loose.ensures.value ∙ sym (load-empty (is_limited c.limit_at.result) t) ∙ sym (ap (λ o. option_map_or (λ (l : Allowance). load_of l.0 t []) o 0) there));
    }
