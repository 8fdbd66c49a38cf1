use Rattle.std.proofs.Common.{◌≡◌, ◌++◌, option_map, drop, All}
use Rattle.serde_json.specs.View.{items_view}
use Rattle.desk_bodies.specs.Values.{each}
use Rattle.desk_bodies.proofs.lists.read_each.Given as goal

abbrev pub invariant-loop-value : goal.invariant-loop-value
invariant-loop-value g l = record {
  read : each g.F.Form.content (items_view l.values) ≡ option_map (λ more. l.contents.items ++ more) (each g.F.Form.content (items_view (drop l.value-index l.values)));
  limits : All g.F.Form.limits l.contents.items;
}
