use Rattle.std.proofs.Common.{◌≡◌, ◌++◌, option_map, drop, All}
use Rattle.toml.specs.View.{items_view}
use Rattle.aircraft_file.specs.Forms.{each}
use Rattle.aircraft_file.proofs.forms.read_each.Given as goal

abbrev pub invariant-loop-value : goal.invariant-loop-value
invariant-loop-value g l = record {
  read : each (g.F.Form.content l.form) (items_view l.values) ≡ option_map (λ more. l.contents.items ++ more) (each (g.F.Form.content l.form) (items_view (drop l.value-index l.values)));
  limits : All (g.F.Form.limits l.form) l.contents.items;
}
