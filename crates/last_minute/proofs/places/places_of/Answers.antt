use Rattle.std.proofs.Common.{◌≡◌, ◌≤◌, ℕ, List, map, zip, ap, ap₂, ◌∙◌, sym, subst, arith, length, All, IfOk}
use Rattle.std.proofs.lemmas.List.{length-map}
use Rattle.std.specs.List.{enumerate_from}
use Rattle.hold_parts.specs.declared.parts.Item.{Item}
use Rattle.hold_parts.specs.declared.parts.Loose.{Loose}
use Rattle.hold_parts.specs.declared.parts.Position.{Position}
use Rattle.hold_limits.proofs.LawfulBounds.{hold-bounds}
use Rattle.hold_limits.specs.BranchOrder.{ordered}
use Rattle.hold_limits.specs.Layout.{Layout}
use Rattle.hold_limits.specs.Placement.{Placed, placed}
use Rattle.trim.specs.Loads.{load_told, loose_loads, offer}
use Rattle.last_minute.specs.Sheets.{place_on}
use Rattle.last_minute.specs.declared.sheet.Place.{Place}
use Rattle.last_minute.proofs.places.places_of.Goals as goal

pub branch_order-order-requires : goal.branch_order-order-requires
branch_order-order-requires c = omega (arith, ap length c.as_slice-items.ensures, c.requires.complete, ap length c.as_slice-path.ensures.value, c.as_slice-path.ensures.fits)

pub places-requires-clause-stowage : goal.places-requires-clause-stowage
places-requires-clause-stowage c = record {
  order = c.as_slice.ensures.value ∙ c.branch_order-order.ensures;
  complete = ap length c.as_slice-path.ensures.value ∙ c.requires.complete ∙ sym (ap length c.as_slice-items.ensures);
  few = c.as_slice-path.ensures.fits;
  few_loads = omega (arith, ap length c.requires.loose, length-map c.args.f.now.loose (load_told c.args.a.now), c.requires.limits.loose);
  containers_light = subst (λ (items : List Item). All (λ (item : Item). item.mass.0 ≤ 1000000) items) (sym c.as_slice-items.ensures) c.requires.limits.masses;
  loads_light = c.requires.light;
}

pub places-requires-clause-few : goal.places-requires-clause-few
places-requires-clause-few c =
    let bounds = hold-bounds c.hold.result.now c.positions.ensures.lawful in
    omega (arith, ap length c.positions.ensures.value, bounds.positions)

pub returns : goal.returns
returns c =
    let positions = c.positions.result.now in
    let a = c.args.a.now in
    let f = c.args.f.now in
    let containers = ap₂ (λ (items : List Item) (path : List ℕ). zip (ordered items) path) c.as_slice-items.ensures c.as_slice-path.ensures.value in
    let loaded = ap₂ (λ (stowed : List Placed) (loads : List Loose). map (place_on stowed loads) (enumerate_from 0 positions)) containers c.requires.loose in
    let whole = ap (λ (ps : List Position). map (place_on (placed (offer a f) c.args.path.now.items) (loose_loads a f)) (enumerate_from 0 ps)) (c.positions.ensures.value ∙ ap (λ (hold : Layout). hold.positions) c.hold.ensures.value) in
    subst (λ (told : List Place). IfOk c.places.result (λ places. places ≡ told)) (loaded ∙ whole) c.places.ensures
