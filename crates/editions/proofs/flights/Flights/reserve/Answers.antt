use Rattle.std.proofs.Common.{Bool, ℕ, List, Some, None, cond, sym, ap, subst, ◌∙◌}
use Rattle.std.specs.Prelude.{bytes_eq}
use Rattle.std.proofs.lemmas.Map.Text.{is_eq-slice_cmp}
use Rattle.editions.specs.declared.flights.Flight.{Flight}
use Rattle.editions.specs.Places.{states, place_in, IsIndexed, IsPlaceOf}
use Rattle.editions.proofs.PlaceLemmas.{indexed-reserved}
use Rattle.editions.proofs.flights.Flights.reserve.Goals as goal

pub invariant_of-self-2 : goal.invariant_of-self-2
invariant_of-self-2 c =
    let old = place_in c.self.inside.places.entries in
    let indexed = subst (λ (fs : List Flight). IsIndexed fs old) (sym c.reserve.ensures.items) c.self.invariant in
    let none = subst (λ (fs : List Flight). IsPlaceOf (states fs) c.args.key.now None) (sym c.reserve.ensures.items) (rw (← c.self.view_is) at c.requires) in
    indexed-reserved c.reserve.new.self.items old (place_in c.insert.new.self.entries) c.args.key.now c.len.result indexed none
    (λ other. c.in_ok-insert.ensures.updates.0 (record { items = other })
    ∙ ap (λ (b : Bool). cond b (Some c.len.result) (old other)) (is_eq-slice_cmp c.text_of.result.items other ∙ ap (λ (t : List ℕ). bytes_eq t other) c.text_of.ensures))
