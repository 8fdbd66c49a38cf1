use Rattle.std.proofs.Common.{List, ℕ, length, refl, ap, sym, ◌∙◌, arith}
use Rattle.std.proofs.lemmas.Bool.{ltb-true, ltb-false}
use Rattle.std.proofs.lemmas.Option.{slice_get_read, slice_get_past}
use Rattle.std.specs.List.{list_any}
use Rattle.position_set.specs.Sets.{has}
use Rattle.choice_prices.proofs.MeetLemmas.{clique-meets, found-places, no-places}
use Rattle.choice_prices.proofs.worth.meets_clique.Goals as goal

pub returns-in-Some : goal.returns-in-Some
returns-in-Some c =
    let found = c.in-Some.ensures.lookup in
    let there = slice_get_read c.args.cliques.now (length c.args.cliques.now) c.args.number c.in-Some.clique.now refl (ltb-true c.args.number (length c.args.cliques.now) (sym found.0)) found.1 in
    clique-meets c.in-Some.clique.now c.args.union c.intersection.result c.is_empty.result (omega arith) c.intersection.ensures c.is_empty.ensures
    ∙ ap (λ (places : List ℕ). list_any (has c.args.union) places) (found-places c.args.cliques.now c.args.number c.in-Some.clique.now there)

pub returns-in-None : goal.returns-in-None
returns-in-None c =
    let past = c.in-None.ensures.lookup in
    let none = slice_get_past c.args.cliques.now c.args.number (ltb-false c.args.number (length c.args.cliques.now) (sym past.0)) in
    ap (λ (places : List ℕ). list_any (has c.args.union) places) (no-places c.args.cliques.now c.args.number none)
