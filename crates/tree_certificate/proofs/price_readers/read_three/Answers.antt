use Rattle.std.proofs.Common.{◌++◌, ◌∙◌, sym, length, eq-eqb, ap, refl, codes}
use Rattle.std.proofs.lemmas.Bool.{false≢true, eqb-true}
use Rattle.tree_certificate.proofs.PriceLemmas.{numbers_run}
use Rattle.tree_certificate.proofs.ThreeRuns.{first_behind, second_behind, third_behind, three_read}
use Rattle.tree_certificate.proofs.price_readers.read_three.Goals as goal

pub returns-in_default-clause-none : goal.returns-in_default-clause-none
returns-in_default-clause-none c =
    λ list s e. c.in_default.ensures.none (numbers_run list.limits ++ (codes " ;" ++ numbers_run list.cliques))
    (first_behind c.args.names.now.positions.now c.requires.named c.args.words.now c.in_ok-positions.after.now c.in_ok-positions.positions.items list c.in_ok-positions.ensures s e)

pub returns-in_default-after_prefix-clause-none : goal.returns-in_default-after_prefix-clause-none
returns-in_default-after_prefix-clause-none c =
    λ list s e. c.in_default-after_prefix.ensures.none (numbers_run list.cliques)
    (second_behind c.args.names.now.positions.now c.requires.named c.args.words.now c.in_ok-positions.after.now c.in-Some.words.now c.in_ok-limits.after.now c.in_ok-positions.positions.items c.in_ok-limits.limits.items list
    c.in_ok-positions.ensures c.in-Some.ensures.found c.in_ok-limits.ensures s e)

pub returns-then-not-is_empty-clause-none : goal.returns-then-not-is_empty-clause-none
returns-then-not-is_empty-clause-none c =
    λ list s e.
    let none = third_behind c.args.names.now.positions.now c.requires.named c.args.words.now c.in_ok-positions.after.now c.in-Some.words.now c.in_ok-limits.after.now c.in-Some-after_prefix.words.now c.in_ok-cliques.rest.now
    c.in_ok-positions.positions.items c.in_ok-limits.limits.items c.in_ok-cliques.cliques.items list c.in_ok-positions.ensures c.in-Some.ensures.found c.in_ok-limits.ensures c.in-Some-after_prefix.ensures.found c.in_ok-cliques.ensures s e in
    false≢true (sym c.if-not-is_empty.true ∙ c.is_empty.ensures ∙ eq-eqb (length c.in_ok-cliques.rest.now) 0 (ap length none))

pub returns-clause-found : goal.returns-clause-found
returns-clause-found c =
    let three = three_read c.args.names.now.positions.now c.args.end c.args.words.now c.in_ok-positions.after.now c.in-Some.words.now c.in_ok-limits.after.now c.in-Some-after_prefix.words.now c.in_ok-cliques.rest.now
    c.in_ok-positions.positions.items c.in_ok-limits.limits.items c.in_ok-cliques.cliques.items c.in_ok-positions.ensures c.in-Some.ensures.found c.in_ok-limits.ensures c.in-Some-after_prefix.ensures.found c.in_ok-cliques.ensures
    (eqb-true (length c.in_ok-cliques.rest.now) 0 (sym c.is_empty.ensures ∙ c.if-not-is_empty.false)) in
    (three.0, refl, three.1)
