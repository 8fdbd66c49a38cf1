use Rattle.std.proofs.Common.{length, sym, ◌∙◌, arith}
use Rattle.std.proofs.lemmas.Int.{ints}
use Rattle.tree_certificate.specs.Listed.{listed_prices}
use Rattle.choice_prices.proofs.ValueLemmas.{few-positions, value-is, value-sum, value-bound}
use Rattle.choice_prices.proofs.prepared.Prepared.value.Goals as goal

pub worth_of_positions-positions-requires-clause-within : goal.worth_of_positions-positions-requires-clause-within
worth_of_positions-positions-requires-clause-within c =
    let p = c.args.self.now in
    rw c.as_slice-2.ensures.value (few-positions p.task.now (length p.cliques.now) (listed_prices p.list.now) c.least_costs-least.ensures.lawful c.requires.priced)

pub overflow_sub-result-2 : goal.overflow_sub-result-2
overflow_sub-result-2 c =
    let start = c.requires.start_bounded in
    let least = c.least_costs-least.ensures in
    let positions = c.worth_of_positions-positions.ensures in
    let cliques = c.worth_of_cliques-cliques.ensures in
    omega (arith, ints, start, least.bounded, positions.bounded, cliques.bounded)

pub returns-clause-value : goal.returns-clause-value
returns-clause-value c =
    let p = c.args.self.now in
    let least = c.least_costs-least.ensures in
    let positions = c.worth_of_positions-positions.ensures in
    let cliques = c.worth_of_cliques-cliques.ensures in
    let sum = value-sum p.start c.least_costs-least.result c.worth_of_positions-positions.result c.worth_of_cliques-cliques.result c.requires.start_bounded least.bounded positions.bounded cliques.bounded in
    let t = p.task.now in
    let list = listed_prices p.list.now in
    let few = few-positions t (length p.cliques.now) list least.lawful c.requires.priced in
    let is = value-is t p.cliques.now list p.tariffs.items p.start c.union_of-union.result c.args.sets.now c.requires.tariffs c.requires.start few c.union_of-union.ensures in
    let of_least = rw c.as_slice.ensures.value at least.value in
    let of_positions = rw c.as_slice-2.ensures.value at positions.value in
    let of_cliques = rw c.as_slice-3.ensures.value at cliques.value in
    sum ∙ rw (of_least, of_positions, of_cliques) (sym is)

pub returns-clause-bounded : goal.returns-clause-bounded
returns-clause-bounded c =
    let p = c.args.self.now in
    let least = c.least_costs-least.ensures in
    let positions = c.worth_of_positions-positions.ensures in
    let cliques = c.worth_of_cliques-cliques.ensures in
    let sum = value-sum p.start c.least_costs-least.result c.worth_of_positions-positions.result c.worth_of_cliques-cliques.result c.requires.start_bounded least.bounded positions.bounded cliques.bounded in
    rw sum (value-bound p.start c.least_costs-least.result c.worth_of_positions-positions.result c.worth_of_cliques-cliques.result c.requires.start_bounded least.bounded positions.bounded cliques.bounded)
