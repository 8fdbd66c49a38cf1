use Rattle.std.proofs.Common.{◌≡◌, pos, to_z, of_z, arith}
use Rattle.std.specs.Int.{w128}
use Rattle.std.proofs.lemmas.Int.{ints}
use Rattle.choice_prices.proofs.TariffLemmas.{rate-bound}
use Rattle.choice_prices.proofs.tariff.Tariff.cost.Goals as goal

pub overflow_mul-result : goal.overflow_mul-result
overflow_mul-result c =
    let mass : to_z w128 (of_z w128 c.from.result) ≡ pos c.args.mass.0 = omega (arith, ints, c.from.ensures, c.requires.light) in
    let rate : to_z w128 (of_z w128 c.args.self.rate) ≡ c.args.self.rate = omega (arith, ints, c.requires.bounded_tariff.rate) in
    let bound = rate-bound c.args.mass.0 c.args.self.rate c.requires.light c.requires.bounded_tariff.rate in
    rw (mass, rate) (omega (arith, ints, bound))

pub overflow_add-result : goal.overflow_add-result
overflow_add-result c =
    let mass : to_z w128 (of_z w128 c.from.result) ≡ pos c.args.mass.0 = omega (arith, ints, c.from.ensures, c.requires.light) in
    let rate : to_z w128 (of_z w128 c.args.self.rate) ≡ c.args.self.rate = omega (arith, ints, c.requires.bounded_tariff.rate) in
    let fee : to_z w128 (of_z w128 c.args.self.fee) ≡ c.args.self.fee = omega (arith, ints, c.requires.bounded_tariff.fee) in
    let bound = rate-bound c.args.mass.0 c.args.self.rate c.requires.light c.requires.bounded_tariff.rate in
    rw (mass, rate, fee) (omega (arith, ints, bound, c.requires.bounded_tariff.fee))

pub returns-clause-value : goal.returns-clause-value
returns-clause-value c =
    let mass : to_z w128 (of_z w128 c.from.result) ≡ pos c.args.mass.0 = omega (arith, ints, c.from.ensures, c.requires.light) in
    let rate : to_z w128 (of_z w128 c.args.self.rate) ≡ c.args.self.rate = omega (arith, ints, c.requires.bounded_tariff.rate) in
    let fee : to_z w128 (of_z w128 c.args.self.fee) ≡ c.args.self.fee = omega (arith, ints, c.requires.bounded_tariff.fee) in
    let bound = rate-bound c.args.mass.0 c.args.self.rate c.requires.light c.requires.bounded_tariff.rate in
    rw (mass, rate, fee) (omega (arith, ints, bound, c.requires.bounded_tariff.fee))

pub returns-clause-bounded : goal.returns-clause-bounded
returns-clause-bounded c =
    let mass : to_z w128 (of_z w128 c.from.result) ≡ pos c.args.mass.0 = omega (arith, ints, c.from.ensures, c.requires.light) in
    let rate : to_z w128 (of_z w128 c.args.self.rate) ≡ c.args.self.rate = omega (arith, ints, c.requires.bounded_tariff.rate) in
    let fee : to_z w128 (of_z w128 c.args.self.fee) ≡ c.args.self.fee = omega (arith, ints, c.requires.bounded_tariff.fee) in
    let bound = rate-bound c.args.mass.0 c.args.self.rate c.requires.light c.requires.bounded_tariff.rate in
    rw (mass, rate, fee) (omega (arith, ints, bound, c.requires.bounded_tariff.fee))
