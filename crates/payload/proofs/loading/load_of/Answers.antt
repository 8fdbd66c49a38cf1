-- each part of the load by itself
use Rattle.std.proofs.Common.{◌≡◌, w64, to_z, of_z, rules}
use Rattle.payload.specs.Load.{adults_in, children_in, infants_in, cabin_index, cabin_mass}
use Rattle.payload.proofs.loading.load_of.Goals as goal

pub returns : goal.returns
returns c =
    let mass : c.sum.result ≡ cabin_mass c.args.averages.now c.args.counts.now = search rules in
    let index : to_z w64 (of_z w64 c.cabin_index.result) ≡ cabin_index c.args.averages.now c.args.zones.now c.args.counts.now = search rules in
    let adults : c.sum-2.result ≡ adults_in c.args.counts.now = search rules in
    let children : c.sum-3.result ≡ children_in c.args.counts.now = search rules in
    let infants : c.sum-4.result ≡ infants_in c.args.counts.now = search rules in
    λ i. record {
      mass = record { 0 = mass i };
      index = record { 0 = index i };
      adults = adults i;
      children = children i;
      infants = infants i;
    }
