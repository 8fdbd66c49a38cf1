use Rattle.std.proofs.Common.{◌≡◌, ap, arith}
use Rattle.std.proofs.lemmas.Int.{ints}
use Rattle.payload.specs.Load.{load_of, cabin_mass, cabin_index}
use Rattle.payload.specs.declared.figures.Load.{Load}
use Rattle.trim.specs.Refusals.{HasCabin}
use Rattle.trim.proofs.CabinLemmas.{zones-from_cabin, cabin-fits, cabin-light, cabin-near}
use Rattle.trim.proofs.weighing.cabin_of.Goals as goal

pub cabin_load-requires : goal.cabin_load-requires
cabin_load-requires c =
    rw (c.zones.ensures.value, c.averages.ensures.value) (cabin-fits c.args.a.now c.args.f.now c.zones.ensures.lawful c.requires)

right : (c : goal.In-Ok) → HasCabin c.args.a.now c.args.f.now
right c fault first =
    let refused = rw c.zones.ensures.value at c.in-Ok.ensures.refused in
    let both = (refused fault).1 first in
    cc

load-is : (c : goal.In-Ok) → c.in-Ok.load ≡ load_of c.args.a.now.averages c.args.a.now.zones c.args.f.now.cabin
load-is c = rw (c.zones.ensures.value, c.averages.ensures.value) at c.in-Ok.ensures.load

pub returns-in-Ok-clause-light : goal.returns-in-Ok-clause-light
returns-in-Ok-clause-light c =
    let a = c.args.a.now in
    let f = c.args.f.now in
    let mass : c.in-Ok.load.mass.0 ≡ cabin_mass a.averages f.cabin = ap (λ (l : Load). l.mass.0) (load-is c) in
    let most = cabin-light a f c.zones.ensures.lawful c.requires (zones-from_cabin a f (right c)) in
    omega (arith, most)

pub returns-in-Ok-clause-near : goal.returns-in-Ok-clause-near
returns-in-Ok-clause-near c =
    let a = c.args.a.now in
    let f = c.args.f.now in
    let at : c.in-Ok.load.index.0 ≡ cabin_index a.averages a.zones f.cabin = ap (λ (l : Load). l.index.0) (load-is c) in
    let most = cabin-near a f c.zones.ensures.lawful c.requires (zones-from_cabin a f (right c)) in
    omega (arith, ints, most)
