use Rattle.std.proofs.Common.{ap, arith, length, length-append, length-take, map, rules, take}
use Rattle.std.proofs.lemmas.List.{length-map}
use Rattle.hold_limits.specs.Stowage.{as_load}
use Rattle.hold_limits.proofs.PlacedLemmas.{pairs, length-pairs}
use Rattle.hold_limits.proofs.stowage.stowage_of.Goals as goal

pub push-requires : goal.push-requires
push-requires c =
    let items = c.args.items.now in
    let prefix = c.args.prefix.now in (
      search rules,
      omega (
        arith,
        ap length c.loop-load.invariant,
        length-append (map as_load (pairs items prefix)) (take c.loop-load.load-index c.args.loose.now),
        length-map (pairs items prefix) as_load,
        length-pairs items prefix c.requires.short,
        length-take c.loop-load.load-index c.args.loose.now,
      ),
    )
