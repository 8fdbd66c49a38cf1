use Rattle.std.proofs.Common.{◌≡◌, refl, arith, set, ◌∙◌}
use Rattle.std.proofs.Math.ListN.{length-set}
use Rattle.assignment.specs.Tables.{number_at}
use Rattle.assignment.proofs.Refills.{refill-whole}
use Rattle.assignment.proofs.Turns.{turning-start, turning-more, turning-end}
use Rattle.assignment.proofs.standing.Standing.augment.Goals as goal

pub loop-place-init : goal.loop-place-init
loop-place-init c = record {
  within = omega arith;
  count = refl;
  items = refl;
  costs = refl;
  places = refl;
  turning = λ costs standing branches next beside.
      let start = c.args.self.now in
      rw c.from-place.ensures (turning-start costs start.items.items start.places.items start.stands.items c.args.members.now c.args.from.now c.args.position c.args.member standing next beside);
}

pub loop-place-preserved : goal.loop-place-preserved
loop-place-preserved c =
    let start = c.args.self.now in
    let stands = c.loop-place.self.stands.items in
    let kept = c.loop-place.invariant in
    let m = number_at c.args.members.now c.loop-place.place in
    let earlier = c.requires.earlier c.loop-place.place (omega arith) kept.within in
    let whole = refill-whole stands (set stands m c.loop-place.hole) (length-set stands m c.loop-place.hole) in
    record {
      within = omega (arith, earlier, kept.within, c.from-place-in-loop-place.ensures);
      count = rw (c.deref_mut.ensures.value, c.from-number.ensures, whole) (length-set stands m c.loop-place.hole ∙ kept.count);
      items = kept.items;
      costs = kept.costs;
      places = kept.places;
      turning = λ costs standing branches next beside.
          rw (c.deref_mut.ensures.value, c.deref.ensures.0, c.from-number.ensures, c.from-place-in-loop-place.ensures, whole)
          (turning-more costs start.items.items start.places.items start.stands.items c.args.members.now c.args.from.now stands c.loop-place.hole c.loop-place.place
          branches (kept.turning costs standing branches next beside) (omega arith) kept.within kept.count);
    }

pub returns-clause-settled : goal.returns-clause-settled
returns-clause-settled c = λ costs standing branches next beside room.
    let start = c.args.self.now in
    let kept = c.loop-place.invariant in
    let end : c.loop-place.place ≡ 0 = omega arith in
    rw (kept.items, kept.places, c.push.ensures.items)
    (turning-end costs start.items.items start.places.items start.stands.items c.args.members.now c.loop-place.self.stands.items c.loop-place.hole standing
    (rw end at (kept.turning costs standing branches next beside)) branches.root kept.count room)
