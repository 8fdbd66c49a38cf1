use Rattle.std.proofs.Common.{◌≡◌, ◌<◌, false, length, nat_le, get_or, arith, sym, subst, eqb-true, eq-eqb}
use Rattle.std.proofs.lemmas.Bool.{false≢true}
use Rattle.std.proofs.lemmas.Bool.Decides.{nat_tests}
use Rattle.hold_parts.specs.declared.parts.Item.{Item}
use Rattle.stop_tasks.proofs.StayingLemmas.{staying-passed}
use Rattle.stop_tasks.proofs.FaultLemmas.{next-aboard, both-go-on, none-left, none-past}
use Rattle.stop_tasks.proofs.stop_faults.are_aboard.Goals.{then-next-items-via-then-next-items, then-next-items-via-else-next-items+then-not-is_same, then-number-leaves+else-next-items+else-not-is_same, else-number-leaves}
use Rattle.stop_tasks.proofs.stop_faults.are_aboard.Goals as goal

pub returns-then-next-items : goal.returns-then-next-items
returns-then-next-items c =
    let items = c.args.items.now in
    let offer = c.args.offer.now in
    let next = c.loop-place.next in
    let place = c.loop-place.place in (
      λ is. absurd (false≢true is),
      λ same.
          let left = c.loop-place.invariant.left.0 same in
          elim c.then-next-items.branch [
            | then-next-items-via-then-next-items w ↦
                absurd (none-left items offer c.args.leaves.now c.args.number next place c.requires c.loop-place-test.true c.if-number-leaves.true left w.if-next-items.true)
            | then-next-items-via-else-next-items+then-not-is_same w ↦
                let told = next-aboard items offer c.args.leaves.now c.args.number next place w.index-items-next.result w.index-offer-place.result c.requires c.loop-place-test.true c.if-number-leaves.true w.index-offer-place.is left in
                rw w.if-not-is_same.true at (w.is_same.ensures.1 (told.1 w.index-items-next.is))
          ],
    )

pub loop-place-preserved : goal.loop-place-preserved
loop-place-preserved c =
    let items = c.args.items.now in
    let offer = c.args.offer.now in
    let leaves = c.args.leaves.now in
    let number = c.args.number in
    let next = c.loop-place.next in
    let place = c.loop-place.place in
    let left = c.loop-place.invariant.left in
    elim c.if-number-leaves.branch [
      | then-number-leaves+else-next-items+else-not-is_same w ↦
          let inside : next < length items = omega arith in
          let x = w.index-items-next.result in
          let same : x ≡ w.index-offer-place.result = w.is_same.ensures.0 w.if-not-is_same.false in
          let at_place : x ≡ get_or offer place x = let P : Item → Type 0 = λ y. y ≡ get_or offer place y in subst P (sym same) w.index-offer-place.is in
          let on = both-go-on items offer leaves number next place x c.requires c.loop-place-test.true inside w.if-number-leaves.true at_place w.index-items-next.is in
          rw w.next-is (record { within = omega arith; left = (λ is. on.0 (left.0 is), λ is. left.1 (on.1 is)) })
      | else-number-leaves w ↦
          let listed : place < length leaves = omega arith in
          let earlier : nat_le number (get_or leaves place 0) ≡ false = grind (arith, nat_tests) in
          let passed = staying-passed offer leaves number place c.loop-place-test.true listed earlier in
          rw (w.next-is, ← passed) (record { within = omega arith; left = left })
    ]

pub returns : goal.returns
returns c =
    let past = none-past c.args.items.now c.args.offer.now c.args.leaves.now c.args.number c.loop-place.next c.loop-place.place c.loop-place-test.false c.loop-place.invariant.within in
    let left = c.loop-place.invariant.left in
    (λ is. left.1 (past.1 (eqb-true _ _ is)), λ same. eq-eqb _ _ (past.0 (left.0 same)))
