use Rattle.std.proofs.Common.{◌≡◌, ◌+◌, ◌∙◌, Option, Some, None, drop, map, take, ap, sym}
use Rattle.std.proofs.lemmas.List.{drop_all}
use Rattle.std.specs.Option.{option_or}
use Rattle.ldm_cpm.specs.Reading.{placing_said}
use Rattle.transit_tasks.specs.TransitFaults.{place_fault, first_place_fault}
use Rattle.transit_tasks.specs.declared.fault.TransitFault.{TransitFault}
use Rattle.transit_tasks.proofs.PlaceLemmas.{next-place}
use Rattle.transit_tasks.proofs.places.first_place_fault.Goals as goal

pub returns-in-Some : goal.returns-in-Some
returns-in-Some c =
    let t = c.args.task.now in
    let stay = c.args.stay.now in
    let at = c.loop-at.at in
    let x = c.index-stay-at.result in
    let later = first_place_fault t (map placing_said (take (at + 1) stay)) (map placing_said (drop (at + 1) stay)) in
    let found : place_fault t (map placing_said (take at stay)) (placing_said x) ≡ Some c.in-Some.fault = cc (c.in-Some.is, c.place_fault.ensures) in
    sym (c.loop-at.invariant ∙ next-place placing_said t stay at x c.loop-at-test.true c.index-stay-at.is ∙ ap (λ (o : Option TransitFault). option_or o later) found)

pub loop-at-preserved : goal.loop-at-preserved
loop-at-preserved c =
    let t = c.args.task.now in
    let stay = c.args.stay.now in
    let at = c.loop-at.at in
    let x = c.index-stay-at.result in
    let later = first_place_fault t (map placing_said (take (at + 1) stay)) (map placing_said (drop (at + 1) stay)) in
    let none : place_fault t (map placing_said (take at stay)) (placing_said x) ≡ None = sym c.place_fault.ensures ∙ c.in_default.is in
    c.loop-at.invariant ∙ next-place placing_said t stay at x c.loop-at-test.true c.index-stay-at.is ∙ ap (λ (o : Option TransitFault). option_or o later) none

pub returns : goal.returns
returns c =
    let t = c.args.task.now in
    let stay = c.args.stay.now in
    let at = c.loop-at.at in
    sym (c.loop-at.invariant ∙ ap (λ rest. first_place_fault t (map placing_said (take at stay)) (map placing_said rest)) (drop_all at stay c.loop-at-test.false))
