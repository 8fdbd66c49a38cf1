use Rattle.std.proofs.Common.{◌≡◌, ◌∙◌, Some, map, ap, sym}
use Rattle.std.proofs.lemmas.Result.{IfOk-weaker}
use Rattle.std.specs.Prelude.{option_copied}
use Rattle.hold_limits.specs.Faults.{hold_fault}
use Rattle.hold_limits.specs.Layout.{Layout, with_lateral}
use Rattle.ldm_cpm.specs.Reading.{placing_said}
use Rattle.transit_tasks.specs.NewTask.{hold_around}
use Rattle.transit_tasks.specs.Staying.{staying_containers}
use Rattle.transit_tasks.proofs.LawfulAround.{around-lawful, bare-alone, bare-under, lateral-spelled}
use Rattle.transit_tasks.proofs.around.hold_around.Goals as goal

pub under_lateral-requires-clause-most : goal.under_lateral-requires-clause-most
under_lateral-requires-clause-most c =
    lateral-spelled c.args.hold.now c.in-Some.lateral.now c.lateral.ensures.lawful (sym c.lateral.ensures.value ∙ ap (λ o. option_copied o) c.in-Some.is)

pub under_lateral-requires-clause-right : goal.under_lateral-requires-clause-right
under_lateral-requires-clause-right c =
    let hold = c.args.hold.now in
    let containers = staying_containers hold.positions (map placing_said c.args.stay.now) in
    let has : hold.lateral ≡ Some c.in-Some.lateral.now = sym c.lateral.ensures.value ∙ ap (λ o. option_copied o) c.in-Some.is in
    ap hold_fault (bare-under hold containers c.in_ok-around.around c.in-Some.lateral.now has c.in_ok-around.ensures) ∙ (around-lawful hold containers c.lateral.ensures.lawful).right

pub returns-in-None : goal.returns-in-None
returns-in-None c =
    let hold = c.args.hold.now in
    let containers = staying_containers hold.positions (map placing_said c.args.stay.now) in
    bare-alone hold containers c.in_ok-around.around (sym c.lateral.ensures.value ∙ ap (λ o. option_copied o) c.in-None.is) c.in_ok-around.ensures

pub returns-in-Some : goal.returns-in-Some
returns-in-Some c =
    let hold = c.args.hold.now in
    let containers = staying_containers hold.positions (map placing_said c.args.stay.now) in
    let l = c.in-Some.lateral.now in
    let has : hold.lateral ≡ Some l = sym c.lateral.ensures.value ∙ ap (λ o. option_copied o) c.in-Some.is in
    IfOk-weaker c.under_lateral.result (λ (under : Layout). under ≡ with_lateral c.in_ok-around.around l) (λ (under : Layout). under ≡ hold_around hold containers)
    (λ under is. is ∙ bare-under hold containers c.in_ok-around.around l has c.in_ok-around.ensures) c.under_lateral.ensures
