use Rattle.std.proofs.Common.{take, get_or, All, sym, subst, arith}
use Rattle.std.proofs.lemmas.List.{take_all, take_more}
use Rattle.std.proofs.lemmas.List.Elements.{All-push}
use Rattle.hold_parts.specs.Spellings.{IsUldId}
use Rattle.hold_parts.specs.declared.parts.Item.{Item}
use Rattle.task_answers.proofs.near_jobs.read_ids.Goals as goal

pub loop-item-preserved : goal.loop-item-preserved
loop-item-preserved c =
    let Has = λ (item : Item). IsUldId item.id in
    let items = c.args.items.now in
    let i = c.loop-item.item-index in
    let x = c.item-item.result in
    subst (All Has) (sym (take_more items i x c.loop-item-test.true)) (All-push Has (take i items) (get_or items i x) c.loop-item.invariant (subst Has c.item-item.is c.bytes-id.ensures.spelled))

pub returns : goal.returns
returns c =
    let items = c.args.items.now in
    subst (All (λ (item : Item). IsUldId item.id)) (take_all c.loop-item.item-index items (omega (arith, c.loop-item-test.false))) c.loop-item.invariant
