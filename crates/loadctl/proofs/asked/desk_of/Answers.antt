use Rattle.std.proofs.Common.{sym, ◌∙◌, subst}
use Rattle.std.proofs.lemmas.Bool.{false≢true}
use Rattle.std.proofs.lemmas.List.Elements.{All-map}
use Rattle.std.specs.Prelude.{List, ℕ, string_bytes}
use Rattle.plan_commands.specs.Arguments.{BeginsWithMinus}
use Rattle.loadctl.specs.Desk.{IsStoreName}
use Rattle.plan_commands.proofs.ArgumentLemmas.{All-from_map}
use Rattle.loadctl.proofs.DeskLemmas.{two_and_more, desk-asked, desk-count, desk-head}
use Rattle.loadctl.proofs.asked.desk_of.Goals as goal

IsPlain : List ℕ → Type 0
IsPlain argument = BeginsWithMinus argument → ⊥

pub returns-then-not-open-clause-none : goal.returns-then-not-open-clause-none
returns-then-not-open-clause-none c names is =
    let parts = two_and_more c.args.arguments.now c.command-item.result c.store-item.result _ _ c.in-len2-up.len_at_least c.command-item.is c.store-item.is in
    let head = desk-head c.args.arguments.now c.command-item.result c.store-item.result _ parts names is in
    false≢true (sym c.if-not-open.true ∙ c.open.ensures.1 (c.as_str.ensures.value ∙ head.0, subst IsStoreName (sym c.as_str-store.ensures.value) head.1))

pub returns-then-not-are_fleet-clause-none : goal.returns-then-not-are_fleet-clause-none
returns-then-not-are_fleet-clause-none c names is =
    let parts = two_and_more c.args.arguments.now c.command-item.result c.store-item.result _ _ c.in-len2-up.len_at_least c.command-item.is c.store-item.is in
    false≢true (sym c.if-not-are_fleet.true ∙ c.are_fleet.ensures.1 (desk-count c.args.arguments.now c.command-item.result c.store-item.result _ parts names is))

pub returns-then-not-are_plain-clause-none : goal.returns-then-not-are_plain-clause-none
unfolding IsPlain
returns-then-not-are_plain-clause-none c names is =
    false≢true (sym c.if-not-are_plain.true ∙ c.are_plain.ensures.1 (All-from_map IsPlain string_bytes c.args.arguments.now is.plain))

pub returns-clause-some : goal.returns-clause-some
unfolding IsPlain
returns-clause-some c =
    let parts = two_and_more c.args.arguments.now c.command-item.result c.store-item.result _ _ c.in-len2-up.len_at_least c.command-item.is c.store-item.is in
    let head = c.open.ensures.0 c.if-not-open.false in
    let count = c.are_fleet.ensures.0 c.if-not-are_fleet.false in
    desk-asked c.args.arguments.now c.command-item.result c.store-item.result _ parts c.as_str-store.result.now c.as_str-store.ensures.value (sym c.as_str.ensures.value ∙ head.0) head.1 count.0 count.1
    (All-map IsPlain string_bytes c.args.arguments.now (c.are_plain.ensures.0 c.if-not-are_plain.false))
