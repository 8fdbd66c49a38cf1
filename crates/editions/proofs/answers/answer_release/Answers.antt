use Rattle.std.proofs.Common.{sym, ◌∙◌}
use Rattle.editions.proofs.ReleasedLemmas.{may-release, may-balance, release-broken, none-broken, release-told, release-balance, release-changed}
use Rattle.editions.proofs.answers.answer_release.Goals as goal

pub broken_by-requires : goal.broken_by-requires
broken_by-requires c =
    let m = may-release c.args.a.now c.args.flight.now c.args.edition c.not_current.result c.no_plan.result c.requires c.not_current.ensures c.no_plan.ensures c.in_default.not-Some c.in_default-no_plan.not-Some in
    may-balance c.args.a.now c.args.flight.now c.args.edition m

pub returns-then-not-is_empty : goal.returns-then-not-is_empty
returns-then-not-is_empty c =
    let m = may-release c.args.a.now c.args.flight.now c.args.edition c.not_current.result c.no_plan.result c.requires c.not_current.ensures c.no_plan.ensures c.in_default.not-Some c.in_default-no_plan.not-Some in
    release-broken c.args.a.now c.args.flight.now c.args.edition m c.in_ok-rules.rules c.is_empty.result c.in_ok-rules.ensures c.is_empty.ensures c.if-not-is_empty.true

pub sheet_reply-requires : goal.sheet_reply-requires
sheet_reply-requires c =
    let m = may-release c.args.a.now c.args.flight.now c.args.edition c.not_current.result c.no_plan.result c.requires c.not_current.ensures c.no_plan.ensures c.in_default.not-Some c.in_default-no_plan.not-Some in
    may-balance c.args.a.now c.args.flight.now c.args.edition m

pub returns-then-is_released : goal.returns-then-is_released
returns-then-is_released c =
    let m = may-release c.args.a.now c.args.flight.now c.args.edition c.not_current.result c.no_plan.result c.requires c.not_current.ensures c.no_plan.ensures c.in_default.not-Some c.in_default-no_plan.not-Some in
    let none = none-broken c.args.a.now c.args.flight.now c.args.edition m c.in_ok-rules.rules.items c.is_empty.result c.in_ok-rules.ensures c.is_empty.ensures c.if-not-is_empty.false in
    release-told c.args.a.now c.args.flight.now c.args.edition m c.in_ok-sheet_reply.field-0 none (sym c.is_released.ensures ∙ c.if-is_released.true) c.in_ok-sheet_reply.ensures

pub sheet_reply-requires-2 : goal.sheet_reply-requires-2
sheet_reply-requires-2 c =
    let m = may-release c.args.a.now c.args.flight.now c.args.edition c.not_current.result c.no_plan.result c.requires c.not_current.ensures c.no_plan.ensures c.in_default.not-Some c.in_default-no_plan.not-Some in
    let none = none-broken c.args.a.now c.args.flight.now c.args.edition m c.in_ok-rules.rules.items c.is_empty.result c.in_ok-rules.ensures c.is_empty.ensures c.if-not-is_empty.false in
    release-balance c.args.a.now c.args.flight.now c.args.edition m c.in_ok-next.next none c.in_ok-next.ensures

pub returns : goal.returns
returns c =
    let m = may-release c.args.a.now c.args.flight.now c.args.edition c.not_current.result c.no_plan.result c.requires c.not_current.ensures c.no_plan.ensures c.in_default.not-Some c.in_default-no_plan.not-Some in
    let none = none-broken c.args.a.now c.args.flight.now c.args.edition m c.in_ok-rules.rules.items c.is_empty.result c.in_ok-rules.ensures c.is_empty.ensures c.if-not-is_empty.false in
    release-changed c.args.a.now c.args.flight.now c.args.edition m c.in_ok-next.next c.in_ok-reply.reply none (sym c.is_released.ensures ∙ c.if-is_released.false) c.in_ok-next.ensures c.in_ok-reply.ensures
