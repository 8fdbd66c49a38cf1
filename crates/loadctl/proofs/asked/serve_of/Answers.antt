use Rattle.std.proofs.Common.{sym, ◌∙◌, ◌≡◌, ◌+◌, ◌≤◌, subst}
use Rattle.std.proofs.lemmas.Bool.{false≢true}
use Rattle.std.proofs.lemmas.List.Elements.{All-map}
use Rattle.std.specs.Prelude.{List, ℕ, string_bytes}
use Rattle.plan_commands.specs.Arguments.{BeginsWithMinus}
use Rattle.mass_units.proofs.SpellingLemmas.{number_text-injective}
use Rattle.loadctl.specs.Desk.{IsStoreName}
use Rattle.loadctl.specs.Serve.{ports_end}
use Rattle.plan_commands.proofs.ArgumentLemmas.{All-from_map}
use Rattle.loadctl.proofs.ServeLemmas.{four_and_more, none-of, serve-asked, serve-count, serve-head, serve-numbers}
use Rattle.loadctl.proofs.asked.serve_of.Goals as goal

IsPlain : List ℕ → Type 0
IsPlain argument = BeginsWithMinus argument → ⊥

pub returns-then-not-open-clause-none : goal.returns-then-not-open-clause-none
returns-then-not-open-clause-none c n p names is =
    let parts = four_and_more c.args.arguments.now c.command-item.result c.desks-item.result c.port-item.result c.store-item.result _ _ _ _ c.in-len4-up.len_at_least c.command-item.is c.desks-item.is c.port-item.is c.store-item.is in
    let head = serve-head c.args.arguments.now c.command-item.result c.desks-item.result c.port-item.result c.store-item.result _ parts n p names is in
    false≢true (sym c.if-not-open.true ∙ c.open.ensures.1 (c.as_str.ensures.value ∙ head.0, subst IsStoreName (sym c.as_str-store.ensures.value) head.1))

pub returns-then-not-are_fleet-clause-none : goal.returns-then-not-are_fleet-clause-none
returns-then-not-are_fleet-clause-none c n p names is =
    let parts = four_and_more c.args.arguments.now c.command-item.result c.desks-item.result c.port-item.result c.store-item.result _ _ _ _ c.in-len4-up.len_at_least c.command-item.is c.desks-item.is c.port-item.is c.store-item.is in
    false≢true (sym c.if-not-are_fleet.true ∙ c.are_fleet.ensures.1 (serve-count c.args.arguments.now c.command-item.result c.desks-item.result c.port-item.result c.store-item.result _ parts n p names is))

pub returns-then-not-are_plain-clause-none : goal.returns-then-not-are_plain-clause-none
unfolding IsPlain
returns-then-not-are_plain-clause-none c n p names is =
    false≢true (sym c.if-not-are_plain.true ∙ c.are_plain.ensures.1 (All-from_map IsPlain string_bytes c.args.arguments.now is.plain))

pub returns-in_err-port-clause-none : goal.returns-in_err-port-clause-none
returns-in_err-port-clause-none c =
    none-of c.from_residual-in_err-port.result (λ n p names is.
    let parts = four_and_more c.args.arguments.now c.command-item.result c.desks-item.result c.port-item.result c.store-item.result _ _ _ _ c.in-len4-up.len_at_least c.command-item.is c.desks-item.is c.port-item.is c.store-item.is in
    let numbers = serve-numbers c.args.arguments.now c.command-item.result c.desks-item.result c.port-item.result c.store-item.result _ parts n p names is in
    let same : c.in_ok-desks.desks ≡ n = number_text-injective c.in_ok-desks.desks n (sym c.in_ok-desks.ensures.some.0 ∙ c.as_str-2.ensures.value ∙ numbers.0) in
    c.in_err-port.ensures.none p is.first (subst (λ k. p + k ≤ ports_end) (sym same) is.last) (c.as_str-3.ensures.value ∙ numbers.1))

pub returns-clause-some : goal.returns-clause-some
unfolding IsPlain
returns-clause-some c =
    let parts = four_and_more c.args.arguments.now c.command-item.result c.desks-item.result c.port-item.result c.store-item.result _ _ _ _ c.in-len4-up.len_at_least c.command-item.is c.desks-item.is c.port-item.is c.store-item.is in
    let head = c.open.ensures.0 c.if-not-open.false in
    let count = c.are_fleet.ensures.0 c.if-not-are_fleet.false in
    let desks = c.in_ok-desks.ensures.some in
    let port = c.in_ok-port.ensures.some in
    serve-asked c.args.arguments.now c.command-item.result c.desks-item.result c.port-item.result c.store-item.result _ parts c.in_ok-desks.desks c.in_ok-port.port
    c.as_str-store.result.now c.as_str-store.ensures.value (sym c.as_str.ensures.value ∙ head.0) (sym c.as_str-2.ensures.value ∙ desks.0) (sym c.as_str-3.ensures.value ∙ port.0) head.1
    desks.1 desks.2 port.1 port.2 count.0 count.1 (All-map IsPlain string_bytes c.args.arguments.now (c.are_plain.ensures.0 c.if-not-are_plain.false))
