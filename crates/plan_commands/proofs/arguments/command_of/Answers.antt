use Rattle.std.proofs.Common.{sym, ◌∙◌}
use Rattle.std.proofs.lemmas.Bool.{false≢true}
use Rattle.std.proofs.lemmas.Option.{IfSome_then}
use Rattle.std.proofs.lemmas.List.Elements.{All-map}
use Rattle.std.specs.Prelude.{List, ℕ, string_bytes}
use Rattle.plan_commands.specs.Arguments.{BeginsWithMinus}
use Rattle.plan_commands.proofs.ArgumentLemmas.{All-from_map, IfNone_then}
use Rattle.plan_commands.proofs.arguments.command_of.Goals as goal

IsPlain : List ℕ → Type 0
IsPlain argument = BeginsWithMinus argument → ⊥

pub returns-then-not-are_plain-clause-none : goal.returns-then-not-are_plain-clause-none
unfolding IsPlain
returns-then-not-are_plain-clause-none c job is =
    false≢true (sym c.if-not-are_plain.true ∙ c.are_plain.ensures.1 (All-from_map IsPlain string_bytes c.args.arguments.now is.plain))

pub returns-clause-some : goal.returns-clause-some
unfolding IsPlain
returns-clause-some c =
    IfSome_then c.form_of.result c.form_of.ensures.some
    (λ command form. record { form = form; plain = All-map IsPlain string_bytes c.args.arguments.now (c.are_plain.ensures.0 c.if-not-are_plain.false) })

pub returns-clause-none : goal.returns-clause-none
returns-clause-none c = IfNone_then c.form_of.result c.form_of.ensures.none (λ none job is. none job is.form)
