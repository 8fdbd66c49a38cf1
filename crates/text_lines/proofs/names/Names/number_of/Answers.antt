use Rattle.std.proofs.Common.{◌≡◌, ◌∙◌, List, Some, None, option_map, sym, ap}
use Rattle.hold_parts.specs.declared.parts.Position.{Position}
use Rattle.hold_parts.specs.Names.{number_named}
use Rattle.text_lines.specs.Names.{byte_of}
use Rattle.text_lines.proofs.NameLemmas.{table-found, table-none}
use Rattle.text_lines.proofs.names.Names.number_of.Goals as goal

pub returns-in_err-number-clause-none : goal.returns-in_err-number-clause-none
returns-in_err-number-clause-none c =
    let names = c.args.self.now in
    let named = c.number_of.ensures ∙ ap (λ (ps : List Position). number_named ps c.args.name.now) names.same in
    let none : c.number_of.result ≡ None = c.in_err-number.was in
    table-none names.positions.now c.args.name.now c.from_residual.result (c.from_residual.ensures ∙ ap (option_map byte_of) (sym none ∙ named))

pub returns-clause-found : goal.returns-clause-found
returns-clause-found c =
    let names = c.args.self.now in
    let named = c.number_of.ensures ∙ ap (λ (ps : List Position). number_named ps c.args.name.now) names.same in
    let some : c.number_of.result ≡ Some c.in_ok-number.number = c.in_ok-number.was in
    table-found names.positions.now c.args.name.now (Some c.byte_of.result) (ap (λ n. Some n) c.byte_of.ensures ∙ ap (option_map byte_of) (sym some ∙ named))
