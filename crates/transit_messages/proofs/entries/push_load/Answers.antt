use Rattle.std.proofs.Common.{◌++◌, ap, sym, ◌∙◌}
use Rattle.std.specs.Prelude.{codes}
use Rattle.std.proofs.lemmas.Result.{IfOk-equal}
use Rattle.mass_units.specs.Spelling.{number_text}
use Rattle.ldm_cpm.proofs.Texts.{load-text, pieces-3}
use Rattle.transit_messages.proofs.entries.push_load.Goals as goal

pub returns : goal.returns
returns c =
    let old = c.args.out.now in
    let to = c.args.destination.now in
    let mass = number_text c.args.mass.0 in
    IfOk-equal c.mass.result c.mass.new.self (c.text-3.new.self ++ mass) _ c.mass.ensures.added
    (pieces-3 old (codes "/") to (codes "/") mass c.text.new.self c.text-2.new.self c.text-3.new.self
    c.in_ok-text.ensures.added c.in_ok-text-2.ensures.added c.in_ok-text-3.ensures.added
    ∙ ap (λ t. old ++ t) (sym (load-text to mass)))
