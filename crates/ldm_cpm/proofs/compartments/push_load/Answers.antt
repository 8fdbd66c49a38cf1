use Rattle.std.proofs.Common.{◌≡◌, ◌<◌, ◌++◌, ap, sym, ◌∙◌, arith}
use Rattle.std.specs.Prelude.{codes}
use Rattle.std.proofs.lemmas.List.{append-nil}
use Rattle.std.proofs.lemmas.Result.{IfOk-equal}
use Rattle.mass_units.specs.Spelling.{number_text}
use Rattle.ldm_cpm.specs.Sheets.{mass_in}
use Rattle.ldm_cpm.proofs.CompartmentLaws.{text-some, text-none}
use Rattle.ldm_cpm.proofs.Texts.{pieces-3}
use Rattle.ldm_cpm.proofs.compartments.push_load.Goals as goal

pub returns-then-mass-eq0 : goal.returns-then-mass-eq0
returns-then-mass-eq0 c =
    let old = c.args.out.now in
    let none : mass_in c.args.compartment c.args.places.now ≡ 0 = sym c.mass_in-mass.ensures.value ∙ c.if-mass-eq0.true in
    sym (ap (λ t. old ++ t) (text-none c.args.compartment c.args.places.now none) ∙ append-nil old)

pub returns : goal.returns
returns c =
    let old = c.args.out.now in
    let n = c.args.compartment in
    let places = c.args.places.now in
    let is = c.mass_in-mass.ensures.value in
    let some : 0 < mass_in n places = omega (arith, is) in
    let same : c.from.result ≡ n = omega arith in
    let number = c.in_ok-count.ensures.added ∙ ap (λ k. c.text.new.self ++ number_text k) same in
    IfOk-equal c.sum.result c.sum.new.self (c.text-2.new.self ++ number_text c.mass_in-mass.result) _ c.sum.ensures.added
    (pieces-3 old (codes ".") (number_text n) (codes "/") (number_text c.mass_in-mass.result) c.text.new.self c.count.new.self c.text-2.new.self
    c.in_ok-text.ensures.added number c.in_ok-text-2.ensures.added
    ∙ ap (λ m. old ++ (codes "." ++ (number_text n ++ (codes "/" ++ number_text m)))) is
    ∙ ap (λ t. old ++ t) (sym (text-some n places some)))
