use Rattle.std.proofs.Common.{◌≡◌, ◌++◌, ap, ◌∙◌, arith}
use Rattle.std.proofs.lemmas.Result.{IfOk-equal}
use Rattle.mass_units.specs.Spelling.{number_text}
use Rattle.ldm_cpm.proofs.Texts.{persons-pieces}
use Rattle.ldm_cpm.proofs.ldm_writer.push_persons.Goals as goal

pub returns : goal.returns
returns c =
    let s = c.args.s.now in
    let to = c.in_ok-text-2.ensures.added ∙ ap (λ t. c.text.new.self ++ t) c.bytes.ensures.value in
    let one : c.from.result ≡ s.adults = omega arith in
    let two : c.from-2.result ≡ s.children = omega arith in
    let three : c.from-3.result ≡ s.infants = omega arith in
    let adults = c.in_ok-count.ensures.added ∙ ap (λ k. c.text-3.new.self ++ number_text k) one in
    let children = c.in_ok-count-2.ensures.added ∙ ap (λ k. c.text-4.new.self ++ number_text k) two in
    IfOk-equal c.count-3.result c.count-3.new.self (c.text-5.new.self ++ number_text c.from-3.result) _ c.count-3.ensures.added
    (ap (λ k. c.text-5.new.self ++ number_text k) three ∙
    persons-pieces c.args.out.now s.leg.destination
    c.text.new.self c.text-2.new.self c.text-3.new.self c.count.new.self c.text-4.new.self c.count-2.new.self c.text-5.new.self s.adults s.children s.infants
    c.in_ok-text.ensures.added to c.in_ok-text-3.ensures.added adults c.in_ok-text-4.ensures.added children c.in_ok-text-5.ensures.added)
