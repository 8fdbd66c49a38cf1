use Rattle.std.proofs.Common.{◌≡◌, ◌++◌, ◌∷◌, [], ap, sym, ◌∙◌, arith}
use Rattle.std.specs.Prelude.{codes}
use Rattle.std.proofs.lemmas.Result.{IfOk-equal}
use Rattle.mass_units.specs.Spelling.{number_text}
use Rattle.telex.specs.Elements.{line_text}
use Rattle.ldm_cpm.specs.Messages.{heading_elements}
use Rattle.ldm_cpm.specs.Sheets.{heading_on}
use Rattle.ldm_cpm.proofs.Texts.{crew-text, line-5}
use Rattle.ldm_cpm.proofs.ldm_writer.push_crew.Goals as goal

pub returns : goal.returns
returns c =
    let s = c.args.s.now in
    let old = c.args.out.now in
    let h = heading_on s in
    let one : c.from.result ≡ s.dry.cockpit = omega arith in
    let two : c.from-2.result ≡ s.dry.attendants = omega arith in
    let cockpit = c.in_ok-count.ensures.added ∙ ap (λ k. c.text.new.self ++ number_text k) one in
    let cabin = c.in_ok-count-2.ensures.added ∙ ap (λ k. c.text-2.new.self ++ number_text k) two in
    IfOk-equal c.end_line.result c.end_line.new.self (c.count-2.new.self ++ 10 ∷ []) _ c.end_line.ensures.added
    (line-5 old (line_text (heading_elements h)) (codes ".") (number_text s.dry.cockpit) (codes "/") (number_text s.dry.attendants) (10 ∷ [])
    c.push_heading.new.out c.text.new.self c.count.new.self c.text-2.new.self c.count-2.new.self
    c.in_ok-push_heading.ensures c.in_ok-text.ensures.added cockpit c.in_ok-text-2.ensures.added cabin
    ∙ ap (λ line. old ++ (line ++ 10 ∷ [])) (sym (crew-text h s.dry.cockpit s.dry.attendants)))
