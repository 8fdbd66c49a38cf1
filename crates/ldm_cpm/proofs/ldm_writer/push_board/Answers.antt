use Rattle.std.proofs.Common.{◌≡◌, ℕ, ◌+◌, ◌++◌, ◌∷◌, [], List, ap, sym, ◌∙◌, arith}
use Rattle.std.specs.List.{flat_map}
use Rattle.std.specs.Prelude.{codes}
use Rattle.std.proofs.lemmas.Result.{IfOk-equal}
use Rattle.mass_units.specs.Spelling.{number_text}
use Rattle.last_minute.specs.declared.sheet.Place.{Place}
use Rattle.ldm_cpm.specs.Messages.{load_elements, total}
use Rattle.ldm_cpm.specs.Sheets.{marked, loads_below, board_on}
use Rattle.ldm_cpm.proofs.Texts.{persons_text, board-text, line-6}
use Rattle.ldm_cpm.proofs.ldm_writer.push_board.Goals as goal

pub returns : goal.returns
returns c =
    let s = c.args.s.now in
    let old = c.args.out.now in
    let loads : List Place → List ℕ = λ places. marked (flat_map load_elements (loads_below 256 places)) in
    let same = c.as_slice-places.ensures in
    let mass = c.in_ok-sum.ensures.added ∙ ap (λ n. c.text.new.self ++ number_text n) (c.total_mass.ensures ∙ ap (λ ps. total (loads_below 256 ps)) same) in
    let carried = c.in_ok-push_loads.ensures ∙ ap (λ ps. c.sum.new.self ++ loads ps) same in
    let persons : c.from.result + c.from-2.result ≡ s.adults + s.children = omega arith in
    let seats = c.in_ok-count.ensures.added ∙ ap (λ k. c.text-2.new.self ++ number_text k) persons in
    IfOk-equal c.end_line.result c.end_line.new.self (c.count.new.self ++ 10 ∷ []) _ c.end_line.ensures.added
    (line-6 old (persons_text s.leg.destination s.adults s.children s.infants) (codes ".T") (number_text (total (loads_below 256 s.places))) (loads s.places) (codes ".PAX/") (number_text (s.adults + s.children)) (10 ∷ [])
    c.push_persons.new.out c.text.new.self c.sum.new.self c.push_loads.new.out c.text-2.new.self c.count.new.self
    c.in_ok-push_persons.ensures c.in_ok-text.ensures.added mass carried c.in_ok-text-2.ensures.added seats
    ∙ ap (λ line. old ++ (line ++ 10 ∷ [])) (sym (board-text (board_on s))))
