use Rattle.std.proofs.Common.{rules, FitsSigned, w16, ◌++◌, ◌∷◌, [], codes, ◌∙◌, ap, sym}
use Rattle.std.proofs.lemmas.Result.{on_ok_weaker}
use Rattle.mass_units.specs.Spelling.{number_text, signed_text}
use Rattle.loadsheet_text.specs.SheetText.{change_line}
use Rattle.loadsheet_text.proofs.SheetLemmas.{signed_added, together_8, line_of_8}
use Rattle.loadsheet_text.proofs.line_writers.push_change.Goals as goal

pub returns-in_ok-number-in-Cabin-3 : goal.returns-in_ok-number-in-Cabin-3
returns-in_ok-number-in-Cabin-3 c =
    let start = c.args.out.now in
    let zone = number_text c.in-Cabin.zone in
    let more_adults = signed_text c.in-Cabin.adults in
    let more_children = signed_text c.in-Cabin.children in
    let more_infants = signed_text c.in-Cabin.infants in
    let adults : FitsSigned w16 c.in-Cabin.adults = search rules in
    let children : FitsSigned w16 c.in-Cabin.children = search rules in
    let infants : FitsSigned w16 c.in-Cabin.infants = search rules in
    on_ok_weaker c.end_line.result
    (λ last. line_of_8 start (codes "LMC ZONE ") zone (codes " ") more_adults (codes "/") more_children (codes "/") more_infants (10 ∷ [])
    c.text.new.self c.count.new.self c.text-in-Cabin.new.self c.number.new.self c.text-in-Cabin-2.new.self c.number-in-Cabin.new.self c.text-in-Cabin-3.new.self c.number-in-Cabin-2.new.self c.end_line.new.self
    c.in_ok-text-in-Cabin.ensures.added (c.in_ok-count-in-Cabin.ensures.added ∙ ap (λ n. c.text.new.self ++ number_text n) c.from.ensures)
    c.in_ok-text-in-Cabin-2.ensures.added (signed_added c.in-Cabin.adults c.from-in-Cabin.result _ _ adults c.from-in-Cabin.ensures c.in_ok-number-in-Cabin.ensures.added)
    c.in_ok-text-in-Cabin-3.ensures.added (signed_added c.in-Cabin.children c.from-in-Cabin-2.result _ _ children c.from-in-Cabin-2.ensures c.in_ok-number-in-Cabin-2.ensures.added)
    c.in_ok-text-in-Cabin-4.ensures.added (signed_added c.in-Cabin.infants c.from-in-Cabin-3.result _ _ infants c.from-in-Cabin-3.ensures c.in_ok-number-in-Cabin-3.ensures.added)
    last
    ∙ ap (λ line. start ++ (line ++ 10 ∷ [])) (sym (together_8 (codes "LMC ZONE ") zone (codes " ") more_adults (codes "/") more_children (codes "/") more_infants))
    ∙ ap (λ change. start ++ (change_line change ++ 10 ∷ [])) (sym c.in-Cabin.is))
    c.end_line.ensures.added
