use Rattle.std.proofs.Common.{rules, ℤ, pos, get_or, FitsSigned, ◌∷◌, [], codes}
use Rattle.std.specs.Int.{w128}
use Rattle.std.proofs.lemmas.Result.{on_ok_weaker}
use Rattle.loadsheet_text.specs.SheetText.{percent_text}
use Rattle.loadsheet_text.proofs.SheetLemmas.{percent_added, line_of_6}
use Rattle.loadsheet_text.proofs.line_writers.push_chord.Goals as goal

pub returns : goal.returns
returns c =
    let zero_fuel : ℤ = get_or c.args.centres.now 0 (pos 0) in
    let take_off : ℤ = get_or c.args.centres.now 1 (pos 0) in
    let landing : ℤ = get_or c.args.centres.now 2 (pos 0) in
    let first : FitsSigned w128 zero_fuel = search rules in
    let second : FitsSigned w128 take_off = search rules in
    let third : FitsSigned w128 landing = search rules in
    on_ok_weaker c.end_line.result
    (λ last. line_of_6 c.args.out.now (codes "MACZFW ") (percent_text zero_fuel) (codes " MACTOW ") (percent_text take_off) (codes " MACLAW ") (percent_text landing) (10 ∷ [])
    c.text.new.self c.hundredths.new.self c.text-2.new.self c.hundredths-2.new.self c.text-3.new.self c.hundredths-3.new.self c.end_line.new.self
    c.in_ok-text.ensures.added (percent_added zero_fuel _ _ first c.in_ok-hundredths.ensures.added)
    c.in_ok-text-2.ensures.added (percent_added take_off _ _ second c.in_ok-hundredths-2.ensures.added)
    c.in_ok-text-3.ensures.added (percent_added landing _ _ third c.in_ok-hundredths-3.ensures.added) last)
    c.end_line.ensures.added
