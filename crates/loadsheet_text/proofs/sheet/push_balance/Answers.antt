use Rattle.std.proofs.Common.{◌∷◌, []}
use Rattle.std.proofs.lemmas.Result.{on_ok_weaker}
use Rattle.loadsheet_text.specs.SheetText.{underload_line, index_line, chord_line}
use Rattle.loadsheet_text.proofs.SheetLemmas.{lines_of_3}
use Rattle.loadsheet_text.proofs.sheet.push_balance.Goals as goal

pub returns : goal.returns
returns c =
    let s = c.args.s.now in
    let b = s.balance in
    on_ok_weaker c.push_chord.result
    (λ last. lines_of_3 c.args.out.now (underload_line b.underload.kg ∷ []) (index_line s.dry.index.0 b.zero_fuel.0 b.take_off.0 b.landing.0 ∷ []) (chord_line s.mac ∷ [])
    c.push_underload.new.out c.push_indices.new.out c.push_chord.new.out
    c.in_ok-push_underload.ensures c.in_ok-push_indices.ensures last)
    c.push_chord.ensures
