use Rattle.std.proofs.Common.{rules, FitsSigned, w16}
use Rattle.std.proofs.lemmas.Result.{on_ok_weaker}
use Rattle.flight_row.proofs.RowWriterLemmas.{as_wide, zone_change_written}
use Rattle.flight_row.proofs.row_lines.push_zone_change.Goals as goal

pub returns : goal.returns
returns c =
    let a : FitsSigned w16 c.args.adults = search rules in
    let k : FitsSigned w16 c.args.children = search rules in
    let i : FitsSigned w16 c.args.infants = search rules in
    on_ok_weaker c.push_signed-3.result
    (λ last. zone_change_written c.args.zone c.from.result c.args.adults c.args.children c.args.infants _ _ _ c.args.text.now c.push_number.new.text c.push_signed.new.text c.push_signed-2.new.text c.push_signed-3.new.text
    c.from.ensures (as_wide c.args.adults c.from-2.result a c.from-2.ensures) (as_wide c.args.children c.from-3.result k c.from-3.ensures) (as_wide c.args.infants c.from-4.result i c.from-4.ensures)
    c.in_ok-push_number.ensures c.in_ok-push_signed.ensures c.in_ok-push_signed-2.ensures last)
    c.push_signed-3.ensures
