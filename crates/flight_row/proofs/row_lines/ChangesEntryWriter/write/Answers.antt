use Rattle.std.proofs.Common.{rules, FitsSigned, w16}
use Rattle.std.proofs.lemmas.Int.{to_z-of_z}
use Rattle.std.proofs.lemmas.Result.{on_ok_weaker}
use Rattle.flight_row.proofs.RowWriterLemmas.{cabin_written}
use Rattle.flight_row.proofs.row_lines.ChangesEntryWriter.write.Goals as goal

pub returns-in_ok-text-in-Cabin-clause-added : goal.returns-in_ok-text-in-Cabin-clause-added
returns-in_ok-text-in-Cabin-clause-added c =
    let a : FitsSigned w16 c.in-Cabin.adults = search rules in
    let k : FitsSigned w16 c.in-Cabin.children = search rules in
    let i : FitsSigned w16 c.in-Cabin.infants = search rules in
    on_ok_weaker c.push_zone_change.result
    (λ last. cabin_written c.args.change.now c.in-Cabin.zone c.in-Cabin.adults c.in-Cabin.children c.in-Cabin.infants _ _ _ c.args.text.now c.text.new.self c.push_zone_change.new.text
    c.in-Cabin.is (to_z-of_z w16 c.in-Cabin.adults a) (to_z-of_z w16 c.in-Cabin.children k) (to_z-of_z w16 c.in-Cabin.infants i) c.in_ok-text-in-Cabin.ensures.added last)
    c.push_zone_change.ensures
