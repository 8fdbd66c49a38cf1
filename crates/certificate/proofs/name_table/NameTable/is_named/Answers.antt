use Rattle.std.proofs.Common.{length, refl, sym}
use Rattle.std.proofs.lemmas.Bool.{ltb-true}
use Rattle.std.proofs.lemmas.Option.{slice_get_read}
use Rattle.certificate.proofs.WriterLemmas.{first_named}
use Rattle.certificate.proofs.PathLemmas.{named_there}
use Rattle.certificate.proofs.name_table.NameTable.is_named.Goals as goal

pub returns-in-Some : goal.returns-in-Some
returns-in-Some c =
    λ holds.
    let ps = c.args.self.now.positions.now in
    let q = c.args.number in
    let x = c.in-Some.position.now in
    let found = c.in-Some.ensures.lookup in
    let there = slice_get_read ps (length ps) q x refl (ltb-true q (length ps) (sym found.0)) found.1 in
    let here = named_there ps q x c.bytes.result.now c.args.name.now c.eq.result there c.bytes.ensures.value c.eq.ensures holds in
    (first_named ps c.args.self.now.differ q here.0, here.1)
