use Rattle.std.proofs.Common.{List, ℕ, Some, None, length, refl, sym}
use Rattle.std.proofs.lemmas.Bool.{ltb-true, ltb-false}
use Rattle.std.proofs.lemmas.Option.{slice_get_read, slice_get_past}
use Rattle.aircraft_keys.proofs.KeyLemmas.{found}
use Rattle.aircraft_keys.proofs.key_table.wanted.Goals as goal

pub returns-in-Some : goal.returns-in-Some
returns-in-Some c =
    let rows = c.keys.result.now in
    let read = c.in-Some.ensures.lookup in
    let here = slice_get_read rows (length rows) c.args.number c.in-Some.field-0.now refl (ltb-true c.args.number (length rows) (sym read.0)) read.1 in
    found (λ (key : List ℕ × List ℕ). key.1) rows c.args.number (Some c.in-Some.field-0.now) c.keys.ensures (sym here)

pub returns-in-None : goal.returns-in-None
returns-in-None c =
    let rows = c.keys.result.now in
    let past = slice_get_past rows c.args.number (ltb-false c.args.number (length rows) (sym c.in-None.ensures.lookup.0)) in
    found (λ (key : List ℕ × List ℕ). key.1) rows c.args.number None c.keys.ensures (sym past)
