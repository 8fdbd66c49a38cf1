use Rattle.std.proofs.Common.{arith, ap, ◌∙◌, ◌≡◌}
use Rattle.std.proofs.lemmas.Int.{ints}
use Rattle.mass_units.proofs.Reading.{signed_minus_none, signed_plain_none, signed_minus_zero, signed_minus_read, signed_plain_read}
use Rattle.mass_units.specs.Spelling.{number_text}
use Rattle.mass_units.proofs.spelling.read_signed.Goals as goal

pub returns-in_err-n-in-Some : goal.returns-in_err-n-in-Some
returns-in_err-n-in-Some c =
    let r = signed_minus_none c.args.text.now c.in-Some.size.now c.in-Some.ensures.some c.in_err-n-in-Some.ensures.read_back in
    rw c.from_residual.ensures (record { some = r.some; read_back = r.read_back })

pub returns-in_err-read_number-in-None : goal.returns-in_err-read_number-in-None
returns-in_err-read_number-in-None c =
    let r = signed_plain_none c.args.text.now c.in-None.ensures.none c.in_err-read_number-in-None.ensures.read_back in
    rw c.from_residual-in_err-read_number-in-None.ensures (record { some = r.some; read_back = r.read_back })

pub returns-in-0 : goal.returns-in-0
returns-in-0 c =
    let zero_text : c.in-Some.size.now ≡ number_text 0 = c.in_ok-n-in-Some.ensures.some.1 ∙ ap number_text c.in-0.is in
    let r = signed_minus_zero c.args.text.now c.in-Some.size.now c.in-Some.ensures.some zero_text in
    record { some = r.some; read_back = r.read_back }

pub returns-in_default : goal.returns-in_default
returns-in_default c =
    let n = c.in_ok-n-in-Some.n in
    let small = c.in_ok-n-in-Some.ensures.some.0 in
    let r = signed_minus_read c.args.text.now c.in-Some.size.now n _ c.in-Some.ensures.some (omega arith) small c.in_ok-n-in-Some.ensures.some.1 (omega (arith, ints)) in
    record { some = r.some; read_back = r.read_back }

pub returns-in_ok-read_number-in-None : goal.returns-in_ok-read_number-in-None
returns-in_ok-read_number-in-None c =
    let n = c.in_ok-read_number-in-None.field-0 in
    let small = c.in_ok-read_number-in-None.ensures.some.0 in
    let r = signed_plain_read c.args.text.now n _ small c.in_ok-read_number-in-None.ensures.some.1 (omega (arith, ints)) in
    record { some = r.some; read_back = r.read_back }
