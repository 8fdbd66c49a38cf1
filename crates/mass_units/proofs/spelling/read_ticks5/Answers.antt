use Rattle.std.proofs.Common.{arith, ap, ◌∙◌, ◌≡◌}
use Rattle.std.proofs.lemmas.Int.{ints}
use Rattle.std.proofs.lemmas.Result.{err_from_is_err_and}
use Rattle.mass_units.specs.Spelling.{units_text}
use Rattle.mass_units.proofs.Reading.{minus_refused, plain_refused, minus_zero, minus_read, plain_read}
use Rattle.mass_units.proofs.spelling.read_ticks5.Goals as goal

pub returns-in_err-n-in-Some : goal.returns-in_err-n-in-Some
returns-in_err-n-in-Some c =
    let p = err_from_is_err_and c.from_residual.result c.from_residual.ensures.1 in
    let r = minus_refused c.args.text.now c.in-Some.size.now c.in_err-n-in-Some.field-0.0 c.in-Some.ensures.some c.in_err-n-in-Some.ensures.too_large c.in_err-n-in-Some.ensures.not_a_number in
    rw (p.1, p.2) (record { ok = r.ok; read_back = r.read_back; too_large = r.too_large; not_a_number = r.not_a_number })

pub returns-in_err-read_size-in-None : goal.returns-in_err-read_size-in-None
returns-in_err-read_size-in-None c =
    let p = err_from_is_err_and c.from_residual-in_err-read_size-in-None.result c.from_residual-in_err-read_size-in-None.ensures.1 in
    let r = plain_refused c.args.text.now c.in_err-read_size-in-None.field-0.0 c.in-None.ensures.none c.in_err-read_size-in-None.ensures.too_large c.in_err-read_size-in-None.ensures.not_a_number in
    rw (p.1, p.2) (record { ok = r.ok; read_back = r.read_back; too_large = r.too_large; not_a_number = r.not_a_number })

pub returns-in-0 : goal.returns-in-0
returns-in-0 c =
    let zero_text : c.in-Some.size.now ≡ units_text 0 = c.in_ok-n-in-Some.ensures.ok.1 ∙ ap units_text c.in-0.is in
    let r = minus_zero c.args.text.now c.in-Some.size.now c.in-Some.ensures.some zero_text in
    record { ok = r.ok; read_back = r.read_back; too_large = r.too_large; not_a_number = r.not_a_number }

pub returns-in_default : goal.returns-in_default
returns-in_default c =
    let n = c.in_ok-n-in-Some.n in
    let small = c.in_ok-n-in-Some.ensures.ok.0 in
    let r = minus_read c.args.text.now c.in-Some.size.now n _ c.in-Some.ensures.some (omega arith) small c.in_ok-n-in-Some.ensures.ok.1 (omega (arith, ints)) in
    record { ok = r.ok; read_back = r.read_back; too_large = r.too_large; not_a_number = r.not_a_number }

pub returns-in_ok-read_size-in-None : goal.returns-in_ok-read_size-in-None
returns-in_ok-read_size-in-None c =
    let n = c.in_ok-read_size-in-None.field-0 in
    let small = c.in_ok-read_size-in-None.ensures.ok.0 in
    let r = plain_read c.args.text.now n _ small c.in_ok-read_size-in-None.ensures.ok.1 (omega (arith, ints)) in
    record { ok = r.ok; read_back = r.read_back; too_large = r.too_large; not_a_number = r.not_a_number }
