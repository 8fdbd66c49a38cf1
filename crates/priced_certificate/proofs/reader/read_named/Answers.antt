use Rattle.std.proofs.Common.{◌-◌, length, arith}
use Rattle.std.proofs.lemmas.Result.{err_from_is_err_and}
use Rattle.priced_certificate.proofs.FailSteps.{fails_behind_cuts, fails_at_expanded, fails_behind_expanded}
use Rattle.priced_certificate.proofs.PricedParts.{fails_at_claim, fails_behind_claim, all_read}
use Rattle.priced_certificate.proofs.reader.read_named.Goals as goal

pub returns-in_err-claim-clause-refused : goal.returns-in_err-claim-clause-refused
returns-in_err-claim-clause-refused c =
    let ps = c.args.names.now.positions.now in
    let p = err_from_is_err_and c.from_residual.result c.from_residual.ensures.1 in
    rw (p.1, p.2) (fails_at_claim ps c.args.lines.now.rest.now c.args.lines.now.number c.in_err-claim.field-0.0 c.in_err-claim.ensures.refused)

pub returns-in_err-cuts-clause-refused : goal.returns-in_err-cuts-clause-refused
returns-in_err-cuts-clause-refused c =
    let ps = c.args.names.now.positions.now in
    let text = c.args.lines.now in
    let one = c.next_claim.new.lines in
    let p = err_from_is_err_and c.from_residual-in_err-cuts.result c.from_residual-in_err-cuts.ensures.1 in
    rw (p.1, p.2)
    (fails_behind_claim ps c.in_ok-claim.claim text.rest.now one.rest.now text.number one.number c.in_err-cuts.field-0.0 c.in_ok-claim.ensures.read c.in_ok-claim.ensures.counted c.in_err-cuts.ensures.refused)

pub returns-in_err-expanded-clause-refused : goal.returns-in_err-expanded-clause-refused
returns-in_err-expanded-clause-refused c =
    let ps = c.args.names.now.positions.now in
    let text = c.args.lines.now in
    let one = c.next_claim.new.lines in
    let two = c.next_cuts.new.lines in
    let are = c.in_ok-cuts.ensures.read in
    let few = are.few in
    let got = c.in_ok-cuts.cuts.items in
    let fault = c.in_err-expanded.field-0.0 in
    let fails = fails_at_expanded ps (32000 - length got) two.rest.now two.number fault (λ some. are.stops (omega (arith, some))) c.in_err-expanded.ensures.refused in
    let behind = fails_behind_cuts ps 32000 (32000 - length got) got one.rest.now two.rest.now one.number two.number fault are.right (omega (arith, few)) are.read are.counted fails in
    let p = err_from_is_err_and c.from_residual-in_err-expanded.result c.from_residual-in_err-expanded.ensures.1 in
    rw (p.1, p.2) (fails_behind_claim ps c.in_ok-claim.claim text.rest.now one.rest.now text.number one.number fault c.in_ok-claim.ensures.read c.in_ok-claim.ensures.counted behind)

pub returns-in_err-expect_last-clause-refused : goal.returns-in_err-expect_last-clause-refused
returns-in_err-expect_last-clause-refused c =
    let ps = c.args.names.now.positions.now in
    let text = c.args.lines.now in
    let one = c.next_claim.new.lines in
    let two = c.next_cuts.new.lines in
    let three = c.next_fields.new.lines in
    let are = c.in_ok-cuts.ensures.read in
    let few = are.few in
    let got = c.in_ok-cuts.cuts.items in
    let read = c.in_ok-expanded.ensures.read in
    let fault = c.in_err-expect_last.field-0.0 in
    let fails = fails_behind_expanded ps (32000 - length got) c.in_ok-expanded.expanded two.rest.now three.rest.now two.number three.number fault read.0.1 read.1 c.in_ok-expanded.ensures.counted c.in_err-expect_last.ensures.refused in
    let behind = fails_behind_cuts ps 32000 (32000 - length got) got one.rest.now two.rest.now one.number two.number fault are.right (omega (arith, few)) are.read are.counted fails in
    let p = err_from_is_err_and c.from_residual-in_err-expect_last.result c.from_residual-in_err-expect_last.ensures.1 in
    rw (p.1, p.2) (fails_behind_claim ps c.in_ok-claim.claim text.rest.now one.rest.now text.number one.number fault c.in_ok-claim.ensures.read c.in_ok-claim.ensures.counted behind)

pub returns-clause-read : goal.returns-clause-read
returns-clause-read c =
    let ps = c.args.names.now.positions.now in
    let text = c.args.lines.now in
    let one = c.next_claim.new.lines in
    let two = c.next_cuts.new.lines in
    let three = c.next_fields.new.lines in
    let read = c.in_ok-expanded.ensures.read in
    rw c.from.ensures
    (all_read ps c.in_ok-claim.claim c.in_ok-cuts.cuts.items c.in_ok-expanded.expanded text.rest.now one.rest.now two.rest.now three.rest.now one.number two.number c.in_ok-claim.ensures.read c.in_ok-cuts.ensures.read read.0.1 read.1
    c.in_ok-expect_last.ensures.read)
