use Rattle.std.proofs.Common.{◌-◌, length, arith}
use Rattle.std.proofs.lemmas.Result.{err_from_is_err_and}
use Rattle.text_lines.specs.Grammar.Fails.{no_memory}
use Rattle.priced_certificate.proofs.CutLines.{one_more_read}
use Rattle.priced_certificate.proofs.FailSteps.{fails_behind_cuts}
use Rattle.priced_certificate.proofs.cut_readers.next_cuts.Goals as goal

pub returns-in_err-cut-clause-refused : goal.returns-in_err-cut-clause-refused
returns-in_err-cut-clause-refused c =
    let ps = c.args.names.now.positions.now in
    let text = c.args.lines.now in
    let here = c.loop-lines.lines in
    let so = c.loop-lines.invariant in
    let got = c.loop-lines.cuts.items in
    let few = so.few in
    let room = c.loop-lines-test.true in
    let fault = c.in_err-cut.field-0.0 in
    let p = err_from_is_err_and c.from_residual.result c.from_residual.ensures.1 in
    rw (p.1, p.2)
    (fails_behind_cuts ps 32000 (32000 - length got) got text.rest.now here.rest.now text.number here.number fault so.right (omega (arith, few)) so.read so.counted
    (c.in_err-cut.ensures.refused (32000 - length got) (omega (arith, room))))

pub loop-lines-preserved : goal.loop-lines-preserved
loop-lines-preserved c =
    let ps = c.args.names.now.positions.now in
    let text = c.args.lines.now in
    let here = c.loop-lines.lines in
    let there = c.next_cut.new.lines in
    let room = c.loop-lines-test.true in
    let one = rw c.in-Some.is at c.in_ok-cut.ensures.found in
    one_more_read ps text.rest.now here.rest.now there.rest.now text.number here.number there.number c.loop-lines.cuts.items c.keep.new.cuts.items c.in-Some.cut c.loop-lines.invariant (omega (arith, room)) one c.in_ok-keep.ensures

pub returns-in_err-keep-clause-refused : goal.returns-in_err-keep-clause-refused
returns-in_err-keep-clause-refused c =
    let p = err_from_is_err_and c.from_residual-in_err-keep.result c.from_residual-in_err-keep.ensures.1 in
    rw (p.1, p.2) no_memory
