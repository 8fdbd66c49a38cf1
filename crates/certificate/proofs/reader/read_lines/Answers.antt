use Rattle.std.proofs.Common.{refl, lit≤}
use Rattle.std.proofs.lemmas.Result.{err_from_is_err_and}
use Rattle.text_lines.proofs.Rests.{then, past_said, fails_at_one}
use Rattle.text_lines.proofs.RunsOfLines.{fails_at_last, read_last}
use Rattle.certificate.specs.Evidence.{paths_of}
use Rattle.certificate.proofs.EvidenceParts.{starts_with_claim, starts_with_expanded, ends, to_expanded, certificate_of, is_spelled, empty, empty_is}
use Rattle.certificate.proofs.reader.read_lines.Goals as goal

pub returns-in_err-claim-clause-refused : goal.returns-in_err-claim-clause-refused
returns-in_err-claim-clause-refused c =
    let ps = c.args.names.now.positions.now in
    let p = err_from_is_err_and c.from_residual.result c.from_residual.ensures.1 in
    rw (p.1, p.2) (fails_at_one (starts_with_claim ps c.requires) empty (empty_is ps) c.args.lines.now c.in_err-claim.field-0.0 c.in_err-claim.ensures.refused)

pub returns-in_err-expanded-clause-refused : goal.returns-in_err-expanded-clause-refused
returns-in_err-expanded-clause-refused c =
    let ps = c.args.names.now.positions.now in
    let l1 = c.next_claim.new.lines in
    let l2 = c.next_cuts.new.lines in
    let claim = c.in_ok-claim.claim in
    let cuts = paths_of c.in_ok-cuts.cuts.items in
    let some = is_spelled ps l1 l2 0 c.in_ok-claim.ensures.read.0 c.in_ok-cuts.ensures (lit≤ tt) in
    let fault = c.in_err-expanded.field-0.0 in
    let fails = fails_at_one (starts_with_expanded ps c.requires claim cuts) (certificate_of claim cuts 0) ((some, refl), refl) l2 fault c.in_err-expanded.ensures.refused in
    let p = err_from_is_err_and c.from_residual-in_err-expanded.result c.from_residual-in_err-expanded.ensures.1 in
    rw (p.1, p.2) ((to_expanded ps c.requires c.args.lines.now l1 l2 claim c.in_ok-claim.ensures.read c.in_ok-claim.ensures.counted c.in_ok-cuts.ensures).fails fault fails)

pub returns-in_err-expect_last-clause-refused : goal.returns-in_err-expect_last-clause-refused
returns-in_err-expect_last-clause-refused c =
    let ps = c.args.names.now.positions.now in
    let l1 = c.next_claim.new.lines in
    let l2 = c.next_cuts.new.lines in
    let l3 = c.next_fields.new.lines in
    let claim = c.in_ok-claim.claim in
    let cuts = paths_of c.in_ok-cuts.cuts.items in
    let n = c.in_ok-expanded.expanded in
    let read = c.in_ok-expanded.ensures.read in
    let some = is_spelled ps l1 l2 n c.in_ok-claim.ensures.read.0 c.in_ok-cuts.ensures read.0.1 in
    let fault = c.in_err-expect_last.field-0.0 in
    let fails = fails_at_last (ends ps c.requires claim cuts n) (certificate_of claim cuts n) (((some, refl), refl), refl) l3 fault c.in_err-expect_last.ensures.refused in
    let p = err_from_is_err_and c.from_residual-in_err-expect_last.result c.from_residual-in_err-expect_last.ensures.1 in
    let to_here = to_expanded ps c.requires c.args.lines.now l1 l2 claim c.in_ok-claim.ensures.read c.in_ok-claim.ensures.counted c.in_ok-cuts.ensures in
    rw (p.1, p.2) ((then to_here (past_said (starts_with_expanded ps c.requires claim cuts) l2 l3 n read c.in_ok-expanded.ensures.counted)).fails fault fails)

pub returns-clause-read : goal.returns-clause-read
returns-clause-read c =
    let ps = c.args.names.now.positions.now in
    let l1 = c.next_claim.new.lines in
    let l2 = c.next_cuts.new.lines in
    let l3 = c.next_fields.new.lines in
    let claim = c.in_ok-claim.claim in
    let cuts = paths_of c.in_ok-cuts.cuts.items in
    let n = c.in_ok-expanded.expanded in
    let read = c.in_ok-expanded.ensures.read in
    let some = is_spelled ps l1 l2 n c.in_ok-claim.ensures.read.0 c.in_ok-cuts.ensures read.0.1 in
    let got = certificate_of claim cuts n in
    let to_here = to_expanded ps c.requires c.args.lines.now l1 l2 claim c.in_ok-claim.ensures.read c.in_ok-claim.ensures.counted c.in_ok-cuts.ensures in
    let last = read_last (ends ps c.requires claim cuts n) got (((some, refl), refl), refl) l3 c.in_ok-expect_last.ensures.read in
    rw c.from.ensures ((then to_here (past_said (starts_with_expanded ps c.requires claim cuts) l2 l3 n read c.in_ok-expanded.ensures.counted)).read got (((some, refl), refl), refl) last)
