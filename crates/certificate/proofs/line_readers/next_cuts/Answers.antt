use Rattle.std.proofs.Common.{◌≤◌, ℕ, List, [], ◌∷◌, length, ap, arith}
use Rattle.std.proofs.lemmas.List.{length-append, length-map}
use Rattle.arrayvec.specs.ArrayVec.{ArrayVec}
use Rattle.text_lines.proofs.PartSteps.{one_more_value, none_at_line, none_at_end, ends_part, all_read, too_long}
use Rattle.certificate.specs.Evidence.{paths_of}
use Rattle.certificate.specs.CertificateText.{cut_line, IsSpelledPath, AreFewCuts}
use Rattle.certificate.proofs.line_readers.next_cuts.Goals as goal

few_cuts : (cuts : List (ArrayVec ℕ)) → length cuts ≤ 3200000 → AreFewCuts (paths_of cuts)
few_cuts cuts few = let long = length-map cuts (λ (path : ArrayVec ℕ). path.items) in omega (arith, few, long)

pub returns-in_default : goal.returns-in_default
returns-in_default c =
    let ps = c.args.names.now.positions.now in
    let inv = c.loop-lines.invariant in
    ends_part (cut_line ps) (IsSpelledPath ps) AreFewCuts c.args.lines.now c.loop-lines.lines (paths_of c.loop-lines.cuts.items) inv.read (few_cuts c.loop-lines.cuts.items inv.few)
    (none_at_end (cut_line ps) (IsSpelledPath ps) c.loop-lines.lines c.in_default.ensures.none)

pub returns-in_default-read_path : goal.returns-in_default-read_path
returns-in_default-read_path c =
    let ps = c.args.names.now.positions.now in
    let inv = c.loop-lines.invariant in
    ends_part (cut_line ps) (IsSpelledPath ps) AreFewCuts c.args.lines.now c.loop-lines.lines (paths_of c.loop-lines.cuts.items) inv.read (few_cuts c.loop-lines.cuts.items inv.few)
    (none_at_line (cut_line ps) (IsSpelledPath ps) c.loop-lines.lines c.in-Some.line.now c.in-Some.after.rest.now c.in-Some.ensures.found.0 c.in-Some.ensures.found.1 c.in_default-read_path.ensures.none)

pub loop-lines-preserved : goal.loop-lines-preserved
loop-lines-preserved c =
    let ps = c.args.names.now.positions.now in
    let inv = c.loop-lines.invariant in
    let grew = c.in_ok-push.ensures.items in
    let now = ap length grew in
    let long = length-append c.loop-lines.cuts.items (c.in-Some-read_path.cut ∷ []) in
    let room = c.loop-lines-test.true in
    let found = c.in-Some-read_path.ensures.found in
    record {
      few = omega (arith, now, long, room);
      read = one_more_value (cut_line ps) (IsSpelledPath ps) (λ (path : ArrayVec ℕ). path.items) c.args.lines.now c.loop-lines.lines c.in-Some.after c.in-Some.line.now c.loop-lines.cuts.items c.push.new.self.items c.in-Some-read_path.cut
          inv.read found.0 found.1 c.in-Some.ensures.found.0 c.in-Some.ensures.counted grew;
    }

pub returns : goal.returns
returns c =
    let ps = c.args.names.now.positions.now in
    let inv = c.loop-lines.invariant in
    let full = c.loop-lines-test.false in
    let long = length-map c.loop-lines.cuts.items (λ (path : ArrayVec ℕ). path.items) in
    all_read (cut_line ps) (IsSpelledPath ps) AreFewCuts c.args.lines.now c.loop-lines.lines (paths_of c.loop-lines.cuts.items) inv.read (few_cuts c.loop-lines.cuts.items inv.few)
    (too_long 3200000 (paths_of c.loop-lines.cuts.items) (omega (arith, full, long)))
