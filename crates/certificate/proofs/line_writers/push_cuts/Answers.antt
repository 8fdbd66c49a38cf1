use Rattle.std.proofs.Common.{◌≤◌, ◌++◌, ◌∙◌, ℕ, List, length, ap}
use Rattle.std.proofs.lemmas.List.Elements.{All-map}
use Rattle.arrayvec.specs.ArrayVec.{ArrayVec}
use Rattle.text_lines.specs.Lines.{text_of}
use Rattle.certificate.specs.CertificateText.{cut_line}
use Rattle.certificate.proofs.WriterLemmas.{lines_of_paths}
use Rattle.certificate.proofs.line_writers.push_cuts.Goals as goal

pub returns-clause-written : goal.returns-clause-written
returns-clause-written c =
    c.in_ok-write_lines.ensures.added
    ∙ ap (λ lines. c.args.out.now ++ text_of lines) (lines_of_paths (cut_line c.args.hold.now.positions) c.args.cuts.now)

pub returns-clause-few : goal.returns-clause-few
returns-clause-few c = All-map (λ (cut : List ℕ). length cut ≤ 60) (λ (path : ArrayVec ℕ). path.items) c.args.cuts.now c.in_ok-write_lines.ensures.spelled
