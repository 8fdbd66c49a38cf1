use Rattle.std.proofs.Common.{◌≢◌, ℕ, ◌<◌, arith}
use Rattle.text_lines.proofs.NameLemmas.{none_if}
use Rattle.tree_certificate.specs.TreeText.{least_line, IsSpelledLeast}
use Rattle.tree_certificate.proofs.LineLemmas.{least_parts, least_found}
use Rattle.tree_certificate.proofs.line_readers.read_least.Goals as goal

pub returns-in_err-rank-2-clause-none : goal.returns-in_err-rank-2-clause-none
returns-in_err-rank-2-clause-none c =
    let ps = c.args.names.now.positions.now in
    let none : (at : ℕ × ℕ) → IsSpelledLeast ps at → c.args.line.now ≢ least_line ps at = λ at s e.
    c.in_err-rank-2.ensures.none at.0 s.rank (least_parts ps at c.args.line.now c.in_ok-after_prefix.field-0.now c.in_ok-rank.rank.now c.in_ok-rank.name.now c.in_ok-after_prefix.ensures.found c.in_ok-rank.ensures.found.0 c.in_ok-rank.ensures.found.1 e).0 in
    none_if _ _ none

pub returns-in_err-number_of-clause-none : goal.returns-in_err-number_of-clause-none
returns-in_err-number_of-clause-none c =
    let ps = c.args.names.now.positions.now in
    let none : (at : ℕ × ℕ) → IsSpelledLeast ps at → c.args.line.now ≢ least_line ps at = λ at s e.
    c.in_err-number_of.ensures.none at.1 s.position (least_parts ps at c.args.line.now c.in_ok-after_prefix.field-0.now c.in_ok-rank.rank.now c.in_ok-rank.name.now c.in_ok-after_prefix.ensures.found c.in_ok-rank.ensures.found.0 c.in_ok-rank.ensures.found.1 e).1 in
    none_if _ _ none

pub returns-clause-found : goal.returns-clause-found
returns-clause-found c =
    let small : c.in_ok-rank-2.rank < 256 = omega arith in (
      record { rank = small; position = c.in_ok-number_of.ensures.found.0 },
      least_found c.args.names.now.positions.now c.in_ok-rank-2.rank c.in_ok-number_of.field-0 c.args.line.now c.in_ok-after_prefix.field-0.now c.in_ok-rank.rank.now c.in_ok-rank.name.now c.in_ok-after_prefix.ensures.found c.in_ok-rank.ensures.found.0 c.in_ok-rank-2.ensures.some c.in_ok-number_of.ensures.found.1,
    )
