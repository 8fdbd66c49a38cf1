use Rattle.std.proofs.Common.{◌≢◌, ℕ, ◌<◌, arith}
use Rattle.text_lines.proofs.NameLemmas.{none_if}
use Rattle.position_set.specs.declared.set.PositionSet.{PositionSet}
use Rattle.tree_certificate.specs.declared.parts.Operation.TheVariants.{Split}
use Rattle.tree_certificate.specs.TreeText.{operation_line, IsSpelledSet}
use Rattle.tree_certificate.proofs.LineLemmas.{split_words, split_found}
use Rattle.tree_certificate.proofs.line_readers.read_split.Goals as goal

pub returns-in_err-rank-clause-none : goal.returns-in_err-rank-clause-none
returns-in_err-rank-clause-none c =
    let ps = c.args.names.now.positions.now in
    let none : (rank : ℕ) (set : PositionSet) → rank < 256 → IsSpelledSet ps set → c.args.line.now ≢ operation_line ps (Split rank set) = λ rank set small s e.
    c.in_err-rank.ensures.none rank small (split_words ps c.args.names.now.clear rank set c.args.line.now c.in_ok-after_prefix.field-0.now c.cut.result.0.now c.cut.result.1.now c.in_ok-after_prefix.ensures.found c.cut.ensures.whole c.cut.ensures.front c.cut.ensures.rest e).0 in
    none_if _ _ none

pub returns-in_err-named_set-clause-none : goal.returns-in_err-named_set-clause-none
returns-in_err-named_set-clause-none c =
    let ps = c.args.names.now.positions.now in
    let none : (rank : ℕ) (set : PositionSet) → rank < 256 → IsSpelledSet ps set → c.args.line.now ≢ operation_line ps (Split rank set) = λ rank set small s e.
    c.in_err-named_set.ensures.none set s (split_words ps c.args.names.now.clear rank set c.args.line.now c.in_ok-after_prefix.field-0.now c.cut.result.0.now c.cut.result.1.now c.in_ok-after_prefix.ensures.found c.cut.ensures.whole c.cut.ensures.front c.cut.ensures.rest e).1 in
    none_if _ _ none

pub returns-clause-found : goal.returns-clause-found
returns-clause-found c =
    let small : c.in_ok-rank.rank < 256 = omega arith in (
      (small, c.in_ok-named_set.ensures.found.0),
      split_found c.args.names.now.positions.now c.in_ok-rank.rank c.in_ok-named_set.field-0 c.args.line.now c.in_ok-after_prefix.field-0.now c.cut.result.0.now c.cut.result.1.now c.in_ok-after_prefix.ensures.found c.cut.ensures.whole c.in_ok-rank.ensures.some c.in_ok-named_set.ensures.found.1,
    )
