use Rattle.std.proofs.Common.{◌∙◌, sym}
use Rattle.text_lines.proofs.NameLemmas.{differ}
use Rattle.certificate.proofs.PathLemmas.{path_words, same_text, path_found, path_missing}
use Rattle.certificate.proofs.line_readers.read_path.Goals as goal

pub returns-then-ne-clause-none : goal.returns-then-ne-clause-none
returns-then-ne-clause-none c =
    λ path s e. differ c.cut.result.0.now c.args.word.now c.ne.result c.if-ne.true c.ne.ensures
    (path_words c.args.word.now c.args.names.now.positions.now c.requires.word c.args.names.now.clear path c.cut.result.0.now c.cut.result.1.now c.cut.ensures.front c.cut.ensures.rest (sym c.cut.ensures.whole ∙ e)).0

pub returns-clause-found : goal.returns-clause-found
returns-clause-found c =
    path_found c.args.word.now c.args.names.now.positions.now c.args.line.now c.cut.result.0.now c.cut.result.1.now c.named_path.result c.cut.ensures.whole
    (same_text c.cut.result.0.now c.args.word.now c.ne.result c.if-ne.false c.ne.ensures) c.named_path.ensures.found

pub returns-clause-none : goal.returns-clause-none
returns-clause-none c =
    path_missing c.args.word.now c.args.names.now.positions.now c.requires.word c.args.names.now.clear c.args.line.now c.cut.result.0.now c.cut.result.1.now c.named_path.result c.cut.ensures.whole c.cut.ensures.front c.cut.ensures.rest c.named_path.ensures.none
