use Rattle.std.proofs.Common.{◌∙◌, sym, codes, refl}
use Rattle.text_lines.proofs.NameLemmas.{differ}
use Rattle.text_lines.proofs.WordLemmas.{plain_word}
use Rattle.certificate.proofs.PathLemmas.{same_text}
use Rattle.tree_certificate.proofs.SetWords.{set_words, set_found, set_missing}
use Rattle.tree_certificate.proofs.line_readers.read_clique.Goals as goal

pub returns-then-ne-clause-none : goal.returns-then-ne-clause-none
returns-then-ne-clause-none c =
    λ set s e. differ c.cut.result.0.now (codes "clique") c.ne.result c.if-ne.true c.ne.ensures
    (set_words (codes "clique") c.args.names.now.positions.now (plain_word 32 (codes "clique") refl) c.args.names.now.clear set c.cut.result.0.now c.cut.result.1.now c.cut.ensures.front c.cut.ensures.rest (sym c.cut.ensures.whole ∙ e)).0

pub returns-clause-found : goal.returns-clause-found
returns-clause-found c =
    set_found (codes "clique") c.args.names.now.positions.now c.args.line.now c.cut.result.0.now c.cut.result.1.now c.named_set.result c.cut.ensures.whole
    (same_text c.cut.result.0.now (codes "clique") c.ne.result c.if-ne.false c.ne.ensures) c.named_set.ensures.found

pub returns-clause-none : goal.returns-clause-none
returns-clause-none c =
    set_missing (codes "clique") c.args.names.now.positions.now (plain_word 32 (codes "clique") refl) c.args.names.now.clear c.args.line.now c.cut.result.0.now c.cut.result.1.now c.named_set.result c.cut.ensures.whole c.cut.ensures.front c.cut.ensures.rest c.named_set.ensures.none
