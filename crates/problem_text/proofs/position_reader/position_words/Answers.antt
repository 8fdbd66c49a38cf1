use Rattle.std.proofs.Common.{◌∷◌, ◌++◌, ◌∙◌, sym, lit<}
use Rattle.text_lines.proofs.CutLemmas.{cut_once}
use Rattle.problem_text.specs.TaskText.{position_word}
use Rattle.problem_text.proofs.PositionLemmas.{words as kind}
use Rattle.problem_text.proofs.position_reader.position_words.Goals as goal

pub returns-clause-read_back : goal.returns-clause-read_back
returns-clause-read_back c =
    λ bulk name compartment influence fits p q r cut e.
    let words = c.in_ok-keyword.ensures.read_back (position_word bulk) (name ++ 32 ∷ (compartment ++ 32 ∷ (influence ++ fits))) (kind.avoids 32 (lit< tt) bulk tt) e in
    let one = c.in_ok-name.ensures.read_back name (compartment ++ 32 ∷ (influence ++ fits)) p words.1 in
    let two = c.in_ok-compartment.ensures.read_back compartment (influence ++ fits) q one.1 in
    let three = cut_once 32 c.cut.result.0.now c.cut.result.1.now influence fits c.cut.ensures.front r c.cut.ensures.rest cut (sym c.cut.ensures.whole ∙ two.1) in
    (kind.once c.in_ok-bulk.bulk bulk tt tt (sym c.in_ok-bulk.ensures.found ∙ words.0), one.0, two.0, three.0, three.1)
