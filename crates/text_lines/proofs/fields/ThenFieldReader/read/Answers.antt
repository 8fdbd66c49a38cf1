use Rattle.std.proofs.Common.{◌∷◌, ◌++◌, ◌∙◌}
use Rattle.text_lines.proofs.fields.ThenFieldReader.read.Goals as goal

pub returns-clause-found : goal.returns-clause-found
returns-clause-found g c =
    let first = c.in_ok-read.ensures.found in
    let others = c.in_ok-read-2.ensures.found in
    record {
      said = (first.said, others.said);
      kept = λ i. (first.kept i, others.kept i);
      right = (first.right, others.right);
      is = c.in_ok-word.ensures.found.0 ∙ (λ i. first.is i ++ 32 ∷ others.is i);
    }
