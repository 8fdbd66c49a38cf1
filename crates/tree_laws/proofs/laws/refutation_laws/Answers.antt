use Rattle.tree_laws.proofs.RefutationLemmas.{holds-iff, good-iff, refutation-refutes}
use Rattle.tree_laws.proofs.OneRefutation.{one-refutation}
use Rattle.tree_laws.proofs.laws.refutation_laws.Goals as goal

pub returns : goal.returns
returns c = record {
  holds = holds-iff;
  good = good-iff;
  one = one-refutation;
  refuted = refutation-refutes;
}
