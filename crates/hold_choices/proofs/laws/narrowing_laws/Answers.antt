use Rattle.hold_choices.proofs.NarrowedLemmas.{narrowed-some, narrowed-empty, narrowed-full, narrowed-among, narrowed-refuted}
use Rattle.hold_choices.proofs.laws.narrowing_laws.Goals as goal

pub returns : goal.returns
returns c = record {
  some = narrowed-some;
  empty = narrowed-empty;
  full = narrowed-full;
  regular = narrowed-among;
  refuted = narrowed-refuted;
}
