use Rattle.stop_tasks.proofs.PartLemmas.{remaining-aboard, part-longer, part-front}
use Rattle.stop_tasks.proofs.laws.part_laws.Goals as goal

pub returns : goal.returns
returns c = record {
  aboard = remaining-aboard;
  longer = part-longer;
  fronts = part-front;
}
