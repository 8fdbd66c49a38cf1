use Rattle.tree_laws.proofs.GreatestLemmas.{result-within, result-ended, result-above, none-stable, open-iff, closed-iff}
use Rattle.tree_laws.proofs.laws.greatest_choice_laws.Goals as goal

pub returns : goal.returns
returns c = record {
  within = result-within;
  ended = result-ended;
  greatest = result-above;
  none = none-stable;
  opens = open-iff;
  closes = closed-iff;
}
