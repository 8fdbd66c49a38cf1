use Rattle.hold_reach.proofs.RuleLemmas.{empty-sound, rule_broken-none}
use Rattle.hold_reach.proofs.ChoiceLemmas.{is_free-Decides, is_open-Decides, reach-is, wide_reach-is, lateral_reach-is}
use Rattle.hold_reach.proofs.ViableLemmas.{reach-shorter, wide_reach-shorter, lateral_reach-shorter, reach-complete, wide_reach-complete, lateral_reach-complete, bound-complete, bound-most, bound-nearest, wide_bound-most, wide_bound-nearest, window-met_widely, band-in_order, IsAdmissible-from_viable, IsViable-front, IsRising-next}
use Rattle.hold_reach.proofs.laws.reach_laws.Goals as goal

pub returns : goal.returns
returns c = record {
  free_asked = is_free-Decides;
  open_asked = is_open-Decides;
  reach_is = reach-is;
  wide_reach_is = wide_reach-is;
  lateral_reach_is = lateral_reach-is;
  narrows = reach-shorter;
  narrows_widely = wide_reach-shorter;
  narrows_laterally = lateral_reach-shorter;
  viable = IsViable-front;
  nearest = bound-nearest;
  bounded = bound-most;
  window_met_widely = window-met_widely;
  nearest_widely = wide_bound-nearest;
  bounded_widely = wide_bound-most;
  band = band-in_order;
  complete_reach = reach-complete;
  complete_wide_reach = wide_reach-complete;
  complete_lateral_reach = lateral_reach-complete;
  complete_bound = bound-complete;
  complete_viable = IsAdmissible-from_viable;
  longer_rising = IsRising-next;
  empty_sound = empty-sound;
  longer_sound = rule_broken-none;
}
