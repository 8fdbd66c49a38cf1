use Rattle.std.proofs.Common.{◌≡◌, None}
use Rattle.base_words.specs.Lists.{first_below, repeats_at}
use Rattle.hold_parts.proofs.repeats.first_repeat.Given as goal

abbrev pub invariant-loop-place : goal.invariant-loop-place
invariant-loop-place g l = first_below (repeats_at g.T.Alike.alike l.list) l.place ≡ None
