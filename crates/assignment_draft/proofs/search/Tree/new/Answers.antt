use Rattle.std.proofs.Common.{◌<◌, sym, ◌∙◌, arith, length}
use Rattle.std.specs.Prelude.{pos}
use Rattle.std.proofs.lemmas.Int.{ints}
use Rattle.std.proofs.lemmas.Bool.{false≢true}
use Rattle.std.proofs.lemmas.List.{get_or-replicate}
use Rattle.std.proofs.lemmas.List.Elements.{All-replicate}
use Rattle.assignment.specs.Tables.{IsWithin}
use Rattle.assignment_draft.specs.Trees.{gap_span}
use Rattle.assignment_draft.proofs.search.Tree.new.Goals as goal

far : IsWithin gap_span (pos gap_span)
far = record { above = omega (arith, ints); below = omega (arith, ints) }

pub returns : goal.returns
returns c = λ prices first. record {
  gaps = All-replicate (IsWithin gap_span) 64 (pos gap_span) far;
  from = All-replicate (λ number. number < length prices.candidates.items) 64 c.args.first first;
  members = λ q has. absurd (false≢true (sym (c.empty.ensures q) ∙ has));
  ahead = λ q has. absurd (false≢true (sym (c.empty-2.ensures q) ∙ has));
  reached = λ q has. absurd (false≢true (sym (c.empty-3.ensures q) ∙ has));
  goal = tt;
  limit = far;
  unseen = λ q within not_ahead not_reached. rw (get_or-replicate 64 q (pos gap_span) (pos 0) within) (omega (arith, ints));
  measured = λ n q has. absurd (false≢true (sym (c.empty.ensures n) ∙ has));
  moved_low = omega (arith, ints);
  room_low = omega (arith, ints);
  room_high = omega (arith, ints);
  item_room = λ n has. absurd (false≢true (sym (c.empty.ensures n) ∙ has));
  place_room = λ q has. absurd (false≢true (sym (c.empty-3.ensures q) ∙ has));
}
