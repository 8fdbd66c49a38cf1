use Rattle.std.proofs.Common.{ℕ, ◌<◌, None, [], length, ap}
use Rattle.std.specs.Prelude.{IfSome}
use Rattle.std.specs.declared.option.Option.{Option}
use Rattle.std.proofs.lemmas.List.Elements.{All-same, All-nil, All-replicate}
use Rattle.assignment_draft.proofs.seats.Seats.empty.Goals as goal

pub returns : goal.returns
returns c = record {
  size = ap length c.new.ensures;
  stands = All-same (λ (stand : Option ℕ). IfSome stand (λ position. position < 64)) c.new.result.items [] c.new.ensures (All-nil (λ (stand : Option ℕ). IfSome stand (λ position. position < 64)));
  holders = All-replicate (λ (holder : Option ℕ). IfSome holder (λ number. number < 0)) 64 None tt;
}
