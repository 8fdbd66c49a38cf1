-- a turn of an office that one desk has for itself
use Rattle.std.proofs.Common.{◌≡◌, ◌+◌, ◌-◌, ◌<◌, ◌≤◌, ◌^◌, ℕ, List, [], ◌∷◌, ◌++◌, cond, refl, sym, ap, ◌∙◌, subst, arith, append-nil}
use Rattle.std.proofs.lemmas.List.Elements.{All-nil, All-cons}
use Rattle.base_words.specs.Faults.{Rose}
use Rattle.flight_history.specs.declared.entry.Entry.{Entry}
use Rattle.flight_history.specs.declared.entry.Outcome.{Outcome}
use Rattle.flight_history.specs.declared.entry.Outcome.TheVariants.{Done, KeeperFailed, NoMemory}
use Rattle.flight_history.specs.declared.reply.Reply.{Reply}
use Rattle.flight_history.specs.declared.request.Request.{Request}
use Rattle.editions.specs.Books.{Books, IsTurn}
use Rattle.desk_service.specs.Alone.{IsLater, is_failure}
use Rattle.desk_service.specs.Turns.{setting_of, IsTurnAfter, Calls}

-- the turn is one after the entries before
pub turn_fits : (old new : Books) (faults faults' desk : ℕ) (request : Request) (reply : Reply) (t : IsTurn old new faults faults' desk request reply)
    → IsTurnAfter (setting_of old) old.history desk request t.j.entry reply
turn_fits old new faults faults' desk request reply t = record {
  history = t.history;
  judgement = t.judgement;
  j = t.j;
  judged = t.judged;
  of_entry = refl;
  by_desk = t.by_desk;
  of_key = t.of_key;
  of_act = t.of_act;
  replied = t.replied;
  passed = t.passed;
  committed = t.committed;
}

-- the turn is a call of the desk
pub turn_calls : (old new : Books) (faults faults' desk : ℕ) (request : Request) (reply : Reply) → IsTurn old new faults faults' desk request reply
    → Calls (setting_of old) desk request reply old.history new.history
turn_calls old new faults faults' desk request reply t =
    let turn : IsTurnAfter (setting_of old) old.history desk request t.j.entry reply = turn_fits old new faults faults' desk request reply t in
    record {
      between = [];
      others = All-nil _;
      entry = t.j.entry;
      turn = subst (λ (before : List Entry). IsTurnAfter (setting_of old) before desk request t.j.entry reply) (sym (append-nil old.history)) turn;
      grown = ap (λ (b : Books). b.history) t.added ∙ ap (λ (before : List Entry). before ++ t.j.entry ∷ []) (sym (append-nil old.history));
    }

-- a failure was counted
pub one_failure : (outcome : Outcome) (faults faults' : ℕ) → (outcome ≡ KeeperFailed → Rose faults faults') → faults ≤ faults' → faults' < 2 ^ 64 - 1
    → faults + (0 + cond (is_failure outcome) 1 0) ≤ faults'
one_failure Done faults faults' cause later below = omega (arith, later)
one_failure KeeperFailed faults faults' cause later below = let rose = cause refl in omega (arith, rose, below)
one_failure NoMemory faults faults' cause later below = omega (arith, later)

-- the office is one turn later
pub turn_later : (old new : Books) (faults faults' : ℕ) (request : Request) (reply : Reply) → IsTurn old new faults faults' 1 request reply → faults ≤ faults' → 0 < old.spare
    → IsLater (record { books = old; faults = faults }) (record { books = new; faults = faults' })
turn_later old new faults faults' request reply t later some = record {
  rest = t.j.entry ∷ [];
  fleet = ap (λ (b : Books). b.fleet) t.added;
  rows = ap (λ (b : Books). b.rows) t.added;
  opening = ap (λ (b : Books). b.opening) t.added;
  history = ap (λ (b : Books). b.history) t.added;
  spare = (let used : new.spare ≡ old.spare - 1 = ap (λ (b : Books). b.spare) t.added in omega (arith, used, some));
  by_desk = All-cons (λ (entry : Entry). entry.desk ≡ 1) t.j.entry [] t.by_desk (All-nil _);
  later = later;
  counted = λ below. one_failure t.j.entry.outcome faults faults' t.cause later below;
}
