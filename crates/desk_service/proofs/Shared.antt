-- a turn of an office that several desks have together
use Rattle.std.proofs.Common.{◌≡◌, ◌+◌, ◌-◌, ◌<◌, ◌≤◌, ◌^◌, ℕ, List, [], ◌∷◌, min, Result, Ok, Err, ap, arith}
use Rattle.std.specs.Prelude.{IfOk}
use Rattle.flight_history.specs.declared.entry.Entry.{Entry}
use Rattle.flight_history.specs.declared.reply.Reply.{Reply}
use Rattle.flight_history.specs.declared.request.Request.{Request}
use Rattle.editions.specs.Books.{Books, IsTurn}
use Rattle.desk_lock.specs.Histories as lock
use Rattle.desk_lock.specs.Desks.{IsAnswered}
use Rattle.desk_service.specs.Several.{IsAfter}
use Rattle.desk_service.specs.Turns.{Setting, setting_of, IsTurnAfter, Calls}
use Rattle.desk_service.proofs.Moments.{turn_fits, one_failure}

abbrev pub desk_of : Entry → ℕ
desk_of entry = entry.desk

-- the machine took a turn
pub turn_taken : (old new : Books) (faults faults' desk : ℕ) (request : Request) (reply : Reply) → IsTurn old new faults faults' desk request reply
    → lock.IsTurn desk_of IsTurnAfter (setting_of old) old.history new.history desk request reply
turn_taken old new faults faults' desk request reply t = record {
  entry = t.j.entry;
  appended = ap (λ (b : Books). b.history) t.added;
  by = t.by_desk;
  fit = turn_fits old new faults faults' desk request reply t;
}

-- where there is room for an entry, one is spare
pub has_spare : (spare : ℕ) → 0 < min spare (2 ^ 63 - 1) → 0 < spare
has_spare spare room = omega (arith, room)

-- one entry less is spare
pub one_less : (old new : Books) (faults faults' desk : ℕ) (request : Request) (reply : Reply) → IsTurn old new faults faults' desk request reply
    → 0 < old.spare → old.spare < 2 ^ 63 → min new.spare (2 ^ 63 - 1) + 1 ≡ min old.spare (2 ^ 63 - 1)
one_less old new faults faults' desk request reply t some few =
    let used : new.spare ≡ old.spare - 1 = ap (λ (b : Books). b.spare) t.added in omega (arith, used, some, few)

pub still_few : (old new : Books) (faults faults' desk : ℕ) (request : Request) (reply : Reply) → IsTurn old new faults faults' desk request reply
    → old.spare < 2 ^ 63 → new.spare < 2 ^ 63
still_few old new faults faults' desk request reply t few =
    let used : new.spare ≡ old.spare - 1 = ap (λ (b : Books). b.spare) t.added in omega (arith, used, few)

-- the office is one turn later
pub turn_after : (old new : Books) (faults faults' desk : ℕ) (request : Request) (reply : Reply) → IsTurn old new faults faults' desk request reply → faults ≤ faults' → 0 < old.spare
    → IsAfter (record { books = old; faults = faults }) (record { books = new; faults = faults' })
turn_after old new faults faults' desk request reply t later some = record {
  rest = t.j.entry ∷ [];
  fleet = ap (λ (b : Books). b.fleet) t.added;
  rows = ap (λ (b : Books). b.rows) t.added;
  opening = ap (λ (b : Books). b.opening) t.added;
  history = ap (λ (b : Books). b.history) t.added;
  spare = (let used : new.spare ≡ old.spare - 1 = ap (λ (b : Books). b.spare) t.added in omega (arith, used, some));
  later = later;
  counted = λ below. one_failure t.j.entry.outcome faults faults' t.cause later below;
}

-- a call that a desk of the room was answered
pub answered_calls : {X : Type 0} (s : Setting) (desk : ℕ) (request : Request) (result : Result Reply X) (seen seen' : List Entry)
    → IfOk result (λ reply. IsAnswered desk_of IsTurnAfter s desk request reply seen seen')
    → IfOk result (λ reply. Calls s desk request reply seen seen')
answered_calls s desk request (Ok reply) seen seen' a = record {
  between = a.between;
  others = a.others;
  entry = a.turn.entry;
  turn = a.turn.fit;
  grown = a.turn.appended;
}
answered_calls s desk request (Err full) seen seen' a = tt
