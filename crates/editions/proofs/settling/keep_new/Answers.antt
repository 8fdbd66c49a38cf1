use Rattle.std.proofs.Common.{◌≡◌, List, Some, sym, ap, ◌∙◌}
use Rattle.std.specs.Option.{option_copied}
use Rattle.flight_row.specs.Loading.{aircraft_of}
use Rattle.editions.specs.declared.flights.Flight.{Flight}
use Rattle.editions.specs.Places.{put_in}
use Rattle.editions.proofs.AnswerLemmas.{found-there}
use Rattle.editions.proofs.ReasonLemmas.{none-from}
use Rattle.editions.proofs.SettleLemmas.{sound-as, kept-is, place-kept, room-kept}
use Rattle.editions.proofs.settling.keep_new.Goals as goal

pub unreachable-requires : goal.unreachable-requires
unreachable-requires g c = found-there c.args.fleet.now c.args.next c.requires.sound (sym (ap (λ o. option_copied o) (none-from c.aircraft_of.result c.in_default.not-Some)) ∙ c.aircraft_of.ensures.found)

pub kept_row-requires : goal.kept_row-requires
kept_row-requires g c =
    let found : aircraft_of c.args.fleet.now c.args.next.leg ≡ Some c.in-Some.a.now = sym c.aircraft_of.ensures.found ∙ ap (λ o. option_copied o) c.in-Some.is in
    let ready = sound-as c.args.fleet.now c.args.next c.in-Some.a.now c.requires.sound found in
    ready.row

pub prepared-requires : goal.prepared-requires
prepared-requires g c =
    let found : aircraft_of c.args.fleet.now c.args.next.leg ≡ Some c.in-Some.a.now = sym c.aircraft_of.ensures.found ∙ ap (λ o. option_copied o) c.in-Some.is in
    let ready = sound-as c.args.fleet.now c.args.next c.in-Some.a.now c.requires.sound found in
    ready.row

pub put-requires-clause-place : goal.put-requires-clause-place
put-requires-clause-place g c = place-kept c.args.flights.now.flights c.make_room.new.flights.flights c.args.key.now c.args.place c.args.next c.in_ok-flight.flight c.make_room.ensures.same c.in_ok-flight.ensures.state c.requires.key c.requires.place

pub put-requires-clause-room : goal.put-requires-clause-room
put-requires-clause-room g c = room-kept c.make_room.new.flights c.args.key.now c.args.place c.args.next c.in_ok-flight.flight c.in_ok-flight.ensures.state c.requires.key c.in_ok-make_room.ensures.room

pub returns-clause-kept : goal.returns-clause-kept
returns-clause-kept g c =
    let found : aircraft_of c.args.fleet.now c.args.next.leg ≡ Some c.in-Some.a.now = sym c.aircraft_of.ensures.found ∙ ap (λ o. option_copied o) c.in-Some.is in
    let ready = sound-as c.args.fleet.now c.args.next c.in-Some.a.now c.requires.sound found in
    kept-is c.args.fleet.now c.in-Some.a.now c.args.key.now c.args.place c.args.next c.in_ok-flight.flight c.in_ok-row.row c.args.flights.now.flights c.put.new.self.flights (g.K.Keeper.tables c.args.keeper.now) (g.K.Keeper.tables c.commit.new.self) (record {
      sound = c.requires.sound;
      found = found;
      own = c.requires.key;
      at = c.requires.place;
      state = c.in_ok-flight.ensures.state;
      task = λ all. c.in_ok-flight.ensures.task;
      row_key = c.in_ok-row.ensures.key;
      row_bytes = c.in_ok-row.ensures.written;
      reads = c.in_ok-row.ensures.read_back c.args.fleet.now found ready.plan;
      put = c.put.ensures ∙ ap (λ (fs : List Flight). put_in fs c.args.place c.in_ok-flight.flight) c.make_room.ensures.same;
      holds = c.in_ok-commit.ensures.kept;
    })
