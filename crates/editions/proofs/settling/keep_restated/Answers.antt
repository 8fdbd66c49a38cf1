use Rattle.std.proofs.Common.{refl, ◌≡◌, Option, Some, sym, ap, subst, ◌∙◌}
use Rattle.std.specs.Prelude.{IfSome}
use Rattle.std.specs.Option.{option_copied}
use Rattle.flight_row.specs.Loading.{aircraft_of}
use Rattle.editions.specs.declared.flights.Flight.{Flight}
use Rattle.editions.specs.Answers.{HasFiguresOf}
use Rattle.editions.proofs.AnswerLemmas.{found-there}
use Rattle.editions.proofs.PlaceLemmas.{held-at}
use Rattle.editions.proofs.ReasonLemmas.{none-from}
use Rattle.editions.proofs.SettleLemmas.{sound-as, kept-is, place-kept, task-stays}
use Rattle.editions.proofs.settling.keep_restated.Goals as goal

pub unreachable-requires : goal.unreachable-requires
unreachable-requires g c = found-there c.args.fleet.now c.args.next c.requires.sound (sym (ap (λ o. option_copied o) (none-from c.aircraft_of.result c.in_default.not-Some)) ∙ c.aircraft_of.ensures.found)

pub kept_row-requires : goal.kept_row-requires
kept_row-requires g c =
    let found : aircraft_of c.args.fleet.now c.args.next.leg ≡ Some c.in-Some.a.now = sym c.aircraft_of.ensures.found ∙ ap (λ o. option_copied o) c.in-Some.is in
    let ready = sound-as c.args.fleet.now c.args.next c.in-Some.a.now c.requires.sound found in
    ready.row

pub restate-requires : goal.restate-requires
restate-requires g c =
    let old = held-at c.args.flights.now.flights c.args.key.now c.args.place c.requires.place in
    place-kept c.args.flights.now.flights c.args.flights.now.flights c.args.key.now (Some c.args.place) c.args.next (record old.0 { state = c.args.next }) refl refl c.requires.key c.requires.place

pub returns-clause-kept : goal.returns-clause-kept
returns-clause-kept g c =
    let found : aircraft_of c.args.fleet.now c.args.next.leg ≡ Some c.in-Some.a.now = sym c.aircraft_of.ensures.found ∙ ap (λ o. option_copied o) c.in-Some.is in
    let ready = sound-as c.args.fleet.now c.args.next c.in-Some.a.now c.requires.sound found in
    let flights = c.args.flights.now.flights in
    let old = held-at flights c.args.key.now c.args.place c.requires.place in
    let figures : HasFiguresOf c.args.next old.0.state = subst (λ (o : Option Flight). IfSome o (λ flight. HasFiguresOf c.args.next flight.state)) old.1 c.requires.figures in
    kept-is c.args.fleet.now c.in-Some.a.now c.args.key.now (Some c.args.place) c.args.next (record old.0 { state = c.args.next }) c.in_ok-row.row flights c.restate.new.self.flights (g.K.Keeper.tables c.args.keeper.now) (g.K.Keeper.tables c.commit.new.self) (record {
      sound = c.requires.sound;
      found = found;
      own = c.requires.key;
      at = c.requires.place;
      state = refl;
      task = task-stays c.args.fleet.now c.in-Some.a.now flights c.args.place old.0 c.args.next old.1 figures found;
      row_key = c.in_ok-row.ensures.key;
      row_bytes = c.in_ok-row.ensures.written;
      reads = c.in_ok-row.ensures.read_back c.args.fleet.now found ready.plan;
      put = c.restate.ensures old.0 old.1;
      holds = c.in_ok-commit.ensures.kept;
    })
