use Rattle.std.proofs.Common.{◌≡◌, ◌∙◌, sym, arith}
use Rattle.flight_row.proofs.LineLemmas.{three_masses}
use Rattle.flight_row.proofs.single_lines.read_fuel.Goals as goal

pub returns-in_err-taxi-clause-none : goal.returns-in_err-taxi-clause-none
returns-in_err-taxi-clause-none c =
    rw c.from_residual.ensures (λ x s e.
    c.in_err-taxi.ensures.none (x.taxi.0, (x.take_off.0, x.trip.0)) (((omega arith), s.taxi), (((omega arith), s.take_off), ((omega arith), s.trip))) e)

pub returns-then-trip-take_off-clause-none : goal.returns-then-trip-take_off-clause-none
returns-then-trip-take_off-clause-none c =
    λ x s e.
    let same = three_masses.once (c.in_ok-taxi.taxi, (c.in_ok-taxi.take_off, c.in_ok-taxi.trip)) (x.taxi.0, (x.take_off.0, x.trip.0)) (tt, (tt, tt)) (tt, (tt, tt)) (sym c.in_ok-taxi.ensures.found.1 ∙ e) in
    let take_off : c.in_ok-taxi.take_off ≡ x.take_off.0 = λ i. (same i).1.0 in
    let trip : c.in_ok-taxi.trip ≡ x.trip.0 = λ i. (same i).1.1 in
    let on_board = s.on_board in
    absurd (omega arith)
