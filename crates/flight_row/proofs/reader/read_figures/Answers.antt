use Rattle.std.proofs.Common.{[], refl}
use Rattle.std.proofs.lemmas.Result.{err_from_is_err_and}
use Rattle.text_lines.specs.Grammar.Fails.{no_memory}
use Rattle.text_lines.proofs.Rests.{then, past_said}
use Rattle.text_lines.proofs.RunsOfLines.{past_run}
use Rattle.flight_row.proofs.RowParts.{figures_with, no_fuel, no_limits, no_figures, some_row, fuel_right, limits_right, figures_right, no_figures_right, in_head, fails_at_next, starts_with_dry, starts_with_fuel, starts_with_limits, starts_with_zones, starts_with_containers, starts_with_loads}
use Rattle.flight_row.proofs.ReadLemmas.{has_read}
use Rattle.flight_row.proofs.reader.read_figures.Goals as goal

pub returns-in_err-dry-clause-refused : goal.returns-in_err-dry-clause-refused
returns-in_err-dry-clause-refused c =
    let p = err_from_is_err_and c.from_residual.result c.from_residual.ensures.1 in
    rw (p.1, p.2) (λ version head h. fails_at_next (starts_with_dry version head) (version, some_row head no_figures) (in_head h no_figures_right) c.args.lines.now c.in_err-dry.field-0.0 c.in_err-dry.ensures.refused)

pub returns-in_err-fuel-clause-refused : goal.returns-in_err-fuel-clause-refused
returns-in_err-fuel-clause-refused c =
    let l1 = c.next_said.new.lines in
    let fault = c.in_err-fuel.field-0.0 in
    let base = figures_with c.in_ok-dry.dry no_fuel no_limits [] [] [] in
    let right = figures_right c.in_ok-dry.ensures.read.0 fuel_right limits_right in
    let p = err_from_is_err_and c.from_residual-in_err-fuel.result c.from_residual-in_err-fuel.ensures.1 in
    rw (p.1, p.2) (λ version head h.
    let to_fuel = past_said (starts_with_dry version head) c.args.lines.now l1 c.in_ok-dry.dry c.in_ok-dry.ensures.read c.in_ok-dry.ensures.counted in
    to_fuel.fails fault (fails_at_next (starts_with_fuel version head base) (version, some_row head base) (in_head h right, refl) l1 fault c.in_err-fuel.ensures.refused))

pub returns-in_err-regulated-clause-refused : goal.returns-in_err-regulated-clause-refused
returns-in_err-regulated-clause-refused c =
    let l1 = c.next_said.new.lines in
    let l2 = c.next_said-2.new.lines in
    let fault = c.in_err-regulated.field-0.0 in
    let base = figures_with c.in_ok-dry.dry c.in_ok-fuel.fuel no_limits [] [] [] in
    let right = figures_right c.in_ok-dry.ensures.read.0 c.in_ok-fuel.ensures.read.0 limits_right in
    let p = err_from_is_err_and c.from_residual-in_err-regulated.result c.from_residual-in_err-regulated.ensures.1 in
    rw (p.1, p.2) (λ version head h.
    let to_fuel = past_said (starts_with_dry version head) c.args.lines.now l1 c.in_ok-dry.dry c.in_ok-dry.ensures.read c.in_ok-dry.ensures.counted in
    let to_limits = then to_fuel (past_said (starts_with_fuel version head base) l1 l2 c.in_ok-fuel.fuel c.in_ok-fuel.ensures.read c.in_ok-fuel.ensures.counted) in
    to_limits.fails fault (fails_at_next (starts_with_limits version head base) (version, some_row head base) ((in_head h right, refl), refl) l2 fault c.in_err-regulated.ensures.refused))

pub returns-in_err-zones-clause-refused : goal.returns-in_err-zones-clause-refused
returns-in_err-zones-clause-refused c =
    let p = err_from_is_err_and c.from_residual-in_err-zones.result c.from_residual-in_err-zones.ensures.1 in
    rw (p.1, p.2) (λ version head h. no_memory)

pub returns-in_err-containers-clause-refused : goal.returns-in_err-containers-clause-refused
returns-in_err-containers-clause-refused c =
    let p = err_from_is_err_and c.from_residual-in_err-containers.result c.from_residual-in_err-containers.ensures.1 in
    rw (p.1, p.2) (λ version head h. no_memory)

pub returns-in_err-loose-clause-refused : goal.returns-in_err-loose-clause-refused
returns-in_err-loose-clause-refused c =
    let p = err_from_is_err_and c.from_residual-in_err-loose.result c.from_residual-in_err-loose.ensures.1 in
    rw (p.1, p.2) (λ version head h. no_memory)

pub returns-clause-spelled : goal.returns-clause-spelled
returns-clause-spelled c =
    let zones = c.in_ok-zones.ensures in
    let items = c.in_ok-containers.ensures in
    let loads = c.in_ok-loose.ensures in
    rw (c.from.ensures, c.from-2.ensures, c.from-3.ensures) (record {
      dry = c.in_ok-dry.ensures.read.0;
      fuel = c.in_ok-fuel.ensures.read.0;
      limits = c.in_ok-regulated.ensures.read.0;
      zones = zones.allowed;
      passengers = zones.right;
      few_containers = items.allowed;
      containers = items.right;
      few_loads = loads.allowed;
      loads = loads.right;
    })

pub returns-clause-read : goal.returns-clause-read
returns-clause-read c =
    let l1 = c.next_said.new.lines in
    let l2 = c.next_said-2.new.lines in
    let l3 = c.next_said-3.new.lines in
    let l4 = c.read_up_to.new.lines in
    let l5 = c.read_up_to-2.new.lines in
    let base = figures_with c.in_ok-dry.dry c.in_ok-fuel.fuel c.in_ok-regulated.regulated c.in_ok-zones.zones.items c.in_ok-containers.containers.items c.in_ok-loose.loose.items in
    rw (c.from.ensures, c.from-2.ensures, c.from-3.ensures) (λ version head.
    let to_fuel = past_said (starts_with_dry version head) c.args.lines.now l1 c.in_ok-dry.dry c.in_ok-dry.ensures.read c.in_ok-dry.ensures.counted in
    let to_limits = then to_fuel (past_said (starts_with_fuel version head base) l1 l2 c.in_ok-fuel.fuel c.in_ok-fuel.ensures.read c.in_ok-fuel.ensures.counted) in
    let to_zones = then to_limits (past_said (starts_with_limits version head base) l2 l3 c.in_ok-regulated.regulated c.in_ok-regulated.ensures.read c.in_ok-regulated.ensures.counted) in
    let to_containers = then to_zones (past_run (starts_with_zones version head base) l3 l4 c.in_ok-zones.ensures) in
    let to_loads = then to_containers (past_run (starts_with_containers version head base) l4 l5 c.in_ok-containers.ensures) in
    has_read (then to_loads (past_run (starts_with_loads version head base) l5 c.read_up_to-3.new.lines c.in_ok-loose.ensures)))
