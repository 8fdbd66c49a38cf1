use Rattle.flight_row.proofs.PlanLemmas.{refused_unweighed, refused_weighed}
use Rattle.flight_row.proofs.loading.is_weighed_with.Goals as goal

pub returns-in-FuelOut : goal.returns-in-FuelOut
returns-in-FuelOut c = refused_unweighed c.args.fault c.in-FuelOut.is

pub returns-in-NoWindow : goal.returns-in-NoWindow
returns-in-NoWindow c = refused_weighed c.args.fault c.in-NoWindow.is
