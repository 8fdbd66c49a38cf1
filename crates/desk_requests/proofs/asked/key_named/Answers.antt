use Rattle.std.proofs.Common.{◌∙◌, ap}
use Rattle.aircraft_file.specs.Spellings.{spelled}
use Rattle.flight_state.specs.Spellings.{is_flight_key}
use Rattle.desk_routes.specs.Targets.{key_in}
use Rattle.desk_requests.proofs.KeyLemmas.{read-text, read-spelled}
use Rattle.desk_requests.proofs.asked.key_named.Goals as goal

pub returns-clause-named : goal.returns-clause-named
returns-clause-named c = let text = key_in c.args.target.now in read-text (is_flight_key text) text c.read.result (c.read.ensures ∙ ap (spelled is_flight_key) c.key_in.ensures)

pub returns-clause-some : goal.returns-clause-some
returns-clause-some c = let text = key_in c.args.target.now in read-spelled (is_flight_key text) text c.read.result (c.read.ensures ∙ ap (spelled is_flight_key) c.key_in.ensures)
