use Rattle.std.proofs.Common.{rules}
use Rattle.serde_json.proofs.OnLiterals.{serde_json_on_literals}
use Rattle.desk_answers.proofs.errors.PlainError.body.Goals as goal

pub returns-in-NoRoute : goal.returns-in-NoRoute
unfolding serde_json_on_literals
returns-in-NoRoute c = search rules

pub returns-in-Method : goal.returns-in-Method
unfolding serde_json_on_literals
returns-in-Method c = search rules

pub returns-in-Edition : goal.returns-in-Edition
unfolding serde_json_on_literals
returns-in-Edition c = search rules

pub returns-in-Body : goal.returns-in-Body
unfolding serde_json_on_literals
returns-in-Body c = search rules

pub returns-in-Full : goal.returns-in-Full
unfolding serde_json_on_literals
returns-in-Full c = search rules

pub returns-in-Exists : goal.returns-in-Exists
unfolding serde_json_on_literals
returns-in-Exists c = search rules

pub returns-in-NoAircraft : goal.returns-in-NoAircraft
unfolding serde_json_on_literals
returns-in-NoAircraft c = search rules

pub returns-in-OfficeFull : goal.returns-in-OfficeFull
unfolding serde_json_on_literals
returns-in-OfficeFull c = search rules

pub returns-in-NoFlight : goal.returns-in-NoFlight
unfolding serde_json_on_literals
returns-in-NoFlight c = search rules

pub returns-in-Gone : goal.returns-in-Gone
unfolding serde_json_on_literals
returns-in-Gone c = search rules

pub returns-in-NotReleased : goal.returns-in-NotReleased
unfolding serde_json_on_literals
returns-in-NotReleased c = search rules

pub returns-in-NoPlan : goal.returns-in-NoPlan
unfolding serde_json_on_literals
returns-in-NoPlan c = search rules

pub returns-in-OtherTask : goal.returns-in-OtherTask
unfolding serde_json_on_literals
returns-in-OtherTask c = search rules

pub returns-in-Spent : goal.returns-in-Spent
unfolding serde_json_on_literals
returns-in-Spent c = search rules

pub returns-in-Keeper : goal.returns-in-Keeper
unfolding serde_json_on_literals
returns-in-Keeper c = search rules

pub returns-in-Memory : goal.returns-in-Memory
unfolding serde_json_on_literals
returns-in-Memory c = search rules
