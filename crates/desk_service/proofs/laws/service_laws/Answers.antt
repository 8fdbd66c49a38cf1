-- The laws stand in ServiceLaws, in PlansStay and in OneTask.
use Rattle.desk_service.proofs.ServiceLaws.{stays_service, two_at_most, fewer_without_room, fails_with_the_keeper}
use Rattle.desk_service.proofs.OneTask.{never_other_task}
use Rattle.desk_service.proofs.PlansStay.{installs_the_best}
use Rattle.desk_service.proofs.laws.service_laws.Goals as goal

pub returns : goal.returns
returns c = record {
  stays = stays_service;
  two_at_most = two_at_most;
  fewer = fewer_without_room;
  failures = fails_with_the_keeper;
  best = installs_the_best;
  same_task = never_other_task;
}
