use denote.Param.Send.{sendable}
use Rattle.desk_serve.proofs.Sending.{tools-send}
use Rattle.desk_serve.proofs.bays.work_with_tools.Goals as goal

pub work_all-requires-send-T : goal.work_all-requires-send-T
work_all-requires-send-T g c κs within = search (tools-send, sendable) depth 60 fits 20000
