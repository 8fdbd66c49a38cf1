use Rattle.stop_placer.proofs.WaitingLemmas.{first-band}
use Rattle.stop_placer.proofs.explorer.StopExplorerExplorerStopTask.laws.Goals as goal

pub returns : goal.returns
returns c =
    let t = c.args.self.now.stops.now in
    c.stop_world_laws.ensures.searchable t c.first.ensures.lawful (first-band t c.first.result.now c.first.ensures.value c.items-lawful.ensures.lawful)
