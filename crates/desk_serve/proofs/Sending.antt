-- The tools of a connection may go to another thread.
use denote.Param.Send.{IsSend, sendable}
use Rattle.std.proofs.Crossing.{crosses}
use Rattle.desk_http.below.matchit.proofs.tree.Node.TheLaws.TheKnot as knot
use Rattle.desk_http.specs.contracts.tools.Tools as tools

pub tools-send : IsSend tools.the_row
tools-send = search (crosses, knot.crosses, sendable) depth 60 fits 20000
