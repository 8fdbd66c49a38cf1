use Rattle.std.proofs.Common.{◌≡◌, drop, ap, ◌∙◌}
use Rattle.std.specs.Result.{IfOk}
use Rattle.std.specs.Vec.Iter.{into_iter_items, into_iter_len}
use Rattle.std.proofs.lemmas.Iterator.{items_from_collect}
use Rattle.std.proofs.lemmas.Iterator.Adapters.{YieldsList-from_skip, YieldsList-from_vec}
use Rattle.plan_commands.proofs.first_words.after_name.Goals as goal

pub returns : goal.returns
returns c =
    let source = YieldsList-from_vec (into_iter_items c.args.all) (ap into_iter_items c.skip.ensures.source) (ap into_iter_len c.skip.ensures.source ∙ c.args.all.rest.ok.0) in
    let collected : IfOk c.collect.result (λ arguments. arguments.items ≡ drop 1 (into_iter_items c.args.all)) =
    items_from_collect _ c.collect.ensures.ran (YieldsList-from_skip 1 source c.skip.ensures.count) in
    rw c.in_ok-collect.was at collected
