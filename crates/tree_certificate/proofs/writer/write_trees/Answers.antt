use Rattle.std.proofs.Common.{◌++◌, ap, ◌∙◌}
use Rattle.tree_certificate.specs.Listed.{listed_trees}
use Rattle.tree_certificate.specs.TreeText.{tree_text}
use Rattle.tree_certificate.proofs.WriterSteps.{written_spells}
use Rattle.tree_certificate.proofs.writer.write_trees.Goals as goal

pub returns-clause-written : goal.returns-clause-written
returns-clause-written c = c.finish.ensures ∙ c.in_ok-push_trees.ensures ∙ ap (λ t. t ++ tree_text c.args.task.now.hold.positions (listed_trees c.args.certificate.now)) c.new-out.ensures

pub returns-clause-read_back : goal.returns-clause-read_back
returns-clause-read_back c =
    λ spelled before earlier.
    let ps = c.args.task.now.hold.positions in
    let x = listed_trees c.args.certificate.now in
    written_spells ps x spelled c.finish.result.items (c.finish.ensures ∙ c.in_ok-push_trees.ensures ∙ ap (λ t. t ++ tree_text ps x) c.new-out.ensures) before earlier
