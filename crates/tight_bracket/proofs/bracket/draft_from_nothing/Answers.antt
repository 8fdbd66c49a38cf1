use Rattle.std.proofs.Common.{ap, ◌∙◌, subst}
use Rattle.hold_limits.specs.Layout.{Layout}
use Rattle.hold_limits.specs.Problem.{Problem}
use Rattle.tight_reach.specs.Candidates.{AreInfluences}
use Rattle.tight_reach.proofs.OrdinaryLemmas.{are-ordinary}
use Rattle.tight_bracket.proofs.bracket.draft_from_nothing.Goals as goal

pub new-requires : goal.new-requires
new-requires c =
    let t = c.args.partial.now.task in
    let are = subst (λ (h : Layout). AreInfluences h c.args.end c.influences_of-influences.result.items) (c.hold.ensures.value ∙ ap (λ (u : Problem). u.hold) c.task.ensures.value) c.influences_of-influences.ensures in
    rw (c.as_slice.ensures.value, c.as_slice-2.ensures.value) (are-ordinary t c.args.partial.now.prefix c.args.end c.args.candidates.now.items c.influences_of-influences.result.items c.task.ensures.lawful c.requires are)
