use Rattle.std.proofs.Common.{ap, ◌∙◌, subst}
use Rattle.hold_limits.specs.Layout.{Layout}
use Rattle.hold_limits.specs.Problem.{Problem}
use Rattle.tight_reach.specs.Candidates.{AreInfluences}
use Rattle.tight_reach.proofs.OrdinaryLemmas.{are-ordinary}
use Rattle.tight_reach.proofs.ReachedLemmas.{reached-from}
use Rattle.tight_reach.proofs.ends.reach_of.Goals as goal

pub cheapest-assignment-requires : goal.cheapest-assignment-requires
cheapest-assignment-requires c =
    let t = c.args.partial.now.task in
    let are = subst (λ (h : Layout). AreInfluences h c.args.end c.influences_of-influences.result.items) (c.hold.ensures.value ∙ ap (λ (u : Problem). u.hold) c.task.ensures.value) c.influences_of-influences.ensures in
    record {
      ordinary = rw (c.as_slice.ensures.value, c.as_slice-2.ensures.value) (are-ordinary t c.args.partial.now.prefix c.args.end c.args.candidates.now.items c.influences_of-influences.result.items c.task.ensures.lawful c.requires are);
    }

pub returns : goal.returns
returns c =
    let t = c.args.partial.now.task in
    let are = subst (λ (h : Layout). AreInfluences h c.args.end c.influences_of-influences.result.items) (c.hold.ensures.value ∙ ap (λ (u : Problem). u.hold) c.task.ensures.value) c.influences_of-influences.ensures in
    let e = rw (c.as_slice.ensures.value, c.as_slice-2.ensures.value) at c.cheapest-assignment.ensures in
    let a = c.cheapest-assignment.result in
    reached-from t c.args.partial.now.prefix c.args.end c.args.candidates.now.items c.influences_of-influences.result.items a.items.items a.places.items a.way _
    c.requires are e.prices e.one_each e.bounded_items e.bounded_places e.way e.tight e.none e.beyond
    c.items_from.ensures c.places_from.ensures c.is_some.ensures
