use Rattle.std.proofs.Common.{rules, ◌≡◌, sym, ◌∙◌, subst}
use Rattle.std.proofs.lemmas.Iterator.Adapters.{YieldsList-from_vec}
use Rattle.std.proofs.lemmas.Iterator.Consumers.{YieldsList-turn}
use Rattle.std.proofs.lemmas.List.Elements.{All-push}
use Rattle.hold_limits.specs.Problem.{Problem}
use Rattle.hold_reach.specs.Reach.{IsViable}
use Rattle.certificate.specs.Evidence.{paths_of}
use Rattle.priced_certificate.specs.declared.parts.PricedCut.{PricedCut}
use Rattle.priced_placer.specs.PriceNear.{IsTightlyPriced}
use Rattle.priced_placer.proofs.PricedCuts.{none-viable, viable-next, prefixes-next}
use Rattle.priced_placer.proofs.priced_cuts.with_prices.Goals as goal

pub returns-in_default-clause-prefixes : goal.returns-in_default-clause-prefixes
returns-in_default-clause-prefixes c =
    rw c.new-cuts.ensures.items (sym (none-viable c.args.task.now (paths_of c.args.prefixes.items) (λ sound. let ok = c.in_default.ensures.sound.1 sound in cc) c.requires))

pub with_own_prices-requires : goal.with_own_prices-requires
with_own_prices-requires c =
    let turn = YieldsList-turn (YieldsList-from_vec {s = c.into_iter-prefix-iterator.result} c.args.prefixes.items (search rules) (search rules))
    c.loop-prefix.yielded c.loop-prefix.prefix-iterator c.loop-prefix.yielded_by c.next.result c.next.new.self c.in-Some.prefix c.in-Some.is c.next.ensures.steps in
    subst (λ (task : Problem). IsViable task c.in-Some.prefix.items) (sym c.loop-prefix.invariant.task)
    (viable-next c.args.task.now c.args.prefixes.items _ c.in-Some.prefix turn.0 turn.1 c.requires)

pub loop-prefix-preserved : goal.loop-prefix-preserved
loop-prefix-preserved c =
    let t : Problem = c.args.task.now in
    let cut : PricedCut = c.with_own_prices.result in
    let told = c.with_own_prices.ensures in
    let same : c.loop-prefix.partial.task ≡ t = c.loop-prefix.invariant.task in
    let priced : IsTightlyPriced t cut = subst (λ (task : Problem). IsTightlyPriced task cut) same told.priced in
    rw c.in_ok-push.ensures.items (record {
      task = told.task ∙ same;
      prefixes = prefixes-next c.loop-prefix.cuts.items cut c.loop-prefix.yielded c.in-Some.prefix c.loop-prefix.invariant.prefixes told.prefix;
      priced = All-push (IsTightlyPriced t) c.loop-prefix.cuts.items cut c.loop-prefix.invariant.priced priced;
    })
