use Rattle.std.proofs.Common.{◌≡◌, List, map, ap, sym, ◌∙◌, subst, arith}
use Rattle.std.proofs.lemmas.List.Elements.{All-push}
use Rattle.std.specs.Prelude.{All}
use Rattle.std.specs.List.{range_with_len}
use Rattle.hold_limits.specs.Layout.{Layout}
use Rattle.tree_certificate.specs.Listed.{listed_prices}
use Rattle.choice_prices.specs.declared.tariff.Tariff.{Tariff}
use Rattle.choice_prices.specs.Listing.{prices_of}
use Rattle.choice_prices.specs.Tariffs.{tariff_at, IsBoundedTariff}
use Rattle.choice_prices.proofs.TariffLemmas.{tariffs-more}
use Rattle.choice_prices.proofs.tariff.tariffs_of.Goals as goal

pub loop-position-preserved : goal.loop-position-preserved
loop-position-preserved c =
    let hold = c.args.task.now.hold in
    let v = prices_of hold c.args.cliques.now (listed_prices c.args.list.now) in
    let here : c.tariff_on.result ≡ tariff_at hold v c.loop-position.position =
    c.tariff_on.ensures.value ∙ ap (λ (h : Layout). tariff_at h (prices_of h c.args.cliques.now (listed_prices c.args.list.now)) c.loop-position.position) c.hold-hold.ensures.value in
    record {
      count = omega (arith, c.push.ensures.len, c.loop-position.invariant.count);
      value = c.push.ensures.items ∙ tariffs-more hold v c.loop-position.position c.loop-position.tariffs.items c.tariff_on.result c.loop-position.invariant.value here;
      bounded = subst (λ (ts : List Tariff). All IsBoundedTariff ts) (sym c.push.ensures.items) (All-push IsBoundedTariff c.loop-position.tariffs.items c.tariff_on.result c.loop-position.invariant.bounded c.tariff_on.ensures.bounded);
    }

pub returns-clause-value : goal.returns-clause-value
returns-clause-value c =
    let hold = c.args.task.now.hold in
    let v = prices_of hold c.args.cliques.now (listed_prices c.args.list.now) in
    let all : c.loop-position.position ≡ 64 = omega (arith, c.loop-position-test.false) in
    subst (λ n. c.loop-position.tariffs.items ≡ map (tariff_at hold v) (range_with_len 0 n)) all c.loop-position.invariant.value
