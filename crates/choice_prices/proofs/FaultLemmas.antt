-- a list of prices has no fault exactly where it may stand in a certificate
use Rattle.std.proofs.Common.{ℕ, ◌≤◌, length}
use Rattle.hold_limits.specs.Layout.{Layout}
use Rattle.hold_limits.proofs.FaultLemmas.{Refuses, Guards, refuses-like, refuses-over, refuses-past, refuses-either, guards-if, guards-map, guards-or, guards-position}
use Rattle.tree_certificate.specs.declared.parts.Price.{Price}
use Rattle.tree_certificate.specs.Listed.{ListedPrices}
use Rattle.choice_prices.specs.declared.fault.PriceFault.TheVariants as fault
use Rattle.choice_prices.specs.Listing.{limited_resources, IsPriceAmong, ArePriced, is_price_wrong, has_too_many, price_fault}

refuses-price : (count : ℕ) (p : Price) → Refuses (is_price_wrong count p) (IsPriceAmong count p)
refuses-price count p = refuses-like (is_price_wrong count p)
    (λ both. record { exists = both.0; price = both.1 })
    (λ kept. (kept.exists, kept.price))
    (refuses-either _ _ (refuses-past count p.of) (refuses-over 10000000000000 p.price))

refuses-many : (list : ListedPrices) → Refuses (has_too_many list) ((length list.positions ≤ 64) × ((length list.limits ≤ 194) × (length list.cliques ≤ 256)))
refuses-many list = refuses-either _ _ (refuses-over 64 (length list.positions)) (refuses-either _ _ (refuses-over 194 (length list.limits)) (refuses-over 256 (length list.cliques)))

pub guards-list : (hold : Layout) (cliques : ℕ) (list : ListedPrices) → Guards (price_fault hold cliques list) (ArePriced hold cliques list)
guards-list hold cliques list =
    let parts = guards-or _ _ (guards-if (has_too_many list) fault.TooMany (refuses-many list))
    (guards-or _ _ (guards-map fault.Position _ (guards-position _ _ (refuses-price (length hold.positions)) list.positions))
    (guards-or _ _ (guards-map fault.Limit _ (guards-position _ _ (refuses-price (length (limited_resources hold))) list.limits))
    (guards-map fault.Clique _ (guards-position _ _ (refuses-price cliques) list.cliques)))) in (
      λ none. let kept = parts.0 none in record {
        few_positions = kept.0.0;
        few_limits = kept.0.1.0;
        few_cliques = kept.0.1.1;
        positions = kept.1.0;
        limits = kept.1.1.0;
        cliques = kept.1.1.1;
      },
      λ priced. parts.1 ((priced.few_positions, (priced.few_limits, priced.few_cliques)), (priced.positions, (priced.limits, priced.cliques))),
    )
