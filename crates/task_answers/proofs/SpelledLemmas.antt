-- What of a certificate of trees can be spelled.
use Rattle.std.proofs.Common.{◌≡◌, ◌≢◌, ℕ, ◌<◌, ◌^◌, true, false, List, length, sym, ◌∙◌}
use Rattle.std.proofs.lemmas.Bool.{true≢false}
use Rattle.std.proofs.lemmas.List.Elements.{All-map, All-weaker, filter_passes}
use Rattle.std.specs.Prelude.{All, AllPairs}
use Rattle.std.specs.List.{range_with_len}
use Rattle.hold_parts.specs.declared.parts.Position.{Position}
use Rattle.position_set.specs.declared.set.PositionSet.{PositionSet}
use Rattle.position_set.specs.Sets.{has, members}
use Rattle.text_lines.specs.Names.{IsNamed}
use Rattle.certificate.proofs.WriterLemmas.{first_named}
use Rattle.certificate.specs.CertificateText.{IsSpelledClaim}
use Rattle.tree_certificate.specs.declared.parts.PriceList.{PriceList}
use Rattle.tree_certificate.specs.declared.parts.Sibling.{Sibling}
use Rattle.tree_certificate.specs.declared.parts.TreeCertificate.{TreeCertificate}
use Rattle.tree_certificate.specs.Listed.{listed_prices, listed_sibling, listed_trees}
use Rattle.tree_certificate.specs.TreeText.{IsSpelled, IsSpelledOperation, IsSpelledPriceList, IsSpelledSet, IsSpelledSibling}

-- a set whose numbers are those of positions, which differ in their names
pub set-spelled : (ps : List Position) → AllPairs (λ (a b : Position). a.name ≢ b.name) ps → (set : PositionSet) → set.0 < 2 ^ 64
    → ((q : ℕ) → has set q ≡ true → q < length ps) → IsSpelledSet ps set
unfolding members
set-spelled ps differ set fits known = record {
  fits = fits;
  named = All-weaker (λ q. has set q ≡ true) (IsNamed ps) (λ q inside. first_named ps differ q (known q inside)) (members set) (filter_passes (has set) (range_with_len 0 64));
}

-- the set of no number
pub empty-spelled : (ps : List Position) (set : PositionSet) → set.0 < 2 ^ 64 → ((q : ℕ) → has set q ≡ false) → IsSpelledSet ps set
unfolding members
empty-spelled ps set fits none = record {
  fits = fits;
  named = All-weaker (λ q. has set q ≡ true) (IsNamed ps) (λ q inside. absurd (true≢false (sym inside ∙ none q))) (members set) (filter_passes (has set) (range_with_len 0 64));
}

-- a certificate each part of which can be spelled
pub whole-spelled : (ps : List Position) (c : TreeCertificate) → All (IsSpelledSet ps) c.cliques.items → All (λ (list : PriceList). IsSpelledPriceList ps (listed_prices list)) c.prices.items
    → All (IsSpelledOperation ps) c.root.items → All (λ (s : Sibling). IsSpelledSibling ps (listed_sibling s)) c.siblings.items → IsSpelledClaim ps c.claim
    → IsSpelled ps (listed_trees c)
whole-spelled ps c cliques prices root siblings claim = record {
  claim = claim;
  cliques = cliques;
  prices = All-map (IsSpelledPriceList ps) listed_prices c.prices.items prices;
  root = root;
  siblings = All-map (IsSpelledSibling ps) listed_sibling c.siblings.items siblings;
}
