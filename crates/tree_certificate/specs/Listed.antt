-- a certificate of trees as definitions see it: lists in place of vectors
use Rattle.std.specs.Prelude.{ℕ, List, map}
use Rattle.position_set.specs.declared.set.PositionSet.{PositionSet}
use Rattle.certificate.specs.declared.parts.Claim.{Claim}
use Rattle.tree_certificate.specs.declared.parts.End.{End}
use Rattle.tree_certificate.specs.declared.parts.Price.{Price}
use Rattle.tree_certificate.specs.declared.parts.PriceList.{PriceList}
use Rattle.tree_certificate.specs.declared.parts.Operation.{Operation}
use Rattle.tree_certificate.specs.declared.parts.Sibling.{Sibling}
use Rattle.tree_certificate.specs.declared.parts.TreeCertificate.{TreeCertificate}

pub record ListedPrices : Type 0 where
  pub end : End
  pub positions : List Price
  pub limits : List Price
  pub cliques : List Price

pub record ListedSibling : Type 0 where
  pub rank : ℕ
  pub position : ℕ
  pub operations : List Operation

pub record ListedTrees : Type 0 where
  pub claim : Claim
  pub cliques : List PositionSet
  pub prices : List ListedPrices
  pub root : List Operation
  pub siblings : List ListedSibling

abbrev pub listed_prices : PriceList → ListedPrices
listed_prices list = record { end = list.end; positions = list.positions.items; limits = list.limits.items; cliques = list.cliques.items }

abbrev pub listed_sibling : Sibling → ListedSibling
listed_sibling s = record { rank = s.rank; position = s.position; operations = s.operations.items }

abbrev pub listed_trees : TreeCertificate → ListedTrees
listed_trees c = record {
  claim = c.claim;
  cliques = c.cliques.items;
  prices = map listed_prices c.prices.items;
  root = c.root.items;
  siblings = map listed_sibling c.siblings.items;
}
