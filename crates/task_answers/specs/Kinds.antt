-- Which kind of certificate begins first in a text: one of cuts, or one of trees.
use Rattle.std.specs.Prelude.{◌≢◌, ℕ, List, All}
use Rattle.certificate.specs.Starts.{StartsAfter}
use Rattle.certificate.specs.CertificateText.{start_line as cuts_start}
use Rattle.tree_certificate.specs.TreeText.{start_line as trees_start}

-- the first line of the text that begins a certificate of either kind begins one of cuts: a line is the start of one of cuts, and
-- none before it is the start of one of trees
pub record BeginsWithCuts (text : List ℕ) : Type 0 where
  pub before : List (List ℕ)
  pub rest : List ℕ
  pub starts : StartsAfter cuts_start before text rest
  pub no_trees : All (λ line. line ≢ trees_start) before
