-- what a certificate of trees claims of its task
use Rattle.std.specs.Prelude.{IsSome, IsNone}
use Rattle.hold_limits.specs.Problem.{Problem}
use Rattle.certificate.specs.Evidence.{claimed}
use Rattle.tree_certificate.specs.declared.parts.TreeCertificate.{TreeCertificate}
use Rattle.tree_certificate.specs.Listed.{listed_trees}
use Rattle.tree_checker.specs.GoodTrees.{IsGoodTrees}

-- the certificate is good for the task
abbrev pub IsGoodFor : Problem → TreeCertificate → Type 0
IsGoodFor t c = IsGoodTrees t (listed_trees c)

-- the certificate claims that a path is the best
abbrev pub ClaimsPath : TreeCertificate → Type 0
ClaimsPath c = IsSome (claimed c.claim)

-- the certificate claims that no path is admissible
abbrev pub ClaimsNone : TreeCertificate → Type 0
ClaimsNone c = IsNone (claimed c.claim)
