use Rattle.std.proofs.Common.{◌≡◌, Option, Some, None, List, ℕ, refl}
use Rattle.std.specs.Prelude.{IsNone}
use Rattle.certificate.specs.Evidence.{claimed}
use Rattle.tree_certificate.specs.Listed.{listed_trees}
use Rattle.tree_checker.proofs.GoodLaws.{good-best, good-none}
use Rattle.tree_checker.proofs.proven.TreeMethodMethod.claim.Goals as goal

is-none : (claim : Option (List ℕ)) → IsNone claim → claim ≡ None
is-none None none = refl
is-none (Some path) none = absurd (cc)

pub returns-clause-best : goal.returns-clause-best
returns-clause-best c t path lawful good is = good-best t (listed_trees c.args.certificate.now) path lawful is good

pub returns-clause-none : goal.returns-clause-none
returns-clause-none c t good none = good-none t (listed_trees c.args.certificate.now)
    (is-none (claimed c.args.certificate.now.claim) none) good
