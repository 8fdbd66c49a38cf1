-- what a check answers of a good certificate
use Rattle.std.proofs.Common.{◌≡◌, ◌⊎◌, inl, inr, ◌≤◌, length, Option, Some, None, Ok, Err, refl, arith}
use Rattle.std.proofs.lemmas.List.{length-map}
use Rattle.std.specs.Prelude.{IfSome, IfErr, IsOk}
use Rattle.std.specs.declared.result.Result.{Result}
use Rattle.hold_limits.specs.BranchOrder.{ordered}
use Rattle.hold_limits.specs.Placement.{IsAdmissible}
use Rattle.hold_limits.specs.Problem.{Problem}
use Rattle.hold_limits.proofs.BranchOrderLemmas.{length-ordered}
use Rattle.price_trees.specs.Narrowing.{full}
use Rattle.tree_certificate.specs.Listed.{ListedTrees}
use Rattle.tree_checker.specs.GoodTrees.{IsGoodTrees}
use Rattle.tree_checker.specs.FirstReason.{IsRejected}
use Rattle.tree_checker.specs.Steps.{path_of, path_or_empty}
use Rattle.tree_checker.specs.declared.claim.Claimed.{Claimed}
use Rattle.tree_checker.specs.declared.rejection.TreeRejection.{TreeRejection}
use Rattle.tree_checker.specs.declared.rejection.TreeRejection.TheVariants.{NotAPlacement, NotAClique, WrongPrices, WrongOperation, WrongSibling, NoMemory}
use Rattle.tree_checker.proofs.OneReason.{rejected-not_good}

-- a claimed path has no more numbers than there are containers
pub claimed-short : (t : Problem) (claimed : Option Claimed) → IfSome (path_of claimed) (IsAdmissible t) → length (path_or_empty claimed) ≤ length (full t)
claimed-short t None admissible = omega arith
claimed-short t (Some found) admissible =
    let whole : length (full t) ≡ length (ordered t.items) = length-map (ordered t.items) _ in
    omega (arith, admissible.complete, length-ordered t.items, whole)

-- a good certificate is accepted, or there was no memory
pub accepted-from : {A : Type 0} (t : Problem) (c : ListedTrees) (result : Result A TreeRejection) → IfErr result (IsRejected t c) → IsGoodTrees t c → IsOk result ⊎ (result ≡ Err NoMemory)
accepted-from t c (Ok done) refused good = inl refl
accepted-from t c (Err NotAPlacement) refused good = absurd (rejected-not_good t c NotAPlacement refused (λ same. cc) good)
accepted-from t c (Err (NotAClique at)) refused good = absurd (rejected-not_good t c (NotAClique at) refused (λ same. cc) good)
accepted-from t c (Err (WrongPrices at)) refused good = absurd (rejected-not_good t c (WrongPrices at) refused (λ same. cc) good)
accepted-from t c (Err (WrongOperation number at)) refused good = absurd (rejected-not_good t c (WrongOperation number at) refused (λ same. cc) good)
accepted-from t c (Err (WrongSibling at)) refused good = absurd (rejected-not_good t c (WrongSibling at) refused (λ same. cc) good)
accepted-from t c (Err NoMemory) refused good = inr refl
