use Rattle.std.proofs.Common.{◌≡◌, List, All, subst}
use Rattle.hold_limits.specs.Layout.{Layout}
use Rattle.position_set.specs.declared.set.PositionSet.{PositionSet}
use Rattle.tree_certificate.specs.declared.parts.Operation.{Operation}
use Rattle.tree_certificate.specs.declared.parts.PriceList.{PriceList}
use Rattle.tree_certificate.specs.declared.parts.Sibling.{Sibling}
use Rattle.tree_certificate.specs.Listed.{listed_prices, listed_sibling}
use Rattle.tree_certificate.specs.TreeText.{IsSpelledOperation, IsSpelledPriceList, IsSpelledSet, IsSpelledSibling}
use Rattle.task_answers.proofs.SpelledLemmas.{whole-spelled}
use Rattle.task_answers.proofs.spelled.can_be_spelled.Goals as goal

AreSets : Layout → List PositionSet → Type 0
AreSets hold sets = All (IsSpelledSet hold.positions) sets

AreLists : Layout → List PriceList → Type 0
AreLists hold lists = All (λ (list : PriceList). IsSpelledPriceList hold.positions (listed_prices list)) lists

AreOperations : Layout → List Operation → Type 0
AreOperations hold operations = All (IsSpelledOperation hold.positions) operations

AreSiblings : Layout → List Sibling → Type 0
AreSiblings hold siblings = All (λ (s : Sibling). IsSpelledSibling hold.positions (listed_sibling s)) siblings

-- what was found of a hold and a slice is so of the task's hold and the certificate's list
there : {X : Type 0} (P : Layout → List X → Type 0) (hold of_task : Layout) (slice of_certificate : List X) → hold ≡ of_task → slice ≡ of_certificate → P hold slice
    → P of_task of_certificate
there {X} P hold of_task slice of_certificate same list found =
    subst (λ (h : Layout). P h of_certificate) same (subst (λ (xs : List X). P hold xs) list found)

pub returns : goal.returns
unfolding AreSets AreLists AreOperations AreSiblings
returns c = λ are claim.
    let t = c.args.task.now in
    let trees = c.args.certificate.now in
    let hold = c.hold-hold.result.now in
    let same = c.hold-hold.ensures.value in
    whole-spelled t.hold.positions trees
    (there AreSets hold t.hold _ trees.cliques.items same c.as_slice.ensures.value (c.are_spelled_sets.ensures c.if-not-are_spelled_sets.false))
    (there AreLists hold t.hold _ trees.prices.items same c.as_slice-2.ensures.value (c.are_spelled_lists.ensures c.if-not-are_spelled_lists.false))
    (there AreOperations hold t.hold _ trees.root.items same c.as_slice-3.ensures.value (c.are_spelled_operations.ensures c.if-not-are_spelled_operations.false))
    (there AreSiblings hold t.hold _ trees.siblings.items same c.as_slice-4.ensures.value (c.are_spelled_siblings.ensures are))
    claim
