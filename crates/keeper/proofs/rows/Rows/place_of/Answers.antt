use Rattle.std.proofs.Common.{◌∙◌, subst, rules}
use Rattle.std.proofs.lemmas.Fn.{always_returns_same}
use Rattle.keeper.specs.Rows.{IsPlaceOf, key_order}
use Rattle.keeper.proofs.RowLemmas.{place-found}
use Rattle.keeper.proofs.rows.Rows.place_of.Goals as goal

pub returns-clause-place : goal.returns-clause-place
returns-clause-place c =
    let facts = c.binary_search_by.ensures in
    let is = facts.position (key_order c.args.key.now) (always_returns_same _ _ _ (λ a r f k. search rules)) in
    let rows = c.as_slice.ensures.value in
    subst (λ rows. IsPlaceOf c.args.key.now rows c.binary_search_by.result) (rows ∙ c.self.view_is)
    (place-found c.args.key.now c.as_slice.result.now c.binary_search_by.result (rw rows c.self.invariant) facts.bound is)
