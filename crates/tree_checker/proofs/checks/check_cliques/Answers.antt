use Rattle.std.proofs.Common.{get_or, refl, sym, ◌∙◌, subst, arith}
use Rattle.std.proofs.lemmas.Bool.{false≢true}
use Rattle.std.proofs.lemmas.List.{take_all}
use Rattle.std.proofs.lemmas.Option.{slice_get-get_or}
use Rattle.std.specs.Prelude.{All}
use Rattle.position_set.specs.declared.set.PositionSet.{PositionSet}
use Rattle.choice_prices.specs.Listing.{IsClique}
use Rattle.tree_checker.proofs.FirstPlaces.{and-at, All-more}
use Rattle.tree_checker.proofs.checks.check_cliques.Goals as goal

pub returns-then-not-is_clique-clause-fails : goal.returns-then-not-is_clique-clause-fails
returns-then-not-is_clique-clause-fails c =
    let cliques = c.args.cliques.now in
    let at = c.loop-at.at in
    let none : PositionSet = record { 0 = 0 } in
    let there = slice_get-get_or cliques at none (omega (arith, c.loop-at-test.true)) in (
      at,
      refl,
      record {
        before = c.loop-at.invariant;
        fails = and-at PositionSet cliques at (get_or cliques at none) (λ set. IsClique c.args.task.now set → ⊥) there
            (λ is. false≢true (sym c.if-not-is_clique.true ∙ c.is_clique.ensures.meaning.1 is));
      },
    )

pub loop-at-preserved : goal.loop-at-preserved
loop-at-preserved c =
    let cliques = c.args.cliques.now in
    let at = c.loop-at.at in
    let none : PositionSet = record { 0 = 0 } in
    let there = slice_get-get_or cliques at none (omega (arith, c.loop-at-test.true)) in
    All-more PositionSet (IsClique c.args.task.now) cliques at (get_or cliques at none) there c.loop-at.invariant (c.is_clique.ensures.meaning.0 c.if-not-is_clique.false)

pub returns-clause-hold : goal.returns-clause-hold
returns-clause-hold c = subst (All (IsClique c.args.task.now)) (take_all c.loop-at.at c.args.cliques.now (omega (arith, c.loop-at-test.false))) c.loop-at.invariant
