use Rattle.std.proofs.Common.{[], ◌∷◌, ◌++◌, ap₂, sym, ◌∙◌}
use Rattle.std.proofs.lemmas.Bool.Decides.{Decides-eqb}
use Rattle.std.proofs.lemmas.Slice.Eq.{slice_eq-Decides}
use Rattle.cert_checker.proofs.WalkLemmas.{front-same}
use Rattle.cert_checker.proofs.walk.is_longer_by.Goals as goal

pub returns-then-last-number : goal.returns-then-last-number
returns-then-last-number c =
    let same = slice_eq-Decides Decides-eqb c.in-Some.rest.now c.args.front.now c.eq.result c.eq.ensures in
    let parts = c.in-Some.ensures.cases.0 in (
      λ yes. parts ∙ ap₂ (λ xs n. xs ++ n ∷ []) (same.0 yes) c.if-last-number.true,
      λ is. same.1 (front-same c.in-Some.rest.now c.args.front.now c.in-Some.last.now c.args.number (sym parts ∙ is)),
    )
