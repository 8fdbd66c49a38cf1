use Rattle.std.proofs.Common.{◌≡◌, ◌<◌, Some, List, ℕ, [], length, get_or, sym, ◌∙◌, ap, arith}
use Rattle.std.proofs.lemmas.Bool.{false≢true}
use Rattle.std.proofs.lemmas.List.{length-map}
use Rattle.std.proofs.lemmas.Option.{slice_get-get_or}
use Rattle.std.specs.Prelude.{slice_get}
use Rattle.arrayvec.specs.ArrayVec.{ArrayVec}
use Rattle.certificate.specs.Evidence.{paths_of}
use Rattle.cert_checker.specs.Steps.{paths_in}
use Rattle.cert_checker.proofs.CutLemmas.{prefix-at, CutsHold-next}
use Rattle.cert_checker.proofs.StandardLemmas.{at_least-idle}
use Rattle.cert_checker.proofs.cuts.fault_of_cut.Goals as goal

-- the cut at the place, as a slice of it
cut-at : (paths : List (ArrayVec ℕ)) (at : ℕ) (path : ArrayVec ℕ) (cut : List ℕ) → at < length (paths_of paths) → path ≡ get_or paths at path → cut ≡ (get_or paths at path).items → slice_get (paths_of paths) at ≡ Some cut
cut-at paths at path cut within is same =
    prefix-at (λ (path : ArrayVec ℕ). path.items) paths at path (omega (arith, within, length-map paths (λ (path : ArrayVec ℕ). path.items))) is ∙ ap (λ xs. Some xs) (ap (λ (path : ArrayVec ℕ). path.items) is ∙ sym same)

pub returns-then-not-is_in_order-clause-fails : goal.returns-then-not-is_in_order-clause-fails
returns-then-not-is_in_order-clause-fails c =
    let cuts = paths_in c.args.evidence.now in
    let at = c.args.at in
    let stands = slice_get-get_or cuts at [] c.requires.within in (
      get_or cuts at [],
      record { stands = stands; before = c.requires.before },
      λ order. false≢true (sym c.if-not-is_in_order.true ∙ (c.is_in_order.ensures (get_or cuts at []) stands).1 order),
    )

pub returns-in_default-clause-fails : goal.returns-in_default-clause-fails
returns-in_default-clause-fails c =
    let cut = c.as_slice-cut.result.now in
    let stands = cut-at c.args.evidence.now.cuts.now c.args.at c.index-evidence-at.result cut c.requires.within c.index-evidence-at.is c.as_slice-cut.ensures.value in (
      cut,
      record { stands = stands; before = c.requires.before },
      (c.is_in_order.ensures cut stands).0 c.if-not-is_in_order.false,
      c.in_default.ensures.none,
    )

pub returns-then-not-is_at_least-clause-fails : goal.returns-then-not-is_at_least-clause-fails
returns-then-not-is_at_least-clause-fails c =
    let t = c.args.partial.now.task in
    let cut = c.as_slice-cut.result.now in
    let stands = cut-at c.args.evidence.now.cuts.now c.args.at c.index-evidence-at.result cut c.requires.within c.index-evidence-at.is c.as_slice-cut.ensures.value in
    let both = at_least-idle t c.args.evidence.now.standard cut c.in-Some.bound c.requires.measured c.in-Some.ensures.found.1 in (
      cut,
      record { stands = stands; before = c.requires.before },
      (c.is_in_order.ensures cut stands).0 c.if-not-is_in_order.false,
      c.in-Some.ensures.found.0,
      λ idle. false≢true (sym c.if-not-is_at_least.true ∙ c.is_at_least.ensures.1 (both.1 idle)),
    )

pub returns-clause-holds : goal.returns-clause-holds
returns-clause-holds c =
    let t = c.args.partial.now.task in
    let evidence = c.args.evidence.now in
    let cut = c.as_slice-cut.result.now in
    let stands = cut-at evidence.cuts.now c.args.at c.index-evidence-at.result cut c.requires.within c.index-evidence-at.is c.as_slice-cut.ensures.value in
    let both = at_least-idle t evidence.standard cut c.in-Some.bound c.requires.measured c.in-Some.ensures.found.1 in
    CutsHold-next t _ (paths_in evidence) c.args.at cut c.requires.within stands c.requires.before
    ((c.is_in_order.ensures cut stands).0 c.if-not-is_in_order.false)
    c.in-Some.ensures.found.0
    (both.0 (c.is_at_least.ensures.0 c.if-not-is_at_least.false))
