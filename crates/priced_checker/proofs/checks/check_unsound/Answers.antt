use Rattle.std.proofs.Common.{◌≡◌, inl, length, sym, ◌∙◌, arith}
use Rattle.std.proofs.lemmas.Bool.{false≢true}
use Rattle.std.proofs.lemmas.Bool.Decides.{Decides-eqb}
use Rattle.cert_checker.specs.Evidence.{claim_in}
use Rattle.priced_checker.proofs.CutLemmas.{unsound-holds, unsound-fails}
use Rattle.priced_checker.proofs.checks.check_unsound.Goals as goal

pub returns-then-is_empty-clause-holds : goal.returns-then-is_empty-clause-holds
returns-then-is_empty-clause-holds c = λ t allowed unsound.
    let evidence = c.args.evidence.now in
    let empty : length evidence.cuts.now ≡ 0 = (Decides-eqb (length evidence.cuts.now) 0).0 (sym c.is_empty.ensures ∙ c.if-is_empty.true) in
    unsound-holds t (claim_in evidence) evidence.cuts.now allowed unsound empty

pub returns-else-is_empty-clause-fails : goal.returns-else-is_empty-clause-fails
returns-else-is_empty-clause-fails c = λ t allowed unsound.
    let evidence = c.args.evidence.now in
    let some : length evidence.cuts.now ≡ 0 → ⊥ = λ none. false≢true (sym c.if-is_empty.false ∙ c.is_empty.ensures ∙ (Decides-eqb (length evidence.cuts.now) 0).1 none) in
    inl (unsound-fails t (claim_in evidence) evidence.cuts.now unsound (omega (arith, some)))
