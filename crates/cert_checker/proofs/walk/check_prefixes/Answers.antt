use Rattle.std.proofs.Common.{List, ℕ, [], sym, ◌∙◌, subst, arith}
use Rattle.std.proofs.lemmas.Bool.{false≢true}
use Rattle.std.proofs.lemmas.Option.{slice_get_within}
use Rattle.base_words.specs.Lists.{Extends}
use Rattle.certificate.specs.Good.{IsBefore, IsUncut}
use Rattle.cert_checker.specs.Evidence.{claim_in, cuts_in}
use Rattle.cert_checker.specs.Steps.{AreFirst}
use Rattle.cert_checker.proofs.CutOrder.{uncut-empty, met-empty}
use Rattle.cert_checker.proofs.WalkLemmas.{Pass-none, cut-not_uncut}
use Rattle.cert_checker.proofs.walk.check_prefixes.Goals as goal

pub returns-then-is_all_cut-clause-passed : goal.returns-then-is_all_cut-clause-passed
returns-then-is_all_cut-clause-passed g c =
    let cuts = cuts_in g.C.Cut.prefix_of c.args.evidence.now in
    let stands = c.is_all_cut.ensures.0 c.if-is_all_cut.true in (
      0,
      omega arith,
      Pass-none c.args.partial.now.task (claim_in c.args.evidence.now) cuts (Extends [])
          (λ p viable uncut extends. cut-not_uncut cuts 0 [] p (slice_get_within cuts 0 [] stands) stands extends uncut),
    )

pub pass-requires-clause-uncut : goal.pass-requires-clause-uncut
pass-requires-clause-uncut g c =
    let cuts = cuts_in g.C.Cut.prefix_of c.args.evidence.now in
    subst (IsUncut cuts) (sym c.requires.start)
    (uncut-empty cuts c.requires.rising (λ stands. false≢true (sym c.if-is_all_cut.false ∙ c.is_all_cut.ensures.1 stands)))

pub pass-requires-clause-met : goal.pass-requires-clause-met
pass-requires-clause-met g c =
    let cuts = cuts_in g.C.Cut.prefix_of c.args.evidence.now in
    subst (λ (p : List ℕ). AreFirst cuts 0 (λ cut. IsBefore cut p)) (sym c.requires.start) (met-empty cuts)
