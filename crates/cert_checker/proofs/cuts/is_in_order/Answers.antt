use Rattle.std.proofs.Common.{◌≡◌, ◌-◌, ◌<◌, ◌↔◌, Some, length, sym, ◌∙◌, subst, arith}
use Rattle.std.specs.Prelude.{slice_get, IsTrue}
use Rattle.std.proofs.lemmas.Option.{same_Some}
use Rattle.std.proofs.lemmas.List.{length-map}
use Rattle.certificate.specs.Good.{AreInOrder}
use Rattle.cert_checker.specs.Evidence.{cuts_in}
use Rattle.cert_checker.proofs.CutLemmas.{prefix-at, last-in_order}
use Rattle.cert_checker.proofs.cuts.is_in_order.Goals as goal

pub returns-else-at-eq0 : goal.returns-else-at-eq0
returns-else-at-eq0 g c = λ cut stands.
    let prefix_of = g.C.Cut.prefix_of in
    let given = c.args.evidence.now.cuts.now in
    let cuts = cuts_in prefix_of c.args.evidence.now in
    let at = c.args.at in
    let inside : at < length given = omega (arith, c.requires.within, length-map given prefix_of) in
    let earlier : slice_get cuts (at - 1) ≡ Some c.as_slice.result.now = subst (λ xs. slice_get cuts (at - 1) ≡ Some xs) (sym (c.as_slice.ensures.value ∙ c.prefix.ensures)) (prefix-at prefix_of given (at - 1) c.index-cuts-at.result (omega (arith, inside)) c.index-cuts-at.is) in
    let here : slice_get cuts at ≡ Some c.as_slice-else-at-eq0.result.now = subst (λ xs. slice_get cuts at ≡ Some xs) (sym (c.as_slice-else-at-eq0.ensures.value ∙ c.prefix-else-at-eq0.ensures)) (prefix-at prefix_of given at c.index-cuts-at-else-at-eq0.result inside c.index-cuts-at-else-at-eq0.is) in
    let same : c.as_slice-else-at-eq0.result.now ≡ cut = same_Some _ _ (sym here ∙ stands) in
    let told : IsTrue c.are_in_order.result ↔ AreInOrder c.as_slice.result.now cut = subst (λ xs. IsTrue c.are_in_order.result ↔ AreInOrder c.as_slice.result.now xs) same c.are_in_order.ensures in
    let all = last-in_order cuts at c.as_slice.result.now cut (omega (arith, c.if-at-eq0.false)) c.requires.within c.requires.rising earlier in
    (λ yes. all.0 (told.0 yes), λ order. told.1 (all.1 order))
