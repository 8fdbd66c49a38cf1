use Rattle.std.proofs.Common.{◌≡◌, ℕ, ◌++◌, ◌∷◌, List, ◌∙◌, ap, ap₂, codes}
use Rattle.std.proofs.lemmas.List.{append_assoc}
use Rattle.flight_state.specs.Spellings.{is_flight_key}
use Rattle.flight_state.proofs.KeyLemmas.{key_spelled}
use Rattle.flight_state.proofs.key.FlightKey.of.Goals as goal

pub invariant_of-result : goal.invariant_of-result
invariant_of-result c =
    let flight = c.args.leg.now.flight in
    let day = c.args.leg.now.day in
    let letters : c.append-3.new.letters.items ≡ flight ++ 45 ∷ day =
    c.append-3.ensures
    ∙ ap (λ (t : List ℕ). t ++ c.bytes-2.result.now) (c.append-2.ensures ∙ ap (λ (t : List ℕ). t ++ codes "-") (c.append.ensures ∙ ap (λ (t : List ℕ). t ++ c.bytes.result.now) c.new-letters.ensures))
    ∙ ap₂ (λ (x y : List ℕ). (x ++ codes "-") ++ y) c.bytes.ensures.value c.bytes-2.ensures.value
    ∙ append_assoc flight (codes "-") day in
    let whole : c.in-Some.letters ≡ c.append-3.new.letters.items = c.in-Some.ensures.some ∙ c.as_slice.ensures.value in
    ap is_flight_key (whole ∙ letters) ∙ key_spelled flight day c.bytes.ensures.spelled c.bytes-2.ensures.spelled
