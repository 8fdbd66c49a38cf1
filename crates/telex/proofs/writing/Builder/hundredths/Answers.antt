use Rattle.std.proofs.Common.{◌∙◌, ◌≡◌, ◌++◌, List, ℕ, sym, ap, arith, append_assoc}
use Rattle.std.specs.Prelude.{unsigned_abs}
use Rattle.std.specs.Int.{w128}
use Rattle.std.proofs.lemmas.Int.{to_z-of_z}
use Rattle.mass_units.specs.Spelling.{sign_text}
use Rattle.telex.proofs.NumberLaws.{hundredths-parts}
use Rattle.telex.proofs.writing.Builder.hundredths.Goals as goal

-- three pieces appended one after another
appended : (old start sign whole decimals first second last : List ℕ) → start ≡ old → first ≡ start ++ sign → second ≡ first ++ whole → last ≡ second ++ decimals → last ≡ old ++ (sign ++ (whole ++ decimals))
appended old start sign whole decimals first second last e p q r = r ∙ rw (q, p, e) (simp append_assoc)

pub returns-clause-added : goal.returns-clause-added
returns-clause-added c =
    let size = c.unsigned_abs-size.result in
    let same : size ≡ unsigned_abs c.args.n = c.unsigned_abs-size.ensures.value ∙ ap unsigned_abs (to_z-of_z w128 c.args.n c.ranges.n) in
    let parts = hundredths-parts c.args.n size same (omega (arith, c.unsigned_abs-size.ensures.bound)) in
    let minus = c.minus_of.ensures.value ∙ ap sign_text (to_z-of_z w128 c.args.n c.ranges.n) in
    let whole = c.as_bytes-whole.ensures.value ∙ c.format.ensures.text in
    appended c.args.self.now c.reserve.new.self.items c.minus_of.result.now c.as_bytes-whole.result.now c.two_decimals-decimals.result c.extend_from_slice.new.self.items c.extend_from_slice-2.new.self.items c.extend_from_slice-3.new.self.items
    (c.in_ok-reserve.ensures.items ∙ c.self.view_is) c.in_ok-extend_from_slice.ensures.items c.in_ok-extend_from_slice-2.ensures.items c.in_ok-extend_from_slice-3.ensures.items
    ∙ ap (λ t. c.args.self.now ++ t) (rw (minus, whole, c.two_decimals-decimals.ensures) (sym parts))
