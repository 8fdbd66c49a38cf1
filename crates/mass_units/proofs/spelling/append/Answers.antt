use Rattle.std.proofs.Common.{◌∙◌, ◌≡◌, ◌++◌, List, ℕ}
use Rattle.std.proofs.lemmas.List.{append_assoc}
use Rattle.std.specs.Fmt.{decimal}
use Rattle.mass_units.proofs.spelling.append.Goals as goal

-- three pieces appended one after another
appended : (old start sign whole decimals first second last : List ℕ) → start ≡ old → first ≡ start ++ sign → second ≡ first ++ whole → last ≡ second ++ decimals → last ≡ old ++ (sign ++ (whole ++ decimals))
appended old start sign whole decimals first second last e p q r = r ∙ rw (q, p, e) (simp append_assoc)

pub returns-clause-ok : goal.returns-clause-ok
returns-clause-ok c =
    let whole : c.as_bytes-whole.result.now ≡ decimal c.args.whole = c.as_bytes-whole.ensures.value ∙ c.format.ensures.text in
    let joined = appended c.args.out.now.items c.reserve.new.self.items c.args.sign.now c.as_bytes-whole.result.now c.args.decimals.now c.extend_from_slice.new.self.items c.extend_from_slice-2.new.self.items c.extend_from_slice-3.new.self.items c.in_ok-reserve.ensures.items c.in_ok-extend_from_slice.ensures.items c.in_ok-extend_from_slice-2.ensures.items c.in_ok-extend_from_slice-3.ensures.items in
    rw (← whole) joined
