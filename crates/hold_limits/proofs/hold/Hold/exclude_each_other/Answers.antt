use Rattle.std.proofs.Common.{◌≡◌, ◌∙◌, sym}
use Rattle.hold_limits.specs.Enumeration.{exclude}
use Rattle.hold_limits.proofs.EnumerationLemmas.{exclude-Decides}
use Rattle.hold_limits.proofs.hold.Hold.exclude_each_other.Goals as goal

pub returns-clause-meaning : goal.returns-clause-meaning
returns-clause-meaning c =
    let value : c.is_pair_among.result ≡ exclude c.args.self.now c.args.one c.args.other = rw c.excludes.ensures.value at c.is_pair_among.ensures in
    let decides = exclude-Decides c.args.self.now c.args.one c.args.other in
    (λ is. decides.0 (sym value ∙ is), λ pair. value ∙ decides.1 pair)
