use Rattle.std.proofs.Common.{◌≡◌, ◌++◌, ◌∙◌, ℕ, List, sym}
use Rattle.text_lines.specs.Cuts.{IsCutAt}
use Rattle.text_lines.specs.Names.{IsNamed}
use Rattle.hold_limits.specs.Layout.{name_at}
use Rattle.text_lines.specs.WordRuns.{name_text}
use Rattle.text_lines.proofs.CutLemmas.{cut_once}
use Rattle.text_lines.proofs.NameLemmas.{none_if, name_at-avoids}
use Rattle.certificate.proofs.name_table.NameTable.next_number.Goals as goal

pub returns-in_err-number_of-clause-none : goal.returns-in_err-number_of-clause-none
returns-in_err-number_of-clause-none c =
    let ps = c.args.self.now.positions.now in
    let none : (q : ℕ) (rest : List ℕ) → IsNamed ps q → IsCutAt 32 rest → c.args.words.now ≡ name_text ps q ++ rest → ⊥ =
    λ q rest named cut e.
    let name : c.in_ok-after_prefix.field-0.now ≡ name_at ps q ++ rest = cc (c.in_ok-after_prefix.ensures.found, e) in
    let parts = cut_once 32 c.cut.result.0.now c.cut.result.1.now (name_at ps q) rest c.cut.ensures.front (name_at-avoids 32 ps q c.args.self.now.clear named.known) c.cut.ensures.rest cut (sym c.cut.ensures.whole ∙ name) in
    c.in_err-number_of.ensures.none q named parts.0 in
    none_if _ _ none
