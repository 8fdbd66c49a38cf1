use Rattle.std.proofs.Common.{◌∷◌, ◌++◌, [], ℕ, List, map, ap, subst, ◌∙◌, arith}
use Rattle.std.proofs.lemmas.List.{take_all}
use Rattle.std.proofs.lemmas.List.Elements.{All-map}
use Rattle.std.specs.List.{enumerate_from}
use Rattle.std.specs.Prelude.{All}
use Rattle.hold_parts.specs.declared.parts.Position.{Position}
use Rattle.telex.specs.Elements.{line_text}
use Rattle.text_lines.specs.Lines.{text_of}
use Rattle.text_lines.proofs.GrowingTexts.{lines_grow_of}
use Rattle.ldm_cpm.specs.Messages.{Placing, place_elements, IsSpelledPlacing}
use Rattle.transit_messages.specs.Entries.{placing_aboard}
use Rattle.transit_messages.proofs.Finding.{numbered-at, numbered-within, numbered-length}
use Rattle.transit_messages.proofs.Lines.{line_for, lines-of}
use Rattle.transit_messages.proofs.onward.Aboard.push_entries.Goals as goal

pub loop-number-preserved : goal.loop-number-preserved
loop-number-preserved c =
    let says = placing_aboard c.args.self.now in
    let IsRight : ℕ × Position → Type 0 = λ at. IsSpelledPlacing (says at) in
    let positions = c.args.positions.now in
    let number = c.loop-number.number in
    let position = c.index-positions-number.result in
    let old = c.loop-number.out in
    let grew = c.in_ok-push_entry.ensures ∙ ap (λ (p : Placing). old ++ (line_text (place_elements p) ++ 10 ∷ [])) c.entry_on.ensures.said in
    lines_grow_of IsRight (line_for says) (enumerate_from 0 positions) number (number, position) c.args.out.now old _
    (numbered-within positions number c.loop-number-test.true) (numbered-at positions number position c.loop-number-test.true c.index-positions-number.is)
    c.loop-number.invariant grew (subst IsSpelledPlacing c.entry_on.ensures.said c.entry_on.ensures.spelled)

pub returns-clause-written : goal.returns-clause-written
returns-clause-written c =
    let says = placing_aboard c.args.self.now in
    let numbered = enumerate_from 0 c.args.positions.now in
    c.loop-number.invariant.0
    ∙ ap (λ (ls : List (List ℕ)). c.args.out.now ++ text_of ls)
    (ap (map (line_for says)) (take_all c.loop-number.number numbered (omega (arith, c.loop-number-test.false, numbered-length c.args.positions.now))) ∙ lines-of says numbered)

pub returns-clause-spelled : goal.returns-clause-spelled
returns-clause-spelled c =
    let says = placing_aboard c.args.self.now in
    let numbered = enumerate_from 0 c.args.positions.now in
    let IsRight : ℕ × Position → Type 0 = λ at. IsSpelledPlacing (says at) in
    let all = subst (All IsRight) (take_all c.loop-number.number numbered (omega (arith, c.loop-number-test.false, numbered-length c.args.positions.now))) c.loop-number.invariant.1 in
    All-map IsSpelledPlacing says numbered all
