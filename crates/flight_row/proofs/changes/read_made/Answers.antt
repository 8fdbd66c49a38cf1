use Rattle.std.proofs.Common.{◌<◌, ◌≤◌, ◌∙◌, length, sym, arith}
use Rattle.std.proofs.lemmas.Bool.{false≢true}
use Rattle.flight_state.specs.declared.state.Stage.TheVariants.{Released}
use Rattle.flight_row.specs.RowText.{change_line}
use Rattle.flight_row.specs.Spelled.{IsSpelledChange, AreSpelledChanges}
use Rattle.text_lines.proofs.PartSteps.{one_more, none_at_end, ends_part, other_line}
use Rattle.flight_row.proofs.PartSteps.{one_made, made_spelled, cannot_add}
use Rattle.flight_row.proofs.changes.read_made.Goals as goal

pub returns-in_default : goal.returns-in_default
returns-in_default c =
    let f = c.args.base.now in
    let start = c.args.lines.now in
    let now = c.loop-alloc.lines in
    let inv = c.loop-alloc.invariant in
    ends_part change_line IsSpelledChange (AreSpelledChanges f Released) start now c.loop-alloc.changes
    inv.read (made_spelled f c.loop-alloc.figures c.loop-alloc.changes inv.made inv.read.right) (none_at_end change_line IsSpelledChange now c.in_default.ensures.none)

pub returns-in_default-read_change : goal.returns-in_default-read_change
returns-in_default-read_change c =
    let f = c.args.base.now in
    let start = c.args.lines.now in
    let now = c.loop-alloc.lines in
    let inv = c.loop-alloc.invariant in
    other_line change_line IsSpelledChange (AreSpelledChanges f Released) start now c.loop-alloc.changes c.in-Some.line.now c.in-Some.after.rest.now
    inv.read (made_spelled f c.loop-alloc.figures c.loop-alloc.changes inv.made inv.read.right) c.in-Some.ensures.found.0 c.in-Some.ensures.found.1 (λ x right fits is. c.in_default-read_change.ensures.none x right is)

pub returns-then-not-can_add : goal.returns-then-not-can_add
returns-then-not-can_add c =
    let f = c.args.base.now in
    let start = c.args.lines.now in
    let now = c.loop-alloc.lines in
    let inv = c.loop-alloc.invariant in
    let found = c.in-Some-read_change.ensures.found in
    other_line change_line IsSpelledChange (AreSpelledChanges f Released) start now c.loop-alloc.changes c.in-Some.line.now c.in-Some.after.rest.now
    inv.read (made_spelled f c.loop-alloc.figures c.loop-alloc.changes inv.made inv.read.right) c.in-Some.ensures.found.0 c.in-Some.ensures.found.1
    (cannot_add f c.loop-alloc.figures c.loop-alloc.changes c.in-Some-read_change.change c.in-Some.line.now inv.made found.0 found.1 (sym c.can_add.ensures ∙ c.if-not-can_add.true))

pub loop-alloc-preserved : goal.loop-alloc-preserved
loop-alloc-preserved c =
    let f = c.args.base.now in
    let start = c.args.lines.now in
    let before = c.loop-alloc.lines in
    let inv = c.loop-alloc.invariant in
    let found = c.in-Some-read_change.ensures.found in
    let changes = c.loop-alloc.changes in
    let open_for : 10 ≤ length changes → ⊥ = λ full. false≢true (sym c.loop-alloc-test.true ∙ c.is_full.ensures.full.1 full) in
    let room : length changes < 10 = omega (arith, open_for) in
    record {
      made = one_made f c.loop-alloc.figures c.in_ok-figures-2.figures changes c.push.new.self c.in-Some-read_change.change inv.made room (sym c.can_add.ensures ∙ c.if-not-can_add.false) c.in_ok-figures-2.ensures c.in_ok-push.ensures.added;
      read = one_more change_line IsSpelledChange start before c.in-Some.after c.in-Some.line.now changes c.push.new.self c.in-Some-read_change.change
          inv.read found.0 found.1 c.in-Some.ensures.found.0 c.in-Some.ensures.counted c.in_ok-push.ensures.added;
    }
