use Rattle.std.proofs.Common.{◌≤◌, ◌∷◌, [], List, length, ap, sym, subst, arith}
use Rattle.std.proofs.lemmas.List.{length-append}
use Rattle.text_lines.proofs.PartSteps.{AreRead, none_read, one_more, kept_whole, none_at_line, none_at_end, ends_part, all_read, too_long}
use Rattle.text_lines.proofs.parts.read_up_to.Goals as goal

pub returns-in_default : goal.returns-in_default
returns-in_default g c =
    let text = g.R.LineReader.text c.args.reader.now in
    let spelled = g.R.LineReader.spelled c.args.reader.now in
    let inv = c.loop-alloc.invariant in
    ends_part text spelled (λ (xs : List g.row.R-Entry.Denot). length xs ≤ c.args.most) c.args.lines.now c.loop-alloc.lines c.loop-alloc.entries.items inv.read inv.few
    (none_at_end text spelled c.loop-alloc.lines c.in_default.ensures.none)

pub returns-in_default-2 : goal.returns-in_default-2
returns-in_default-2 g c =
    let text = g.R.LineReader.text c.args.reader.now in
    let spelled = g.R.LineReader.spelled c.args.reader.now in
    let inv = c.loop-alloc.invariant in
    let none = rw c.in_default-2.is at c.in_ok-entry.ensures.none in
    ends_part text spelled (λ (xs : List g.row.R-Entry.Denot). length xs ≤ c.args.most) c.args.lines.now c.loop-alloc.lines c.loop-alloc.entries.items inv.read inv.few
    (none_at_line text spelled c.loop-alloc.lines c.in-Some.line.now c.in-Some.after.rest.now c.in-Some.ensures.found.0 c.in-Some.ensures.found.1 none)

pub loop-alloc-preserved : goal.loop-alloc-preserved
loop-alloc-preserved g c =
    let text = g.R.LineReader.text c.args.reader.now in
    let spelled = g.R.LineReader.spelled c.args.reader.now in
    let says = rw c.in-Some-2.is at c.in_ok-entry.ensures.found in
    let said = kept_whole text spelled (g.R.LineReader.keep c.args.reader.now) c.in-Some.line.now c.in-Some-2.entry c.requires.whole says in
    let long = length-append c.loop-alloc.entries.items (c.in-Some-2.entry ∷ []) in
    let grew = c.in_ok-push.ensures.items in
    let now = ap length grew in
    let room = c.loop-alloc-test.true in
    let was = c.len.ensures in
    record {
      few = omega (arith, now, long, room, was);
      read = one_more text spelled c.args.lines.now c.loop-alloc.lines c.in-Some.after c.in-Some.line.now c.loop-alloc.entries.items c.push.new.self.items c.in-Some-2.entry
          c.loop-alloc.invariant.read said.0 said.1 c.in-Some.ensures.found.0 c.in-Some.ensures.counted grew;
    }

pub loop-alloc-init : goal.loop-alloc-init
loop-alloc-init g c =
    let text = g.R.LineReader.text c.args.reader.now in
    let spelled = g.R.LineReader.spelled c.args.reader.now in
    let none = c.new-entries.ensures.items in
    let long = ap length none in
    record {
      few = omega (arith, long);
      read = subst (AreRead text spelled c.args.lines.now c.args.lines.now) (sym none) (none_read text spelled c.args.lines.now);
    }

pub returns : goal.returns
returns g c =
    let full = c.loop-alloc-test.false in
    let was = c.len.ensures in
    all_read (g.R.LineReader.text c.args.reader.now) (g.R.LineReader.spelled c.args.reader.now) (λ (xs : List g.row.R-Entry.Denot). length xs ≤ c.args.most)
    c.args.lines.now c.loop-alloc.lines c.loop-alloc.entries.items c.loop-alloc.invariant.read c.loop-alloc.invariant.few
    (too_long c.args.most c.loop-alloc.entries.items (omega arith))
