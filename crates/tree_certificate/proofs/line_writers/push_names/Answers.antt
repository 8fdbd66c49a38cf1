use Rattle.std.proofs.Common.{◌++◌, ◌∷◌, [], ◌∙◌, ap, sym, refl, length, arith}
use Rattle.std.proofs.lemmas.List.{append-nil}
use Rattle.position_set.specs.Sets.{members}
use Rattle.text_lines.specs.WordRuns.{name_text}
use Rattle.tree_certificate.proofs.WriterSteps.{more_done, more_written, all_written}
use Rattle.tree_certificate.proofs.line_writers.push_names.Goals as goal

pub loop-number-init : goal.loop-number-init
loop-number-init c = record { done = []; split = refl; written = sym (append-nil c.args.out.now) }

pub loop-number-preserved : goal.loop-number-preserved
loop-number-preserved c =
    let inv = c.loop-number.invariant in
    let took = c.in-Some.ensures in
    record {
      done = inv.done ++ c.in-Some.number ∷ [];
      split = more_done inv.done c.in-Some.number (members c.take_first.new.self) inv.split took.1;
      written = more_written (name_text c.args.hold.now.positions) inv.done c.in-Some.number c.args.out.now c.loop-number.out _ inv.written (c.in_ok-word.ensures.added ∙ ap (λ name. c.loop-number.out ++ 32 ∷ name) c.name_at.ensures);
    }

pub loop-number-smaller : goal.loop-number-smaller
loop-number-smaller c = let took = ap length c.in-Some.ensures.1 in omega (arith, took)

pub returns : goal.returns
returns c =
    let inv = c.loop-number.invariant in
    all_written (name_text c.args.hold.now.positions) inv.done _ _ c.args.out.now c.loop-number.out inv.split c.in_default.ensures inv.written
