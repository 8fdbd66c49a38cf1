use Rattle.std.proofs.Common.{◌∙◌, ◌++◌, ◌∷◌, [], map, ap, sym, arith}
use Rattle.std.proofs.lemmas.List.{length-append}
use Rattle.std.proofs.lemmas.List.Elements.{All-push}
use Rattle.text_lines.specs.Lines.{text_of}
use Rattle.text_lines.proofs.CutLemmas.{split_once_again, has_mark}
use Rattle.text_lines.proofs.SectionLemmas.{text_of-push, map-push}
use Rattle.text_lines.proofs.sections.read_section.Goals as goal

pub returns-in_default-2 : goal.returns-in_default-2
returns-in_default-2 g c =
    let inv = c.loop-line.invariant in
    let none = rw c.in_default-2.is at c.in_ok-entry.ensures.none in
    record {
      said = inv.said;
      kept = inv.kept;
      right = inv.right;
      read = inv.read;
      stops = λ front rest e clear x s is. none x s ((split_once_again 10 c.in-Some.line.now c.in-Some.after.rest.now front rest c.in-Some.ensures.found.1 clear (sym c.in-Some.ensures.found.0 ∙ e)).0 ∙ is);
      counted = inv.counted;
    }

pub loop-line-preserved : goal.loop-line-preserved
loop-line-preserved g c =
    let inv = c.loop-line.invariant in
    let line = g.R.LineReader.text c.args.reader.now in
    let keep = g.R.LineReader.keep c.args.reader.now in
    let says = rw c.in-Some-2.is at c.in_ok-entry.ensures.found in
    record {
      said = inv.said ++ says.said ∷ [];
      kept = c.in_ok-push.ensures.items ∙ (λ i. inv.kept i ++ says.kept i ∷ []) ∙ sym (map-push keep inv.said says.said);
      right = All-push (g.R.LineReader.spelled c.args.reader.now) inv.said says.said inv.right says.right;
      read = inv.read ∙ ap (λ t. text_of (map line inv.said) ++ t) (c.in-Some.ensures.found.0 ∙ ap (λ t. t ++ 10 ∷ c.in-Some.after.rest.now) says.is) ∙ sym (text_of-push line inv.said says.said c.in-Some.after.rest.now);
      counted = let more = length-append inv.said (says.said ∷ []) in let old = inv.counted in let now = c.in-Some.ensures.counted in omega (arith, more, old, now);
    }

pub returns : goal.returns
returns g c =
    let inv = c.loop-line.invariant in
    record {
      said = inv.said;
      kept = inv.kept;
      right = inv.right;
      read = inv.read;
      stops = λ front rest e clear x s is. has_mark 10 front rest (rw e at c.in_default.ensures.none);
      counted = inv.counted;
    }
