use Rattle.std.proofs.Common.{◌++◌, ◌∷◌, [], ◌∙◌, ap, sym, arith}
use Rattle.std.proofs.lemmas.List.{length-append}
use Rattle.std.proofs.lemmas.List.Elements.{All-push}
use Rattle.text_lines.specs.Lines.{text_of}
use Rattle.certificate.specs.Starts.{IsEarlier}
use Rattle.certificate.proofs.PathLemmas.{other_text}
use Rattle.text_lines.proofs.TextCuts.{joined}
use Rattle.certificate.proofs.reader.after_start.Goals as goal

pub loop-line-preserved : goal.loop-line-preserved
loop-line-preserved c =
    let inv = c.loop-line.invariant in
    let line = c.in-Some.line.now in
    let after = c.in-Some.after.rest.now in
    record {
      before = inv.before ++ line ∷ [];
      earlier = All-push (IsEarlier c.args.start.now) inv.before line inv.earlier (record { whole = c.in-Some.ensures.found.1; other = other_text line c.args.start.now c.eq.result c.if-eq.false c.eq.ensures });
      is = inv.is ∙ ap (λ t. text_of inv.before ++ t) c.in-Some.ensures.found.0 ∙ sym (joined inv.before line after);
      counted = let more = length-append inv.before (line ∷ []) in let old = inv.counted in let now = c.in-Some.ensures.counted in omega (arith, more, old, now);
    }
