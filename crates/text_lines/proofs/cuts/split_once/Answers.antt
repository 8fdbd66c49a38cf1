use Rattle.std.proofs.Common.{arith, ap, length}
use Rattle.text_lines.proofs.CutLemmas.{cut_at_mark, after_first}
use Rattle.text_lines.proofs.cuts.split_once.Goals as goal

pub returns-in-empty-clause-read_back : goal.returns-in-empty-clause-read_back
returns-in-empty-clause-read_back c =
    λ front rest avoids e. let same = cut_at_mark c.args.mark c.args.text.now c.cut.result.0.now c.cut.result.1.now front rest c.cut.ensures.whole c.cut.ensures.front c.cut.ensures.rest avoids e in absurd (omega (arith, ap length same.1))

pub returns-in-len1-up-clause-read_back : goal.returns-in-len1-up-clause-read_back
returns-in-len1-up-clause-read_back c =
    λ front rest avoids e. let same = cut_at_mark c.args.mark c.args.text.now c.cut.result.0.now c.cut.result.1.now front rest c.cut.ensures.whole c.cut.ensures.front c.cut.ensures.rest avoids e in (same.0, after_first c.args.mark c.cut.result.1.now rest same.1)
