use Rattle.std.proofs.Common.{subst, sym}
use Rattle.std.specs.Prelude.{IsUtf8}
use Rattle.desk_answers.proofs.KeyTexts.{text-key}
use Rattle.desk_answers.proofs.replies.key_text.Goals as goal

pub unreachable-requires : goal.unreachable-requires
unreachable-requires c =
    c.in_default.ensures.cases.0 (subst IsUtf8 (sym c.bytes.ensures.value) (text-key c.args.key.now c.bytes.ensures.spelled))
