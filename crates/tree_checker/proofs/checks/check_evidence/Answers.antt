use Rattle.std.proofs.Common.{length, ap, arith}
use Rattle.tree_checker.proofs.Judging.{claimed-short}
use Rattle.tree_checker.proofs.checks.check_evidence.Goals as goal

pub check_siblings-requires-clause-short : goal.check_siblings-requires-clause-short
check_siblings-requires-clause-short c =
    omega (arith, claimed-short c.args.evidence.now.task.now c.args.claimed.now c.requires.admissible, ap length c.claimed_numbers.ensures.value, ap length c.full-full.ensures)
