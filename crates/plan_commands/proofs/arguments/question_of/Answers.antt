use Rattle.std.proofs.Common.{◌∷◌, ap, sym}
use Rattle.std.specs.Prelude.{codes}
use Rattle.plan_commands.specs.Arguments.{words_of}
use Rattle.plan_commands.specs.Arguments.AskFor.{transit_usually, transit_task}
use Rattle.plan_commands.proofs.ArgumentLemmas.{same_bytes}
use Rattle.plan_commands.proofs.arguments.question_of.Goals as goal

pub returns-then-eq-clause-some : goal.returns-then-eq-clause-some
returns-then-eq-clause-some c names stations =
    transit_usually names (ap (λ name. name ∷ words_of names) (same_bytes c.args.name.now (codes "transit") (sym c.if-eq.ensures))) stations

pub returns-then-eq-2-clause-some : goal.returns-then-eq-2-clause-some
returns-then-eq-2-clause-some c names stations =
    transit_task names (ap (λ name. name ∷ words_of names) (same_bytes c.args.name.now (codes "transittask") (sym c.if-eq-2.ensures))) stations
