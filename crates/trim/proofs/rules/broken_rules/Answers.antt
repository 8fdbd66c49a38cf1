use Rattle.trim.specs.Verdicts.{is_kept_by}
use Rattle.trim.proofs.RuleLemmas.{verdicts-tell}
use Rattle.trim.proofs.rules.broken_rules.Goals as goal

pub returns-clause-broken : goal.returns-clause-broken
returns-clause-broken c = record {
  keeps = is_kept_by c.verdicts_on.result;
  tells = verdicts-tell c.args.a.now c.args.f.now c.args.path.now.items c.in_ok-flight.flight c.verdicts_on.result c.requires.complete c.in_ok-flight.ensures.weighed c.verdicts_on.ensures;
  found_is = c.broken.ensures;
}
