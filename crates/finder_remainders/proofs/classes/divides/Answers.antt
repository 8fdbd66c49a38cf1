use Rattle.std.proofs.Common.{◌%◌, subst, sym}
use Rattle.std.proofs.lemmas.Bool.Decides.{Decides-eqb}
use Rattle.std.proofs.lemmas.Nat.Gcd.{dvd-zero, dvd_of_mod-eq-zero, mod-eq-zero_of_dvd}
use Rattle.std.specs.Int.{◌∣◌}
use Rattle.finder_remainders.proofs.RemainderSteps.{zero-divides}
use Rattle.finder_remainders.proofs.classes.divides.Goals as goal

pub returns-then-divisor-eq0 : goal.returns-then-divisor-eq0
returns-then-divisor-eq0 c =
    let tells = Decides-eqb c.args.number 0 in (
      λ same. subst (λ n. c.args.divisor ∣ n) (sym (tells.0 same)) (dvd-zero c.args.divisor),
      λ divides. tells.1 (zero-divides c.args.number (subst (λ d. d ∣ c.args.number) c.if-divisor-eq0.true divides)),
    )

pub returns-else-divisor-eq0 : goal.returns-else-divisor-eq0
returns-else-divisor-eq0 c =
    let tells = Decides-eqb (c.args.number % c.args.divisor) 0 in
    (λ none. dvd_of_mod-eq-zero c.args.divisor (tells.0 none), λ divides. tells.1 (mod-eq-zero_of_dvd c.args.divisor divides))
