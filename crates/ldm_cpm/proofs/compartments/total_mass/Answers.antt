use Rattle.std.proofs.Common.{◌≡◌, ◌+◌, ap, ap₂, sym, ◌∙◌, arith}
use Rattle.ldm_cpm.specs.Messages.{total}
use Rattle.ldm_cpm.specs.Sheets.{loads_below}
use Rattle.ldm_cpm.proofs.CompartmentLaws.{loads-none, total-more}
use Rattle.ldm_cpm.proofs.compartments.total_mass.Goals as goal

pub loop-compartment-init : goal.loop-compartment-init
loop-compartment-init c = record { sum = sym (ap total (loads-none c.args.places.now)); few = omega arith }

pub loop-compartment-preserved : goal.loop-compartment-preserved
loop-compartment-preserved c = record {
  sum = ap₂ (λ a b. a + b) c.loop-compartment.invariant.sum c.mass_in-sum.ensures.value ∙ sym (total-more c.loop-compartment.compartment c.args.places.now);
  few = omega (arith, c.loop-compartment.invariant.few, c.mass_in-sum.ensures.bound);
}

pub returns : goal.returns
returns c =
    let all : c.loop-compartment.compartment ≡ 256 = omega arith in
    c.loop-compartment.invariant.sum ∙ ap (λ n. total (loads_below n c.args.places.now)) all
