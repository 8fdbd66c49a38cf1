use Rattle.std.proofs.Common.{◌≡◌, ◌++◌, ap, sym, ◌∙◌, arith, append_assoc}
use Rattle.std.specs.List.{flat_map}
use Rattle.std.proofs.lemmas.List.{append-nil}
use Rattle.ldm_cpm.specs.Messages.{load_elements}
use Rattle.ldm_cpm.specs.Sheets.{marked, load_in, loads_below}
use Rattle.ldm_cpm.proofs.CompartmentLaws.{loads-none, text-more}
use Rattle.ldm_cpm.proofs.compartments.push_loads.Goals as goal

pub loop-compartment-init : goal.loop-compartment-init
loop-compartment-init c =
    sym (ap (λ loads. c.args.out.now ++ marked (flat_map load_elements loads)) (loads-none c.args.places.now) ∙ append-nil c.args.out.now)

pub loop-compartment-preserved : goal.loop-compartment-preserved
loop-compartment-preserved c =
    let n = c.loop-compartment.compartment in
    let places = c.args.places.now in
    let old = c.args.out.now in
    let more = marked (flat_map load_elements (load_in n places)) in
    c.in_ok-push_load.ensures ∙ ap (λ t. t ++ more) c.loop-compartment.invariant
    ∙ append_assoc old (marked (flat_map load_elements (loads_below n places))) more
    ∙ ap (λ t. old ++ t) (sym (text-more n places))

pub returns : goal.returns
returns c =
    let all : c.loop-compartment.compartment ≡ 256 = omega arith in
    c.loop-compartment.invariant ∙ ap (λ n. c.args.out.now ++ marked (flat_map load_elements (loads_below n c.args.places.now))) all
