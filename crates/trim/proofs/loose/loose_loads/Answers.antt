use Rattle.std.proofs.Common.{◌≡◌, ◌∙◌, ap, sym, arith, refl, true, map, subst, ◌≤◌, List}
use Rattle.std.proofs.lemmas.List.{take_all}
use Rattle.hold_parts.specs.declared.parts.Loose.{Loose}
use Rattle.trim.specs.Loads.{is_no_load, load_told, loose_mass}
use Rattle.trim.proofs.LooseLemmas.{first-here, first-none, loads-light, tested-none}
use Rattle.trim.proofs.loose.loose_loads.Goals as goal

pub returns-in-None-clause-refused : goal.returns-in-None-clause-refused
returns-in-None-clause-refused c =
    let figure = c.index-figures-at.result in
    let here : is_no_load c.args.a.now figure ≡ true = tested-none _ (load_told c.args.a.now figure) (sym c.in-None.is ∙ c.load_told.ensures) in
    let same = c.index-figures-at.is in
    (c.loop-at.at, refl, first-here (is_no_load c.args.a.now) c.args.figures.now c.loop-at.at figure c.loop-at-test.true (λ k h. c.loop-at.invariant.1 k h figure) (ap (is_no_load c.args.a.now) (sym same) ∙ here))

all : (c : goal.After-loop-at) → c.loop-at.loads.items ≡ map (load_told c.args.a.now) c.args.figures.now
all c = c.loop-at.invariant.0 ∙ ap (map (load_told c.args.a.now)) (take_all c.loop-at.at c.args.figures.now c.loop-at-test.false)

pub returns-clause-loads : goal.returns-clause-loads
returns-clause-loads c = all c

pub returns-clause-light : goal.returns-clause-light
returns-clause-light c =
    let P : List Loose → Type 0 = λ loads. loose_mass loads ≤ 1280000 in
    subst P (sym (all c)) (loads-light c.args.a.now c.args.figures.now c.requires (λ k within d. c.loop-at.invariant.1 k (omega arith) d))

pub returns-clause-all : goal.returns-clause-all
returns-clause-all c = first-none (is_no_load c.args.a.now) c.args.figures.now (λ k d within. c.loop-at.invariant.1 k (omega arith) d)
