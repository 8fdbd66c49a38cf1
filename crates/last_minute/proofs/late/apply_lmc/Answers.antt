use Rattle.std.proofs.Common.{◌≡◌, true, ap, sym, ◌∙◌, refl}
use Rattle.std.proofs.lemmas.Result.{err_from_is_err_and}
use Rattle.trim.specs.declared.figures.Figures.{Figures}
use Rattle.last_minute.specs.LateChange.{is_there, IsAllowed}
use Rattle.last_minute.proofs.FitLemmas.{cabin-fits_told}
use Rattle.last_minute.proofs.LateLemmas.{can-add_there, has-room, are-next, next-keeps, next-within, next-weighed, next-complete, base-zones, next-zones, has-cabin, refused-cabin, AreTold, refused-tolerance, tolerated, refused-rules, allowed, out-of-memory, only-memory, where-made}
use Rattle.last_minute.proofs.late.apply_lmc.Goals as goal

pub effective-requires : goal.effective-requires
effective-requires c =
    c.requires.limits.changes

pub with_change-requires : goal.with_change-requires
with_change-requires c =
    let there : is_there c.args.a.now c.in_ok-figures.figures c.args.l.now ≡ true = sym c.is_there.ensures ∙ c.if-not-is_there.false in
    can-add_there c.args.a.now c.in_ok-figures.figures c.args.l.now there

pub returns-then-not-is_there-clause-refused : goal.returns-then-not-is_there-clause-refused
returns-then-not-is_there-clause-refused c = (
  has-room _ _ c.is_full.ensures.full c.if-is_full.false,
  ap (λ (f : Figures). is_there c.args.a.now f c.args.l.now) (sym c.in_ok-figures.ensures) ∙ sym c.is_there.ensures ∙ c.if-not-is_there.true,
)

pub returns-in_err-figures-clause-refused : goal.returns-in_err-figures-clause-refused
returns-in_err-figures-clause-refused c =
    out-of-memory c.args.a.now c.args.s.now c.args.l.now c.from_residual.result c.from_residual.ensures.1

pub returns-in_err-figures-2-clause-refused : goal.returns-in_err-figures-2-clause-refused
returns-in_err-figures-2-clause-refused c =
    out-of-memory c.args.a.now c.args.s.now c.args.l.now c.from_residual-in_err-figures-2.result c.from_residual-in_err-figures-2.ensures.1

pub returns-in_err-weigh_unplaced-clause-refused : goal.returns-in_err-weigh_unplaced-clause-refused
returns-in_err-weigh_unplaced-clause-refused c =
    out-of-memory c.args.a.now c.args.s.now c.args.l.now c.from_residual-in_err-weigh_unplaced.result c.from_residual-in_err-weigh_unplaced.ensures.1

pub returns-in_err-weigh_unplaced-2-clause-refused : goal.returns-in_err-weigh_unplaced-2-clause-refused
returns-in_err-weigh_unplaced-2-clause-refused c =
    out-of-memory c.args.a.now c.args.s.now c.args.l.now c.from_residual-in_err-weigh_unplaced-2.result c.from_residual-in_err-weigh_unplaced-2.ensures.1

pub cabin_load-requires : goal.cabin_load-requires
cabin_load-requires c =
    let next = are-next c.args.a.now c.args.s.now c.args.l.now c.in_ok-figures.figures c.in_ok-figures-2.figures _ _ c.is_full.ensures.full c.if-is_full.false c.in_ok-figures.ensures c.is_there.ensures c.if-not-is_there.false c.in_ok-figures-2.ensures in
    let keeps = next-keeps c.args.a.now c.args.s.now c.args.l.now c.in_ok-figures-2.figures c.requires next in
    cabin-fits_told c.args.a.now c.in_ok-figures-2.figures c.zones.result.now c.averages.result.now c.zones.ensures.lawful keeps c.zones.ensures.value c.averages.ensures.value

pub returns-in-Err-clause-refused : goal.returns-in-Err-clause-refused
returns-in-Err-clause-refused c =
    let next = are-next c.args.a.now c.args.s.now c.args.l.now c.in_ok-figures.figures c.in_ok-figures-2.figures _ _ c.is_full.ensures.full c.if-is_full.false c.in_ok-figures.ensures c.is_there.ensures c.if-not-is_there.false c.in_ok-figures-2.ensures in
    refused-cabin c.args.a.now c.args.s.now c.args.l.now c.in_ok-figures-2.figures c.zones.result.now c.in-Err.fault next c.zones.ensures.value ((c.in-Err.ensures.refused c.in-Err.fault).0 refl)

pub weigh_unplaced-requires-clause-zones : goal.weigh_unplaced-requires-clause-zones
weigh_unplaced-requires-clause-zones c =
    base-zones c.args.a.now c.args.s.now c.zones.ensures.lawful c.requires

pub weigh_unplaced-requires-clause-passengers : goal.weigh_unplaced-requires-clause-passengers
weigh_unplaced-requires-clause-passengers c =
    c.requires.limits.figures.passengers

pub weigh_unplaced-requires-clause-few : goal.weigh_unplaced-requires-clause-few
weigh_unplaced-requires-clause-few c =
    c.requires.limits.figures.loose

pub weigh_unplaced-requires-clause-loose : goal.weigh_unplaced-requires-clause-loose
weigh_unplaced-requires-clause-loose c =
    c.requires.limits.loose

pub weigh_unplaced-requires-2-clause-zones : goal.weigh_unplaced-requires-2-clause-zones
weigh_unplaced-requires-2-clause-zones c =
    let cabin = has-cabin c.args.a.now c.in_ok-figures-2.figures c.zones.result.now c.cabin_load.result c.zones.ensures.value c.cabin_load.ensures.refused c.in_default.not-Err in
    next-zones c.args.a.now c.in_ok-figures-2.figures c.zones.ensures.lawful cabin

pub weigh_unplaced-requires-2-clause-passengers : goal.weigh_unplaced-requires-2-clause-passengers
weigh_unplaced-requires-2-clause-passengers c =
    let next = are-next c.args.a.now c.args.s.now c.args.l.now c.in_ok-figures.figures c.in_ok-figures-2.figures _ _ c.is_full.ensures.full c.if-is_full.false c.in_ok-figures.ensures c.is_there.ensures c.if-not-is_there.false c.in_ok-figures-2.ensures in
    let within = next-within c.args.a.now c.args.s.now c.args.l.now c.in_ok-figures-2.figures c.requires next in
    within.passengers

pub weigh_unplaced-requires-2-clause-few : goal.weigh_unplaced-requires-2-clause-few
weigh_unplaced-requires-2-clause-few c =
    let next = are-next c.args.a.now c.args.s.now c.args.l.now c.in_ok-figures.figures c.in_ok-figures-2.figures _ _ c.is_full.ensures.full c.if-is_full.false c.in_ok-figures.ensures c.is_there.ensures c.if-not-is_there.false c.in_ok-figures-2.ensures in
    let within = next-within c.args.a.now c.args.s.now c.args.l.now c.in_ok-figures-2.figures c.requires next in
    within.few

pub weigh_unplaced-requires-2-clause-loose : goal.weigh_unplaced-requires-2-clause-loose
weigh_unplaced-requires-2-clause-loose c =
    let next = are-next c.args.a.now c.args.s.now c.args.l.now c.in_ok-figures.figures c.in_ok-figures-2.figures _ _ c.is_full.ensures.full c.if-is_full.false c.in_ok-figures.ensures c.is_there.ensures c.if-not-is_there.false c.in_ok-figures-2.ensures in
    let within = next-within c.args.a.now c.args.s.now c.args.l.now c.in_ok-figures-2.figures c.requires next in
    within.loose

pub keep_tolerances-requires-clause-base : goal.keep_tolerances-requires-clause-base
keep_tolerances-requires-clause-base c =
    (c.in_ok-weigh_unplaced.ensures.light, c.in_ok-weigh_unplaced.ensures.near)

pub keep_tolerances-requires-clause-next : goal.keep_tolerances-requires-clause-next
keep_tolerances-requires-clause-next c =
    (c.in_ok-weigh_unplaced-2.ensures.light, c.in_ok-weigh_unplaced-2.ensures.near)

pub returns-in_err-keep_tolerances-clause-refused : goal.returns-in_err-keep_tolerances-clause-refused
returns-in_err-keep_tolerances-clause-refused c =
    let next = are-next c.args.a.now c.args.s.now c.args.l.now c.in_ok-figures.figures c.in_ok-figures-2.figures _ _ c.is_full.ensures.full c.if-is_full.false c.in_ok-figures.ensures c.is_there.ensures c.if-not-is_there.false c.in_ok-figures-2.ensures in
    let cabin = has-cabin c.args.a.now c.in_ok-figures-2.figures c.zones.result.now c.cabin_load.result c.zones.ensures.value c.cabin_load.ensures.refused c.in_default.not-Err in
    let told : AreTold c.args.a.now c.args.s.now c.in_ok-figures-2.figures c.in_ok-weigh_unplaced.field-0.mass c.in_ok-weigh_unplaced-2.field-0.mass c.in_ok-weigh_unplaced.field-0.index c.in_ok-weigh_unplaced-2.field-0.index = record {
      base_mass_is = c.in_ok-weigh_unplaced.ensures.mass;
      next_mass_is = c.in_ok-weigh_unplaced-2.ensures.mass;
      base_index_is = c.in_ok-weigh_unplaced.ensures.index;
      next_index_is = c.in_ok-weigh_unplaced-2.ensures.index;
    } in
    let p = err_from_is_err_and c.from_residual-in_err-keep_tolerances.result c.from_residual-in_err-keep_tolerances.ensures.1 in
    let refused = refused-tolerance c.args.a.now c.args.s.now c.args.l.now c.in_ok-figures-2.figures c.in_ok-weigh_unplaced.field-0.mass c.in_ok-weigh_unplaced-2.field-0.mass c.in_ok-weigh_unplaced.field-0.index c.in_ok-weigh_unplaced-2.field-0.index c.in_err-keep_tolerances.field-0.0 next cabin told c.in_err-keep_tolerances.ensures.refused in
    rw (p.1, p.2) refused

pub rules_broken-rules-requires-clause-limits : goal.rules_broken-rules-requires-clause-limits
rules_broken-rules-requires-clause-limits c =
    let next = are-next c.args.a.now c.args.s.now c.args.l.now c.in_ok-figures.figures c.in_ok-figures-2.figures _ _ c.is_full.ensures.full c.if-is_full.false c.in_ok-figures.ensures c.is_there.ensures c.if-not-is_there.false c.in_ok-figures-2.ensures in
    next-keeps c.args.a.now c.args.s.now c.args.l.now c.in_ok-figures-2.figures c.requires next

pub rules_broken-rules-requires-clause-plan : goal.rules_broken-rules-requires-clause-plan
rules_broken-rules-requires-clause-plan c =
    c.requires.plan

pub rules_broken-rules-requires-clause-complete : goal.rules_broken-rules-requires-clause-complete
rules_broken-rules-requires-clause-complete c =
    let next = are-next c.args.a.now c.args.s.now c.args.l.now c.in_ok-figures.figures c.in_ok-figures-2.figures _ _ c.is_full.ensures.full c.if-is_full.false c.in_ok-figures.ensures c.is_there.ensures c.if-not-is_there.false c.in_ok-figures-2.ensures in
    next-complete c.args.a.now c.args.s.now c.args.l.now c.in_ok-figures-2.figures c.requires next

pub rules_broken-rules-requires-clause-weighed : goal.rules_broken-rules-requires-clause-weighed
rules_broken-rules-requires-clause-weighed c =
    let next = are-next c.args.a.now c.args.s.now c.args.l.now c.in_ok-figures.figures c.in_ok-figures-2.figures _ _ c.is_full.ensures.full c.if-is_full.false c.in_ok-figures.ensures c.is_there.ensures c.if-not-is_there.false c.in_ok-figures-2.ensures in
    let cabin = has-cabin c.args.a.now c.in_ok-figures-2.figures c.zones.result.now c.cabin_load.result c.zones.ensures.value c.cabin_load.ensures.refused c.in_default.not-Err in
    next-weighed c.args.a.now c.args.s.now c.args.l.now c.in_ok-figures-2.figures c.requires next cabin

pub returns-then-not-is_empty-clause-refused : goal.returns-then-not-is_empty-clause-refused
returns-then-not-is_empty-clause-refused c =
    let next = are-next c.args.a.now c.args.s.now c.args.l.now c.in_ok-figures.figures c.in_ok-figures-2.figures _ _ c.is_full.ensures.full c.if-is_full.false c.in_ok-figures.ensures c.is_there.ensures c.if-not-is_there.false c.in_ok-figures-2.ensures in
    let cabin = has-cabin c.args.a.now c.in_ok-figures-2.figures c.zones.result.now c.cabin_load.result c.zones.ensures.value c.cabin_load.ensures.refused c.in_default.not-Err in
    let told : AreTold c.args.a.now c.args.s.now c.in_ok-figures-2.figures c.in_ok-weigh_unplaced.field-0.mass c.in_ok-weigh_unplaced-2.field-0.mass c.in_ok-weigh_unplaced.field-0.index c.in_ok-weigh_unplaced-2.field-0.index = record {
      base_mass_is = c.in_ok-weigh_unplaced.ensures.mass;
      next_mass_is = c.in_ok-weigh_unplaced-2.ensures.mass;
      base_index_is = c.in_ok-weigh_unplaced.ensures.index;
      next_index_is = c.in_ok-weigh_unplaced-2.ensures.index;
    } in
    let within = tolerated c.args.a.now c.args.s.now c.args.l.now c.in_ok-figures-2.figures c.in_ok-weigh_unplaced.field-0.mass c.in_ok-weigh_unplaced-2.field-0.mass c.in_ok-weigh_unplaced.field-0.index c.in_ok-weigh_unplaced-2.field-0.index next cabin told c.in_ok-keep_tolerances.ensures.mass c.in_ok-keep_tolerances.ensures.index in
    refused-rules c.args.a.now c.args.s.now c.args.l.now c.in_ok-figures-2.figures c.rules_broken-rules.result.items c.is_empty.result next within c.rules_broken-rules.ensures c.is_empty.ensures c.if-not-is_empty.true

pub with_one_more-requires-clause-room : goal.with_one_more-requires-clause-room
with_one_more-requires-clause-room c =
    has-room _ _ c.is_full.ensures.full c.if-is_full.false

pub with_one_more-requires-clause-edition : goal.with_one_more-requires-clause-edition
with_one_more-requires-clause-edition c =
    c.requires.limits.edition

pub returns-clause-allowed : goal.returns-clause-allowed
returns-clause-allowed c =
    let next = are-next c.args.a.now c.args.s.now c.args.l.now c.in_ok-figures.figures c.in_ok-figures-2.figures _ _ c.is_full.ensures.full c.if-is_full.false c.in_ok-figures.ensures c.is_there.ensures c.if-not-is_there.false c.in_ok-figures-2.ensures in
    let cabin = has-cabin c.args.a.now c.in_ok-figures-2.figures c.zones.result.now c.cabin_load.result c.zones.ensures.value c.cabin_load.ensures.refused c.in_default.not-Err in
    let told : AreTold c.args.a.now c.args.s.now c.in_ok-figures-2.figures c.in_ok-weigh_unplaced.field-0.mass c.in_ok-weigh_unplaced-2.field-0.mass c.in_ok-weigh_unplaced.field-0.index c.in_ok-weigh_unplaced-2.field-0.index = record {
      base_mass_is = c.in_ok-weigh_unplaced.ensures.mass;
      next_mass_is = c.in_ok-weigh_unplaced-2.ensures.mass;
      base_index_is = c.in_ok-weigh_unplaced.ensures.index;
      next_index_is = c.in_ok-weigh_unplaced-2.ensures.index;
    } in
    let within = tolerated c.args.a.now c.args.s.now c.args.l.now c.in_ok-figures-2.figures c.in_ok-weigh_unplaced.field-0.mass c.in_ok-weigh_unplaced-2.field-0.mass c.in_ok-weigh_unplaced.field-0.index c.in_ok-weigh_unplaced-2.field-0.index next cabin told c.in_ok-keep_tolerances.ensures.mass c.in_ok-keep_tolerances.ensures.index in
    where-made (IsAllowed c.args.a.now c.args.s.now c.args.l.now) c.with_one_more.result (allowed c.args.a.now c.args.s.now c.args.l.now c.in_ok-figures-2.figures c.rules_broken-rules.result.items c.is_empty.result next within c.rules_broken-rules.ensures c.is_empty.ensures c.if-not-is_empty.false)

pub returns-clause-refused : goal.returns-clause-refused
returns-clause-refused c =
    only-memory c.args.a.now c.args.s.now c.args.l.now c.with_one_more.result c.with_one_more.ensures.refused
