use Rattle.std.proofs.Common.{◌≡◌, ◌∷◌, [], length, sym, ap, ap₂, ◌∙◌, arith}
use Rattle.std.proofs.lemmas.Option.{none-some, same_Some}
use Rattle.telex.specs.Elements.{said}
use Rattle.ldm_cpm.specs.Messages.{heading_elements}
use Rattle.ldm_cpm.specs.Reading.{heading_of}
use Rattle.ldm_cpm.proofs.FrontLemmas.{six-of}
use Rattle.ldm_cpm.proofs.HeadLemmas.{says-crew, said-crew, crew-parts}
use Rattle.ldm_cpm.proofs.heads.read_crew_head.Goals.{in_default-via-then-parts-lt6, in_default-via-else-parts-lt6+else-parts-lt7}
use Rattle.ldm_cpm.proofs.heads.read_crew_head.Goals as goal

pub returns-in_err-read_crew-in-len6-clause-read_back : goal.returns-in_err-read_crew-in-len6-clause-read_back
returns-in_err-read_crew-in-len6-clause-read_back c =
    let a = c.flight-item.result in let b = c.day-item.result in let r = c.registration-item.result in let v = c.version-item.result in
    let e = c.cockpit-item.result in let f = c.cabin-item.result in
    let parts = six-of c.args.parts.now a b r v e f a b r v e f (omega arith) c.flight-item.is c.day-item.is c.registration-item.is c.version-item.is c.cockpit-item.is c.cabin-item.is in
    rw c.from_residual-in_err-read_crew-in-len6.ensures (λ h cockpit cabin s few seldom is.
    let says = says-crew a b r v e f h cockpit cabin (sym (ap said parts) ∙ is) in
    none-some cockpit (c.in_err-read_crew-in-len6.ensures.read_back cockpit few says.cockpit_mark says.cockpit_text))

pub returns-in_err-read_crew-in-len6-2-clause-read_back : goal.returns-in_err-read_crew-in-len6-2-clause-read_back
returns-in_err-read_crew-in-len6-2-clause-read_back c =
    let a = c.flight-item.result in let b = c.day-item.result in let r = c.registration-item.result in let v = c.version-item.result in
    let e = c.cockpit-item.result in let f = c.cabin-item.result in
    let parts = six-of c.args.parts.now a b r v e f a b r v e f (omega arith) c.flight-item.is c.day-item.is c.registration-item.is c.version-item.is c.cockpit-item.is c.cabin-item.is in
    rw c.from_residual-in_err-read_crew-in-len6-2.ensures (λ h cockpit cabin s few seldom is.
    let says = says-crew a b r v e f h cockpit cabin (sym (ap said parts) ∙ is) in
    none-some cabin (c.in_err-read_crew-in-len6-2.ensures.read_back cabin seldom says.cabin_mark says.cabin_text))

pub returns-in_ok-read_crew-in-len6-2-clause-said : goal.returns-in_ok-read_crew-in-len6-2-clause-said
returns-in_ok-read_crew-in-len6-2-clause-said c =
    let a = c.flight-item.result in let b = c.day-item.result in let r = c.registration-item.result in let v = c.version-item.result in
    let e = c.cockpit-item.result in let f = c.cabin-item.result in
    let parts = six-of c.args.parts.now a b r v e f a b r v e f (omega arith) c.flight-item.is c.day-item.is c.registration-item.is c.version-item.is c.cockpit-item.is c.cabin-item.is in
    let h = heading_of c.in_ok-head-in-len6.head in
    let head : said (a ∷ b ∷ r ∷ v ∷ []) ≡ heading_elements h = ap said (sym c.in_ok-head-in-len6.ensures.parts) ∙ c.in_ok-head-in-len6.ensures.said in
    let one = c.in_ok-read_crew-in-len6.ensures.some in
    let two = c.in_ok-read_crew-in-len6-2.ensures.some in
    ap said parts ∙ said-crew a b r v e f h c.in_ok-read_crew-in-len6.field-0 c.in_ok-read_crew-in-len6-2.field-0 head one.0 one.2 two.0 two.2

pub returns-in_ok-read_crew-in-len6-2-clause-read_back : goal.returns-in_ok-read_crew-in-len6-2-clause-read_back
returns-in_ok-read_crew-in-len6-2-clause-read_back c = λ h cockpit cabin s few seldom is.
    let a = c.flight-item.result in let b = c.day-item.result in let r = c.registration-item.result in let v = c.version-item.result in
    let e = c.cockpit-item.result in let f = c.cabin-item.result in
    let parts = six-of c.args.parts.now a b r v e f a b r v e f (omega arith) c.flight-item.is c.day-item.is c.registration-item.is c.version-item.is c.cockpit-item.is c.cabin-item.is in
    let says = says-crew a b r v e f h cockpit cabin (sym (ap said parts) ∙ is) in
    let one = same_Some c.in_ok-read_crew-in-len6.field-0 cockpit (c.in_ok-read_crew-in-len6.ensures.read_back cockpit few says.cockpit_mark says.cockpit_text) in
    let two = same_Some c.in_ok-read_crew-in-len6-2.field-0 cabin (c.in_ok-read_crew-in-len6-2.ensures.read_back cabin seldom says.cabin_mark says.cabin_text) in
    (c.in_ok-head-in-len6.ensures.read_back h s says.heading, ap₂ (λ x y. (x, y)) one two)

pub returns-in_default-clause-read_back : goal.returns-in_default-clause-read_back
returns-in_default-clause-read_back c = λ h cockpit cabin s few seldom is.
    let six : length c.args.parts.now ≡ 6 = crew-parts c.args.parts.now h cockpit cabin is in
    elim c.in_default.branch [
      | in_default-via-then-parts-lt6 w ↦ grind (arith, six)
      | in_default-via-else-parts-lt6+else-parts-lt7 w ↦ grind (arith, six)
    ]
