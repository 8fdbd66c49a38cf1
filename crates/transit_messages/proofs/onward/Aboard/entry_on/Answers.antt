use Rattle.std.proofs.Common.{◌≡◌, ℕ, List, Option, Some, None, ap, subst, sym, ◌∙◌}
use Rattle.std.specs.Option.{option_map_or}
use Rattle.std.specs.Prelude.{find, bytes_eq}
use Rattle.ldm_cpm.specs.Messages.{Placing, IsSpelledPlacing}
use Rattle.ldm_cpm.specs.declared.messages.CpmPlace.{CpmPlace}
use Rattle.transit_messages.specs.Entries.{placed_aboard}
use Rattle.transit_messages.specs.Onward.{loaded_placing}
use Rattle.transit_messages.proofs.Spelling.{staying-said, spelled-staying}
use Rattle.transit_messages.proofs.onward.Aboard.entry_on.Goals as goal

abbrev named : List ℕ → List CpmPlace → Option CpmPlace
named name stay = find (λ (p : CpmPlace). bytes_eq p.name.text.now name) stay

pub returns-in-Some-clause-said : goal.returns-in-Some-clause-said
returns-in-Some-clause-said c =
    let a = c.args.self.now in
    let q = c.args.position.now in
    let loaded = loaded_placing a.next.now (placed_aboard a) a.task.now.loose c.args.number q in
    let is : Some c.in-Some.place ≡ named q.name a.stay.now = c.in-Some.ensures ∙ ap (λ (name : List ℕ). named name a.stay.now) c.bytes.ensures.value in
    c.entry_of.ensures ∙ sym (ap (λ (o : Option Placing). option_map_or (λ (p : Placing). p) o loaded) (staying-said a.stay.now q.name (Some c.in-Some.place) is))

pub returns-in-Some-clause-spelled : goal.returns-in-Some-clause-spelled
returns-in-Some-clause-spelled c =
    let a = c.args.self.now in
    subst IsSpelledPlacing (sym c.entry_of.ensures) (spelled-staying a.stay.now c.bytes.result.now c.in-Some.place c.requires.right.stay c.in-Some.ensures)

pub returns-in-None-clause-said : goal.returns-in-None-clause-said
returns-in-None-clause-said c =
    let a = c.args.self.now in
    let q = c.args.position.now in
    let loaded = loaded_placing a.next.now (placed_aboard a) a.task.now.loose c.args.number q in
    let is : None ≡ named q.name a.stay.now = c.in-None.ensures ∙ ap (λ (name : List ℕ). named name a.stay.now) c.bytes.ensures.value in
    c.loaded_on.ensures.said ∙ sym (ap (λ (o : Option Placing). option_map_or (λ (p : Placing). p) o loaded) (staying-said a.stay.now q.name None is))
