-- What is heard in the buffer is heard by the wire.
use Rattle.std.proofs.Common.{◌≡◌, ◌∙◌, IfSome, [], refl, subst, sym}
use Rattle.std.proofs.lemmas.List.{take_at}
use Rattle.http_wire.specs.Hearing.{HasFault}
use Rattle.http_wire.proofs.WireLemmas.{next_request, to_come_in}
use Rattle.http_wire.proofs.wire.Wire.hear.Goals as goal

pub returns-in-Ok-Some-clause-heard : goal.returns-in-Ok-Some-clause-heard
returns-in-Ok-Some-clause-heard g c =
    let h = rw c.in-Ok-Some.field-0-is at c.in-Ok-Some.ensures.heard in
    let told = to_come_in _ _ _ c.self.inside.start c.self.inside.end _ _ (g.L.Link.left c.args.link.now) c.deref_mut.ensures.value c.self.view_is in
    let new = c.hear_in.new in
    let all = take_at new.buffer _ c.self.inside.buffer.len (c.hear_in.ensures.size ∙ sym c.self.invariant.4) in
    (next_request _ new.buffer new.start new.end c.in-Ok-Some.places _ _ all (h.0 ∙ told) h.1, refl)

pub returns-in-Ok-None-clause-heard : goal.returns-in-Ok-None-clause-heard
returns-in-Ok-None-clause-heard g c =
    let h = rw c.in-Ok-None.field-0-is at c.in-Ok-None.ensures.heard in
    let told = to_come_in _ _ _ c.self.inside.start c.self.inside.end _ _ (g.L.Link.left c.args.link.now) c.deref_mut.ensures.value c.self.view_is in
    (subst (λ input. IfSome input (λ bytes. bytes ≡ [])) told h, refl)

pub returns-in-Err-clause-heard : goal.returns-in-Err-clause-heard
returns-in-Err-clause-heard g c =
    let told = to_come_in _ _ _ c.self.inside.start c.self.inside.end _ _ (g.L.Link.left c.args.link.now) c.deref_mut.ensures.value c.self.view_is in
    (subst (λ input. HasFault input (g.L.Link.left c.hear_in.new.link) c.in-Err.fault) told c.in-Err.ensures.heard, refl)
