-- a text has at most one answer
use Rattle.std.proofs.Common.{◌≡◌, ℕ, ◌<◌, ◌≤◌, List, Option, Some, None, IsSomeAnd, Result, Ok, Err, inl, inr, refl, sym, ap, ap₂, subst, ◌∙◌, arith}
use Rattle.std.proofs.lemmas.Option.{same_Some}
use Rattle.mass_units.specs.declared.Kg.{Kg}
use Rattle.mass_limits.specs.declared.figures.Certified.{Certified}
use Rattle.hold_limits.specs.declared.fault.HoldFault.{HoldFault}
use Rattle.hold_limits.specs.Faults.{hold_fault}
use Rattle.envelope.specs.Outline.{Outline, last_mass}
use Rattle.envelope.specs.declared.EnvFault.{EnvFault}
use Rattle.aircraft_file.specs.declared.fault.FileFault.{FileFault}
use Rattle.aircraft_file.specs.declared.fault.FileFault.TheVariants.{Toml, Missing, Wrong, Hold, Envelope, Fuel, Span, NoMemory}
use Rattle.aircraft_file.specs.declared.parts.Envelopes.{Envelopes}
use Rattle.aircraft_file.specs.Craft.{Craft, craft_of}
use Rattle.aircraft_file.specs.Lawful.{Reaches, FallsShort, AreEnvelopes, HaveSpans, IsLawfulCraft, IsEnvelopeRefused, IsFirstShort, IsRefused, IsFaultOf, envelopes_in, IsAnswerTo}
use Rattle.aircraft_file.proofs.RefusalLemmas.{envelope_has_no_fault, one_envelope_fault, fuel_has_no_fault, one_fuel_fault}

-- an envelope goes up to a mass, or falls short of it
reaches_or_not : (last : Option ℕ) (limit : ℕ) → IsSomeAnd last (λ m. limit ≤ m) → IsSomeAnd last (λ m. m < limit) → ⊥
reaches_or_not (Some m) limit reaches short = omega (arith, reaches, short)
reaches_or_not None limit reaches short = reaches

span_or_not : (limit : Kg) (o : Outline) → Reaches limit o → FallsShort limit o → ⊥
span_or_not limit o reaches short = reaches_or_not (last_mass o.forward) limit.0 reaches short

spans_have_no_fault : (which : ℕ) (limits : Certified) (e : Envelopes) → HaveSpans limits e → IsFirstShort which limits e → ⊥
spans_have_no_fault which limits e spans (inl a) = span_or_not limits.zero_fuel e.zero_fuel spans.zero_fuel a.1
spans_have_no_fault which limits e spans (inr (inl a)) = span_or_not limits.take_off e.take_off spans.take_off a.2
spans_have_no_fault which limits e spans (inr (inr a)) = span_or_not limits.landing e.landing spans.landing a.3

one_short : (i j : ℕ) (limits : Certified) (e : Envelopes) → IsFirstShort i limits e → IsFirstShort j limits e → i ≡ j
one_short i j limits e (inl a) (inl b) = a.0 ∙ sym b.0
one_short i j limits e (inl a) (inr (inl b)) = absurd (span_or_not limits.zero_fuel e.zero_fuel b.1 a.1)
one_short i j limits e (inl a) (inr (inr b)) = absurd (span_or_not limits.zero_fuel e.zero_fuel b.1 a.1)
one_short i j limits e (inr (inl a)) (inl b) = absurd (span_or_not limits.zero_fuel e.zero_fuel a.1 b.1)
one_short i j limits e (inr (inl a)) (inr (inl b)) = a.0 ∙ sym b.0
one_short i j limits e (inr (inl a)) (inr (inr b)) = absurd (span_or_not limits.take_off e.take_off b.2 a.2)
one_short i j limits e (inr (inr a)) (inl b) = absurd (span_or_not limits.zero_fuel e.zero_fuel a.1 b.1)
one_short i j limits e (inr (inr a)) (inr (inl b)) = absurd (span_or_not limits.take_off e.take_off a.2 b.2)
one_short i j limits e (inr (inr a)) (inr (inr b)) = a.0 ∙ sym b.0

envelopes_have_no_fault : (which : ℕ) (fault : EnvFault) (e : Envelopes) → AreEnvelopes e → IsEnvelopeRefused which fault e → ⊥
envelopes_have_no_fault which fault e lawful (inl a) = envelope_has_no_fault fault e.zero_fuel lawful.zero_fuel a.1
envelopes_have_no_fault which fault e lawful (inr (inl a)) = envelope_has_no_fault fault e.take_off lawful.take_off a.2
envelopes_have_no_fault which fault e lawful (inr (inr a)) = envelope_has_no_fault fault e.landing lawful.landing a.3

one_envelope : (i j : ℕ) (f g : EnvFault) (e : Envelopes) → IsEnvelopeRefused i f e → IsEnvelopeRefused j g e → Envelope i f ≡ Envelope j g
one_envelope i j f g e (inl a) (inl b) = ap₂ Envelope (a.0 ∙ sym b.0) (one_envelope_fault f g e.zero_fuel a.1 b.1)
one_envelope i j f g e (inl a) (inr (inl b)) = absurd (envelope_has_no_fault f e.zero_fuel b.1 a.1)
one_envelope i j f g e (inl a) (inr (inr b)) = absurd (envelope_has_no_fault f e.zero_fuel b.1 a.1)
one_envelope i j f g e (inr (inl a)) (inl b) = absurd (envelope_has_no_fault g e.zero_fuel a.1 b.1)
one_envelope i j f g e (inr (inl a)) (inr (inl b)) = ap₂ Envelope (a.0 ∙ sym b.0) (one_envelope_fault f g e.take_off a.2 b.2)
one_envelope i j f g e (inr (inl a)) (inr (inr b)) = absurd (envelope_has_no_fault f e.take_off b.2 a.2)
one_envelope i j f g e (inr (inr a)) (inl b) = absurd (envelope_has_no_fault g e.zero_fuel a.1 b.1)
one_envelope i j f g e (inr (inr a)) (inr (inl b)) = absurd (envelope_has_no_fault g e.take_off a.2 b.2)
one_envelope i j f g e (inr (inr a)) (inr (inr b)) = ap₂ Envelope (a.0 ∙ sym b.0) (one_envelope_fault f g e.landing a.3 b.3)

lawful_or_not : (fault : FileFault) (c : Craft) → IsLawfulCraft c → IsRefused fault c → ⊥
lawful_or_not Toml c lawful h = h
lawful_or_not (Missing n) c lawful h = h
lawful_or_not (Wrong n) c lawful h = h
lawful_or_not (Hold f) c lawful h = absurd (cc (lawful.hold.right, h))
lawful_or_not (Envelope i f) c lawful h = envelopes_have_no_fault i f (envelopes_in c) lawful.envelopes h.1
lawful_or_not (Fuel f) c lawful h = fuel_has_no_fault f c.fuel lawful.fuel h.2
lawful_or_not (Span i) c lawful h = spans_have_no_fault i c.certified (envelopes_in c) lawful.spans h.3
lawful_or_not NoMemory c lawful h = h

no_hold : {A : Type 0} (c : Craft) (f : HoldFault) → hold_fault c.hold ≡ None → hold_fault c.hold ≡ Some f → A
no_hold c f right wrong = absurd (cc (right, wrong))

one_refusal : (f g : FileFault) (c : Craft) → IsRefused f c → IsRefused g c → f ≡ g
one_refusal Toml g c h k = absurd h
one_refusal (Missing n) g c h k = absurd h
one_refusal (Wrong n) g c h k = absurd h
one_refusal (Hold f) Toml c h k = absurd k
one_refusal (Hold f) (Missing n) c h k = absurd k
one_refusal (Hold f) (Wrong n) c h k = absurd k
one_refusal (Hold f) (Hold g) c h k = ap Hold (same_Some f g (sym h ∙ k))
one_refusal (Hold f) (Envelope j g) c h k = no_hold c f k.0.right h
one_refusal (Hold f) (Fuel g) c h k = no_hold c f k.0.right h
one_refusal (Hold f) (Span j) c h k = no_hold c f k.0.right h
one_refusal (Hold f) NoMemory c h k = absurd k
one_refusal (Envelope i f) Toml c h k = absurd k
one_refusal (Envelope i f) (Missing n) c h k = absurd k
one_refusal (Envelope i f) (Wrong n) c h k = absurd k
one_refusal (Envelope i f) (Hold g) c h k = no_hold c g h.0.right k
one_refusal (Envelope i f) (Envelope j g) c h k = one_envelope i j f g (envelopes_in c) h.1 k.1
one_refusal (Envelope i f) (Fuel g) c h k = absurd (envelopes_have_no_fault i f (envelopes_in c) k.1 h.1)
one_refusal (Envelope i f) (Span j) c h k = absurd (envelopes_have_no_fault i f (envelopes_in c) k.1 h.1)
one_refusal (Envelope i f) NoMemory c h k = absurd k
one_refusal (Fuel f) Toml c h k = absurd k
one_refusal (Fuel f) (Missing n) c h k = absurd k
one_refusal (Fuel f) (Wrong n) c h k = absurd k
one_refusal (Fuel f) (Hold g) c h k = no_hold c g h.0.right k
one_refusal (Fuel f) (Envelope j g) c h k = absurd (envelopes_have_no_fault j g (envelopes_in c) h.1 k.1)
one_refusal (Fuel f) (Fuel g) c h k = ap Fuel (one_fuel_fault f g c.fuel h.2 k.2)
one_refusal (Fuel f) (Span j) c h k = absurd (fuel_has_no_fault f c.fuel k.2 h.2)
one_refusal (Fuel f) NoMemory c h k = absurd k
one_refusal (Span i) Toml c h k = absurd k
one_refusal (Span i) (Missing n) c h k = absurd k
one_refusal (Span i) (Wrong n) c h k = absurd k
one_refusal (Span i) (Hold g) c h k = no_hold c g h.0.right k
one_refusal (Span i) (Envelope j g) c h k = absurd (envelopes_have_no_fault j g (envelopes_in c) h.1 k.1)
one_refusal (Span i) (Fuel g) c h k = absurd (fuel_has_no_fault g c.fuel h.2 k.2)
one_refusal (Span i) (Span j) c h k = ap Span (one_short i j c.certified (envelopes_in c) h.3 k.3)
one_refusal (Span i) NoMemory c h k = absurd k
one_refusal NoMemory g c h k = absurd h

same_Ok : (c d : Craft) (a b : Result Craft FileFault) → a ≡ Ok c → b ≡ Ok d → a ≡ b → c ≡ d
same_Ok c d a b p q e = cc (p, q, e)

-- the keys decide, and then what they say
one_fault : (said : Result Craft FileFault) (f g : FileFault) → IsFaultOf said f → IsFaultOf said g → f ≡ g
one_fault (Ok c) f g h k = one_refusal f g c h k
one_fault (Err first) f g h k = h ∙ sym k

made_or_not : (said : Result Craft FileFault) (c : Craft) (f : FileFault) → said ≡ Ok c → IsLawfulCraft c → IsFaultOf said f → ⊥
made_or_not (Ok d) c f is lawful h = let P : Craft → Type 0 = λ x. IsRefused f x in lawful_or_not f c lawful (subst P (same_Ok d c (Ok d) (Ok c) refl refl is) h)
made_or_not (Err first) c f is lawful h = absurd (cc is)

pub one_answer : (text : List ℕ) (a b : Result Craft FileFault) → IsAnswerTo text a → IsAnswerTo text b → a ≡ b
one_answer text (Ok c) (Ok d) h k = sym h.0 ∙ k.0
one_answer text (Ok c) (Err g) h k = absurd (made_or_not (craft_of text) c g h.0 h.1 k)
one_answer text (Err f) (Ok d) h k = absurd (made_or_not (craft_of text) d f k.0 k.1 h)
one_answer text (Err f) (Err g) h k = ap Err (one_fault (craft_of text) f g h k)
