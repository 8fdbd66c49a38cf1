-- What the inbound messages say of a flight in transit.
use Rattle.std.proofs.Common.{◌≡◌, ◌≢◌, ◌⊎◌, inl, inr, ℕ, ◌==◌, Bool, true, false, List, [], ◌∷◌, map, Option, Some, None, Result, Ok, Err, refl, sym, ap, subst, ◌∙◌, arith, if◌then◌else◌}
use Rattle.std.proofs.lemmas.Bool.{cases_Bool, false≢true}
use Rattle.std.proofs.lemmas.Bool.Decides.{nat_tests}
use Rattle.std.proofs.lemmas.Slice.Eq.{bytes_eq-Decides}
use Rattle.std.proofs.lemmas.List.Elements.{All-filter}
use Rattle.std.specs.Prelude.{◌↔◌, All, IsOk, filter, bytes_eq, not}
use Rattle.std.specs.Option.{option_map_or}
use Rattle.base_words.proofs.Arrangements.{sum_by-map}
use Rattle.hold_limits.specs.Placement.{IsAdmissible, hold_index}
use Rattle.hold_limits.specs.Problem.{Problem}
use Rattle.telex.specs.declared.reading.Part.{Part}
use Rattle.ldm_cpm.specs.Messages.{Heading, Placing, HoldMessage, IsSpelledPlacing, total}
use Rattle.ldm_cpm.specs.Reading.{heading_of, text_in, placing_said, cpm_said, ldm_said}
use Rattle.ldm_cpm.specs.declared.messages.Cpm.{Cpm}
use Rattle.ldm_cpm.specs.declared.messages.Ldm.{Ldm}
use Rattle.ldm_cpm.specs.declared.messages.CpmPlace.{CpmPlace}
use Rattle.transit_tasks.specs.declared.fault.TransitFault.{TransitFault}
use Rattle.transit_tasks.specs.declared.fault.TransitFault.TheVariants.{Heads, Totals}
use Rattle.transit_tasks.specs.Joined.{IsJoinedAdmissible, joined_index}
use Rattle.transit_tasks.specs.NewTask.{task_around}
use Rattle.transit_messages.specs.Agreement.{stays, staying_at, mass_of_places}
use Rattle.transit_answers.specs.Flights.{Transit, goes_on, staying_of, mass_of, Agree, IsTransitFault}
use Rattle.transit_answers.specs.TransitReply.{IsJoined}
use Rattle.transit_answers.specs.Flights.IsTransitFault.{of_heads, of_totals}

-- What stays ------------------------------------------------------------------------------------

said-bound : (station : List ℕ) (to : Option Part)
    → option_map_or (λ (t : Part). not (bytes_eq t.text.now station)) to false ≡ option_map_or (λ (t : List ℕ). not (bytes_eq t station)) (text_in to) false
said-bound station None = refl
said-bound station (Some to) = refl

said-one : (b : Bool) (p : CpmPlace) (places : List CpmPlace) (said : List Placing) → map placing_said places ≡ said
    → map placing_said (if b then p ∷ places else places) ≡ (if b then placing_said p ∷ said else said)
said-one true p places said is = ap (λ ps. placing_said p ∷ ps) is
said-one false p places said is = is

said-staying : (station : List ℕ) (places : List CpmPlace) → map placing_said (staying_at station places) ≡ filter (goes_on station) (map placing_said places)
said-staying station [] = refl
said-staying station (p ∷ places) =
    said-one (stays station p) p (staying_at station places) (filter (goes_on station) (map placing_said places)) (said-staying station places)
    ∙ ap (λ b. if b then placing_said p ∷ filter (goes_on station) (map placing_said places) else filter (goes_on station) (map placing_said places))
    (said-bound station p.destination)

-- the places of a message that stay, as they are said
pub said-stay : (station : List ℕ) (cpm : Cpm) (stay : List CpmPlace) → stay ≡ staying_at station cpm.places → map placing_said stay ≡ staying_of station (cpm_said cpm)
said-stay station cpm stay is = ap (map placing_said) is ∙ said-staying station cpm.places

-- what stays can be spelled where the message can
pub spelled-stay : (station : List ℕ) (cpm : HoldMessage) → All IsSpelledPlacing cpm.places → All IsSpelledPlacing (staying_of station cpm)
spelled-stay station cpm spelled = All-filter (goes_on station) IsSpelledPlacing cpm.places spelled

-- Whether the messages agree --------------------------------------------------------------------

pub said-mass : (cpm : Cpm) → mass_of_places cpm.places ≡ mass_of (cpm_said cpm)
said-mass cpm = sym (sum_by-map (λ (p : Placing). p.mass.0) placing_said cpm.places)

same_text? : (xs ys : List ℕ) → (xs ≡ ys) ⊎ (xs ≢ ys)
same_text? xs ys =
    elim (cases_Bool (bytes_eq xs ys)) [
      | inl holds ↦ inl ((bytes_eq-Decides xs ys).0 holds)
      | inr fails ↦ inr (λ e. false≢true (sym fails ∙ (bytes_eq-Decides xs ys).1 e))
    ]

same_number? : (m n : ℕ) → (m ≡ n) ⊎ (m ≢ n)
same_number? m n =
    elim (cases_Bool (m == n)) [
      | inl holds ↦ inl (grind (arith, nat_tests))
      | inr fails ↦ inr (λ e. grind (arith, nat_tests))
    ]

both? : {P Q : Type 0} → P ⊎ (P → ⊥) → Q ⊎ (Q → ⊥) → (P × Q) ⊎ ((P × Q) → ⊥)
both? (inl p) (inl q) = inl (p, q)
both? (inl p) (inr fails) = inr (λ pq. fails pq.1)
both? (inr fails) q = inr (λ pq. fails pq.0)

same-heading : (a b : Heading) → a.flight ≡ b.flight → a.day ≡ b.day → a.registration ≡ b.registration → a.version ≡ b.version → a ≡ b
same-heading a b flight day registration version =
    let make : List ℕ → List ℕ → List ℕ → List ℕ → Heading = λ f d r v. record { flight = f; day = d; registration = r; version = v } in
    ap (λ f. make f a.day a.registration a.version) flight
    ∙ ap (λ d. make b.flight d a.registration a.version) day
    ∙ ap (λ r. make b.flight b.day r a.version) registration
    ∙ ap (λ v. make b.flight b.day b.registration v) version

same_heading? : (a b : Heading) → (a ≡ b) ⊎ (a ≢ b)
same_heading? a b =
    elim (both? (same_text? a.flight b.flight) (both? (same_text? a.day b.day) (both? (same_text? a.registration b.registration) (same_text? a.version b.version)))) [
      | inl same ↦ inl (same-heading a b same.0 same.1.0 same.1.1.0 same.1.1.1)
      | inr fails ↦ inr (λ e. fails (ap (λ (h : Heading). h.flight) e, (ap (λ (h : Heading). h.day) e, (ap (λ (h : Heading). h.registration) e, ap (λ (h : Heading). h.version) e))))
    ]

module _ (station : List ℕ) (t : Problem) (cpm : Cpm) (ldm : Ldm) where
  -- the messages agree where nothing is wrong with them
  pub agreed : (result : Result (Unit {0}) TransitFault) → IsOk result
      → IsOk result ↔ ((heading_of ldm.head ≡ heading_of cpm.head) × (total ldm.loads ≡ mass_of_places cpm.places)) → Agree (cpm_said cpm) (ldm_said ldm)
  agreed result ok same = record { heading = (same.0 ok).0; mass = (same.0 ok).1 ∙ said-mass cpm }

  totals-differ : (fault : TransitFault) → heading_of ldm.head ≡ heading_of cpm.head → total ldm.loads ≢ mass_of_places cpm.places
      → fault ≡ Totals (record { 0 = total ldm.loads }) (mass_of_places cpm.places) → IsTransitFault station t (cpm_said cpm) (ldm_said ldm) fault
  totals-differ fault heading differ is =
      subst (IsTransitFault station t (cpm_said cpm) (ldm_said ldm))
      (sym (is ∙ ap (Totals (record { 0 = total ldm.loads })) (said-mass cpm)))
      (of_totals heading (λ e. differ (e ∙ sym (said-mass cpm))))

  same_error : (result : Result (Unit {0}) TransitFault) (one other : TransitFault) → result ≡ Err one → result ≡ Err other → one ≡ other
  same_error result one other first second = let e = sym first ∙ second in cc

  ok-no_error : (result : Result (Unit {0}) TransitFault) (fault : TransitFault) → result ≡ Err fault → IsOk result → ⊥
  ok-no_error (Ok x) fault is ok = cc
  ok-no_error (Err e) fault is ok = false≢true ok

  -- what is wrong with messages that do not agree
  pub disagreed : (result : Result (Unit {0}) TransitFault) (fault : TransitFault) → result ≡ Err fault
      → IsOk result ↔ ((heading_of ldm.head ≡ heading_of cpm.head) × (total ldm.loads ≡ mass_of_places cpm.places))
      → (result ≡ Err Heads) ↔ (heading_of ldm.head ≢ heading_of cpm.head)
      → (heading_of ldm.head ≡ heading_of cpm.head → total ldm.loads ≢ mass_of_places cpm.places
      → result ≡ Err (Totals (record { 0 = total ldm.loads }) (mass_of_places cpm.places)))
      → IsTransitFault station t (cpm_said cpm) (ldm_said ldm) fault
  disagreed result fault is same heads totals =
      elim (same_heading? (heading_of ldm.head) (heading_of cpm.head)) [
        | inr differ ↦
            subst (IsTransitFault station t (cpm_said cpm) (ldm_said ldm)) (sym (same_error result fault Heads is (heads.1 differ))) (of_heads differ)
        | inl heading ↦
            elim (same_number? (total ldm.loads) (mass_of_places cpm.places)) [
              | inl mass ↦ absurd (ok-no_error result fault is (same.1 (heading, mass)))
              | inr differ ↦ totals-differ fault heading differ (same_error result fault _ is (totals heading differ))
            ]
      ]

-- The task around what stays --------------------------------------------------------------------

-- what is known of the paths of a task that is the one around what stays
pub joined-around : (flight : Transit) (u : Problem) (stay : List Placing) → stay ≡ flight.stay → u ≡ task_around flight.task stay
    → ((path : List ℕ) → IsAdmissible u path ↔ IsJoinedAdmissible flight.task stay path)
    → ((path : List ℕ) → hold_index u path ≡ joined_index flight.task stay path) → IsJoined flight
joined-around flight u stay same made admissible index =
    let t = flight.task in
    record {
      admissible = λ path.
          subst (λ (ps : List Placing). IsAdmissible (task_around t ps) path ↔ IsJoinedAdmissible t ps path) same
          (subst (λ (p : Problem). IsAdmissible p path ↔ IsJoinedAdmissible t stay path) made (admissible path));
      index = λ path.
          subst (λ (ps : List Placing). hold_index (task_around t ps) path ≡ joined_index t ps path) same
          (subst (λ (p : Problem). hold_index p path ≡ joined_index t stay path) made (index path));
    }
