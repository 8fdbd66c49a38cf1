-- two histories that agree on a flight say the same to it
use Rattle.std.proofs.Common.{refl, ◌≡◌, ℕ, ◌&&◌, Bool, true, false, List, [], ◌∷◌, ◌++◌, Option, cond, ◌∙◌, sym, ap, subst, append_assoc, map, filter}
use Rattle.std.specs.Prelude.{is_none}
use Rattle.std.proofs.lemmas.List.{append-nil, map-append}
use Rattle.aircraft_file.specs.Craft.{Craft}
use Rattle.flight_state.specs.declared.state.FlightState.{FlightState}
use Rattle.flight_history.specs.declared.entry.Act.{Act}
use Rattle.flight_history.specs.declared.entry.Entry.{Entry}
use Rattle.flight_history.specs.declared.entry.Outcome.{Outcome}
use Rattle.flight_history.specs.declared.entry.Outcome.TheVariants.{Done, KeeperFailed, NoMemory}
use Rattle.flight_history.specs.declared.reply.Refusal.{Refusal}
use Rattle.flight_history.specs.Standing.{standing}
use Rattle.flight_history.specs.Verdict.{IsVerdict}
use Rattle.flight_history.specs.History.{Judged, is_done, is_accepted, is_of, is_full, acts_of, flight_at, standing_of, IsJudgedBy, AreJudgedAfter, IsJudgement}
use Rattle.flight_history.specs.Alone.{Marked, marked, marks, own, own_acts, IsJudgedAloneBy, AreJudgedAlone}
use Rattle.flight_history.proofs.AloneLemmas.{alone}
use Rattle.reply_laws.specs.Alike.{Asked, asked, verdicts_on, AgreeOn}
use Rattle.reply_laws.proofs.VerdictLemmas.{verdict-once}

-- what an entry asks, with the verdict on it
abbrev pub Told : Type 0
Told = Asked × Option Refusal

abbrev pub told : Marked → Told
told m = (asked m, m.0.verdict)

abbrev AreSame : List Marked → List Marked → Type 0
AreSame one other = map told one ≡ map told other

-- the acts that were accepted among those told
abbrev is_told_accepted : Told → Bool
is_told_accepted t = is_done t.0.outcome && is_none t.1

abbrev act_told : Told → Act
act_told t = t.0.act

abbrev acts_told : List Told → List Act
acts_told ts = map act_told (filter is_told_accepted ts)

own_acts-told : (ms : List Marked) → acts_told (map told ms) ≡ own_acts ms
own_acts-told [] = refl
own_acts-told (m ∷ ms) = elim (is_accepted m.0) as (λ b. map act_told (cond b (told m ∷ filter is_told_accepted (map told ms)) (filter is_told_accepted (map told ms))) ≡ map (λ (x : Marked). x.0.entry.act) (cond b (m ∷ filter (λ (x : Marked). is_accepted x.0) ms) (filter (λ (x : Marked). is_accepted x.0) ms)))
    [ true ↦ ap (λ (acts : List Act). m.0.entry.act ∷ acts) (own_acts-told ms) | false ↦ own_acts-told ms ]

abbrev act_in : Judged → Act
act_in j = j.entry.act

acts_of-told : (key : List ℕ) (opening : List FlightState) (before js : List Judged) → acts_told (map told (own key (marks opening before js))) ≡ acts_of key js
acts_of-told key opening before [] = refl
acts_of-told key opening before (j ∷ js) =
    let m = marked opening before j in
    let ms = own key (marks opening (before ++ j ∷ []) js) in
    let rest = filter (λ (x : Judged). is_of key x && is_accepted x) js in
    elim (is_of key j) as (λ b. acts_told (map told (cond b (m ∷ ms) ms)) ≡ map act_in (cond (b && is_accepted j) (j ∷ rest) rest)) [
      | true ↦ elim (is_accepted j) as (λ b. map act_told (cond b (told m ∷ filter is_told_accepted (map told ms)) (filter is_told_accepted (map told ms))) ≡ map act_in (cond b (j ∷ rest) rest))
          [ true ↦ ap (λ (acts : List Act). j.entry.act ∷ acts) (acts_of-told key opening (before ++ j ∷ []) js) | false ↦ acts_of-told key opening (before ++ j ∷ []) js ]
      | false ↦ acts_of-told key opening (before ++ j ∷ []) js
    ]

-- One entry -------------------------------------------------------------------------------------------

module _ (fleet : List Craft) (opened : Option FlightState) where
  moved : (acts acts' : List Act) (m n : Marked) (v : Option Refusal) → acts ≡ acts' → asked m ≡ asked n → IsVerdict fleet n.1 (standing fleet opened acts') n.0.entry.act v → IsVerdict fleet m.1 (standing fleet opened acts) m.0.entry.act v
  moved acts acts' m n v same is h = subst (λ (xs : List Act). IsVerdict fleet m.1 (standing fleet opened xs) m.0.entry.act v) (sym same)
      (subst (λ (x : Asked). IsVerdict fleet x.of_full (standing fleet opened acts') x.act v) (sym is) h)

  same-verdict : (outcome : Outcome) (before before' : List Marked) (m n : Marked) → own_acts before ≡ own_acts before' → asked m ≡ asked n → IsJudgedAloneBy outcome fleet opened before m → IsJudgedAloneBy outcome fleet opened before' n → m.0.verdict ≡ n.0.verdict
  same-verdict NoMemory before before' m n same is h g = h ∙ sym g
  same-verdict Done before before' m n same is h g =
      verdict-once fleet m.1 (standing fleet opened (own_acts before)) m.0.entry.act m.0.verdict n.0.verdict h (moved (own_acts before) (own_acts before') m n n.0.verdict same is g)
  same-verdict KeeperFailed before before' m n same is h g =
      verdict-once fleet m.1 (standing fleet opened (own_acts before)) m.0.entry.act m.0.verdict n.0.verdict h (moved (own_acts before) (own_acts before') m n n.0.verdict same is g)

  same-acts : (before before' : List Marked) → AreSame before before' → own_acts before ≡ own_acts before'
  same-acts before before' same = sym (own_acts-told before) ∙ ap acts_told same ∙ own_acts-told before'

  same-one : (before before' : List Marked) (m n : Marked) → AreSame before before' → asked m ≡ asked n → IsJudgedAloneBy m.0.entry.outcome fleet opened before m → IsJudgedAloneBy n.0.entry.outcome fleet opened before' n → told m ≡ told n
  same-one before before' m n same is h g =
      let verdict = same-verdict m.0.entry.outcome before before' m n (same-acts before before' same) is h (subst (λ (x : Asked). IsJudgedAloneBy x.outcome fleet opened before' n) (sym is) g) in
      λ i. (is i, verdict i)

  push-same : (before before' : List Marked) (m n : Marked) → AreSame before before' → told m ≡ told n → AreSame (before ++ m ∷ []) (before' ++ n ∷ [])
  push-same before before' m n same is = map-append told before (m ∷ []) ∙ ap (λ (ts : List Told). ts ++ told m ∷ []) same ∙ ap (λ (t : Told). map told before' ++ t ∷ []) is ∙ sym (map-append told before' (n ∷ []))

  -- All of them ---------------------------------------------------------------------------------------

  same-from : (before before' ms ns : List Marked) → AreSame before before' → map asked ms ≡ map asked ns → AreJudgedAlone fleet opened before ms → AreJudgedAlone fleet opened before' ns → AreSame ms ns
  same-from before before' [] [] same is h g = refl
  same-from before before' [] (n ∷ ns) same is h g = absurd (cc)
  same-from before before' (m ∷ ms) [] same is h g = absurd (cc)
  same-from before before' (m ∷ ms) (n ∷ ns) same is h g =
      let heads : asked m ≡ asked n = cc in
      let tails : map asked ms ≡ map asked ns = cc in
      let one = same-one before before' m n same heads h.0 g.0 in
      let rest = same-from (before ++ m ∷ []) (before' ++ n ∷ []) ms ns (push-same before before' m n same one) tails h.1 g.1 in
      λ i. one i ∷ rest i

-- of two histories that agree on a flight, the verdicts on its entries are the same
pub agreed : (fleet : List Craft) (key : List ℕ) (opening opening' : List FlightState) (history history' : List Judged) → AreJudgedAfter fleet opening [] history → AreJudgedAfter fleet opening' [] history' → AgreeOn key opening opening' history history'
    → map told (own key (marks opening [] history)) ≡ map told (own key (marks opening' [] history'))
agreed fleet key opening opening' history history' one other agree =
    same-from fleet (flight_at opening key) [] [] (own key (marks opening [] history)) (own key (marks opening' [] history')) refl agree.same
    (alone fleet opening key [] history [] refl one)
    (subst (λ (o : Option FlightState). AreJudgedAlone fleet o [] (own key (marks opening' [] history'))) (sym agree.opened) (alone fleet opening' key [] history' [] refl other))

verdicts-told : (ms : List Marked) → map (λ (t : Told). t.1) (map told ms) ≡ map (λ (m : Marked). m.0.verdict) ms
verdicts-told [] = refl
verdicts-told (m ∷ ms) = ap (λ (vs : List (Option Refusal)). m.0.verdict ∷ vs) (verdicts-told ms)

pub same-verdicts : (fleet : List Craft) (key : List ℕ) (opening opening' : List FlightState) (history history' : List Judged) → AreJudgedAfter fleet opening [] history → AreJudgedAfter fleet opening' [] history' → AgreeOn key opening opening' history history'
    → verdicts_on key opening history ≡ verdicts_on key opening' history'
same-verdicts fleet key opening opening' history history' one other agree =
    sym (verdicts-told (own key (marks opening [] history))) ∙ ap (map (λ (t : Told). t.1)) (agreed fleet key opening opening' history history' one other agree) ∙ verdicts-told (own key (marks opening' [] history'))

-- The last entry ----------------------------------------------------------------------------------------

own-last : (key : List ℕ) (opening : List FlightState) (before js : List Judged) (j : Judged) → is_of key j ≡ true → own key (marks opening before (js ++ j ∷ [])) ≡ own key (marks opening before js) ++ marked opening (before ++ js) j ∷ []
own-last key opening before [] j at = ap (λ (b : Bool). cond b (marked opening before j ∷ []) []) at ∙ ap (λ (xs : List Judged). marked opening xs j ∷ []) (sym (append-nil before))
own-last key opening before (k ∷ ks) j at =
    let m = marked opening before k in
    let ms = own key (marks opening (before ++ k ∷ []) ks) in
    let last = marked opening (before ++ k ∷ ks) j in
    let rest : own key (marks opening (before ++ k ∷ []) (ks ++ j ∷ [])) ≡ ms ++ last ∷ [] =
    own-last key opening (before ++ k ∷ []) ks j at ∙ ap (λ (xs : List Judged). ms ++ marked opening xs j ∷ []) (append_assoc before (k ∷ []) ks) in
    ap (λ (xs : List Marked). cond (is_of key k) (m ∷ xs) xs) rest ∙ elim (is_of key k) as (λ b. cond b (m ∷ (ms ++ last ∷ [])) (ms ++ last ∷ []) ≡ cond b (m ∷ ms) ms ++ last ∷ []) [ true ↦ refl | false ↦ refl ]

no-end : {X : Type 0} (ys : List X) (y : X) → [] ≡ ys ++ y ∷ [] → ⊥
no-end [] y e = absurd (cc)
no-end (z ∷ zs) y e = absurd (cc)

last-same : {X : Type 0} (xs ys : List X) (x y : X) → xs ++ x ∷ [] ≡ ys ++ y ∷ [] → (xs ≡ ys) × (x ≡ y)
last-same [] [] x y e = (refl, cc)
last-same [] (z ∷ zs) x y e = let tails : [] ≡ zs ++ y ∷ [] = cc in absurd (no-end zs y tails)
last-same (z ∷ zs) [] x y e = let tails : [] ≡ zs ++ x ∷ [] = cc in absurd (no-end zs x tails)
last-same (w ∷ ws) (z ∷ zs) x y e =
    let heads : w ≡ z = cc in
    let tails : ws ++ x ∷ [] ≡ zs ++ y ∷ [] = cc in
    let rest = last-same ws zs x y tails in
    ((λ i. heads i ∷ rest.0 i), rest.1)

-- what was accepted before the last entry is the same, and so is that entry with its verdict
pub record AreAlike (key : List ℕ) (opening opening' : List FlightState) (history history' : List Judged) (j j' : Judged) : Type 0 where
  pub acts : acts_of key history ≡ acts_of key history'
  pub last : told (marked opening history j) ≡ told (marked opening' history' j')

pub last-alike : (fleet : List Craft) (key : List ℕ) (opening opening' : List FlightState) (history history' : List Judged) (j j' : Judged) → is_of key j ≡ true → is_of key j' ≡ true
    → AreJudgedAfter fleet opening [] (history ++ j ∷ []) → AreJudgedAfter fleet opening' [] (history' ++ j' ∷ []) → AgreeOn key opening opening' (history ++ j ∷ []) (history' ++ j' ∷ [])
    → AreAlike key opening opening' history history' j j'
last-alike fleet key opening opening' history history' j j' at at' one other agree =
    let ms = own key (marks opening [] history) in
    let ns = own key (marks opening' [] history') in
    let m = marked opening history j in
    let n = marked opening' history' j' in
    let all = agreed fleet key opening opening' (history ++ j ∷ []) (history' ++ j' ∷ []) one other agree in
    let split : map told ms ++ told m ∷ [] ≡ map told ns ++ told n ∷ [] =
    sym (map-append told ms (m ∷ [])) ∙ ap (map told) (sym (own-last key opening [] history j at)) ∙ all ∙ ap (map told) (own-last key opening' [] history' j' at') ∙ map-append told ns (n ∷ []) in
    let parts = last-same (map told ms) (map told ns) (told m) (told n) split in
    record {
      acts = sym (acts_of-told key opening [] history) ∙ ap acts_told parts.0 ∙ acts_of-told key opening' [] history';
      last = parts.1;
    }

-- One judgement -----------------------------------------------------------------------------------------

one-by : (outcome : Outcome) (fleet : List Craft) (opening : List FlightState) (history : List Judged) (e : Entry) (v w : Option Refusal)
    → IsJudgedBy outcome fleet opening history (record { entry = e; verdict = v }) → IsJudgedBy outcome fleet opening history (record { entry = e; verdict = w }) → v ≡ w
one-by NoMemory fleet opening history e v w h g = h ∙ sym g
one-by Done fleet opening history e v w h g = verdict-once fleet (is_full opening history) (standing_of fleet opening history e.key) e.act v w h g
one-by KeeperFailed fleet opening history e v w h g = verdict-once fleet (is_full opening history) (standing_of fleet opening history e.key) e.act v w h g

one-from : (fleet : List Craft) (opening : List FlightState) (before js ks : List Judged) → map (λ (j : Judged). j.entry) js ≡ map (λ (j : Judged). j.entry) ks
    → AreJudgedAfter fleet opening before js → AreJudgedAfter fleet opening before ks → js ≡ ks
one-from fleet opening before [] [] is h g = refl
one-from fleet opening before [] (k ∷ ks) is h g = absurd (cc)
one-from fleet opening before (j ∷ js) [] is h g = absurd (cc)
one-from fleet opening before (j ∷ js) (k ∷ ks) is h g =
    let heads : j.entry ≡ k.entry = cc in
    let tails : map (λ (x : Judged). x.entry) js ≡ map (λ (x : Judged). x.entry) ks = cc in
    let given = subst (λ (e : Entry). IsJudgedBy e.outcome fleet opening before (record { entry = e; verdict = k.verdict })) (sym heads) g.0 in
    let verdicts = one-by j.entry.outcome fleet opening before j.entry j.verdict k.verdict h.0 given in
    let one : j ≡ k = λ i. record { entry = heads i; verdict = verdicts i } in
    let rest = one-from fleet opening (before ++ j ∷ []) js ks tails h.1 (subst (λ (x : Judged). AreJudgedAfter fleet opening (before ++ x ∷ []) ks) (sym one) g.1) in
    λ i. one i ∷ rest i

-- a history has one judgement
pub one-judgement : (fleet : List Craft) (opening : List FlightState) (entries : List Entry) (history other : List Judged) → IsJudgement fleet opening entries history → IsJudgement fleet opening entries other → history ≡ other
one-judgement fleet opening entries history other h g = one-from fleet opening [] history other (sym h.entries_are ∙ g.entries_are) h.judged g.judged
