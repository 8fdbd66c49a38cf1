-- a history has one judgement: two agree on which entries are accepted
use Rattle.std.proofs.Common.{refl, ◌≡◌, ℕ, ◌+◌, ◌&&◌, Bool, true, false, List, [], ◌∷◌, ◌++◌, Option, None, Some, fold, cond, ◌∙◌, sym, ap, subst, append_assoc, length, map, filter}
use Rattle.std.specs.Prelude.{is_none, nat_le, bytes_eq}
use Rattle.std.proofs.lemmas.List.{append-nil, map-append}
use Rattle.aircraft_file.specs.Craft.{Craft}
use Rattle.flight_state.specs.declared.state.FlightState.{FlightState}
use Rattle.flight_history.specs.declared.entry.Act.{Act}
use Rattle.flight_history.specs.declared.entry.Entry.{Entry}
use Rattle.flight_history.specs.declared.entry.Outcome.{Outcome}
use Rattle.flight_history.specs.declared.entry.Outcome.TheVariants.{Done, KeeperFailed, NoMemory}
use Rattle.flight_history.specs.declared.reply.Refusal.{Refusal}
use Rattle.flight_history.specs.Standing.{standing}
use Rattle.flight_history.specs.Verdict.{IsVerdict}
use Rattle.flight_history.specs.History.{Judged, is_done, is_accepted, is_of, acts_of, flight_at, standing_of, is_opening, opens_flight, flight_count, is_full, IsJudgedBy, IsJudged, AreJudgedAfter, IsJudgement}
use Rattle.flight_history.proofs.VerdictLemmas.{TaskLaws, verdict-once}

-- an entry, and whether it is accepted
abbrev seen : Judged → Entry × Bool
seen j = (j.entry, is_accepted j)

abbrev AreSame : List Judged → List Judged → Type 0
AreSame one other = map seen one ≡ map seen other

-- what is read of a judged history
abbrev acts_seen : List ℕ → List (Entry × Bool) → List Act
acts_seen key xs = map (λ (x : Entry × Bool). x.0.act) (filter (λ (x : Entry × Bool). bytes_eq x.0.key key && x.1) xs)

acts_of-seen : (key : List ℕ) (history : List Judged) → acts_seen key (map seen history) ≡ acts_of key history
acts_of-seen key [] = refl
acts_of-seen key (j ∷ js) = elim (is_of key j && is_accepted j) as (λ b. map (λ (x : Entry × Bool). x.0.act) (cond b (seen j ∷ filter (λ (x : Entry × Bool). bytes_eq x.0.key key && x.1) (map seen js)) (filter (λ (x : Entry × Bool). bytes_eq x.0.key key && x.1) (map seen js))) ≡ map (λ (x : Judged). x.entry.act) (cond b (j ∷ filter (λ (x : Judged). is_of key x && is_accepted x) js) (filter (λ (x : Judged). is_of key x && is_accepted x) js)))
    [ true ↦ ap (λ (acts : List Act). j.entry.act ∷ acts) (acts_of-seen key js) | false ↦ acts_of-seen key js ]

abbrev count_seen : ℕ → List (Entry × Bool) → ℕ
count_seen n xs = fold (λ n (x : Entry × Bool). n + cond (x.1 && is_opening x.0.act) 1 0) n xs

count-seen : (n : ℕ) (history : List Judged) → count_seen n (map seen history) ≡ fold (λ n (x : Judged). n + cond (opens_flight x) 1 0) n history
count-seen n [] = refl
count-seen n (j ∷ js) = count-seen (n + cond (opens_flight j) 1 0) js

pub same-acts : (key : List ℕ) (one other : List Judged) → AreSame one other → acts_of key one ≡ acts_of key other
same-acts key one other same = sym (acts_of-seen key one) ∙ ap (acts_seen key) same ∙ acts_of-seen key other

pub same-count : (opening : List FlightState) (one other : List Judged) → AreSame one other → flight_count opening one ≡ flight_count opening other
same-count opening one other same = ap (λ (n : ℕ). length opening + n) (sym (count-seen 0 one) ∙ ap (count_seen 0) same ∙ count-seen 0 other)

none-same : TaskLaws → (fleet : List Craft) (full : Bool) (s : Option FlightState) (act : Act) (v w : Option Refusal) → IsVerdict fleet full s act v → IsVerdict fleet full s act w → is_none v ≡ is_none w
none-same laws fleet full s act None None h g = refl
none-same laws fleet full s act None (Some r) h g = absurd (verdict-once laws fleet full s act r h g)
none-same laws fleet full s act (Some r) None h g = absurd (verdict-once laws fleet full s act r g h)
none-same laws fleet full s act (Some r) (Some q) h g = refl

module _ (laws : TaskLaws) (fleet : List Craft) (opening : List FlightState) where
  -- the verdict on the entry, after the one history or the other
  moved : (one other : List Judged) (e d : Entry) (v : Option Refusal) → AreSame one other → e ≡ d → IsVerdict fleet (is_full opening other) (standing_of fleet opening other d.key) d.act v → IsVerdict fleet (is_full opening one) (standing_of fleet opening one e.key) e.act v
  moved one other e d v same is h = subst (λ (n : ℕ). IsVerdict fleet (nat_le 2000 n) (standing_of fleet opening one e.key) e.act v) (sym (same-count opening one other same))
      (subst (λ (acts : List Act). IsVerdict fleet (is_full opening other) (standing fleet (flight_at opening e.key) acts) e.act v) (sym (same-acts e.key one other same))
      (subst (λ (x : Entry). IsVerdict fleet (is_full opening other) (standing_of fleet opening other x.key) x.act v) (sym is) h))

  same-by : (o : Outcome) (one other : List Judged) (j k : Judged) → AreSame one other → j.entry ≡ k.entry → IsJudgedBy o fleet opening one j → IsJudgedBy o fleet opening other k → (is_done o && is_none j.verdict) ≡ (is_done o && is_none k.verdict)
  same-by Done one other j k same is h g = none-same laws fleet (is_full opening one) (standing_of fleet opening one j.entry.key) j.entry.act j.verdict k.verdict h (moved one other j.entry k.entry k.verdict same is g)
  same-by KeeperFailed one other j k same is h g = refl
  same-by NoMemory one other j k same is h g = refl

  same-one : (one other : List Judged) (j k : Judged) → AreSame one other → j.entry ≡ k.entry → IsJudged fleet opening one j → IsJudged fleet opening other k → seen j ≡ seen k
  same-one one other j k same is h g = ap (λ (b : Bool). (j.entry, b)) (accepted-same) ∙ ap (λ (e : Entry). (e, is_accepted k)) is
    where
      accepted-same : is_accepted j ≡ is_accepted k
      accepted-same = same-by j.entry.outcome one other j k same is h (subst (λ (e : Entry). IsJudgedBy e.outcome fleet opening other k) (sym is) g) ∙ ap (λ (e : Entry). is_done e.outcome && is_none k.verdict) is

  push-same : (one other : List Judged) (j k : Judged) → AreSame one other → seen j ≡ seen k → AreSame (one ++ j ∷ []) (other ++ k ∷ [])
  push-same one other j k same is = map-append seen one (j ∷ []) ∙ ap (λ (xs : List (Entry × Bool)). xs ++ seen j ∷ []) same ∙ ap (λ (x : Entry × Bool). map seen other ++ x ∷ []) is ∙ sym (map-append seen other (k ∷ []))

  same-from : (one other js ks : List Judged) → AreSame one other → map (λ (j : Judged). j.entry) js ≡ map (λ (j : Judged). j.entry) ks → AreJudgedAfter fleet opening one js → AreJudgedAfter fleet opening other ks → AreSame (one ++ js) (other ++ ks)
  same-from one other [] [] same is h g = rw (append-nil one, append-nil other) same
  same-from one other [] (k ∷ ks) same is h g = absurd (cc)
  same-from one other (j ∷ js) [] same is h g = absurd (cc)
  same-from one other (j ∷ js) (k ∷ ks) same is h g =
      let heads : j.entry ≡ k.entry = cc in
      let tails : map (λ (x : Judged). x.entry) js ≡ map (λ (x : Judged). x.entry) ks = cc in
      rw (← append_assoc one (j ∷ []) js, ← append_assoc other (k ∷ []) ks) (same-from (one ++ j ∷ []) (other ++ k ∷ []) js ks (push-same one other j k same (same-one one other j k same heads h.0 g.0)) tails h.1 g.1)

  -- two judgements of one history agree
  pub one-history : (entries : List Entry) (one other : List Judged) → IsJudgement fleet opening entries one → IsJudgement fleet opening entries other → AreSame one other
  one-history entries one other h g = same-from [] [] one other refl (sym h.entries_are ∙ g.entries_are) h.judged g.judged

  pub one-acts : (entries : List Entry) (one other : List Judged) (key : List ℕ) → IsJudgement fleet opening entries one → IsJudgement fleet opening entries other → acts_of key one ≡ acts_of key other
  one-acts entries one other key h g = same-acts key one other (one-history entries one other h g)

  pub one-count : (entries : List Entry) (one other : List Judged) → IsJudgement fleet opening entries one → IsJudgement fleet opening entries other → flight_count opening one ≡ flight_count opening other
  one-count entries one other h g = same-count opening one other (one-history entries one other h g)
