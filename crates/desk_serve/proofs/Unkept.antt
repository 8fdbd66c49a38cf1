-- the answers 503 at all doors are no more than the entries that were not kept
use Rattle.std.proofs.Common.{◌≡◌, ◌+◌, ◌≤◌, ◌==◌, ℕ, suc, Bool, true, false, cond, nat_le, List, [], ◌∷◌, ◌++◌, Option, Some, refl, sym, ap, ◌∙◌, arith, subst}
use Rattle.std.specs.List.{count_by, sum_by, slice_get}
use Rattle.std.proofs.lemmas.Bool.Decides.{nat_tests}
use Rattle.std.proofs.lemmas.List.{map-append}
use Rattle.std.proofs.lemmas.List.Elements.{All-head, All-tail}
use Rattle.std.proofs.lemmas.List.Sums.{sum_by-append, sum_by-cons}
use Rattle.std.proofs.lemmas.Option.{slice_get_within}
use Rattle.flight_history.specs.declared.entry.Entry.{Entry}
use Rattle.desk_lock.proofs.Keeping.{there}
use Rattle.desk_service.specs.Alone.{failures, is_failure}
use Rattle.desk_service.specs.AloneLaws.{failures-append}
use Rattle.desk_service.specs.Exchanges.{Exchange}
use Rattle.desk_service.specs.Laws.{has_status, unplaced}
use Rattle.desk_service.specs.Places.{placed_if, placed_from}
use Rattle.desk_service.specs.Turns.{Setting, Placed, placed}
use Rattle.desk_service.proofs.ServiceLaws.{fails_with_the_keeper}
use Rattle.desk_serve.specs.Doors.{Connection, all_entries, all_exchanges, keeper_failures, IsServedLink, AreServed, AreServedDoors}

abbrev faults_in : List Exchange → ℕ
faults_in xs = count_by (has_status 503) xs

abbrev failures_in : List Placed → ℕ
failures_in made = failures (unplaced made)

failures_in-append : (xs ys : List Placed) → failures_in (xs ++ ys) ≡ failures_in xs + failures_in ys
failures_in-append xs ys = ap failures (map-append (λ (one : Placed). one.1) xs ys) ∙ failures-append (unplaced xs) (unplaced ys)

faults_in-append : (xs ys : List Exchange) → faults_in (xs ++ ys) ≡ faults_in xs + faults_in ys
faults_in-append xs ys = sum_by-append (λ (x : Exchange). cond (has_status 503 x) 1 0) xs ys

-- Entries of one desk --------------------------------------------------------------------------------

abbrev weight : Entry → ℕ
weight e = cond (is_failure e.outcome) 1 0

-- the failures of this desk, in a list whose first entry has this place
abbrev own_failures : ℕ → ℕ → List Entry → ℕ
own_failures desk place history = failures_in (placed_from (λ (e : Entry). e.desk) desk place history)

-- the failures of desks from this one on
abbrev later_failures : ℕ → List Entry → ℕ
later_failures desk [] = 0
later_failures desk (e ∷ es) = cond (nat_le desk e.desk) (weight e) 0 + later_failures desk es

at_most : (b : Bool) (n : ℕ) → cond b n 0 ≤ n
at_most true n = omega arith
at_most false n = omega arith

none_more : (desk : ℕ) (es : List Entry) → later_failures desk es ≤ failures es
none_more desk [] = omega arith
none_more desk (e ∷ es) =
    let more = none_more desk es in
    let one = at_most (nat_le desk e.desk) (weight e) in
    let sum : failures (e ∷ es) ≡ weight e + failures es = sum_by-cons weight e es in
    omega (arith, more, one, sum)

own_weight : (own : Bool) (place : ℕ) (e : Entry) → failures_in (placed_if own place e) ≡ cond own (weight e) 0
own_weight true place e = let sum = sum_by-cons weight e [] in omega (arith, sum)
own_weight false place e = refl

-- the entry is one of the desk, or of a later one
is_either : (own later from : Bool) (n : ℕ) → (own ≡ true → (later ≡ false) × (from ≡ true)) → (later ≡ true → from ≡ true) → cond own n 0 + cond later n 0 ≤ cond from n 0
is_either true later from n one other = let e = one refl in rw (e.0, e.1) (let le : n + 0 ≤ n = omega arith in le)
is_either false true from n one other = rw (other refl) (let le : 0 + n ≤ n = omega arith in le)
is_either false false from n one other = omega arith

own_or_later : (desk place : ℕ) (es : List Entry) → own_failures desk place es + later_failures (suc desk) es ≤ later_failures desk es
unfolding placed_from
own_or_later desk place [] = omega arith
own_or_later desk place (e ∷ es) =
    let more = own_or_later desk (place + 1) es in
    let sum = failures_in-append (placed_if (e.desk == desk) place e) (placed_from (λ (x : Entry). x.desk) desk (place + 1) es) in
    let own = own_weight (e.desk == desk) place e in
    let one = is_either (e.desk == desk) (nat_le (suc desk) e.desk) (nat_le desk e.desk) (weight e) (λ same. (grind (arith, nat_tests), grind (arith, nat_tests))) (λ later. grind (arith, nat_tests)) in
    omega (arith, more, sum, own, one)

-- where each takes from what is left no more than that, all together take no more than there was
sum_falls : {C : Type 0} (w : C → ℕ) (f g : ℕ → ℕ) (cs : List C) → ((i : ℕ) (c : C) → slice_get cs i ≡ Some c → w c ≤ f i) → ((i : ℕ) → f i + g (suc i) ≤ g i) → sum_by w cs ≤ g 0
sum_falls w f g [] each step = omega arith
sum_falls w f g (c ∷ cs) each step =
    let one = each 0 c refl in
    let rest = sum_falls w (λ i. f (suc i)) (λ i. g (suc i)) cs (λ i x at. each (suc i) x at) (λ i. step (suc i)) in
    let first = step 0 in
    let sum = sum_by-cons w c cs in
    omega (arith, one, rest, first, sum)

-- Doors ----------------------------------------------------------------------------------------------

module _ {D L : Type 0} (coming_of handed_of : D → Option (List L)) (faults_of : D → ℕ) (input_of output_of : L → Option (List ℕ)) (reads_of writes_of : L → ℕ) (s : Setting) (full : Type 0) where
  link_failures : (desk : ℕ) (history : List Entry) (c : Connection L) → IsServedLink coming_of handed_of faults_of input_of output_of reads_of writes_of s full desk history c
      → faults_in c.exchanges ≤ failures_in c.entries
  link_failures desk history c x =
      let v = x.served in
      subst (λ (xs : List Exchange). faults_in xs ≤ failures_in c.entries) x.by
      (subst (λ (made : List Placed). faults_in v.exchanges ≤ failures_in made) (sym v.made) (fails_with_the_keeper s desk history v.exchanges v.service))

  door_failures : (desk : ℕ) (history : List Entry) (cs : List (Connection L)) → AreServed coming_of handed_of faults_of input_of output_of reads_of writes_of s full desk history cs
      → faults_in (all_exchanges cs) ≤ failures_in (all_entries cs)
  door_failures desk history [] all = omega arith
  door_failures desk history (c ∷ cs) all =
      let one = link_failures desk history c (All-head (IsServedLink coming_of handed_of faults_of input_of output_of reads_of writes_of s full desk history) c cs all) in
      let rest = door_failures desk history cs (All-tail (IsServedLink coming_of handed_of faults_of input_of output_of reads_of writes_of s full desk history) c cs all) in
      let counted = faults_in-append c.exchanges (all_exchanges cs) in
      let failed = failures_in-append c.entries (all_entries cs) in
      omega (arith, one, rest, counted, failed)

  pub doors_failures : (history : List Entry) (ds ds' : List D) (doors : AreServedDoors coming_of handed_of faults_of input_of output_of reads_of writes_of s full history ds ds')
      → keeper_failures doors.connections ≤ failures history
  doors_failures history ds ds' doors =
      let all = sum_falls (λ (cs : List (Connection L)). faults_in (all_exchanges cs)) (λ i. own_failures (suc i) 0 history) (λ i. later_failures (suc i) history) doors.connections
      (λ i cs at.
      let lt = slice_get_within doors.connections i cs at in
      let n = doors.all in
      let m = doors.many in
      let d = there ds i (omega (arith, lt, n)) in
      let d' = there ds' i (omega (arith, lt, n, m)) in
      let door = doors.each i cs d.0 d'.0 at d.1 d'.1 in
      let own : faults_in (all_exchanges cs) ≤ failures_in (placed (i + 1) history) =
      subst (λ (made : List Placed). faults_in (all_exchanges cs) ≤ failures_in made) (sym door.own) (door_failures (i + 1) history cs door.served) in
      subst (λ (desk : ℕ). faults_in (all_exchanges cs) ≤ own_failures desk 0 history) (let e : i + 1 ≡ suc i = omega arith in e) own)
      (λ i. own_or_later (suc i) 0 history) in
      let no_more = none_more 1 history in
      omega (arith, all, no_more)
