-- the laws of service
use Rattle.std.proofs.Common.{◌≡◌, ◌+◌, ◌*◌, ◌<◌, ◌≤◌, ℕ, Bool, true, false, cond, List, [], ◌∷◌, ◌++◌, length, refl, sym, ap, ◌∙◌, subst, arith, append-nil, length-append}
use Rattle.std.specs.List.{All, count_by, list_any}
use Rattle.std.proofs.lemmas.Grind.{flat_map-append}
use Rattle.std.proofs.lemmas.List.{map-append}
use Rattle.std.proofs.lemmas.List.Elements.{All-head, All-tail, All-weaker}
use Rattle.std.proofs.lemmas.List.Sums.{sum_by-append}
use Rattle.flight_history.specs.declared.entry.Entry.{Entry}
use Rattle.desk_service.specs.Turns.{Setting, Placed}
use Rattle.desk_service.specs.Exchanges.{Exchange, IsServed, IsLate}
use Rattle.desk_service.specs.Service.{entries_of}
use Rattle.desk_service.specs.Alone.{failures}
use Rattle.desk_service.specs.AloneLaws.{failures-append}
use Rattle.desk_service.specs.Laws.{StaysService, MakesTwoAtMost, MakesFewerWithoutRoom, FailsWithTheKeeper, has_status, unplaced}
use Rattle.desk_service.proofs.Refusals.{no_way}
use Rattle.desk_service.proofs.Serving.{exchange_on, lacking_on}
use Rattle.desk_service.proofs.Weights.{served_weighs, late_weighs}

pub stays_service : StaysService
stays_service s desk history longer exchanges v g = record {
  early = v.early;
  late = v.late;
  all = v.all;
  served = All-weaker (IsServed s desk history) (IsServed s desk longer) (exchange_on s desk history longer g) v.early v.served;
  lacking = All-weaker (IsLate s desk history) (IsLate s desk longer) (lacking_on s desk history longer g) v.late v.lacking;
}

-- Sums over exchanges ---------------------------------------------------------------------------------

-- how many of them are answered 503
abbrev faults_in : List Exchange → ℕ
faults_in xs = count_by (has_status 503) xs

-- how many of their entries were not kept
abbrev failures_in : List Exchange → ℕ
failures_in xs = failures (unplaced (entries_of xs))

entries-append : (xs ys : List Exchange) → entries_of (xs ++ ys) ≡ entries_of xs ++ entries_of ys
entries-append xs ys = flat_map-append (λ (x : Exchange). x.entries) xs ys

failures_in-append : (xs ys : List Exchange) → failures_in (xs ++ ys) ≡ failures_in xs + failures_in ys
failures_in-append xs ys =
    ap (λ (made : List Placed). failures (unplaced made)) (entries-append xs ys)
    ∙ (ap failures (map-append (λ (one : Placed). one.1) (entries_of xs) (entries_of ys)) ∙ failures-append (unplaced (entries_of xs)) (unplaced (entries_of ys)))

faults_in-append : (xs ys : List Exchange) → faults_in (xs ++ ys) ≡ faults_in xs + faults_in ys
faults_in-append xs ys = sum_by-append (λ (x : Exchange). cond (has_status 503 x) 1 0) xs ys

one_fault : (fault : Bool) (n : ℕ) → (fault ≡ true → 1 ≤ n) → 0 + cond fault 1 0 ≤ n
one_fault true n some = let e = some refl in omega (arith, e)
one_fault false n some = omega arith

failures_of_one : (x : Exchange) → failures_in (x ∷ []) ≡ failures (unplaced x.entries)
failures_of_one x = ap (λ (made : List Placed). failures (unplaced made)) (append-nil x.entries)

record Sums (xs : List Exchange) : Type 0 where
  two : length (entries_of xs) ≤ 2 * length xs
  room : list_any (has_status 507) xs ≡ false
  faults : faults_in xs ≤ failures_in xs

record LateSums (xs : List Exchange) : Type 0 where
  one : length (entries_of xs) ≤ length xs
  faults : faults_in xs ≤ failures_in xs

module _ (s : Setting) (desk : ℕ) (history : List Entry) where
  early_sums : (xs : List Exchange) → All (IsServed s desk history) xs → Sums xs
  early_sums [] all = record { two = omega arith; room = refl; faults = omega arith }
  early_sums (x ∷ xs) all =
      let w = served_weighs s desk history x (All-head (IsServed s desk history) x xs all) in
      let rest = early_sums xs (All-tail (IsServed s desk history) x xs all) in
      let long = length-append x.entries (entries_of xs) in
      let counted = faults_in-append (x ∷ []) xs in
      let failed = failures_in-append (x ∷ []) xs in
      let own = failures_of_one x in
      let first = one_fault (has_status 503 x) (failures (unplaced x.entries)) w.tells.fault in
      let two = w.two in
      let more = rest.two in
      let faults = rest.faults in
      record {
        two = omega (arith, long, two, more);
        room = rw w.tells.room rest.room;
        faults = omega (arith, counted, failed, own, first, faults);
      }

  late_sums : (xs : List Exchange) → All (IsLate s desk history) xs → LateSums xs
  late_sums [] all = record { one = omega arith; faults = omega arith }
  late_sums (x ∷ xs) all =
      let w = late_weighs s desk history x (All-head (IsLate s desk history) x xs all) in
      let rest = late_sums xs (All-tail (IsLate s desk history) x xs all) in
      let long = length-append x.entries (entries_of xs) in
      let counted = faults_in-append (x ∷ []) xs in
      let failed = failures_in-append (x ∷ []) xs in
      let own = failures_of_one x in
      let first = one_fault (has_status 503 x) (failures (unplaced x.entries)) w.fault in
      let one = w.one in
      let more = rest.one in
      let faults = rest.faults in
      record { one = omega (arith, long, one, more); faults = omega (arith, counted, failed, own, first, faults) }

-- The laws --------------------------------------------------------------------------------------------------

both : (early late : List Exchange) → length (entries_of (early ++ late)) ≡ length (entries_of early) + length (entries_of late)
both early late = ap length (entries-append early late) ∙ length-append (entries_of early) (entries_of late)

two_in : (early late : List Exchange) → Sums early → LateSums late → length (entries_of (early ++ late)) ≤ 2 * length (early ++ late)
two_in early late e l =
    let sum = both early late in
    let long = length-append early late in
    let two = e.two in
    let one = l.one in
    omega (arith, sum, long, two, one)

fewer_in : (early late : List Exchange) → Sums early → LateSums late → list_any (has_status 507) (early ++ late) ≡ true → length (entries_of (early ++ late)) < 2 * length (early ++ late)
fewer_in early [] e l some = absurd (no_way (sym some ∙ (ap (list_any (has_status 507)) (append-nil early) ∙ e.room)))
fewer_in early (x ∷ late) e l some =
    let sum = both early (x ∷ late) in
    let long = length-append early (x ∷ late) in
    let two = e.two in
    let one = l.one in
    omega (arith, sum, long, two, one)

faults_in_all : (early late : List Exchange) → Sums early → LateSums late → faults_in (early ++ late) ≤ failures_in (early ++ late)
faults_in_all early late e l =
    let counted = faults_in-append early late in
    let failed = failures_in-append early late in
    let one = e.faults in
    let other = l.faults in
    omega (arith, counted, failed, one, other)

pub two_at_most : MakesTwoAtMost
two_at_most s desk history exchanges v =
    subst (λ (xs : List Exchange). length (entries_of xs) ≤ 2 * length xs) (sym v.all)
    (two_in v.early v.late (early_sums s desk history v.early v.served) (late_sums s desk history v.late v.lacking))

pub fewer_without_room : MakesFewerWithoutRoom
fewer_without_room s desk history exchanges v some =
    subst (λ (xs : List Exchange). length (entries_of xs) < 2 * length xs) (sym v.all)
    (fewer_in v.early v.late (early_sums s desk history v.early v.served) (late_sums s desk history v.late v.lacking) (ap (list_any (has_status 507)) (sym v.all) ∙ some))

pub fails_with_the_keeper : FailsWithTheKeeper
fails_with_the_keeper s desk history exchanges v =
    subst (λ (xs : List Exchange). faults_in xs ≤ failures_in xs) (sym v.all)
    (faults_in_all v.early v.late (early_sums s desk history v.early v.served) (late_sums s desk history v.late v.lacking))
