-- what the parts of a partial placement say about its prefix
use Rattle.std.proofs.Common.{◌≡◌, ⊎_elim, ℕ, zero, suc, ◌+◌, ◌^◌, ◌<◌, ◌≤◌, ℤ, pos, negsuc, ◌*ℤ◌, int_lt, cond, Bool, true, false, ◌&&◌, ◌||◌, nat_lt, nat_le, List, ◌∷◌, [], ◌++◌, length, get_or, take, map, Option, Some, None, refl, ap, sym, subst, ◌∙◌, arith, length-append, ◌≢◌, set, unsigned_abs, get_or-set_same, get_or-set_other}
use Rattle.std.proofs.Math.Nat.{eq-or-lt_of_le}
use Rattle.std.proofs.lemmas.Bool.{cases_Bool, and_parts, and_from, false≢true}
use Rattle.std.proofs.lemmas.Bool.Decides.{nat_tests}
use Rattle.std.proofs.lemmas.List.{take_all, length-map, take-append-le}
use Rattle.std.proofs.lemmas.Int.{ints}
use Rattle.std.proofs.lemmas.Option.{slice_get_within, get_or_from_slice_get}
use Rattle.std.specs.Prelude.{slice_get, slice_index, All, ◌↔◌}
use Rattle.std.specs.List.{filter, range_with_len}
use Rattle.std.specs.Option.{option_or}
use Rattle.arrayvec.specs.ArrayVec.{ArrayVec}
use Rattle.base_words.specs.Lists.{first_below}
use Rattle.base_words.proofs.ListLemmas.{first_below-some}
use Rattle.hold_parts.specs.declared.parts.Combined.{Combined}
use Rattle.hold_parts.specs.declared.parts.Cumulative.{Cumulative}
use Rattle.hold_parts.specs.declared.parts.Item.{Item}
use Rattle.hold_limits.specs.declared.fault.HoldFault.TheVariants as hold
use Rattle.hold_limits.specs.Layout.{Layout}
use Rattle.hold_limits.specs.Problem.{Problem}
use Rattle.hold_limits.specs.BranchOrder.{ordered}
use Rattle.hold_limits.specs.Enumeration.{is_accepted, exclude}
use Rattle.hold_limits.specs.Faults.{IsLawful, position_fault, limit_fault, side_fault, fault_if, has_too_many}
use Rattle.hold_limits.specs.Lateral.{side_at}
use Rattle.hold_limits.specs.Placement.{IsSound, influence_at}
use Rattle.hold_parts.specs.Limits.{is_listed, is_counted}
use Rattle.hold_limits.proofs.FaultLemmas.{option_or-none, fault_if-none}
use Rattle.hold_limits.proofs.LawfulBounds.{lawful-bounds}
use Rattle.hold_limits.proofs.MomentLemmas.{influence_at-bound}
use Rattle.hold_limits.proofs.SoundLemmas.{IsSound-within, accepted_within}
use Rattle.hold_partial.specs.declared.demand.Demand.{Demand}
use Rattle.hold_reach.specs.declared.extent.Extent.{Extent}
use Rattle.hold_reach.specs.declared.extent.Extent.TheVariants.{Reach, WideReach, LateralReach}
use Rattle.hold_reach.specs.declared.span.Span.{Span}
use Rattle.hold_reach.specs.Extents.{may_stand, amount_of, IsSpanOfList}
use Rattle.hold_partial.specs.declared.board.Board.{Board}
use Rattle.hold_partial.specs.declared.level.Level.{Level}
use Rattle.hold_partial.specs.declared.position_table.PositionEntry.{PositionEntry}
use Rattle.position_set.specs.declared.set.PositionSet.{PositionSet}
use Rattle.hold_partial.specs.declared.tables.Tables.{Tables}
use Rattle.hold_partial.specs.Arrangement.{Ranked, ranked_of, at_rank}
use Rattle.hold_partial.specs.Kept.{AreTables, IsKept, factor_of}
use Rattle.hold_partial.specs.Levels.{IsLevel, IsSpanOnRanks}
use Rattle.hold_partial.specs.Limits.{Allowance, limits_of, limits_on, added_at, AreLoads}
use Rattle.hold_reach.specs.Reach.{falls, amounts}
use Rattle.hold_reach.specs.Rules.{is_used, has_kind_at, excluding, rule_broken}
use Rattle.position_set.specs.Sets.{has}
use Rattle.hold_partial.specs.Tables.{IsDemand, IsPositionEntry, side_in}
use Rattle.hold_partial.proofs.ClosedLemmas.{class-within}
use Rattle.hold_partial.proofs.LevelSteps.{hold_index-bound, lateral-bound}
use Rattle.hold_reach.proofs.LoadLemmas.{mass-at}
use Rattle.hold_partial.proofs.LoadSteps.{each-on, loads-fit}
use Rattle.hold_partial.proofs.RankLemmas.{rank-passes, IsFactorOf, span-on-ranks, at-its-rank}
use Rattle.hold_reach.proofs.ChoiceLemmas.{is_free-Decides, is_open-Decides}
use Rattle.hold_reach.proofs.ReachLemmas.{next-item, side_at-bound}
use Rattle.hold_reach.proofs.RuleLemmas.{rule_broken-none}

-- Parts -----------------------------------------------------------------------------------------

pub level-is : (b : Board) → IsKept b → (rank : ℕ) (d : Level) → rank ≡ length b.prefix.items → IsLevel b.task.now b.tables.ranks.items b.prefix.items (get_or b.levels rank d)
level-is b kept rank d is =
    let P : List ℕ → Type 0 = λ front. IsLevel b.task.now b.tables.ranks.items front (get_or b.levels rank d) in
    subst P (take_all rank b.prefix.items (omega arith)) (kept.fronts rank d (omega arith))

pub demand-is : (t : Problem) (tables : Tables) → AreTables t tables → (demands : List Demand) (rank : ℕ) (d : Demand) (item : Item) → demands ≡ tables.demands.items
    → slice_get (ordered t.items) rank ≡ Some item → IsDemand t tables.ranks.items item (get_or demands rank d)
demand-is t tables prepared demands rank d item same there =
    let P : List Demand → Type 0 = λ ds. IsDemand t tables.ranks.items item (get_or ds rank d) in
    subst P (sym same) (prepared.demands.each rank d item there)

pub entry-is : (t : Problem) (tables : Tables) → AreTables t tables → (places : List PositionEntry) (q : ℕ) (d : PositionEntry) → places ≡ tables.positions.items → q < length t.hold.positions
    → IsPositionEntry t.hold tables.ranks.items q (get_or places q d)
entry-is t tables prepared places q d same known =
    let P : List PositionEntry → Type 0 = λ ps. IsPositionEntry t.hold tables.ranks.items q (get_or ps q d) in
    subst P (sym same) (prepared.positions.each q d known)

pub list-is : (t : Problem) (tables : Tables) → AreTables t tables → (lists : List (ArrayVec ℕ)) (q : ℕ) (found : ArrayVec ℕ) (limits : List ℕ) → lists ≡ tables.limits.items → q < length t.hold.positions
    → found ≡ get_or lists q found → limits ≡ found.items → limits ≡ limits_on t.hold q
list-is t tables prepared lists q found limits same known is items =
    let there : found ≡ get_or tables.limits.items q found = is ∙ ap (λ ls. get_or ls q found) same in
    items ∙ ap (λ (l : ArrayVec ℕ). l.items) there ∙ prepared.limits.each q found known

-- what is read where there is no entry
abbrev pub no_set : PositionSet
no_set = record { 0 = 0 }

abbrev pub no_level : Level
no_level = record { used = record { 0 = 0 }; blocked_ranks = record { 0 = 0 }; index = record { 0 = pos 0 }; lateral = pos 0; rising = false }

abbrev pub no_demand : Demand
no_demand = record { mass = record { 0 = 0 }; of_kind = record { 0 = 0 }; accepting = record { 0 = 0 }; accepting_ranks = record { 0 = 0 }; twins = 0 }

abbrev pub no_entry : PositionEntry
no_entry = record { influence = pos 0; side = pos 0; rank = 0; excluding = record { 0 = 0 }; blocked_ranks = record { 0 = 0 }; closed_ranks = record { 0 = 0 } }

-- what is closed to a container, by rank and by position
pub closed-is : (b : Board) → IsKept b → (demands : List Demand) (rank : ℕ) (d : Demand) (s : PositionSet) (item : Item) → demands ≡ b.tables.demands.items → slice_get (ordered b.task.now.items) rank ≡ Some item
    → (r : ℕ) → has (get_or b.closed.to (get_or demands rank d).twins s) r ≡ at_rank (falls b.task.now b.prefix.items item) b.tables.ranks.items r
closed-is b kept demands rank d s item same there r =
    ap (λ class. has (get_or b.closed.to class s) r) (demand-is b.task.now b.tables kept.prepared demands rank d item same there).twins ∙ kept.closed.to rank s item there r

pub closed-at : (b : Board) → IsKept b → (demands : List Demand) (rank : ℕ) (d : Demand) (s : PositionSet) (item : Item) (places : List PositionEntry) (q : ℕ) (e : PositionEntry)
    → demands ≡ b.tables.demands.items → slice_get (ordered b.task.now.items) rank ≡ Some item → places ≡ b.tables.positions.items → q < length b.task.now.hold.positions
    → has (get_or b.closed.to (get_or demands rank d).twins s) (get_or places q e).rank ≡ falls b.task.now b.prefix.items item q
closed-at b kept demands rank d s item places q e same there same_places known =
    let place = entry-is b.task.now b.tables kept.prepared places q e same_places known in
    closed-is b kept demands rank d s item same there (get_or places q e).rank
    ∙ at-its-rank (falls b.task.now b.prefix.items item) b.task.now.hold b.tables.ranks.items (get_or places q e).rank q place.rank

-- Limits ----------------------------------------------------------------------------------------

few-of-each : (m n k : ℕ) → (nat_lt 256 m || (nat_lt 64 n || nat_lt 128 k)) ≡ false → n + k ≤ 192
few-of-each m n k right = grind (arith, nat_tests)

-- a lawful hold has at most 192 limits
pub limits-few : (t : Problem) → IsLawful t → length (limits_of t.hold) ≤ 192
limits-few t lawful =
    let h = t.hold in
    let of_limits = (option_or-none (limit_fault h) (side_fault h) (option_or-none (position_fault h.positions) (option_or (limit_fault h) (side_fault h)) lawful.hold.right).1).0 in
    let right = fault_if-none (has_too_many h.excludes h.combined h.cumulative) hold.TooMany (option_or-none (fault_if (has_too_many h.excludes h.combined h.cumulative) hold.TooMany) _ of_limits).0 in
    let few = few-of-each (length h.excludes) (length h.combined) (length h.cumulative) right in
    let combined : Combined → Allowance = λ c. (is_listed c.places, c.most.0) in
    let cumulative : Cumulative → Allowance = λ c. (is_counted c, c.most.0) in
    omega (arith, length-append (map combined h.combined) (map cumulative h.cumulative), length-map h.combined combined, length-map h.cumulative cumulative)

-- the limits that speak of a position have a place in each table
pub limits-within : (t : Problem) (limits : List ℕ) (q m : ℕ) → IsLawful t → limits ≡ limits_on t.hold q → m ≡ 192 → All (λ j. j < m) limits
limits-within t limits q m lawful is long =
    let P : List ℕ → Type 0 = λ ls. All (λ j. j < m) ls in
    subst P (sym is) (each-on (λ j. j < m) t.hold q (λ k below. omega (arith, limits-few t lawful)))

-- Excluding positions ---------------------------------------------------------------------------

none-below : (test : ℕ → Bool) (n : ℕ) → ((k : ℕ) → k < n → test k ≡ false) → first_below test n ≡ None
none-below test zero fails = refl
none-below test (suc n) fails = rw (none-below test n (λ k less. fails k (omega arith)), fails n (omega arith)) refl

turned : (a b c : Bool) → ((a && b) && c) ≡ (a && (c && b))
turned false b c = refl
turned true true true = refl
turned true true false = refl
turned true false true = refl
turned true false false = refl

at-rank_of : (hold : Layout) (prefix : List ℕ) (q : ℕ) (set : PositionSet) → ((a : ℕ) → has set a ≡ ((nat_lt a (length hold.positions) && exclude hold a q) && is_used prefix a))
    → (a : ℕ) → has set a ≡ (nat_lt a (length hold.positions) && (is_used prefix a && exclude hold a q))
at-rank_of hold prefix q set same a = same a ∙ turned (nat_lt a (length hold.positions)) (exclude hold a q) (is_used prefix a)

-- the first of the used positions that exclude is the least
pub excluding-first : (hold : Layout) (prefix : List ℕ) (q : ℕ) (set : PositionSet) → ((a : ℕ) → has set a ≡ ((nat_lt a (length hold.positions) && exclude hold a q) && is_used prefix a))
    → (other : ℕ) → has set other ≡ true → ((a : ℕ) → has set a ≡ true → other ≤ a) → excluding hold prefix q ≡ Some other
excluding-first hold prefix q set same other found least =
    let n : ℕ = length hold.positions in
    let test : ℕ → Bool = λ a. is_used prefix a && exclude hold a q in
    let is = at-rank_of hold prefix q set same in
    let parts = and_parts (nat_lt other n) (test other) (sym (is other) ∙ found) in
    let less : other < n = (let passes : nat_lt other n ≡ true = parts.0 in grind (arith, nat_tests)) in
    first_below-some test other n
    (none-below test other (λ k below. ⊎_elim
    (λ (passes : test k ≡ true).
    let known : nat_lt k n ≡ true = grind (arith, nat_tests) in
    absurd (omega (arith, least k (is k ∙ and_from (nat_lt k n) (test k) known passes))))
    (λ (fails : test k ≡ false). fails)
    (cases_Bool (test k))))
    parts.1 less

pub excluding-not : (hold : Layout) (prefix : List ℕ) (q : ℕ) (set : PositionSet) → ((a : ℕ) → has set a ≡ ((nat_lt a (length hold.positions) && exclude hold a q) && is_used prefix a))
    → ((a : ℕ) → has set a ≡ false) → excluding hold prefix q ≡ None
excluding-not hold prefix q set same none =
    let n : ℕ = length hold.positions in
    let test : ℕ → Bool = λ a. is_used prefix a && exclude hold a q in
    let is = at-rank_of hold prefix q set same in
    none-below test n (λ k below. ⊎_elim
    (λ (passes : test k ≡ true).
    let known : nat_lt k n ≡ true = grind (arith, nat_tests) in
    absurd (false≢true (sym (none k) ∙ is k ∙ and_from (nat_lt k n) (test k) known passes)))
    (λ (fails : test k ≡ false). fails)
    (cases_Bool (test k)))

-- The next container ----------------------------------------------------------------------------

-- what is known of a position and of the next container
pub at-front : (b : Board) → IsKept b → (q count rank : ℕ) (l : Level) (demands : List Demand) (d : Demand) (item : Item) → count ≡ length b.tables.positions.items → q < count → rank ≡ length b.prefix.items
    → demands ≡ b.tables.demands.items → slice_get (ordered b.task.now.items) (length b.prefix.items) ≡ Some item
    → (q < length b.task.now.hold.positions) × (nat_le (length b.task.now.hold.positions) q ≡ false) × (has (get_or b.levels rank l).used q ≡ is_used b.prefix.items q)
    × (has (get_or demands rank d).of_kind q ≡ has_kind_at b.task.now.hold item q) × (has (get_or demands rank d).accepting q ≡ is_accepted b.task.now.hold (item, q)) × ((get_or demands rank d).mass.0 ≡ item.mass.0)
at-front b kept q count rank l demands d item counted below is same there =
    let t = b.task.now in
    let less : q < length t.hold.positions = omega (arith, kept.prepared.positions.count) in
    let demand = demand-is t b.tables kept.prepared demands rank d item same (rw (← is) at there) in (
      less,
      grind (arith, nat_tests),
      (level-is b kept rank l is).used q,
      demand.of_kind q,
      demand.accepting q,
      demand.mass,
    )

-- One position more -----------------------------------------------------------------------------

-- the last number of a sound prefix is that of a position
pub last-known : (t : Problem) (prefix : List ℕ) (q : ℕ) → IsSound t (prefix ++ q ∷ []) → q < length t.hold.positions
last-known t prefix q sound =
    let within = IsSound-within t (prefix ++ q ∷ []) sound (length prefix) 0 (omega (arith, length-append prefix (q ∷ []))) in
    rw (get_or-last prefix q) at within
  where
    get_or-last : (xs : List ℕ) (x : ℕ) → get_or (xs ++ x ∷ []) (length xs) 0 ≡ x
    get_or-last [] x = refl
    get_or-last (y ∷ xs) x = get_or-last xs x

-- a sound prefix with a last number has room for it
pub last-short : (t : Problem) (prefix : List ℕ) (q : ℕ) → IsSound t (prefix ++ q ∷ []) → length prefix < length t.items
last-short t prefix q sound = omega (arith, sound.short, length-append prefix (q ∷ []))

-- what is known where the next container goes on a position that keeps the prefix sound
pub record Putting (b : Board) (q : ℕ) : Type 0 where
  pub known : q < length b.task.now.hold.positions
  pub short : length b.prefix.items < length b.task.now.items
  pub item : Item
  pub next : slice_get (ordered b.task.now.items) (length b.prefix.items) ≡ Some item
  pub at : (rank : ℕ) → rank ≡ length b.prefix.items → slice_get (ordered b.task.now.items) rank ≡ Some item
  pub light : item.mass.0 ≤ 20000

pub putting : (b : Board) (q : ℕ) → IsKept b → IsSound b.task.now (b.prefix.items ++ q ∷ []) → Putting b q
putting b q kept sound =
    let short = last-short b.task.now b.prefix.items q sound in
    let next = next-item b.task.now (length b.prefix.items) short in
    record {
      known = last-known b.task.now b.prefix.items q sound;
      short = short;
      item = next.0;
      next = next.1;
      at = λ rank is. subst (λ r. slice_get (ordered b.task.now.items) r ≡ Some next.0) (sym is) next.1;
      light = mass-at b.task.now kept.lawful (length b.prefix.items) next.0 short next.1;
    }

-- the next container may go on a position exactly where no rule breaks
pub record Unbroken (b : Board) (q : ℕ) : Type 0 where
  pub item : Item
  pub there : slice_get (ordered b.task.now.items) (length b.prefix.items) ≡ Some item
  pub free : (rule_broken b.task.now b.prefix.items item q ≡ None) ↔ IsSound b.task.now (b.prefix.items ++ q ∷ [])

pub unbroken : (b : Board) → IsKept b → (q : ℕ) → length b.prefix.items < length b.task.now.items → Unbroken b q
unbroken b kept q short =
    let next = next-item b.task.now (length b.prefix.items) short in
    record { item = next.0; there = next.1; free = rule_broken-none b.task.now b.prefix.items next.0 q kept.sound next.1 }

-- what is known where the last container is taken off its position
pub record Taking (b : Board) (front : List ℕ) (q : ℕ) : Type 0 where
  pub sound : IsSound b.task.now (front ++ q ∷ [])
  pub known : q < length b.task.now.hold.positions
  pub short : length front < length b.task.now.items
  pub item : Item
  pub next : slice_get (ordered b.task.now.items) (length front) ≡ Some item
  pub at : (rank : ℕ) → rank ≡ length front → slice_get (ordered b.task.now.items) rank ≡ Some item
  pub loaded : AreLoads b.task.now (front ++ q ∷ []) b.loads

pub taking : (b : Board) (front : List ℕ) (q : ℕ) → IsKept b → b.prefix.items ≡ front ++ q ∷ [] → Taking b front q
taking b front q kept before =
    let sound : IsSound b.task.now (front ++ q ∷ []) = subst (λ (path : List ℕ). IsSound b.task.now path) before kept.sound in
    let short = last-short b.task.now front q sound in
    let next = next-item b.task.now (length front) short in
    record {
      sound = sound;
      known = last-known b.task.now front q sound;
      short = short;
      item = next.0;
      next = next.1;
      at = λ rank is. subst (λ r. slice_get (ordered b.task.now.items) r ≡ Some next.0) (sym is) next.1;
      loaded = subst (λ (path : List ℕ). AreLoads b.task.now path b.loads) before kept.loaded;
    }

-- the loads of the limits that speak of a position have room for one container more
pub loads-fit_on : (b : Board) → IsKept b → (q : ℕ) (item : Item) → item.mass.0 ≤ 20000 → (limits : List ℕ) → limits ≡ limits_on b.task.now.hold q → (mass : ℕ) → mass ≡ item.mass.0
    → All (λ k. slice_index b.loads k + added_at mass limits k < 2 ^ 32) limits
loads-fit_on b kept q item light limits listed mass is =
    let P : ℕ → List ℕ → Type 0 = λ mass limits. All (λ k. slice_index b.loads k + added_at mass limits k < 2 ^ 32) limits in
    subst (λ mass. P mass limits) (sym is) (subst (P item.mass.0) (sym listed) (loads-fit b.task.now b.prefix.items b.loads q item.mass.0 kept.lawful kept.sound kept.loaded light))

-- the levels of all fronts, with that of the longer prefix set
pub fronts-push : (t : Problem) (ranks : List Ranked) (prefix : List ℕ) (q rank : ℕ) (levels : List Level) (next : Level)
    → ((k : ℕ) (d : Level) → k ≤ length prefix → IsLevel t ranks (take k prefix) (get_or levels k d)) → IsLevel t ranks (prefix ++ q ∷ []) next
    → rank ≡ length prefix → rank + 1 < length levels
    → (k : ℕ) (d : Level) → k ≤ length (prefix ++ q ∷ []) → IsLevel t ranks (take k (prefix ++ q ∷ [])) (get_or (set levels (rank + 1) next) k d)
fronts-push t ranks prefix q rank levels next fronts here is room k d short = ⊎_elim
    (λ (same : k ≡ rank + 1).
    let all : take k (prefix ++ q ∷ []) ≡ prefix ++ q ∷ [] = take_all k (prefix ++ q ∷ []) (omega (arith, length-append prefix (q ∷ []))) in
    let there : get_or (set levels (rank + 1) next) k d ≡ next = ap (λ j. get_or (set levels (rank + 1) next) j d) same ∙ get_or-set_same levels (rank + 1) next d room in
    rw (all, there) here)
    (λ (less : k < rank + 1).
    let other : k ≢ rank + 1 = omega arith in
    let few : k ≤ length prefix = omega arith in
    let front : take k (prefix ++ q ∷ []) ≡ take k prefix = take-append-le k prefix (q ∷ []) few in
    let there : get_or (set levels (rank + 1) next) k d ≡ get_or levels k d = get_or-set_other levels (rank + 1) k next d other in
    rw (front, there) (fronts k d few))
    (eq-or-lt_of_le (omega (arith, length-append prefix (q ∷ []))))

-- the levels of the fronts of a front
pub fronts-pop : (t : Problem) (ranks : List Ranked) (prefix rest : List ℕ) (levels : List Level)
    → ((k : ℕ) (d : Level) → k ≤ length (prefix ++ rest) → IsLevel t ranks (take k (prefix ++ rest)) (get_or levels k d))
    → (k : ℕ) (d : Level) → k ≤ length prefix → IsLevel t ranks (take k prefix) (get_or levels k d)
fronts-pop t ranks prefix rest levels fronts k d short =
    let front : take k (prefix ++ rest) ≡ take k prefix = take-append-le k prefix rest short in
    rw front at (fronts k d (omega (arith, length-append prefix rest)))

-- How large -------------------------------------------------------------------------------------

pub demand-light : (t : Problem) (tables : Tables) → IsLawful t → AreTables t tables → (demands : List Demand) (rank : ℕ) (d : Demand) → demands ≡ tables.demands.items → rank < length t.items → (get_or demands rank d).mass.0 ≤ 20000
demand-light t tables lawful prepared demands rank d same within =
    let next = next-item t rank within in
    let demand = demand-is t tables prepared demands rank d next.0 same next.1 in
    omega (arith, demand.mass, mass-at t lawful rank next.0 within next.1)

-- the class of a container has a place in the table of what is closed
pub demand-class : (t : Problem) (tables : Tables) → IsLawful t → AreTables t tables → (demands : List Demand) (rank : ℕ) (d : Demand) → demands ≡ tables.demands.items → rank < length t.items → (get_or demands rank d).twins < 60
demand-class t tables lawful prepared demands rank d same within =
    let next = next-item t rank within in
    let demand = demand-is t tables prepared demands rank d next.0 same next.1 in
    omega (arith, demand.twins, class-within t rank next.0 next.1, (lawful-bounds t lawful).items)

pub index-bounded : (b : Board) → IsKept b → (rank : ℕ) (d : Level) → rank ≡ length b.prefix.items → unsigned_abs (get_or b.levels rank d).index.0 ≤ 248000000000
index-bounded b kept rank d is = omega (arith, ap unsigned_abs (level-is b kept rank d is).index, hold_index-bound b.task.now kept.lawful b.prefix.items kept.sound.short)

pub lateral-bounded : (b : Board) → IsKept b → (rank : ℕ) (d : Level) → rank ≡ length b.prefix.items → unsigned_abs (get_or b.levels rank d).lateral ≤ 2480000
lateral-bounded b kept rank d is = omega (arith, ap unsigned_abs (level-is b kept rank d is).lateral, lateral-bound b.task.now kept.lawful b.prefix.items kept.sound.short)

pub entry-near : (t : Problem) (tables : Tables) → IsLawful t → AreTables t tables → (places : List PositionEntry) (q : ℕ) (d : PositionEntry) → places ≡ tables.positions.items → q < length t.hold.positions
    → (unsigned_abs (get_or places q d).influence ≤ 100000) × (unsigned_abs (get_or places q d).side ≤ 1)
entry-near t tables lawful prepared places q d same known =
    let place = entry-is t tables prepared places q d same known in
    (omega (arith, ap unsigned_abs place.influence, influence_at-bound t (lawful-bounds t lawful) q), omega (arith, ap unsigned_abs place.side, side_at-bound t.hold q))

-- Ranks -----------------------------------------------------------------------------------------

-- there is a rank for each position
pub ranks-few : (t : Problem) (tables : Tables) → IsLawful t → AreTables t tables → length tables.ranks.items ≤ 64
ranks-few t tables lawful prepared = omega (arith, prepared.ranks.count, (lawful-bounds t lawful).positions)

-- the rank of a position is one of the table's
pub rank-known : (t : Problem) (tables : Tables) → IsLawful t → AreTables t tables → (places : List PositionEntry) (q : ℕ) (d : PositionEntry) → places ≡ tables.positions.items → q < length t.hold.positions
    → (get_or places q d).rank < 64
rank-known t tables lawful prepared places q d same known =
    let place = entry-is t tables prepared places q d same known in
    omega (arith, slice_get_within tables.ranks.items (get_or places q d).rank _ place.rank, ranks-few t tables lawful prepared)

-- a container may stand on positions of the hold alone
pub stand-known : (e : Extent) (t : Problem) (prefix : List ℕ) (item : Item) (q : ℕ) → may_stand e t prefix item q ≡ true → q < length t.hold.positions
stand-known Reach t prefix item q is = accepted_within t.hold (item, q) ((is_open-Decides t prefix item q).0 is).free.accepted
stand-known WideReach t prefix item q is = accepted_within t.hold (item, q) ((is_free-Decides t prefix item q).0 is).accepted
stand-known LateralReach t prefix item q is = accepted_within t.hold (item, q) ((is_free-Decides t prefix item q).0 is).accepted

-- a rank where a container may stand is one of the table's
pub places-within : (e : Extent) (t : Problem) (prefix : List ℕ) (item : Item) (ranks : List Ranked) (places : PositionSet) → ((r : ℕ) → has places r ≡ at_rank (may_stand e t prefix item) ranks r)
    → (r : ℕ) → has places r ≡ true → r < length ranks
places-within e t prefix item ranks places stands r is = (rank-passes (may_stand e t prefix item) ranks r (sym (stands r) ∙ is)).1

side-from : (hold : Layout) (q : ℕ) (right left : Bool) → int_lt (pos 0) (side_at hold q) ≡ right → int_lt (side_at hold q) (pos 0) ≡ left → (unsigned_abs (side_at hold q) ≤ 1)
    → cond right (pos 1) (cond left (negsuc 0) (pos 0)) ≡ side_at hold q
side-from hold q true left above below near = one (side_at hold q) above near
  where
    one : (side : ℤ) → int_lt (pos 0) side ≡ true → unsigned_abs side ≤ 1 → pos 1 ≡ side
    one side above near = grind (arith, ints)
side-from hold q false true above below near = one (side_at hold q) below near
  where
    one : (side : ℤ) → int_lt side (pos 0) ≡ true → unsigned_abs side ≤ 1 → negsuc 0 ≡ side
    one side below near = grind (arith, ints)
side-from hold q false false above below near = neither (side_at hold q) above below
  where
    neither : (side : ℤ) → int_lt (pos 0) side ≡ false → int_lt side (pos 0) ≡ false → pos 0 ≡ side
    neither side above below = grind (arith, ints)

side-of_rank : (t : Problem) (tables : Tables) → AreTables t tables → (r q : ℕ) → slice_get tables.ranks.items r ≡ Some (ranked_of t.hold q) → side_in tables.sides r ≡ side_at t.hold q
side-of_rank t tables prepared r q there =
    let right : has tables.sides.right r ≡ int_lt (pos 0) (side_at t.hold q) = prepared.sides.right r ∙ at-its-rank (λ q. int_lt (pos 0) (side_at t.hold q)) t.hold tables.ranks.items r q there in
    let left : has tables.sides.left r ≡ int_lt (side_at t.hold q) (pos 0) = prepared.sides.left r ∙ at-its-rank (λ q. int_lt (side_at t.hold q) (pos 0)) t.hold tables.ranks.items r q there in
    side-from t.hold q (has tables.sides.right r) (has tables.sides.left r) (sym right) (sym left) (side_at-bound t.hold q)

influence-of_rank : (t : Problem) (ranks : List Ranked) (d : Ranked) (r q : ℕ) → slice_get ranks r ≡ Some (ranked_of t.hold q) → (get_or ranks r d).0 ≡ influence_at t.hold q
influence-of_rank t ranks d r q there = ap (λ (e : Ranked). e.0) (get_or_from_slice_get ranks r (ranked_of t.hold q) d there)

-- what one kilogram adds on a position
abbrev pub arm_of : Extent → Layout → ℕ → ℤ
arm_of Reach hold q = influence_at hold q
arm_of WideReach hold q = influence_at hold q
arm_of LateralReach hold q = side_at hold q

factors : (e : Extent) (t : Problem) (tables : Tables) → AreTables t tables → IsFactorOf t.hold tables.ranks.items (factor_of e tables) (arm_of e t.hold)
factors Reach t tables prepared r q there = influence-of_rank t tables.ranks.items (pos 0, 0) r q there
factors WideReach t tables prepared r q there = influence-of_rank t tables.ranks.items (pos 0, 0) r q there
factors LateralReach t tables prepared r q there = side-of_rank t tables prepared r q there

by-arm : (e : Extent) (t : Problem) (prefix : List ℕ) (item : Item) (span : Option Span)
    → IsSpanOfList (map (λ q. pos item.mass.0 *ℤ arm_of e t.hold q) (filter (may_stand e t prefix item) (range_with_len 0 (length t.hold.positions)))) span
    → IsSpanOfList (amounts t (may_stand e t prefix) (amount_of e t.hold) item) span
by-arm Reach t prefix item span is = is
by-arm WideReach t prefix item span is = is
by-arm LateralReach t prefix item span is = is

-- the span on the ranks where a container may stand is that of the amounts that it adds
pub amounts-on : (e : Extent) (t : Problem) (prefix : List ℕ) (tables : Tables) → AreTables t tables → (item : Item) (places : PositionSet) → ((r : ℕ) → has places r ≡ at_rank (may_stand e t prefix item) tables.ranks.items r)
    → (mass : ℕ) → mass ≡ item.mass.0 → (span : Option Span) → IsSpanOnRanks (has places) (factor_of e tables) mass span → IsSpanOfList (amounts t (may_stand e t prefix) (amount_of e t.hold) item) span
amounts-on e t prefix tables prepared item places stands mass is span on_ranks =
    by-arm e t prefix item span
    (span-on-ranks t.hold tables.ranks.items prepared.ranks (may_stand e t prefix item) (stand-known e t prefix item) (has places) stands item.mass.0 (factor_of e tables) (arm_of e t.hold) (factors e t tables prepared) span
    (subst (λ m. IsSpanOnRanks (has places) (factor_of e tables) m span) is on_ranks))
