-- what it is for a prefix to be viable on each sector, said of sectors that are at hand
use Rattle.std.proofs.Common.{◌≡◌, ◌⊎◌, ⊎_elim, ℕ, zero, suc, ◌+◌, ◌<◌, ◌≤◌, true, nat_le, List, [], ◌∷◌, length, get_or, Option, Some, None, option_map, refl, ap, sym, ◌∙◌, subst, arith}
use Rattle.std.proofs.lemmas.Bool.{le-leb}
use Rattle.std.proofs.lemmas.Option.{slice_get_within, slice_get-get_or}
use Rattle.std.proofs.lemmas.List.{length-map}
use Rattle.std.proofs.lemmas.List.Elements.{All-weaker, All-head, All-tail, All-map}
use Rattle.std.specs.Prelude.{All, IfOk, IfSome, Result, Ok, Err, slice_get}
use Rattle.std.specs.Result.{result_ok}
use Rattle.hold_limits.specs.Problem.{Problem}
use Rattle.hold_limits.specs.BranchOrder.{Offered, branch_order}
use Rattle.hold_limits.specs.Placement.{IsSound}
use Rattle.hold_limits.proofs.BranchOrderLemmas.{entries-offered, length-branch_order}
use Rattle.hold_limits.proofs.SoundLemmas.{IsSound-front}
use Rattle.hold_partial.specs.Placing.{Placing}
use Rattle.hold_reach.specs.Reach.{wide_bound}
use Rattle.stop_tasks.specs.Stops.{Stops, staying}
use Rattle.stop_tasks.specs.StopFaults.{AreLawfulStops}
use Rattle.stop_tasks.specs.StopPaths.{IsFirstSector, IsReachable, IsStopViable, IsWidelyViable, OnSectors, last_sectors, part_of}
use Rattle.stop_tasks.proofs.AdmissibleLemmas.{one-first}
use Rattle.stop_partial.specs.Sectors.{AreSectors}

-- The first sector --------------------------------------------------------------------------------

-- where each element stays, all of them do
staying-all : {X : Type 0} (xs : List X) (last : List ℕ) (number : ℕ) → length xs ≤ length last → All (λ n. number ≤ n) last → staying xs last number ≡ xs
staying-all [] last number long all = refl
staying-all (x ∷ xs) [] number long all = absurd (omega (arith, long))
staying-all (x ∷ xs) (n ∷ last) number long all =
    let P : ℕ → Type 0 = λ m. number ≤ m in
    let stays : nat_le number n ≡ true = le-leb number n (All-head P n last all) in
    rw stays (ap (λ ys. x ∷ ys) (staying-all xs last number (omega (arith, long)) (All-tail P n last all)))

-- each container is aboard on the first sector
from-first : (t : Stops) (first : Problem) → AreLawfulStops t → IsFirstSector t first → All (λ n. 1 ≤ n) (last_sectors t first)
from-first t first lawful is_first =
    let offered : Offered → Type 0 = λ e. slice_get first.items e.0 ≡ Some e.1 in
    let last : Offered → ℕ = λ e. get_or t.leaves e.0 0 in
    All-map (λ n. 1 ≤ n) last (branch_order first.items)
    (All-weaker offered (λ e. 1 ≤ last e)
    (λ e there. (lawful.leaves.known e.0 0 (omega (arith, slice_get_within first.items e.0 e.1 there, lawful.leaves.one_each first is_first))).0)
    (branch_order first.items) (entries-offered first.items))

-- one number for each container
pub last-each : (t : Stops) (first : Problem) → length (last_sectors t first) ≡ length first.items
last-each t first =
    let last : Offered → ℕ = λ e. get_or t.leaves e.0 0 in
    length-map (branch_order first.items) last ∙ length-branch_order first.items

-- so that a prefix is its own part there
pub part-first : (t : Stops) (first : Problem) (prefix : List ℕ) → AreLawfulStops t → IsFirstSector t first → length prefix ≤ length first.items
    → part_of (last_sectors t first) 1 prefix ≡ prefix
part-first t first prefix lawful is_first short =
    staying-all prefix (last_sectors t first) 1 (omega (arith, short, last-each t first)) (from-first t first lawful is_first)

-- Viable on each sector ---------------------------------------------------------------------------

-- where a prefix is viable, each sector is sound without containers
pub viable-empty : (t : Stops) (prefix : List ℕ) (place : ℕ) (sector : Problem) → slice_get t.sectors place ≡ Some sector → IsStopViable t prefix → IsSound sector []
viable-empty t prefix place sector there viable =
    let part = part_of (last_sectors t viable.first) (place + 1) prefix in
    IsSound-front sector [] part (viable.sectors place sector there).sound

-- and so is the third one, if there is one
pub viable-empty_third : (t : Stops) (prefix : List ℕ) → IsStopViable t prefix → IfSome (slice_get t.sectors 2) (λ sector. IsSound sector [])
viable-empty_third t prefix viable = told (slice_get t.sectors 2) refl
  where
    told : (third : Option Problem) → slice_get t.sectors 2 ≡ third → IfSome third (λ sector. IsSound sector [])
    told None is = tt
    told (Some sector) is = viable-empty t prefix 2 sector is viable

-- there is a second sector
pub second-there : (t : Stops) (second : Problem) → AreLawfulStops t → second ≡ get_or t.sectors 1 second → slice_get t.sectors 1 ≡ Some second
second-there t second lawful is =
    let within : 1 < length t.sectors = ⊎_elim (λ (two : length t.sectors ≡ 2). omega (arith, two)) (λ (three : length t.sectors ≡ 3). omega (arith, three)) lawful.sectors in
    slice_get-get_or t.sectors 1 second within ∙ ap (λ s. Some s) (sym is)

-- what is told of an answer that is right is so of its value
pub told-of_value : {X E : Type 0} (P : X → Type 0) (answer : Result X E) (value : X) → Some value ≡ result_ok answer → IfOk answer P → P value
told-of_value P (Ok given) value is told = let same : given ≡ value = cc in subst P same told
told-of_value P (Err e) value is told = absurd (cc is)

-- the parts of the definition, for these sectors
pub record AreViable (t : Stops) (last : List ℕ) (first second : Problem) (third : Option Placing) (prefix : List ℕ) : Type 0 where
  pub reachable : IsReachable last t.behind prefix
  pub on_first : IsWidelyViable first prefix
  pub on_second : IsWidelyViable second (part_of last 2 prefix)
  pub on_third : IfSome third (λ p. IsWidelyViable p.task (part_of last 3 prefix))

pub viable-parts : (t : Stops) (last : List ℕ) (first second : Problem) (third : Option Placing) (prefix : List ℕ)
    → AreSectors t last first second (option_map (λ (p : Placing). p.task) third) → IsStopViable t prefix → AreViable t last first second third prefix
viable-parts t last first second third prefix are viable = record {
  reachable = subst (λ ls. IsReachable ls t.behind prefix) names viable.reachable;
  on_first = on_one;
  on_second = on 1 second are.is_second;
  on_third = on_last third are.is_third;
}
  where
    same : viable.first ≡ first
    same = one-first t viable.first first viable.is_first are.is_first

    names : last_sectors t viable.first ≡ last
    names = ap (last_sectors t) same ∙ sym are.last

    on : OnSectors IsWidelyViable t.sectors last prefix
    on = subst (λ ls. OnSectors IsWidelyViable t.sectors ls prefix) names viable.sectors

    on_one : IsWidelyViable first prefix
    on_one = subst (IsWidelyViable first) (ap (λ ls. part_of ls 1 prefix) are.last ∙ part-first t first prefix are.lawful are.is_first (subst (λ (f : Problem). length prefix ≤ length f.items) same viable.short)) (on 0 first are.is_first)

    on_last : (third : Option Placing) → slice_get t.sectors 2 ≡ option_map (λ (p : Placing). p.task) third → IfSome third (λ p. IsWidelyViable p.task (part_of last 3 prefix))
    on_last None is = tt
    on_last (Some p) is = on 2 p.task is

pub viable-whole : (t : Stops) (last : List ℕ) (first second : Problem) (third : Option Placing) (prefix : List ℕ)
    → AreSectors t last first second (option_map (λ (p : Placing). p.task) third) → AreViable t last first second third prefix → IsStopViable t prefix
viable-whole t last first second third prefix are viable = record {
  first = first;
  is_first = are.is_first;
  short = viable.on_first.sound.short;
  reachable = subst (λ ls. IsReachable ls t.behind prefix) are.last viable.reachable;
  sectors = subst (λ ls. OnSectors IsWidelyViable t.sectors ls prefix) are.last on;
}
  where
    on_last : (third : Option Placing) (sector : Problem) → slice_get t.sectors 2 ≡ option_map (λ (p : Placing). p.task) third → slice_get t.sectors 2 ≡ Some sector
        → IfSome third (λ p. IsWidelyViable p.task (part_of last 3 prefix)) → IsWidelyViable sector (part_of last 3 prefix)
    on_last None sector is there holds = absurd (cc (sym is ∙ there))
    on_last (Some p) sector is there holds = let same : p.task ≡ sector = cc in subst (λ (s : Problem). IsWidelyViable s (part_of last 3 prefix)) same holds

    own : part_of last 1 prefix ≡ prefix
    own = ap (λ ls. part_of ls 1 prefix) are.last ∙ part-first t first prefix are.lawful are.is_first viable.on_first.sound.short

    on : OnSectors IsWidelyViable t.sectors last prefix
    on zero sector there = let same : first ≡ sector = one-first t first sector are.is_first there in subst (λ (s : Problem). IsWidelyViable s (part_of last 1 prefix)) same (subst (IsWidelyViable first) (sym own) viable.on_first)
    on (suc zero) sector there = let same : second ≡ sector = cc in subst (λ (s : Problem). IsWidelyViable s (part_of last 2 prefix)) same viable.on_second
    on (suc (suc zero)) sector there = on_last third sector are.is_third there viable.on_third
    on (suc (suc (suc n))) sector there = absurd (past (slice_get_within t.sectors (suc (suc (suc n))) sector there) are.lawful.sectors)
      where
        past : (suc (suc (suc n)) < length t.sectors) → (length t.sectors ≡ 2) ⊎ (length t.sectors ≡ 3) → ⊥
        past within few = grind arith

-- a viable prefix has no more numbers than there are containers
pub viable-short : (t : Stops) (last : List ℕ) (first second : Problem) (third : Option Problem) (prefix : List ℕ)
    → AreSectors t last first second third → IsStopViable t prefix → length prefix ≤ length last
viable-short t last first second third prefix are viable =
    let same : viable.first ≡ first = one-first t viable.first first viable.is_first are.is_first in
    let short : length prefix ≤ length first.items = subst (λ (f : Problem). length prefix ≤ length f.items) same viable.short in
    omega (arith, short, ap length are.last, last-each t first)

-- what is told of the first sector's bound is so of any first sector
pub bound-told : (t : Stops) (first : Problem) (prefix : List ℕ) (answer : Option ℕ) → IsFirstSector t first → answer ≡ wide_bound first prefix → IsStopViable t prefix
    → IfSome answer (λ b. IsStopViable t prefix × ((other : Problem) → IsFirstSector t other → wide_bound other prefix ≡ Some b))
bound-told t first prefix None is_first told viable = tt
bound-told t first prefix (Some b) is_first told viable = (
  viable,
  λ other is_other. let same : first ≡ other = one-first t first other is_first is_other in sym (subst (λ (f : Problem). Some b ≡ wide_bound f prefix) same told),
)
