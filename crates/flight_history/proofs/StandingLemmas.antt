-- one more accepted act of a flight
use Rattle.std.proofs.Common.{refl, if◌then◌else◌, ◌≡◌, ℕ, ◌+◌, ◌≤◌, min, Bool, true, false, ◌&&◌, List, [], ◌∷◌, ◌++◌, Option, None, Some, fold, cond, arith, ◌∙◌, sym, ap, unwrap_or, append_assoc}
use Rattle.std.specs.Prelude.{count_by, option_map}
use Rattle.std.specs.List.{list_any, cons_option}
use Rattle.std.proofs.lemmas.List.Elements.{filter_map-append}
use Rattle.std.proofs.lemmas.List.{append-nil}
use Rattle.payload.specs.declared.figures.ZoneCount.{ZoneCount}
use Rattle.aircraft_file.specs.Craft.{Craft}
use Rattle.trim.specs.declared.figures.Figures.{Figures}
use Rattle.trim.specs.declared.figures.LooseFigure.{LooseFigure}
use Rattle.flight_state.specs.declared.change.Lmc.{Lmc}
use Rattle.flight_state.specs.declared.change.Lmc.TheVariants as change
use Rattle.flight_state.specs.declared.state.FlightState.{FlightState}
use Rattle.flight_state.specs.Effective.{with_change, effective}
use Rattle.flight_history.specs.declared.entry.Act.{Act}
use Rattle.flight_history.specs.declared.entry.Act.TheVariants.{NewFlight, Set, Take, Install, Release, Late, Reopen, Depart, Show}
use Rattle.flight_history.specs.declared.request.FigurePart.TheVariants as part
use Rattle.flight_history.specs.LastOnes.{since, up_to}
use Rattle.flight_row.specs.Loading.{aircraft_of}
use Rattle.flight_history.specs.Fleet.{new_flight}
use Rattle.flight_history.specs.Standing.{raises_edition, folds_lates, stage_by, plan_by, dry_by, fuel_by, limits_by, cabin_by, containers_by, loose_by, sets_cabin, sets_loose, late_by, lates_in, cabin_with, loose_with, is_release, is_planned, edition_after, stage_after, figures_after, lates_after, base_after, releases_among, releases_after, standing_from, standing}
use Rattle.flight_history.specs.Step.{step, after}
use Rattle.flight_history.specs.Plain.{figures_by}
use Rattle.flight_history.proofs.LastOneLemmas.{last_told-push, fold-push, list_any-push, since-push, up_to-push, by_ends}

-- the late changes, one act on
pub lates_in-push : (acts : List Act) (act : Act) → lates_in (acts ++ act ∷ []) ≡ unwrap_or (option_map (λ l. lates_in acts ++ l ∷ []) (late_by act)) (lates_in acts)
lates_in-push acts act = filter_map-append late_by acts (act ∷ []) ∙ elim (late_by act) as (λ o. lates_in acts ++ cons_option o [] ≡ unwrap_or (option_map (λ l. lates_in acts ++ l ∷ []) o) (lates_in acts)) [ None ↦ append-nil (lates_in acts) | Some l ↦ refl ]

cabin-push : (cabin : List ZoneCount) (ls : List Lmc) (l : Lmc) → fold cabin_with cabin (ls ++ l ∷ []) ≡ cabin_with (fold cabin_with cabin ls) l
cabin-push cabin ls l = fold-push cabin_with cabin ls l

loose-push : (loose : List LooseFigure) (ls : List Lmc) (l : Lmc) → fold loose_with loose (ls ++ l ∷ []) ≡ loose_with (fold loose_with loose ls) l
loose-push loose ls l = fold-push loose_with loose ls l

changes-push : (f : Figures) (ls : List Lmc) (l : Lmc) → fold with_change f (ls ++ l ∷ []) ≡ with_change (fold with_change f ls) l
changes-push f ls l = fold-push with_change f ls l

-- each part of the figures, one act on

pub figures-push : (o : FlightState) (acts : List Act) (act : Act) → figures_after o (acts ++ act ∷ []) ≡ figures_by (figures_after o acts) act
figures-push o acts (NewFlight leg) = rw (last_told-push dry_by acts (NewFlight leg), last_told-push fuel_by acts (NewFlight leg), last_told-push limits_by acts (NewFlight leg), last_told-push cabin_by acts (NewFlight leg), last_told-push containers_by acts (NewFlight leg), last_told-push loose_by acts (NewFlight leg), since-push sets_cabin acts (NewFlight leg), since-push sets_loose acts (NewFlight leg), lates_in-push (since sets_cabin acts) (NewFlight leg), lates_in-push (since sets_loose acts) (NewFlight leg)) refl
figures-push o acts (Set edition (part.Dry dry)) = rw (last_told-push dry_by acts (Set edition (part.Dry dry)), last_told-push fuel_by acts (Set edition (part.Dry dry)), last_told-push limits_by acts (Set edition (part.Dry dry)), last_told-push cabin_by acts (Set edition (part.Dry dry)), last_told-push containers_by acts (Set edition (part.Dry dry)), last_told-push loose_by acts (Set edition (part.Dry dry)), since-push sets_cabin acts (Set edition (part.Dry dry)), since-push sets_loose acts (Set edition (part.Dry dry)), lates_in-push (since sets_cabin acts) (Set edition (part.Dry dry)), lates_in-push (since sets_loose acts) (Set edition (part.Dry dry))) refl
figures-push o acts (Set edition (part.Fuel fuel)) = rw (last_told-push dry_by acts (Set edition (part.Fuel fuel)), last_told-push fuel_by acts (Set edition (part.Fuel fuel)), last_told-push limits_by acts (Set edition (part.Fuel fuel)), last_told-push cabin_by acts (Set edition (part.Fuel fuel)), last_told-push containers_by acts (Set edition (part.Fuel fuel)), last_told-push loose_by acts (Set edition (part.Fuel fuel)), since-push sets_cabin acts (Set edition (part.Fuel fuel)), since-push sets_loose acts (Set edition (part.Fuel fuel)), lates_in-push (since sets_cabin acts) (Set edition (part.Fuel fuel)), lates_in-push (since sets_loose acts) (Set edition (part.Fuel fuel))) refl
figures-push o acts (Set edition (part.Limits limits)) = rw (last_told-push dry_by acts (Set edition (part.Limits limits)), last_told-push fuel_by acts (Set edition (part.Limits limits)), last_told-push limits_by acts (Set edition (part.Limits limits)), last_told-push cabin_by acts (Set edition (part.Limits limits)), last_told-push containers_by acts (Set edition (part.Limits limits)), last_told-push loose_by acts (Set edition (part.Limits limits)), since-push sets_cabin acts (Set edition (part.Limits limits)), since-push sets_loose acts (Set edition (part.Limits limits)), lates_in-push (since sets_cabin acts) (Set edition (part.Limits limits)), lates_in-push (since sets_loose acts) (Set edition (part.Limits limits))) refl
figures-push o acts (Set edition (part.Cabin cabin)) = rw (last_told-push dry_by acts (Set edition (part.Cabin cabin)), last_told-push fuel_by acts (Set edition (part.Cabin cabin)), last_told-push limits_by acts (Set edition (part.Cabin cabin)), last_told-push cabin_by acts (Set edition (part.Cabin cabin)), last_told-push containers_by acts (Set edition (part.Cabin cabin)), last_told-push loose_by acts (Set edition (part.Cabin cabin)), since-push sets_cabin acts (Set edition (part.Cabin cabin)), since-push sets_loose acts (Set edition (part.Cabin cabin)), lates_in-push (since sets_loose acts) (Set edition (part.Cabin cabin))) refl
figures-push o acts (Set edition (part.Containers containers)) = rw (last_told-push dry_by acts (Set edition (part.Containers containers)), last_told-push fuel_by acts (Set edition (part.Containers containers)), last_told-push limits_by acts (Set edition (part.Containers containers)), last_told-push cabin_by acts (Set edition (part.Containers containers)), last_told-push containers_by acts (Set edition (part.Containers containers)), last_told-push loose_by acts (Set edition (part.Containers containers)), since-push sets_cabin acts (Set edition (part.Containers containers)), since-push sets_loose acts (Set edition (part.Containers containers)), lates_in-push (since sets_cabin acts) (Set edition (part.Containers containers)), lates_in-push (since sets_loose acts) (Set edition (part.Containers containers))) refl
figures-push o acts (Set edition (part.Loose loose)) = rw (last_told-push dry_by acts (Set edition (part.Loose loose)), last_told-push fuel_by acts (Set edition (part.Loose loose)), last_told-push limits_by acts (Set edition (part.Loose loose)), last_told-push cabin_by acts (Set edition (part.Loose loose)), last_told-push containers_by acts (Set edition (part.Loose loose)), last_told-push loose_by acts (Set edition (part.Loose loose)), since-push sets_cabin acts (Set edition (part.Loose loose)), since-push sets_loose acts (Set edition (part.Loose loose)), lates_in-push (since sets_cabin acts) (Set edition (part.Loose loose))) refl
figures-push o acts (Take edition) = rw (last_told-push dry_by acts (Take edition), last_told-push fuel_by acts (Take edition), last_told-push limits_by acts (Take edition), last_told-push cabin_by acts (Take edition), last_told-push containers_by acts (Take edition), last_told-push loose_by acts (Take edition), since-push sets_cabin acts (Take edition), since-push sets_loose acts (Take edition), lates_in-push (since sets_cabin acts) (Take edition), lates_in-push (since sets_loose acts) (Take edition)) refl
figures-push o acts (Install edition path same) = rw (last_told-push dry_by acts (Install edition path same), last_told-push fuel_by acts (Install edition path same), last_told-push limits_by acts (Install edition path same), last_told-push cabin_by acts (Install edition path same), last_told-push containers_by acts (Install edition path same), last_told-push loose_by acts (Install edition path same), since-push sets_cabin acts (Install edition path same), since-push sets_loose acts (Install edition path same), lates_in-push (since sets_cabin acts) (Install edition path same), lates_in-push (since sets_loose acts) (Install edition path same)) refl
figures-push o acts (Release edition) = rw (last_told-push dry_by acts (Release edition), last_told-push fuel_by acts (Release edition), last_told-push limits_by acts (Release edition), last_told-push cabin_by acts (Release edition), last_told-push containers_by acts (Release edition), last_told-push loose_by acts (Release edition), since-push sets_cabin acts (Release edition), since-push sets_loose acts (Release edition), lates_in-push (since sets_cabin acts) (Release edition), lates_in-push (since sets_loose acts) (Release edition)) refl
figures-push o acts (Late edition (change.Cabin zone adults children infants)) = rw (last_told-push dry_by acts (Late edition (change.Cabin zone adults children infants)), last_told-push fuel_by acts (Late edition (change.Cabin zone adults children infants)), last_told-push limits_by acts (Late edition (change.Cabin zone adults children infants)), last_told-push cabin_by acts (Late edition (change.Cabin zone adults children infants)), last_told-push containers_by acts (Late edition (change.Cabin zone adults children infants)), last_told-push loose_by acts (Late edition (change.Cabin zone adults children infants)), since-push sets_cabin acts (Late edition (change.Cabin zone adults children infants)), since-push sets_loose acts (Late edition (change.Cabin zone adults children infants)), lates_in-push (since sets_cabin acts) (Late edition (change.Cabin zone adults children infants)), lates_in-push (since sets_loose acts) (Late edition (change.Cabin zone adults children infants)), cabin-push, loose-push) refl
figures-push o acts (Late edition (change.Loose position mass pieces)) = rw (last_told-push dry_by acts (Late edition (change.Loose position mass pieces)), last_told-push fuel_by acts (Late edition (change.Loose position mass pieces)), last_told-push limits_by acts (Late edition (change.Loose position mass pieces)), last_told-push cabin_by acts (Late edition (change.Loose position mass pieces)), last_told-push containers_by acts (Late edition (change.Loose position mass pieces)), last_told-push loose_by acts (Late edition (change.Loose position mass pieces)), since-push sets_cabin acts (Late edition (change.Loose position mass pieces)), since-push sets_loose acts (Late edition (change.Loose position mass pieces)), lates_in-push (since sets_cabin acts) (Late edition (change.Loose position mass pieces)), lates_in-push (since sets_loose acts) (Late edition (change.Loose position mass pieces)), cabin-push, loose-push) refl
figures-push o acts (Reopen edition) = rw (last_told-push dry_by acts (Reopen edition), last_told-push fuel_by acts (Reopen edition), last_told-push limits_by acts (Reopen edition), last_told-push cabin_by acts (Reopen edition), last_told-push containers_by acts (Reopen edition), last_told-push loose_by acts (Reopen edition), since-push sets_cabin acts (Reopen edition), since-push sets_loose acts (Reopen edition), lates_in-push (since sets_cabin acts) (Reopen edition), lates_in-push (since sets_loose acts) (Reopen edition)) refl
figures-push o acts (Depart edition) = rw (last_told-push dry_by acts (Depart edition), last_told-push fuel_by acts (Depart edition), last_told-push limits_by acts (Depart edition), last_told-push cabin_by acts (Depart edition), last_told-push containers_by acts (Depart edition), last_told-push loose_by acts (Depart edition), since-push sets_cabin acts (Depart edition), since-push sets_loose acts (Depart edition), lates_in-push (since sets_cabin acts) (Depart edition), lates_in-push (since sets_loose acts) (Depart edition)) refl
figures-push o acts (Show what) = rw (last_told-push dry_by acts (Show what), last_told-push fuel_by acts (Show what), last_told-push limits_by acts (Show what), last_told-push cabin_by acts (Show what), last_told-push containers_by acts (Show what), last_told-push loose_by acts (Show what), since-push sets_cabin acts (Show what), since-push sets_loose acts (Show what), lates_in-push (since sets_cabin acts) (Show what), lates_in-push (since sets_loose acts) (Show what)) refl

effective-step : (s : FlightState) (act : Act) → effective (step s act) ≡ figures_by (effective s) act
effective-step s (NewFlight leg) = refl
effective-step s (Set edition (part.Dry dry)) = refl
effective-step s (Set edition (part.Fuel fuel)) = refl
effective-step s (Set edition (part.Limits limits)) = refl
effective-step s (Set edition (part.Cabin cabin)) = refl
effective-step s (Set edition (part.Containers containers)) = refl
effective-step s (Set edition (part.Loose loose)) = refl
effective-step s (Take edition) = refl
effective-step s (Install edition path same) = refl
effective-step s (Release edition) = refl
effective-step s (Late edition (change.Cabin zone adults children infants)) = rw changes-push refl
effective-step s (Late edition (change.Loose position mass pieces)) = rw changes-push refl
effective-step s (Reopen edition) = refl
effective-step s (Depart edition) = refl
effective-step s (Show what) = refl

plus_cond : (n : ℕ) (b : Bool) → n + cond b 1 0 ≡ cond b (n + 1) n
plus_cond n true = refl
plus_cond n false = omega arith

sum_first : (a b c : ℕ) → a + (b + c) ≡ (a + b) + c
sum_first a b c = omega arith

edition-push : (o : FlightState) (acts : List Act) (act : Act) → edition_after o (acts ++ act ∷ []) ≡ cond (raises_edition act) (edition_after o acts + 1) (edition_after o acts)
edition-push o acts act = rw (fold-push (λ n x. n + cond (raises_edition x) 1 0) 0 acts act) (sum_first o.edition (count_by raises_edition acts) (cond (raises_edition act) 1 0)) ∙ plus_cond (edition_after o acts) (raises_edition act)

lates-push : (o : FlightState) (acts : List Act) (act : Act) → lates_after o (acts ++ act ∷ []) ≡ cond (folds_lates act) [] (unwrap_or (option_map (λ l. lates_after o acts ++ l ∷ []) (late_by act)) (lates_after o acts))
lates-push o acts (NewFlight leg) = rw (list_any-push folds_lates acts (NewFlight leg), since-push folds_lates acts (NewFlight leg)) refl
lates-push o acts (Set edition told) = rw (list_any-push folds_lates acts (Set edition told), since-push folds_lates acts (Set edition told)) refl
lates-push o acts (Take edition) = rw (list_any-push folds_lates acts (Take edition), since-push folds_lates acts (Take edition), lates_in-push (since folds_lates acts) (Take edition)) refl
lates-push o acts (Install edition path same) = rw (list_any-push folds_lates acts (Install edition path same), since-push folds_lates acts (Install edition path same)) refl
lates-push o acts (Release edition) = rw (list_any-push folds_lates acts (Release edition), since-push folds_lates acts (Release edition), lates_in-push (since folds_lates acts) (Release edition)) refl
lates-push o acts (Late edition lmc) = rw (list_any-push folds_lates acts (Late edition lmc), since-push folds_lates acts (Late edition lmc), lates_in-push (since folds_lates acts) (Late edition lmc)) (sym (append_assoc (if list_any folds_lates acts then [] else o.lmcs) (lates_in (since folds_lates acts)) (lmc ∷ [])))
lates-push o acts (Reopen edition) = rw (list_any-push folds_lates acts (Reopen edition), since-push folds_lates acts (Reopen edition)) refl
lates-push o acts (Depart edition) = rw (list_any-push folds_lates acts (Depart edition), since-push folds_lates acts (Depart edition), lates_in-push (since folds_lates acts) (Depart edition)) refl
lates-push o acts (Show what) = rw (list_any-push folds_lates acts (Show what), since-push folds_lates acts (Show what), lates_in-push (since folds_lates acts) (Show what)) refl

base-push : (o : FlightState) (acts : List Act) (act : Act) → base_after o (acts ++ act ∷ []) ≡ cond (folds_lates act) (figures_after o (acts ++ act ∷ [])) (base_after o acts)
base-push o acts act = rw (list_any-push folds_lates acts act, up_to-push folds_lates acts act) (elim (folds_lates act) as (λ b. cond (cond b true (list_any folds_lates acts)) (figures_after o (cond b (acts ++ act ∷ []) (up_to folds_lates acts))) o.base ≡ cond b (figures_after o (acts ++ act ∷ [])) (base_after o acts)) [ true ↦ refl | false ↦ refl ])

pub releases_among-push : (o : FlightState) (before acts : List Act) (act : Act) → releases_among o before (acts ++ act ∷ []) ≡ releases_among o before acts + cond (is_release act && is_planned (stage_after o (before ++ acts))) 1 0
releases_among-push o before [] act = rw (append-nil before) (turn_about (cond (is_release act && is_planned (stage_after o before)) 1 0))
  where
    turn_about : (n : ℕ) → n + 0 ≡ 0 + n
    turn_about n = omega arith
releases_among-push o before (x ∷ acts) act = rw (releases_among-push o (before ++ x ∷ []) acts act, append_assoc before (x ∷ []) acts) (sum_first (cond (is_release x && is_planned (stage_after o before)) 1 0) (releases_among o (before ++ x ∷ []) acts) (cond (is_release act && is_planned (stage_after o (before ++ x ∷ acts))) 1 0))

least_more : (a m : ℕ) → min (a + 1) m ≡ min (min a m + 1) m
least_more a m = grind arith

releases_by : (a n : ℕ) (b : Bool) → min (a + (n + cond b 1 0)) 1000000000 ≡ cond b (min (min (a + n) 1000000000 + 1) 1000000000) (min (a + n) 1000000000)
releases_by a n true = ap (λ (k : ℕ). min k 1000000000) (sum_first a n 1) ∙ least_more (a + n) 1000000000
releases_by a n false = ap (λ (k : ℕ). min (a + k) 1000000000) (nothing n)
  where
    nothing : (n : ℕ) → n + 0 ≡ n
    nothing n = omega arith

releases-push : (o : FlightState) (acts : List Act) (act : Act) → releases_after o (acts ++ act ∷ []) ≡ cond (is_release act && is_planned (stage_after o acts)) (min (releases_after o acts + 1) 1000000000) (releases_after o acts)
releases-push o acts act = rw (releases_among-push o [] acts act) (releases_by o.releases (releases_among o [] acts) (is_release act && is_planned (stage_after o acts)))

-- the effective figures are those of the base with the late changes
abbrev pub SaysFigures : FlightState → List Act → Type 0
SaysFigures o acts = effective (standing_from o acts) ≡ figures_after o acts

step-given : (o : FlightState) (acts : List Act) (act : Act) → SaysFigures o acts → standing_from o (acts ++ act ∷ []) ≡ step (standing_from o acts) act
step-given o acts (NewFlight leg) says = rw (edition-push o acts (NewFlight leg), last_told-push stage_by acts (NewFlight leg), last_told-push plan_by acts (NewFlight leg), base-push o acts (NewFlight leg), lates-push o acts (NewFlight leg), releases-push o acts (NewFlight leg), figures-push o acts (NewFlight leg), says) refl
step-given o acts (Set edition told) says = rw (edition-push o acts (Set edition told), last_told-push stage_by acts (Set edition told), last_told-push plan_by acts (Set edition told), base-push o acts (Set edition told), lates-push o acts (Set edition told), releases-push o acts (Set edition told), figures-push o acts (Set edition told), says) refl
step-given o acts (Take edition) says = rw (edition-push o acts (Take edition), last_told-push stage_by acts (Take edition), last_told-push plan_by acts (Take edition), base-push o acts (Take edition), lates-push o acts (Take edition), releases-push o acts (Take edition)) refl
step-given o acts (Install edition path same) says = rw (edition-push o acts (Install edition path same), last_told-push stage_by acts (Install edition path same), last_told-push plan_by acts (Install edition path same), base-push o acts (Install edition path same), lates-push o acts (Install edition path same), releases-push o acts (Install edition path same), figures-push o acts (Install edition path same), says) refl
step-given o acts (Release edition) says = rw (edition-push o acts (Release edition), last_told-push stage_by acts (Release edition), last_told-push plan_by acts (Release edition), base-push o acts (Release edition), lates-push o acts (Release edition), releases-push o acts (Release edition)) refl
step-given o acts (Late edition lmc) says = rw (edition-push o acts (Late edition lmc), last_told-push stage_by acts (Late edition lmc), last_told-push plan_by acts (Late edition lmc), base-push o acts (Late edition lmc), lates-push o acts (Late edition lmc), releases-push o acts (Late edition lmc)) refl
step-given o acts (Reopen edition) says = rw (edition-push o acts (Reopen edition), last_told-push stage_by acts (Reopen edition), last_told-push plan_by acts (Reopen edition), base-push o acts (Reopen edition), lates-push o acts (Reopen edition), releases-push o acts (Reopen edition), figures-push o acts (Reopen edition), says) refl
step-given o acts (Depart edition) says = rw (edition-push o acts (Depart edition), last_told-push stage_by acts (Depart edition), last_told-push plan_by acts (Depart edition), base-push o acts (Depart edition), lates-push o acts (Depart edition), releases-push o acts (Depart edition)) refl
step-given o acts (Show what) says = rw (edition-push o acts (Show what), last_told-push stage_by acts (Show what), last_told-push plan_by acts (Show what), base-push o acts (Show what), lates-push o acts (Show what), releases-push o acts (Show what)) refl

says-push : (o : FlightState) (acts : List Act) (act : Act) → SaysFigures o acts → SaysFigures o (acts ++ act ∷ [])
says-push o acts act says = ap effective (step-given o acts act says) ∙ effective-step (standing_from o acts) act ∙ ap (λ f. figures_by f act) says ∙ sym (figures-push o acts act)

says-none : (o : FlightState) → SaysFigures o []
says-none o = rw (append-nil o.lmcs) refl

pub says : (o : FlightState) (acts : List Act) → SaysFigures o acts
says o acts = by_ends (SaysFigures o) (says-none o) (says-push o) acts

-- one more accepted act takes the standing one step on
pub standing_from-push : (o : FlightState) (acts : List Act) (act : Act) → standing_from o (acts ++ act ∷ []) ≡ step (standing_from o acts) act
standing_from-push o acts act = step-given o acts act (says o acts)

nothing_more : (n : ℕ) → n + 0 ≡ n
nothing_more n = omega arith

few_stay : (n m : ℕ) → n ≤ m → min (n + 0) m ≡ n
few_stay n m few = grind arith

-- before the first act it is the flight that was opened
pub standing_from-nil : (o : FlightState) → o.releases ≤ 1000000000 → standing_from o [] ≡ o
standing_from-nil o few = rw (append-nil o.lmcs) (ap (λ (n : ℕ). record o { edition = n; releases = min (o.releases + 0) 1000000000 }) (nothing_more o.edition) ∙ ap (λ (n : ℕ). record o { releases = n }) (few_stay o.releases 1000000000 few))

-- one more accepted act, where no act comes before a flight is there
pub standing-push : (fleet : List Craft) (opened : Option FlightState) (acts : List Act) (act : Act) → (standing fleet opened acts ≡ None → acts ≡ []) → standing fleet opened (acts ++ act ∷ []) ≡ after fleet (standing fleet opened acts) act
standing-push fleet (Some o) acts act first = ap (λ (x : FlightState). Some x) (standing_from-push o acts act)
standing-push fleet None [] act first = opens act
  where
    opens : (act : Act) → standing fleet None (act ∷ []) ≡ after fleet None act
    opens (NewFlight leg) = elim (aircraft_of fleet leg) as (λ (c : Option Craft). option_map (λ (o : FlightState). standing_from o (NewFlight leg ∷ [])) (option_map (λ a. new_flight a leg) c) ≡ option_map (λ a. new_flight a leg) c) [ None ↦ refl | Some a ↦ refl ]
    opens (Set edition told) = refl
    opens (Take edition) = refl
    opens (Install edition path same) = refl
    opens (Release edition) = refl
    opens (Late edition lmc) = refl
    opens (Reopen edition) = refl
    opens (Depart edition) = refl
    opens (Show what) = refl
standing-push fleet None ((NewFlight leg) ∷ acts) act first = opened_by (aircraft_of fleet leg) first
  where
    opened_by : (c : Option Craft) → (option_map (λ (o : FlightState). standing_from o (NewFlight leg ∷ acts)) (option_map (λ a. new_flight a leg) c) ≡ None → (NewFlight leg ∷ acts) ≡ [])
        → option_map (λ (o : FlightState). standing_from o (NewFlight leg ∷ (acts ++ act ∷ []))) (option_map (λ a. new_flight a leg) c) ≡ after fleet (option_map (λ (o : FlightState). standing_from o (NewFlight leg ∷ acts)) (option_map (λ a. new_flight a leg) c)) act
    opened_by None first = let e : (NewFlight leg ∷ acts) ≡ [] = first refl in absurd (cc)
    opened_by (Some a) first = ap (λ (x : FlightState). Some x) (standing_from-push (new_flight a leg) (NewFlight leg ∷ acts) act)
standing-push fleet None ((Set edition told) ∷ acts) act first = let e : ((Set edition told) ∷ acts) ≡ [] = first refl in absurd (cc)
standing-push fleet None ((Take edition) ∷ acts) act first = let e : ((Take edition) ∷ acts) ≡ [] = first refl in absurd (cc)
standing-push fleet None ((Install edition path same) ∷ acts) act first = let e : ((Install edition path same) ∷ acts) ≡ [] = first refl in absurd (cc)
standing-push fleet None ((Release edition) ∷ acts) act first = let e : ((Release edition) ∷ acts) ≡ [] = first refl in absurd (cc)
standing-push fleet None ((Late edition lmc) ∷ acts) act first = let e : ((Late edition lmc) ∷ acts) ≡ [] = first refl in absurd (cc)
standing-push fleet None ((Reopen edition) ∷ acts) act first = let e : ((Reopen edition) ∷ acts) ≡ [] = first refl in absurd (cc)
standing-push fleet None ((Depart edition) ∷ acts) act first = let e : ((Depart edition) ∷ acts) ≡ [] = first refl in absurd (cc)
standing-push fleet None ((Show what) ∷ acts) act first = let e : ((Show what) ∷ acts) ≡ [] = first refl in absurd (cc)
