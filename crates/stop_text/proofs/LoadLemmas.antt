-- the load that what the lines say makes
use Rattle.std.proofs.Common.{◌≡◌, ⊎_elim, inl, inr, ℕ, ◌+◌, ◌∷◌, List, [], map, refl, sym, ◌∙◌, ap, subst, All, Option, Some, None, IfSome, Result, Ok, Err, IfOk, IfErr, MatchResult}
use Rattle.std.proofs.lemmas.List.Elements.{All-nil, All-cons, All-head, All-tail, All-weaker}
use Rattle.hold_limits.specs.Problem.{Problem}
use Rattle.hold_limits.specs.Faults.{IsLawful}
use Rattle.problem_text.specs.Reading.{IsFaultOf}
use Rattle.problem_text.specs.declared.fault.TextFault.{TextFault}
use Rattle.problem_text.specs.declared.fault.TextFault.TheVariants as text
use Rattle.text_lines.specs.declared.fault.LineFault.{LineFault}
use Rattle.stop_tasks.specs.Stops.{Stops, stops_of}
use Rattle.stop_tasks.specs.StopFaults.{AreLawfulStops, IsStopFault}
use Rattle.stop_tasks.specs.declared.fault.StopFault.{StopFault}
use Rattle.stop_tasks.specs.declared.fault.StopFault.TheVariants.{Sectors, Holds, Leaves, Aboard, Behind}
use Rattle.stop_text.specs.StopFile.{StopFile, Spells, sectors_of, third_sector, leaves_of, places_named, stops_of_file}
use Rattle.stop_text.specs.StopRefusals.{HasNoFault, IsFirstFault, IsLoadFault, HasWrongLines, IsRefusedStops, stop_text_fault}
use Rattle.stop_text.specs.StopRefusals.IsLoadFault.{wrong_task, wrong_load, no_memory}
use Rattle.stop_text.specs.StopRefusals.HasWrongLines.{wrong, memory}
use Rattle.stop_text.specs.StopRefusals.IsRefusedStops.{by_load}
use Rattle.stop_text.specs.Reading.{IsSectorOf, IsThirdOf, IsThirdFault, IsTaskFault, AreTasksOf, IsFaultOfLoad, load_with}
use Rattle.stop_text.specs.declared.fault.StopTextFault.{StopTextFault}
use Rattle.stop_text.specs.declared.fault.StopTextFault.TheVariants as stop
use Rattle.stop_text.specs.declared.parts.Leave.{Leave}
use Rattle.stop_text.specs.declared.parts.Sector.{Sector}
use Rattle.stop_text.specs.declared.parts.Tasks.{Tasks}
use Rattle.stop_text.proofs.FileLines.{spelled_once}

-- the sector with this number has this fault
abbrev pub HasFault : ℕ → Problem → StopTextFault → Type 0
HasFault number t fault = (own : TextFault) × (fault ≡ stop.Task number own) × IsFaultOf t own

pub third_fault : (t : Option Problem) (sector : Sector) (fault : StopTextFault) → ((x : Problem) → IsSectorOf x sector → HasFault 3 x fault) → IsThirdOf t (Some sector) → IsThirdFault t fault
third_fault None sector fault told is = absurd is
third_fault (Some t) sector fault told is = told t is

-- The first fault of a task -----------------------------------------------------------------------

no_fault : (t : Problem) → IsLawful t → HasNoFault t
no_fault t lawful = (lawful.hold.right, lawful.right)

pub first_wrong : (a b : Problem) (c : Option Problem) (fault : StopTextFault) → HasFault 1 a fault → IsTaskFault (a ∷ b ∷ third_sector c) fault
first_wrong a b c fault h = record { number = 1; own = h.0; is = h.1; first = inl (refl, h.2) }

pub second_wrong : (a b : Problem) (c : Option Problem) (fault : StopTextFault) → IsLawful a → HasFault 2 b fault → IsTaskFault (a ∷ b ∷ third_sector c) fault
second_wrong a b c fault p h = record { number = 2; own = h.0; is = h.1; first = inr (no_fault a p, (1, refl, inl (refl, h.2))) }

pub third_wrong : (a b : Problem) (c : Option Problem) (fault : StopTextFault) → IsLawful a → IsLawful b → IsThirdFault c fault → IsTaskFault (a ∷ b ∷ third_sector c) fault
third_wrong a b None fault p q h = absurd h
third_wrong a b (Some t) fault p q h = record { number = 3; own = h.0; is = h.1; first = inr (no_fault a p, (2, refl, inr (no_fault b q, (1, refl, inl (refl, h.2))))) }

pub all_lawful : (a b : Problem) (c : Option Problem) → IsLawful a → IsLawful b → IfSome c IsLawful → All IsLawful (a ∷ b ∷ third_sector c)
all_lawful a b c p q r = All-cons IsLawful a (b ∷ third_sector c) p (All-cons IsLawful b (third_sector c) q (of c r))
  where
    of : (c : Option Problem) → IfSome c IsLawful → All IsLawful (third_sector c)
    of None r = All-nil IsLawful
    of (Some t) r = All-cons IsLawful t [] r (All-nil IsLawful)

-- The load ----------------------------------------------------------------------------------------

pub task_told : (file : StopFile) (fault : StopTextFault) → IsTaskFault (sectors_of file) fault → IsLoadFault file fault
task_told file fault h = subst (IsLoadFault file) (sym h.is) (wrong_task h.number h.own h.first)

abbrev pub IsTold : StopFile → Result Stops StopTextFault → Type 0
IsTold file r = MatchResult r (λ t. (t ≡ stops_of_file file) × AreLawfulStops t × All IsLawful (sectors_of file)) (IsLoadFault file)

pub load_told : (file : StopFile) (tasks : Tasks) (leaves : List Leave) (behind : List (List ℕ × List ℕ)) → AreTasksOf file.first file.second file.third tasks → leaves ≡ file.leaves → behind ≡ file.behind
    → (r : Result Stops StopTextFault) → IfOk r (λ t. (t ≡ load_with tasks leaves behind) × AreLawfulStops t) → IfErr r (IsFaultOfLoad (load_with tasks leaves behind)) → IsTold file r
load_told file tasks leaves behind are e g r made refused = of r made refused
  where
    same : load_with tasks leaves behind ≡ stops_of_file file
    same i = stops_of (are.first i ∷ are.second i ∷ third_sector (are.third i)) (leaves_of (are.first i).items (e i)) (map (places_named (are.first i).hold.positions) (g i))

    of_fault : (fault : StopTextFault) → IsFaultOfLoad (load_with tasks leaves behind) fault → IsLoadFault file fault
    of_fault (stop.Line n) h = absurd h
    of_fault stop.NoEnd h = absurd h
    of_fault (stop.Task number own) h = absurd h
    of_fault (stop.Stop own) h = wrong_load own (All-weaker IsLawful HasNoFault no_fault (sectors_of file) are.lawful) (subst (λ (s : Stops). IsStopFault s own) same h)
    of_fault stop.NoMemory h = no_memory

    of : (r : Result Stops StopTextFault) → IfOk r (λ t. (t ≡ load_with tasks leaves behind) × AreLawfulStops t) → IfErr r (IsFaultOfLoad (load_with tasks leaves behind)) → IsTold file r
    of (Ok t) made refused = (made.0 ∙ same, made.1, are.lawful)
    of (Err fault) made refused = of_fault fault refused

-- Lawful loads have no fault ----------------------------------------------------------------------

pub fault_twice : (t : Problem) (fault : TextFault) → HasNoFault t → IsFaultOf t fault → ⊥
fault_twice t (text.Line n) none h = h
fault_twice t text.NoEnd none h = h
fault_twice t (text.Hold fault) none h = let hold = none.0 in absurd (cc (hold, h))
fault_twice t (text.Task fault) none h = let task = none.1 in let own = h.1 in absurd (cc (task, own))
fault_twice t text.NoMemory none h = h

pub no_first_fault : (sectors : List Problem) (number : ℕ) (fault : TextFault) → All HasNoFault sectors → IsFirstFault sectors number fault → ⊥
no_first_fault [] number fault none h = h
no_first_fault (t ∷ ts) number fault none h =
    ⊎_elim
    (λ (a : (number ≡ 1) × IsFaultOf t fault). fault_twice t fault (All-head HasNoFault t ts none) a.1)
    (λ (b : HasNoFault t × ((earlier : ℕ) × (number ≡ earlier + 1) × IsFirstFault ts earlier fault)). no_first_fault ts b.1.0 fault (All-tail HasNoFault t ts none) b.1.2)
    h

no_stop_fault : (t : Stops) (fault : StopFault) → AreLawfulStops t → IsStopFault t fault → ⊥
no_stop_fault t (Sectors number) l h = h.1 l.sectors
no_stop_fault t (Holds number) l h = h.1.2.2 (l.holds h.1.0 h.1.2.0)
no_stop_fault t Leaves l h = h.2 l.leaves
no_stop_fault t (Aboard number) l h = h.3.2.2 (l.aboard h.3.0 h.3.2.0)
no_stop_fault t (Behind number) l h = h.4.2 (l.behind number h.4.0)

pub lawful_told : (file : StopFile) (fault : StopTextFault) → All HasNoFault (sectors_of file) → AreLawfulStops (stops_of_file file) → IsLoadFault file fault → fault ≡ stop.NoMemory
lawful_told file _ lawful stops (wrong_task number own h) = absurd (no_first_fault (sectors_of file) number own lawful h)
lawful_told file _ lawful stops (wrong_load own tasks h) = absurd (no_stop_fault (stops_of_file file) own stops h)
lawful_told file _ lawful stops no_memory = refl

-- The text ----------------------------------------------------------------------------------------

pub load_read : (text : List ℕ) (file : StopFile) → Spells text file → (r : Result Stops StopTextFault) → IsTold file r
    → IfOk r (λ t. (file : StopFile) × Spells text file × (t ≡ stops_of_file file) × AreLawfulStops t × All IsLawful t.sectors)
load_read text file s (Ok t) told = (file, s, told.0, told.1, subst (λ (u : Stops). All IsLawful u.sectors) (sym told.0) told.2)
load_read text file s (Err fault) told = tt

pub load_refused : (text : List ℕ) (file : StopFile) → Spells text file → (r : Result Stops StopTextFault) → IsTold file r → IfErr r (IsRefusedStops text)
load_refused text file s (Ok t) told = tt
load_refused text file s (Err fault) told = by_load file fault s told

pub load_complete : (text : List ℕ) (file : StopFile) → Spells text file → (r : Result Stops StopTextFault) → IsTold file r
    → (other : StopFile) → Spells text other → All HasNoFault (sectors_of other) → AreLawfulStops (stops_of_file other) → MatchResult r (λ t. t ≡ stops_of_file other) (λ fault. fault ≡ stop.NoMemory)
load_complete text file s (Ok t) told other u lawful stops = told.0 ∙ ap stops_of_file (spelled_once text file other s u)
load_complete text file s (Err fault) told other u lawful stops = lawful_told other fault lawful stops (subst (λ (f : StopFile). IsLoadFault f fault) (spelled_once text file other s u) told)

-- what spells a file has no wrong lines
pub right_lines : (text : List ℕ) (file : StopFile) (fault : LineFault) → Spells text file → HasWrongLines text fault → stop_text_fault fault ≡ stop.NoMemory
right_lines text file fault s (wrong none fails) = absurd (none file s)
right_lines text file fault s (memory e) = ap stop_text_fault e
