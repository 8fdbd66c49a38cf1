-- the file that is written of a load, and its text
use Rattle.std.proofs.Common.{◌≡◌, ◌≢◌, ⊎_elim, ℕ, ◌+◌, ◌<◌, ◌≤◌, true, List, [], ◌∷◌, ◌++◌, length, get_or, map, take, zip, All, AllPairs, Option, Some, None, IfSome, codes, refl, sym, ◌∙◌, ap, ap₂, subst, arith, eq-eqb}
use Rattle.std.specs.Prelude.{slice_get}
use Rattle.std.specs.List.{list_all}
use Rattle.std.specs.Option.{option_map_or}
use Rattle.std.proofs.lemmas.List.{append_assoc, append-nil, take_all}
use Rattle.std.proofs.lemmas.Grind.{get_or_default_zero}
use Rattle.std.proofs.lemmas.Slice.Zip.{get_or-zip}
use Rattle.std.proofs.lemmas.List.Elements.{All-nil, All-cons, All-head, All-tail}
use Rattle.std.proofs.lemmas.Option.{same_Some, slice_get-get_or}
use Rattle.std.proofs.lemmas.Simd.{map-map}
use Rattle.std.proofs.lemmas.Slice.Eq.{bytes_eq-Decides}
use Rattle.hold_parts.specs.declared.parts.Item.{Item}
use Rattle.hold_parts.specs.declared.parts.Position.{Position}
use Rattle.hold_parts.specs.Names.{number_named}
use Rattle.hold_parts.specs.Spellings.{IsName}
use Rattle.hold_limits.specs.Layout.{name_at}
use Rattle.hold_limits.specs.Problem.{Problem}
use Rattle.hold_limits.specs.Faults.{IsLawful}
use Rattle.hold_limits.proofs.LawfulBounds.{hold-bounds}
use Rattle.text_lines.specs.Lines.{text_of}
use Rattle.text_lines.specs.Names.{IsNamed, byte_of}
use Rattle.text_lines.specs.WordRuns.{run_text}
use Rattle.text_lines.proofs.GrowingTexts.{lines_grow_by}
use Rattle.text_lines.proofs.NameLemmas.{named_once, number_named-found, number_named-none, some_position, name_at-is}
use Rattle.text_lines.proofs.NameRuns.{first_named}
use Rattle.text_lines.proofs.SectionLemmas.{text_of-append}
use Rattle.problem_text.specs.TaskText.{task_lines, IsSpelled, IsSpelledPosition, IsSpelledItem}
use Rattle.stop_tasks.specs.Stops.{Stops, stops_of}
use Rattle.stop_tasks.specs.StopFaults.{AreLawfulStops, HasSectors}
use Rattle.stop_tasks.specs.StopPaths.{IsFirstSector}
use Rattle.stop_text.specs.StopFile.{StopFile, leave_line, behind_line, third_lines, sector_lines, file_lines, IsSpelledLeave, IsSpelledBehind, IsSpelledFile, Spells, third_sector, has_id, are_ids, leaves_of, place_named, places_named, stops_of_file}
use Rattle.stop_text.specs.Writing.{leave_of, leaves_said, names_of, IsFileOf}
use Rattle.stop_text.specs.declared.parts.Leave.{Leave}
use Rattle.stop_text.proofs.FileLines.{file_with}

abbrev Lines : Type 0
Lines = List (List ℕ)

-- Texts that grow ---------------------------------------------------------------------------------

-- the line of a container with its last sector
abbrev pub said_line : Item × ℕ → List ℕ
said_line p = leave_line (leave_of p)

length_pairs : (items : List Item) (leaves : List ℕ) → length leaves ≡ length items → length (zip items leaves) ≡ length items
length_pairs [] [] e = refl
length_pairs [] (n ∷ leaves) e = absurd (omega (arith, e))
length_pairs (p ∷ items) [] e = absurd (omega (arith, e))
length_pairs (p ∷ items) (n ∷ leaves) e = let rest = length_pairs items leaves (omega (arith, e)) in omega (arith, rest)

pub one_more_leave : (items : List Item) (leaves : List ℕ) (place : ℕ) (item : Item) (start old new : List ℕ) → length leaves ≡ length items → place < length items → item ≡ get_or items place item
    → old ≡ start ++ text_of (map said_line (take place (zip items leaves))) → new ≡ old ++ (said_line (item, get_or leaves place 0) ++ 10 ∷ []) → new ≡ start ++ text_of (map said_line (take (place + 1) (zip items leaves)))
one_more_leave items leaves place item start old new long within is was grew =
    let n = get_or leaves place 0 in
    let listed : place < length leaves = omega (arith, long, within) in
    let pairs = length_pairs items leaves long in
    let inside : place < length (zip items leaves) = omega (arith, pairs, within) in
    let number : n ≡ get_or leaves place n = sym (get_or_default_zero leaves place n listed) in
    let pair : (item, n) ≡ get_or (zip items leaves) place (item, n) = (λ i. (is i, number i)) ∙ sym (get_or-zip items leaves place (item, n) within listed) in
    lines_grow_by said_line (zip items leaves) place (item, n) start old new inside pair was grew

pub all_leaves : (items : List Item) (leaves : List ℕ) (place : ℕ) (start out : List ℕ) → length leaves ≡ length items → length items ≤ place
    → out ≡ start ++ text_of (map said_line (take place (zip items leaves))) → out ≡ start ++ text_of (map leave_line (leaves_said items leaves))
all_leaves items leaves place start out long past was =
    let pairs = length_pairs items leaves long in
    let all : take place (zip items leaves) ≡ zip items leaves = take_all place (zip items leaves) (omega (arith, pairs, past)) in
    was ∙ ap (λ (ps : List (Item × ℕ)). start ++ text_of (map said_line ps)) all
    ∙ ap (λ (ls : Lines). start ++ text_of ls) (sym (map-map leave_line leave_of (zip items leaves)))

-- The last sectors --------------------------------------------------------------------------------

sectors_said : (items : List Item) (leaves : List ℕ) → length leaves ≡ length items → map (λ (leave : Leave). leave.sector) (leaves_said items leaves) ≡ leaves
sectors_said [] [] e = refl
sectors_said [] (n ∷ leaves) e = absurd (omega (arith, e))
sectors_said (p ∷ items) [] e = absurd (omega (arith, e))
sectors_said (p ∷ items) (n ∷ leaves) e = ap (λ ns. n ∷ ns) (sectors_said items leaves (omega (arith, e)))

length_said : (items : List Item) (leaves : List ℕ) → length leaves ≡ length items → length items ≡ length (leaves_said items leaves)
length_said [] [] e = refl
length_said [] (n ∷ leaves) e = absurd (omega (arith, e))
length_said (p ∷ items) [] e = absurd (omega (arith, e))
length_said (p ∷ items) (n ∷ leaves) e = let rest = length_said items leaves (omega (arith, e)) in omega (arith, rest)

ids_said : (items : List Item) (leaves : List ℕ) → list_all has_id (zip items (leaves_said items leaves)) ≡ true
ids_said [] leaves = refl
ids_said (p ∷ items) [] = refl
ids_said (p ∷ items) (n ∷ leaves) = rw ((bytes_eq-Decides p.id p.id).1 refl) (ids_said items leaves)

-- the lines name the containers, and so their last sectors are read back
leaves_back : (items : List Item) (leaves : List ℕ) → length leaves ≡ length items → leaves_of items (leaves_said items leaves) ≡ leaves
leaves_back items leaves e =
    let said = leaves_said items leaves in
    let named : are_ids items said ≡ true = rw (eq-eqb (length items) (length said) (length_said items leaves e)) (ids_said items leaves) in
    rw named (sectors_said items leaves e)

-- The pairs ---------------------------------------------------------------------------------------

number_back : (ps : List Position) (q : ℕ) → IsNamed ps q → (found : Option ℕ) → number_named ps (name_at ps q) ≡ found → found ≡ Some q
number_back ps q named None e = absurd (number_named-none ps (name_at ps q) e q named refl)
number_back ps q named (Some p) e =
    let there = number_named-found ps (name_at ps q) p e in
    ap Some (sym (named_once ps q p named there.0 there.1))

place_back : (ps : List Position) (q : ℕ) → length ps ≤ 64 → IsNamed ps q → place_named ps (name_at ps q) ≡ q
place_back ps q few named =
    let below = named.known in
    let small : byte_of q ≡ q = omega (arith, few, below) in
    ap (λ o. option_map_or byte_of o 255) (number_back ps q named (number_named ps (name_at ps q)) refl) ∙ small

abbrev AreKnown : List Position → ℕ × ℕ → Type 0
AreKnown ps pair = (pair.0 < length ps) × (pair.1 < length ps)

pairs_back : (ps : List Position) → length ps ≤ 64 → AllPairs (λ (a b : Position). a.name ≢ b.name) ps → (pairs : List (ℕ × ℕ)) → All (AreKnown ps) pairs → map (places_named ps) (map (names_of ps) pairs) ≡ pairs
pairs_back ps few differ [] known = refl
pairs_back ps few differ (pair ∷ pairs) known =
    let here = All-head (AreKnown ps) pair pairs known in
    let front = place_back ps pair.0 few (first_named ps differ pair.0 here.0) in
    let back = place_back ps pair.1 few (first_named ps differ pair.1 here.1) in
    let rest = pairs_back ps few differ pairs (All-tail (AreKnown ps) pair pairs known) in
    λ i. (front i, back i) ∷ rest i

pairs_known : (t : Stops) (first : Problem) → IsFirstSector t first → AreLawfulStops t → All (AreKnown first.hold.positions) t.behind
pairs_known t first is lawful k d within =
    let pair = lawful.behind k within first (get_or t.behind k d) is (slice_get-get_or t.behind k d within) in
    (pair.1, pair.2)

-- The load that the file says ---------------------------------------------------------------------

first_of_file : (t : Stops) (file : StopFile) → IsFileOf t file → IsFirstSector t file.first
first_of_file t file is = sym (ap (λ sectors. slice_get sectors 0) is.tasks)

pub same_load : (t : Stops) (first : Problem) → IsFirstSector t first → IsLawful first → AreLawfulStops t → (file : StopFile) → IsFileOf t file → stops_of_file file ≡ t
same_load t first is right lawful file of_load =
    let at = first_of_file t file of_load in
    let own : first ≡ file.first = same_Some first file.first (sym is ∙ at) in
    let bounds = hold-bounds file.first.hold (subst IsLawful own right).hold in
    let leaves : leaves_of file.first.items file.leaves ≡ t.leaves =
    ap (λ ls. leaves_of file.first.items ls) of_load.leaves ∙ leaves_back file.first.items t.leaves (lawful.leaves.one_each file.first at) in
    let pairs : map (places_named file.first.hold.positions) file.behind ≡ t.behind =
    ap (λ ps. map (places_named file.first.hold.positions) ps) of_load.behind ∙ pairs_back file.first.hold.positions bounds.positions bounds.names t.behind (pairs_known t file.first at lawful) in
    λ i. stops_of (of_load.tasks i) (leaves i) (pairs i)

-- The text ----------------------------------------------------------------------------------------

abbrev pub task_text : Problem → List ℕ
task_text t = text_of (task_lines t)

-- the texts of the tasks are their lines as a text
tasks_text : (a b : Problem) (c : Option Problem) → run_text task_text (a ∷ b ∷ third_sector c) ≡ text_of (task_lines a ++ (task_lines b ++ third_lines c))
tasks_text a b c =
    ap (λ t. task_text a ++ (task_text b ++ t)) (third c)
    ∙ ap (λ t. task_text a ++ t) (sym (text_of-append (task_lines b) (third_lines c)))
    ∙ sym (text_of-append (task_lines a) (task_lines b ++ third_lines c))
  where
    third : (c : Option Problem) → run_text task_text (third_sector c) ≡ text_of (third_lines c)
    third None = refl
    third (Some t) = append-nil (task_text t)

-- there are two tasks or three
two_or_three : (sectors : List Problem) → HasSectors sectors → (a b : Problem) × (c : Option Problem) × (a ∷ b ∷ third_sector c ≡ sectors)
two_or_three [] h = absurd (⊎_elim (λ e. omega (arith, e)) (λ e. omega (arith, e)) h)
two_or_three (a ∷ []) h = absurd (⊎_elim (λ e. omega (arith, e)) (λ e. omega (arith, e)) h)
two_or_three (a ∷ b ∷ []) h = (a, b, None, refl)
two_or_three (a ∷ b ∷ c ∷ []) h = (a, b, Some c, refl)
two_or_three (a ∷ b ∷ c ∷ d ∷ rest) h = absurd (⊎_elim (λ e. omega (arith, e)) (λ e. omega (arith, e)) h)

-- the file of a load with these tasks
abbrev file_of : Stops → Problem → Problem → Option Problem → StopFile
file_of t a b c = file_with (leaves_said a.items t.leaves) (map (names_of a.hold.positions) t.behind) a b c

-- Spellings ---------------------------------------------------------------------------------------

leaves_spelled : (most : ℕ) (items : List Item) (leaves : List ℕ) → most ≤ 3 → All IsSpelledItem items → All (λ number. (1 ≤ number) × (number ≤ most)) leaves → All IsSpelledLeave (leaves_said items leaves)
leaves_spelled most [] leaves few ids known = All-nil IsSpelledLeave
leaves_spelled most (p ∷ items) [] few ids known = All-nil IsSpelledLeave
leaves_spelled most (p ∷ items) (n ∷ leaves) few ids known =
    let Known : ℕ → Type 0 = λ number. (1 ≤ number) × (number ≤ most) in
    let here = All-head Known n leaves known in
    let least = here.0 in
    let below = here.1 in
    All-cons IsSpelledLeave (leave_of (p, n)) (leaves_said items leaves)
    (record { id = (All-head IsSpelledItem p items ids).id; least = least; most = omega (arith, few, below) })
    (leaves_spelled most items leaves few (All-tail IsSpelledItem p items ids) (All-tail Known n leaves known))

name_spelled : (ps : List Position) (q : ℕ) → All IsSpelledPosition ps → q < length ps → IsName (name_at ps q)
name_spelled ps q spelled known = subst IsName (sym (name_at-is ps q some_position known)) (spelled q some_position known).name

pairs_spelled : (ps : List Position) (pairs : List (ℕ × ℕ)) → All IsSpelledPosition ps → All (AreKnown ps) pairs → All IsSpelledBehind (map (names_of ps) pairs)
pairs_spelled ps [] spelled known = All-nil IsSpelledBehind
pairs_spelled ps (pair ∷ pairs) spelled known =
    let here = All-head (AreKnown ps) pair pairs known in
    All-cons IsSpelledBehind (names_of ps pair) (map (names_of ps) pairs) (name_spelled ps pair.0 spelled here.0, name_spelled ps pair.1 spelled here.1)
    (pairs_spelled ps pairs spelled (All-tail (AreKnown ps) pair pairs known))

third_spelled : (a b : Problem) (c : Option Problem) → All IsSpelled (a ∷ b ∷ third_sector c) → IfSome c IsSpelled
third_spelled a b None all = tt
third_spelled a b (Some t) all = All-head IsSpelled t [] (All-tail IsSpelled b (t ∷ []) (All-tail IsSpelled a (b ∷ t ∷ []) all))

few_sectors : (sectors : List Problem) → HasSectors sectors → length sectors ≤ 3
few_sectors sectors h = ⊎_elim (λ e. omega (arith, e)) (λ e. omega (arith, e)) h

file_spelled : (t : Stops) (a b : Problem) (c : Option Problem) → a ∷ b ∷ third_sector c ≡ t.sectors → AreLawfulStops t → All IsSpelled t.sectors → IsSpelledFile (file_of t a b c)
file_spelled t a b c e lawful all =
    let is : IsFirstSector t a = ap (λ sectors. slice_get sectors 0) (sym e) in
    let own = subst (All IsSpelled) (sym e) all in
    let first = All-head IsSpelled a (b ∷ third_sector c) own in
    record {
      leaves = leaves_spelled (length t.sectors) a.items t.leaves (few_sectors t.sectors lawful.sectors) first.items lawful.leaves.known;
      behind = pairs_spelled a.hold.positions t.behind first.positions (pairs_known t a is lawful);
      first = first;
      second = All-head IsSpelled b (third_sector c) (All-tail IsSpelled a (b ∷ third_sector c) own);
      third = third_spelled a b c own;
    }

-- The text that is written ------------------------------------------------------------------------

-- the lines before the tasks, from the parts of the load
abbrev pub leave_lines : Stops → Problem → Lines
leave_lines t first = map leave_line (leaves_said first.items t.leaves)

abbrev pub pair_lines : Stops → Problem → Lines
pair_lines t first = map (λ pair. behind_line (names_of first.hold.positions pair)) t.behind

text_is : (t : Stops) (a b : Problem) (c : Option Problem) (text : List ℕ) → a ∷ b ∷ third_sector c ≡ t.sectors
    → text ≡ text_of (((codes "STOPS 1" ∷ []) ++ leave_lines t a) ++ pair_lines t a) ++ run_text task_text t.sectors → text ≡ text_of (file_lines (file_of t a b c))
text_is t a b c text e is =
    let start : Lines = codes "STOPS 1" ∷ [] in
    let leaves = leave_lines t a in
    let tasks = sector_lines (file_of t a b c) in
    let same : pair_lines t a ≡ map behind_line (map (names_of a.hold.positions) t.behind) = sym (map-map behind_line (names_of a.hold.positions) t.behind) in
    is
    ∙ ap₂ (λ (pairs : Lines) (sectors : List Problem). text_of ((start ++ leaves) ++ pairs) ++ run_text task_text sectors) same (sym e)
    ∙ ap (λ (more : List ℕ). text_of ((start ++ leaves) ++ map behind_line (map (names_of a.hold.positions) t.behind)) ++ more) (tasks_text a b c)
    ∙ sym (text_of-append ((start ++ leaves) ++ map behind_line (map (names_of a.hold.positions) t.behind)) tasks)
    ∙ ap text_of (append_assoc (start ++ leaves) (map behind_line (map (names_of a.hold.positions) t.behind)) tasks ∙ append_assoc start leaves (map behind_line (map (names_of a.hold.positions) t.behind) ++ tasks))

-- the text is that of a file of the load
pub file_written : (t : Stops) (first : Problem) (text : List ℕ) → IsFirstSector t first → AreLawfulStops t → All IsSpelled t.sectors
    → text ≡ text_of (((codes "STOPS 1" ∷ []) ++ leave_lines t first) ++ pair_lines t first) ++ run_text task_text t.sectors → (file : StopFile) × IsFileOf t file × Spells text file
file_written t first text is lawful all e =
    let tasks = two_or_three t.sectors lawful.sectors in
    let a = tasks.0 in
    let own : first ≡ a = same_Some first a (sym is ∙ ap (λ sectors. slice_get sectors 0) (sym tasks.3)) in
    let Written : Problem → Type 0 = λ x. text ≡ text_of (((codes "STOPS 1" ∷ []) ++ leave_lines t x) ++ pair_lines t x) ++ run_text task_text t.sectors in (
      file_of t a tasks.1 tasks.2,
      record { leaves = refl; behind = refl; tasks = tasks.3 },
      record { is = text_is t a tasks.1 tasks.2 text tasks.3 (subst Written own e); spelled = file_spelled t a tasks.1 tasks.2 tasks.3 lawful all },
    )
