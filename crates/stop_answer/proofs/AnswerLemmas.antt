-- the text of a plan over sectors, part by part
use Rattle.std.proofs.Common.{◌≡◌, ℕ, ◌+◌, ◌<◌, List, [], ◌∷◌, ◌++◌, length, drop, get_or, Some, ap, sym, ◌∙◌, add-one, append_assoc, arith}
use Rattle.std.proofs.Math.Seq.{drop-cons}
use Rattle.std.specs.Prelude.{slice_get, codes}
use Rattle.hold_limits.specs.Problem.{Problem}
use Rattle.hold_limits.specs.Placement.{IsSound, placed, take_off_index}
use Rattle.text_lines.specs.Lines.{text_of}
use Rattle.plan_text.specs.PlanText.{one_line, place_lines, balance_lines}
use Rattle.plan_text.proofs.TextLemmas.{text_of-append}
use Rattle.stop_tasks.specs.Stops.{Stops, leaves_in_order}
use Rattle.stop_tasks.specs.StopFaults.{AreLawfulStops}
use Rattle.stop_tasks.specs.StopPaths.{IsFirstSector, IsStopAdmissible, OnSectors, last_sectors, part_of}
use Rattle.stop_tasks.proofs.AdmissibleLemmas.{stop-admissible-parts}
use Rattle.stop_world.proofs.SectorLemmas.{on-first}
use Rattle.stop_answer.specs.AnswerText.{sector_line, sector_lines, stop_plan_lines}

-- the line of a sector, and then those of the sectors after it
pub sector_lines-next : (out last path : List ℕ) (place : ℕ) (sectors : List Problem) (sector other : Problem) → place < length sectors → sector ≡ get_or sectors place other
    → (out ++ text_of (sector_line (place + 1) (take_off_index sector (part_of last (place + 1) path)) ∷ [])) ++ text_of (sector_lines last path (place + 1 + 1) (drop (place + 1) sectors))
    ≡ out ++ text_of (sector_lines last path (place + 1) (drop place sectors))
sector_lines-next out last path place sectors sector other within is =
    let line = sector_line (place + 1) (take_off_index sector (part_of last (place + 1) path)) in
    let rest = text_of (sector_lines last path (place + 1 + 1) (drop (place + 1) sectors)) in
    let cut : drop place sectors ≡ get_or sectors place other ∷ drop (place + 1) sectors = rw add-one (drop-cons sectors place other within) in
    let there : drop place sectors ≡ sector ∷ drop (place + 1) sectors = cut ∙ ap (λ s. s ∷ drop (place + 1) sectors) (sym is) in
    append_assoc out (line ++ 10 ∷ []) rest
    ∙ ap (λ text. out ++ text) (append_assoc line (10 ∷ []) rest)
    ∙ ap (λ ss. out ++ text_of (sector_lines last path (place + 1) ss)) (sym there)

-- the plan's text, part by part
pub stop_plan_text-is : (sectors : List Problem) (leaves path : List ℕ) (first : Problem) → slice_get sectors 0 ≡ Some first
    → text_of (stop_plan_lines sectors leaves path)
    ≡ one_line (codes "PLAN" ∷ []) ++ text_of (place_lines first (placed first path)) ++ text_of (balance_lines first path)
    ++ text_of (sector_lines (leaves_in_order first.items leaves) path 2 (drop 1 sectors)) ++ one_line (codes "END" ∷ [])
stop_plan_text-is [] leaves path first there = absurd (cc there)
stop_plan_text-is (sector ∷ later) leaves path first there =
    let same : sector ≡ first = cc in
    let plan : List (List ℕ) = codes "PLAN" ∷ [] in
    let end : List (List ℕ) = codes "END" ∷ [] in
    let places = place_lines first (placed first path) in
    let balance = balance_lines first path in
    let others = sector_lines (leaves_in_order first.items leaves) path 2 later in
    ap (λ s. text_of (stop_plan_lines (s ∷ later) leaves path)) same
    ∙ text_of-append (plan ++ places ++ balance ++ others) end
    ∙ ap (λ a. a ++ text_of end) (text_of-append (plan ++ places ++ balance) others
    ∙ ap (λ a. a ++ text_of others) (text_of-append (plan ++ places) balance
    ∙ ap (λ a. a ++ text_of balance) (text_of-append plan places)))

-- the part of an admissible path is sound on each sector
pub sound-parts : (t : Stops) (first : Problem) (path : List ℕ) → IsFirstSector t first → IsStopAdmissible t path → OnSectors IsSound t.sectors (last_sectors t first) path
sound-parts t first path is_first admissible place sector at_place =
    ((stop-admissible-parts t first path is_first admissible).2 place sector at_place).sound

-- and the path is sound on the first one
pub sound-first : (t : Stops) (first : Problem) (path : List ℕ) → AreLawfulStops t → IsFirstSector t first → IsStopAdmissible t path → IsSound first path
sound-first t first path lawful is_first admissible =
    let complete : length path ≡ length first.items = (stop-admissible-parts t first path is_first admissible).0 in
    on-first IsSound t first path lawful is_first (omega (arith, complete)) (sound-parts t first path is_first admissible)
