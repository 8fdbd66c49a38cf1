-- the text of a row, line by line
use Rattle.std.proofs.Common.{◌≡◌, ℕ, ℤ, FitsSigned, w16, w32, to_z, of_z, ◌∷◌, ◌++◌, List, [], map, sym, ◌∙◌, ap, arith, codes, Some}
use Rattle.std.proofs.lemmas.Int.{to_z-of_z, fits_signed_from_abs}
use Rattle.mass_units.specs.Spelling.{number_text, signed_text}
use Rattle.mass_units.proofs.SpellingLemmas.{unsigned_abs-fits}
use Rattle.flight_state.specs.declared.change.Lmc.{Lmc}
use Rattle.flight_state.specs.declared.change.Lmc.TheVariants.{Cabin}
use Rattle.std.specs.Prelude.{option_map}
use Rattle.std.proofs.lemmas.List.{append_assoc}
use Rattle.arrayvec.specs.ArrayVec.{ArrayVec}
use Rattle.hold_parts.specs.declared.parts.Position.{Position}
use Rattle.hold_limits.specs.Layout.{name_at}
use Rattle.text_lines.specs.Lines.{text_of}
use Rattle.text_lines.specs.WordRuns.{run_text, name_text}
use Rattle.text_lines.proofs.SectionLemmas.{text_of-append}
use Rattle.text_lines.proofs.NameRuns.{line_of-names}
use Rattle.trim.specs.declared.figures.Figures.{Figures}
use Rattle.flight_state.specs.declared.leg.Leg.{Leg}
use Rattle.flight_state.specs.declared.state.Stage.{Stage}
use Rattle.flight_state.specs.declared.state.FlightState.{FlightState}
use Rattle.flight_row.specs.declared.row.Version.TheVariants.{Two}
use Rattle.flight_row.specs.declared.row.Row.{Row}
use Rattle.flight_row.specs.RowText.{version_line, leg_line, edition_line, stage_line, releases_line, dry_line, fuel_line, limits_line, zone_line, container_line, loose_line, plan_lines, change_line, figure_lines, row_text}
use Rattle.flight_row.specs.Loading.{plan_names}

abbrev Lines : Type 0
Lines = List (List ℕ)

-- lines one after another
five_lines : (start a b c d e : List ℕ) → (((((start ++ a) ++ 10 ∷ []) ++ (b ++ 10 ∷ [])) ++ (c ++ 10 ∷ [])) ++ (d ++ 10 ∷ [])) ++ (e ++ 10 ∷ []) ≡ start ++ (a ++ 10 ∷ (b ++ 10 ∷ (c ++ 10 ∷ (d ++ 10 ∷ (e ++ 10 ∷ [])))))
five_lines start a b c d e = simp append_assoc

six_parts : (start : List ℕ) (a b c d e f : Lines) → (((((start ++ text_of a) ++ text_of b) ++ text_of c) ++ text_of d) ++ text_of e) ++ text_of f ≡ start ++ text_of (a ++ (b ++ (c ++ ((d ++ e) ++ f))))
six_parts start a b c d e f = simp (text_of-append, append_assoc)

five_parts : (a b c d e : Lines) → (((text_of a ++ text_of b) ++ text_of c) ++ text_of d) ++ text_of e ≡ text_of ((((a ++ b) ++ c) ++ d) ++ e)
five_parts a b c d e = simp text_of-append

pub head_written : (leg : Leg) (edition : ℕ) (stage : Stage) (releases : ℕ) (start t1 t2 t3 t4 t5 t6 : List ℕ) → t1 ≡ start ++ codes "FLIGHT 2" → t2 ≡ t1 ++ 10 ∷ [] → t3 ≡ t2 ++ (leg_line leg ++ 10 ∷ []) → t4 ≡ t3 ++ (edition_line edition ++ 10 ∷ [])
    → t5 ≡ t4 ++ (stage_line stage ++ 10 ∷ []) → t6 ≡ t5 ++ (releases_line releases ++ 10 ∷ []) → t6 ≡ start ++ text_of (version_line Two ∷ leg_line leg ∷ edition_line edition ∷ stage_line stage ∷ releases_line releases ∷ [])
head_written leg edition stage releases start t1 t2 t3 t4 t5 t6 e1 e2 e3 e4 e5 e6 =
    rw (e6, e5, e4, e3, e2, e1) (five_lines start (codes "FLIGHT 2") (leg_line leg) (edition_line edition) (stage_line stage) (releases_line releases))

pub base_written : (f : Figures) (start t1 t2 t3 t4 t5 t6 : List ℕ) → t1 ≡ start ++ (dry_line f.dry ++ 10 ∷ []) → t2 ≡ t1 ++ (fuel_line f.fuel ++ 10 ∷ []) → t3 ≡ t2 ++ (limits_line f.regulated ++ 10 ∷ []) → t4 ≡ t3 ++ text_of (map zone_line f.cabin)
    → t5 ≡ t4 ++ text_of (map container_line f.containers) → t6 ≡ t5 ++ text_of (map loose_line f.loose) → t6 ≡ start ++ text_of (figure_lines f)
base_written f start t1 t2 t3 t4 t5 t6 e1 e2 e3 e4 e5 e6 =
    rw (e6, e5, e4, e3, e2, e1)
    (six_parts start (dry_line f.dry ∷ []) (fuel_line f.fuel ∷ []) (limits_line f.regulated ∷ []) (map zone_line f.cabin) (map container_line f.containers) (map loose_line f.loose))

pub plan_written : (ps : List Position) (s : FlightState) (path : ArrayVec ℕ) (numbers start t1 t2 t3 : List ℕ) → s.plan ≡ Some path → numbers ≡ path.items → t1 ≡ start ++ codes "plan" → t2 ≡ t1 ++ run_text (name_text ps) numbers → t3 ≡ t2 ++ 10 ∷ []
    → t3 ≡ start ++ text_of (plan_lines (plan_names ps s))
plan_written ps s path numbers start t1 t2 t3 planned are e1 e2 e3 =
    let run = run_text (name_text ps) path.items in
    let a2 : t2 ≡ start ++ (codes "plan" ++ run) = e2 ∙ ap (λ ns. t1 ++ run_text (name_text ps) ns) are ∙ ap (λ t. t ++ run) e1 ∙ append_assoc start (codes "plan") run in
    e3 ∙ ap (λ t. t ++ 10 ∷ []) a2 ∙ append_assoc start (codes "plan" ++ run) (10 ∷ [])
    ∙ ap (λ line. start ++ (line ++ 10 ∷ [])) (sym (line_of-names (codes "plan") ps path.items))
    ∙ ap (λ o. start ++ text_of (plan_lines (option_map (λ (plan : ArrayVec ℕ). map (name_at ps) plan.items) o))) (sym planned)

-- all parts of a row
pub row_written : (row : Row) (t1 t2 t3 t4 t5 t6 : List ℕ) → t1 ≡ text_of (version_line Two ∷ leg_line row.leg ∷ edition_line row.edition ∷ stage_line row.stage ∷ releases_line row.releases ∷ []) → t2 ≡ t1 ++ text_of (figure_lines row.base)
    → t3 ≡ t2 ++ text_of (plan_lines row.plan) → t4 ≡ t3 ++ text_of (map change_line row.lmcs) → t5 ≡ t4 ++ codes "END" → t6 ≡ t5 ++ 10 ∷ [] → t6 ≡ row_text Two row
row_written row t1 t2 t3 t4 t5 t6 e1 e2 e3 e4 e5 e6 =
    let H : Lines = version_line Two ∷ leg_line row.leg ∷ edition_line row.edition ∷ stage_line row.stage ∷ releases_line row.releases ∷ [] in
    let end : t6 ≡ t4 ++ (codes "END" ++ 10 ∷ []) = e6 ∙ ap (λ t. t ++ 10 ∷ []) e5 ∙ append_assoc t4 (codes "END") (10 ∷ []) in
    rw (end, e4, e3, e2, e1) (five_parts H (figure_lines row.base) (plan_lines row.plan) (map change_line row.lmcs) (codes "END" ∷ []))

-- Late changes ---------------------------------------------------------------------------------------

-- a number of 16 bits, as one of 32 bits
pub as_wide : (z m : ℤ) → FitsSigned w16 z → m ≡ to_z w16 (of_z w16 z) → to_z w32 (of_z w32 m) ≡ z
as_wide z m fits is =
    let small = unsigned_abs-fits w16 z fits in
    ap (λ (y : ℤ). to_z w32 (of_z w32 y)) (is ∙ to_z-of_z w16 z fits) ∙ to_z-of_z w32 z (fits_signed_from_abs w32 z (omega (arith, small)))

four : (start x1 x2 x3 x4 : List ℕ) → (((start ++ x1) ++ x2) ++ x3) ++ x4 ≡ start ++ (x1 ++ (x2 ++ (x3 ++ x4)))
four start x1 x2 x3 x4 = simp append_assoc

pub zone_change_written : (zone n : ℕ) (adults children infants a c i : ℤ) (start t1 t2 t3 t4 : List ℕ) → n ≡ zone → a ≡ adults → c ≡ children → i ≡ infants
    → t1 ≡ start ++ 32 ∷ number_text n → t2 ≡ t1 ++ 32 ∷ signed_text a → t3 ≡ t2 ++ 32 ∷ signed_text c → t4 ≡ t3 ++ 32 ∷ signed_text i
    → t4 ≡ start ++ 32 ∷ (number_text zone ++ 32 ∷ (signed_text adults ++ 32 ∷ (signed_text children ++ 32 ∷ signed_text infants)))
zone_change_written zone n adults children infants a c i start t1 t2 t3 t4 en ea ec ei e1 e2 e3 e4 =
    rw (e4, e3, e2, e1, en, ea, ec, ei) (four start (32 ∷ number_text zone) (32 ∷ signed_text adults) (32 ∷ signed_text children) (32 ∷ signed_text infants))

pub cabin_written : (change : Lmc) (zone : ℕ) (adults children infants a c i : ℤ) (start t1 t2 : List ℕ) → change ≡ Cabin zone adults children infants → a ≡ adults → c ≡ children → i ≡ infants → t1 ≡ start ++ codes "lmc zone"
    → t2 ≡ t1 ++ 32 ∷ (number_text zone ++ 32 ∷ (signed_text a ++ 32 ∷ (signed_text c ++ 32 ∷ signed_text i))) → t2 ≡ start ++ change_line change
cabin_written change zone adults children infants a c i start t1 t2 is ea ec ei e1 e2 =
    rw (is, e2, e1, ea, ec, ei) (append_assoc start (codes "lmc zone") (32 ∷ (number_text zone ++ 32 ∷ (signed_text adults ++ 32 ∷ (signed_text children ++ 32 ∷ signed_text infants)))))
