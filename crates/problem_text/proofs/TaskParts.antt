-- the lines of a task, part by part
use Rattle.std.proofs.Common.{◌≡◌, ◌≢◌, ℕ, ◌+◌, ◌++◌, ◌∷◌, List, [], map, length, get_or, refl, sym, ◌∙◌, ap, subst, arith, All, Option, Some, None, IfSome, codes}
use Rattle.std.proofs.lemmas.List.{append_assoc}
use Rattle.std.proofs.lemmas.List.Elements.{All-nil, All-cons, All-append, All-map, All-weaker}
use Rattle.mass_units.specs.declared.Ticks.{Ticks}
use Rattle.hold_parts.specs.Spellings.{IsName}
use Rattle.hold_limits.specs.Layout.{Layout}
use Rattle.hold_limits.specs.Problem.{Problem}
use Rattle.hold_parts.specs.declared.parts.Position.{Position}
use Rattle.hold_parts.specs.declared.parts.Combined.{Combined}
use Rattle.hold_parts.specs.declared.parts.Cumulative.{Cumulative}
use Rattle.hold_parts.specs.declared.parts.Lateral.{Lateral}
use Rattle.hold_parts.specs.declared.parts.Item.{Item}
use Rattle.hold_parts.specs.declared.parts.Loose.{Loose}
use Rattle.hold_parts.specs.declared.parts.Indices.{Indices}
use Rattle.text_lines.specs.Cuts.{Avoids}
use Rattle.text_lines.specs.Lines.{text_of}
use Rattle.text_lines.specs.declared.lines.Lines.{Lines as Point}
use Rattle.text_lines.proofs.WordLemmas.{plain_word}
use Rattle.text_lines.proofs.NameRuns.{AreNames}
use Rattle.text_lines.proofs.TextCuts.{AreLines}
use Rattle.text_lines.proofs.PartSteps.{IsAny, PartBetween}
use Rattle.text_lines.proofs.Rests.{Rest, behind, Leads, then, stops-at, StartsWithBlock, past_block, StartsWithOne, past_said}
use Rattle.text_lines.proofs.RunsOfLines.{StartsWithRun, past_run, IsLast}
use Rattle.text_lines.proofs.RunOfLines.{section_once}
use Rattle.text_lines.proofs.OneReading.{IsReadOnce, block_then, one_then, run_then, last_then}
use Rattle.problem_text.proofs.SmallerTexts.{IsWithin, Holds, past_into, within_then}
use Rattle.problem_text.specs.TaskText.{task_lines, position_line, exclude_line, combined_line, cumulative_line, side_line, lateral_line, header_line, lateral_lines, item_line, loose_line, IsSpelledPosition, IsSpelledExclude, IsSpelledCombined, IsSpelledCumulative, IsSpelledSide, IsSpelledLateral, IsSpelledItem, IsSpelledLoose, IsSpelled}
use Rattle.problem_text.specs.Grammar.{version_line, version_of, last_part, loose_part, item_part, lateral_part, cumulative_part, combined_part, limit_part, IsTaskOf}
use Rattle.problem_text.specs.Parts.{AreIndices, last_lines}
use Rattle.problem_text.specs.declared.parts.Version.{Version}
use Rattle.problem_text.specs.declared.parts.Version.TheVariants.{One, Two}
use Rattle.problem_text.proofs.PositionLemmas.{positions}
use Rattle.problem_text.proofs.LineLemmas as kind
use Rattle.problem_text.proofs.LineLemmas.{Band, base_text, window_text, ideal_text, IsSpelledIndex, IsSpelledBand}
use Rattle.problem_text.proofs.LineKinds.{positions_end, excludes_end, combined_end, cumulative_end, sides_end, items_end, loose_end}

abbrev Lines : Type 0
Lines = List (List ℕ)

-- The header and the positions --------------------------------------------------------------------

abbrev pub tasks : Rest Problem
tasks = record { Is = IsSpelled; lines = task_lines }

abbrev position_part : Problem → Lines
position_part t = map position_line t.hold.positions ++ limit_part t.hold.positions t

abbrev pub from_positions : Version → Rest Problem
from_positions version = behind tasks (λ t. version_of t.hold.lateral) version position_part

-- what follows the positions, over the positions of the task itself and over those that were read
abbrev own_limits : Version → List Position → Rest Problem
own_limits version ps = behind (from_positions version) (λ t. t.hold.positions) ps (λ t. limit_part t.hold.positions t)

abbrev pub limits : Version → List Position → Rest Problem
limits version ps = record { Is = IsTaskOf version ps; lines = limit_part ps }

task_lines-whole : (t : Problem) → task_lines t ≡ header_line t.hold.lateral ∷ position_part t
task_lines-whole t = simp append_assoc

version_line-of : (lateral : Option Lateral) → header_line lateral ≡ version_line (version_of lateral)
version_line-of None = refl
version_line-of (Some lateral) = refl

versions_differ : codes "TASK 1" ≢ codes "TASK 2"
versions_differ e = let digits : 49 ≡ 50 = ap (λ line. get_or line 5 0) e in absurd (omega (arith, digits))

version_once : (a b : Version) → version_line a ≡ version_line b → a ≡ b
version_once One One e = refl
version_once One Two e = absurd (versions_differ e)
version_once Two One e = absurd (versions_differ (sym e))
version_once Two Two e = refl

version_avoids : (version : Version) → Avoids 10 (version_line version)
version_avoids One = plain_word 10 (codes "TASK 1") refl
version_avoids Two = plain_word 10 (codes "TASK 2") refl

abbrev pub IsAnyVersion : Version → Type 0
IsAnyVersion version = Unit {0}

pub starts_with_version : StartsWithOne tasks version_line IsAnyVersion (λ t. version_of t.hold.lateral) position_part
starts_with_version = record {
  kind = record { once = λ a b s t e. version_once a b e; avoids = λ version s. version_avoids version };
  right = λ t s. tt;
  are = λ t s. task_lines-whole t ∙ ap (λ (line : List ℕ). line ∷ position_part t) (version_line-of t.hold.lateral);
}

pub starts_with_positions : (version : Version) → StartsWithRun (from_positions version) position_line IsSpelledPosition IsAny (λ t. t.hold.positions) (λ t. limit_part t.hold.positions t)
starts_with_positions version = record {
  kind = positions;
  front = λ xs ys any. tt;
  right = λ t s. s.0.positions;
  allowed = λ t s. tt;
  are = λ t s. refl;
  other = λ t s. positions_end t.hold.positions t;
}

-- of a task with these positions, the lines over them are its own
own_are : (version : Version) (ps : List Position) → Holds (own_limits version ps) (limits version ps) (λ t. t)
own_are version ps = record {
  forth = λ t s. (((s.spelled, s.version_is), s.positions_are), ap (λ (qs : List Position). limit_part qs t) s.positions_are);
  back = λ t s. (t, record { spelled = s.0.0; version_is = s.0.1; positions_are = s.1 }, ap (λ (qs : List Position). limit_part qs t) s.1, refl);
}

pub to_limits : (l0 l1 l2 : Point) (version : Version) {ps : List Position} → l0.rest.now ≡ version_line version ++ 10 ∷ l1.rest.now → l1.number ≡ l0.number + 1 → PartBetween position_line IsSpelledPosition IsAny l1 l2 ps → Leads tasks l0 (limits version ps) l2
to_limits l0 l1 l2 version read counted are =
    then (past_said starts_with_version l0 l1 version (tt, read) counted) (then (past_run (starts_with_positions version) l1 l2 are) (past_into (own_are version _) l2))

pub are_names : (ps : List Position) → All IsSpelledPosition ps → AreNames ps
are_names ps s = All-weaker IsSpelledPosition (λ (q : Position). IsName q.name) (λ q h. h.name) ps s

-- The indices --------------------------------------------------------------------------------------

abbrev pub indices : Rest Indices
indices = record { Is = AreIndices; lines = last_lines }

abbrev pub window_of : Indices → Band
window_of at = (at.window.low, at.window.high)

abbrev pub ideal_of : Indices → Band
ideal_of at = (at.ideal.low, at.ideal.high)

abbrev from_ideal_lines : Indices → Lines
from_ideal_lines at = ideal_text (ideal_of at) ∷ codes "END" ∷ []

abbrev from_window_lines : Indices → Lines
from_window_lines at = window_text (window_of at) ∷ from_ideal_lines at

abbrev pub from_window : Ticks → Rest Indices
from_window base = behind indices (λ at. at.base) base from_window_lines

abbrev pub from_ideal : Ticks → Band → Rest Indices
from_ideal base window = behind (from_window base) window_of window from_ideal_lines

abbrev pub from_end : Ticks → Band → Band → Rest Indices
from_end base window ideal = behind (from_ideal base window) ideal_of ideal (λ at. codes "END" ∷ [])

pub starts_with_base : StartsWithOne indices base_text IsSpelledIndex (λ at. at.base) from_window_lines
starts_with_base = record { kind = kind.base; right = λ at s. s.base; are = λ at s. refl }

pub starts_with_window : (base : Ticks) → StartsWithOne (from_window base) window_text IsSpelledBand window_of from_ideal_lines
starts_with_window base = record { kind = kind.window; right = λ at s. (s.0.low, s.0.high); are = λ at s. refl }

pub starts_with_ideal : (base : Ticks) (window : Band) → StartsWithOne (from_ideal base window) ideal_text IsSpelledBand ideal_of (λ at. codes "END" ∷ [])
starts_with_ideal base window = record { kind = kind.ideal; right = λ at s. (s.0.0.ideal_low, s.0.0.ideal_high); are = λ at s. refl }

pub ends : (base : Ticks) (window ideal : Band) → IsLast (from_end base window ideal) (codes "END")
ends base window ideal = record {
  plain = plain_word 10 (codes "END") refl;
  known = λ a b s t.
      let windows = s.0.1 ∙ sym t.0.1 in
      let ideals = s.1 ∙ sym t.1 in
      λ i. record {
        base = (s.0.0.1 ∙ sym t.0.0.1) i;
        window = record { low = (windows i).0; high = (windows i).1 };
        ideal = record { low = (ideals i).0; high = (ideals i).1 };
      };
  are = λ at s. refl;
}

abbrev pub indices_with : Ticks → Band → Band → Indices
indices_with base window ideal = record {
  base = base;
  window = record { low = window.0; high = window.1 };
  ideal = record { low = ideal.0; high = ideal.1 };
}

pub are_spelled : (base : Ticks) (window ideal : Band) → IsSpelledIndex base → IsSpelledBand window → IsSpelledBand ideal → AreIndices (indices_with base window ideal)
are_spelled base window ideal b w i = record { base = b; low = w.0; high = w.1; ideal_low = i.0; ideal_high = i.1 }

indices_once : IsReadOnce indices
indices_once = one_then starts_with_base (λ base. one_then (starts_with_window base) (λ window. one_then (starts_with_ideal base window) (λ ideal. last_then (ends base window ideal))))

abbrev indices_of : Problem → Indices
indices_of t = record {
  base = record { 0 = t.base };
  window = record { low = record { 0 = t.low }; high = record { 0 = t.high } };
  ideal = record { low = record { 0 = t.ideal_low }; high = record { 0 = t.ideal_high } };
}

-- a task with these indices
abbrev pub task_with : Layout → List Item → List Loose → Indices → Problem
task_with hold items loose at = record {
  hold = hold;
  items = items;
  loose = loose;
  base = at.base.0;
  low = at.window.low.0;
  high = at.window.high.0;
  ideal_low = at.ideal.low.0;
  ideal_high = at.ideal.high.0;
}

-- The limits and the loads ------------------------------------------------------------------------

-- each entry of a part is in its spelling over the positions that were read
over : {X : Type 0} {version : Version} {ps : List Position} (IsRight : List Position → X → Type 0) (xs : List X) {t : Problem} → IsTaskOf version ps t → All (IsRight t.hold.positions) xs → All (IsRight ps) xs
over IsRight xs s right = subst (λ (qs : List Position). All (IsRight qs) xs) s.positions_are right

-- a lateral limit, of which the version says whether there is one, is read in one way only
lateral_lines_once : (ps : List Position) → AreNames ps → (a b : Option Lateral) (lines other : Lines) → version_of a ≡ version_of b → IfSome a (IsSpelledLateral ps) → IfSome b (IsSpelledLateral ps) → lateral_lines ps a ++ lines ≡ lateral_lines ps b ++ other → (a ≡ b) × (lines ≡ other)
lateral_lines_once ps names None None lines other v s t e = (refl, e)
lateral_lines_once ps names None (Some b) lines other v s t e = absurd (cc)
lateral_lines_once ps names (Some a) None lines other v s t e = absurd (cc)
lateral_lines_once ps names (Some a) (Some b) lines other v s t e =
    let whole : map (side_line ps) a.sides ++ (lateral_line a.most.0 ∷ lines) ≡ map (side_line ps) b.sides ++ (lateral_line b.most.0 ∷ other) =
    sym (append_assoc (map (side_line ps) a.sides) (lateral_line a.most.0 ∷ []) lines) ∙ e ∙ append_assoc (map (side_line ps) b.sides) (lateral_line b.most.0 ∷ []) other in
    let sides = section_once (side_line ps) (IsSpelledSide ps) (kind.sides ps names).once a.sides b.sides (lateral_line a.most.0 ∷ lines) (lateral_line b.most.0 ∷ other) s.sides t.sides
    (stops-at (side_line ps) (IsSpelledSide ps) (lateral_line a.most.0 ∷ lines) (sides_end ps a.most.0 lines)) (stops-at (side_line ps) (IsSpelledSide ps) (lateral_line b.most.0 ∷ other) (sides_end ps b.most.0 other)) whole in
    let heads : lateral_line a.most.0 ≡ lateral_line b.most.0 = cc (sides.1) in
    let tails : lines ≡ other = cc (sides.1) in
    let most = kind.lateral.once a.most b.most s.most t.most heads in
    (λ i. Some (record { most = most i; sides = sides.0 i }), tails)

lateral_lines-are : (ps : List Position) → AreNames ps → (lateral : Option Lateral) → IfSome lateral (IsSpelledLateral ps) → AreLines (lateral_lines ps lateral)
lateral_lines-are ps names None s = All-nil (Avoids 10)
lateral_lines-are ps names (Some lateral) s =
    let sides : AreLines (map (side_line ps) lateral.sides) = All-map (Avoids 10) (side_line ps) lateral.sides (All-weaker (IsSpelledSide ps) (λ x. Avoids 10 (side_line ps x)) (kind.sides ps names).avoids lateral.sides s.sides) in
    All-append (Avoids 10) (map (side_line ps) lateral.sides) (lateral_line lateral.most.0 ∷ []) sides (All-cons (Avoids 10) (lateral_line lateral.most.0) [] (kind.lateral.avoids lateral.most s.most) (All-nil (Avoids 10)))

-- a lateral limit in its spelling, where the version has one
abbrev pub IsSpelledFor : Version → List Position → Option Lateral → Type 0
IsSpelledFor version ps lateral = (version_of lateral ≡ version) × IfSome lateral (IsSpelledLateral ps)

-- the lateral limit in the lines between two points
pub record SaysLateral (version : Version) (ps : List Position) (here there : Point) (said : Option Lateral) : Type 0 where
  pub right : IsSpelledFor version ps said
  pub read : here.rest.now ≡ text_of (lateral_lines ps said) ++ there.rest.now
  pub counted : there.number ≡ here.number + length (lateral_lines ps said)

module _ (version : Version) (ps : List Position) where
  abbrev pub from_combined : List (ℕ × ℕ) → Rest Problem
  from_combined excludes = behind (limits version ps) (λ t. t.hold.excludes) excludes (combined_part ps)

  abbrev pub from_cumulative : List (ℕ × ℕ) → List Combined → Rest Problem
  from_cumulative excludes combined = behind (from_combined excludes) (λ t. t.hold.combined) combined (cumulative_part ps)

  abbrev pub from_lateral : List (ℕ × ℕ) → List Combined → List Cumulative → Rest Problem
  from_lateral excludes combined cumulative = behind (from_cumulative excludes combined) (λ t. t.hold.cumulative) cumulative (lateral_part ps)

  abbrev pub from_items : List (ℕ × ℕ) → List Combined → List Cumulative → Option Lateral → Rest Problem
  from_items excludes combined cumulative lateral = behind (from_lateral excludes combined cumulative) (λ t. t.hold.lateral) lateral (item_part ps)

  abbrev pub from_loose : List (ℕ × ℕ) → List Combined → List Cumulative → Option Lateral → List Item → Rest Problem
  from_loose excludes combined cumulative lateral items = behind (from_items excludes combined cumulative lateral) (λ t. t.items) items (loose_part ps)

  abbrev pub from_last : List (ℕ × ℕ) → List Combined → List Cumulative → Option Lateral → List Item → List Loose → Rest Problem
  from_last excludes combined cumulative lateral items loose = behind (from_loose excludes combined cumulative lateral items) (λ t. t.loose) loose last_part

  -- where only the positions and the version are known
  abbrev pub lateral_on : Rest Problem
  lateral_on = record { Is = IsTaskOf version ps; lines = lateral_part ps }

module _ (version : Version) (ps : List Position) (spelled : All IsSpelledPosition ps) where
  names : AreNames ps
  names = are_names ps spelled

  pub starts_with_excludes : StartsWithRun (limits version ps) (exclude_line ps) (IsSpelledExclude ps) IsAny (λ t. t.hold.excludes) (combined_part ps)
  starts_with_excludes = record {
    kind = kind.excludes ps names;
    front = λ xs ys any. tt;
    right = λ t s. over IsSpelledExclude t.hold.excludes s s.spelled.excludes;
    allowed = λ t s. tt;
    are = λ t s. refl;
    other = λ t s. excludes_end ps t;
  }

  pub starts_with_combined : (excludes : List (ℕ × ℕ)) → StartsWithRun (from_combined version ps excludes) (combined_line ps) (IsSpelledCombined ps) IsAny (λ t. t.hold.combined) (cumulative_part ps)
  starts_with_combined excludes = record {
    kind = kind.combined ps names;
    front = λ xs ys any. tt;
    right = λ t s. over IsSpelledCombined t.hold.combined s.0 s.0.spelled.combined;
    allowed = λ t s. tt;
    are = λ t s. refl;
    other = λ t s. combined_end ps t;
  }

  pub starts_with_cumulative : (excludes : List (ℕ × ℕ)) (combined : List Combined) → StartsWithRun (from_cumulative version ps excludes combined) (cumulative_line ps) (IsSpelledCumulative ps) IsAny (λ t. t.hold.cumulative) (lateral_part ps)
  starts_with_cumulative excludes combined = record {
    kind = kind.cumulative ps names;
    front = λ xs ys any. tt;
    right = λ t s. over IsSpelledCumulative t.hold.cumulative s.0.0 s.0.0.spelled.cumulative;
    allowed = λ t s. tt;
    are = λ t s. refl;
    other = λ t s. cumulative_end ps t;
  }

  module _ (excludes : List (ℕ × ℕ)) (combined : List Combined) (cumulative : List Cumulative) where
    lateral_right : (t : Problem) → IsTaskOf version ps t → IfSome t.hold.lateral (IsSpelledLateral ps)
    lateral_right t s = subst (λ (qs : List Position). IfSome t.hold.lateral (IsSpelledLateral qs)) s.positions_are s.spelled.lateral

    starts_with_lateral : StartsWithBlock (from_lateral version ps excludes combined cumulative) (lateral_lines ps) (IsSpelledFor version ps) (λ t. t.hold.lateral) (item_part ps)
    starts_with_lateral = record {
      once = λ a b lines other p q e. lateral_lines_once ps names a b lines other (p.0 ∙ sym q.0) p.1 q.1 e;
      clear = λ lateral p. lateral_lines-are ps names lateral p.1;
      right = λ t s. (s.0.0.0.version_is, lateral_right t s.0.0.0);
      are = λ t s. refl;
    }

    pub past_lateral : (here there : Point) (said : Option Lateral) → SaysLateral version ps here there said → Leads (from_lateral version ps excludes combined cumulative) here (from_items version ps excludes combined cumulative said) there
    past_lateral here there said says = past_block starts_with_lateral here there said says.right says.read says.counted

    module _ (lateral : Option Lateral) where
      pub starts_with_items : StartsWithRun (from_items version ps excludes combined cumulative lateral) item_line IsSpelledItem IsAny (λ t. t.items) (loose_part ps)
      starts_with_items = record {
        kind = kind.items;
        front = λ xs ys any. tt;
        right = λ t s. s.0.0.0.0.spelled.items;
        allowed = λ t s. tt;
        are = λ t s. refl;
        other = λ t s. items_end ps t;
      }

      pub starts_with_loose : (items : List Item) → StartsWithRun (from_loose version ps excludes combined cumulative lateral items) (loose_line ps) (IsSpelledLoose ps) IsAny (λ t. t.loose) last_part
      starts_with_loose items = record {
        kind = kind.loads ps names;
        front = λ xs ys any. tt;
        right = λ t s. over IsSpelledLoose t.loose s.0.0.0.0.0 s.0.0.0.0.0.spelled.loose;
        allowed = λ t s. tt;
        are = λ t s. refl;
        other = λ t s. loose_end ps t;
      }

      -- the indices, behind known limits and loads
      module _ (items : List Item) (loose : List Loose) where
        abbrev hold : Layout
        hold = record { positions = ps; excludes = excludes; combined = combined; cumulative = cumulative; lateral = lateral }

        pub are_indices : (t : Problem) → (from_last version ps excludes combined cumulative lateral items loose).Is t → IsWithin (from_last version ps excludes combined cumulative lateral items loose) indices (task_with hold items loose) t
        are_indices t s =
            let spelled = s.0.0.0.0.0.0.spelled in (
              indices_of t,
              record { base = spelled.base; low = spelled.low; high = spelled.high; ideal_low = spelled.ideal_low; ideal_high = spelled.ideal_high },
              refl,
              λ i. record {
                hold = record {
                  positions = sym s.0.0.0.0.0.0.positions_are i;
                  excludes = sym s.0.0.0.0.0.1 i;
                  combined = sym s.0.0.0.0.1 i;
                  cumulative = sym s.0.0.0.1 i;
                  lateral = sym s.0.0.1 i;
                };
                items = sym s.0.1 i;
                loose = sym s.1 i;
                base = t.base;
                low = t.low;
                high = t.high;
                ideal_low = t.ideal_low;
                ideal_high = t.ideal_high;
              },
            )

      items_then : IsReadOnce (from_items version ps excludes combined cumulative lateral)
      items_then = run_then starts_with_items (λ items. run_then (starts_with_loose items) (λ loose. within_then (are_indices items loose) indices_once))

    lateral_then : IsReadOnce (from_lateral version ps excludes combined cumulative)
    lateral_then = block_then starts_with_lateral items_then

  limits_once : IsReadOnce (limits version ps)
  limits_once = run_then starts_with_excludes (λ excludes. run_then (starts_with_combined excludes) (λ combined. run_then (starts_with_cumulative excludes combined) (λ cumulative. lateral_then excludes combined cumulative)))

-- The whole text ----------------------------------------------------------------------------------

spelled_in : {version : Version} {ps : List Position} {t : Problem} → IsTaskOf version ps t → All IsSpelledPosition ps
spelled_in s = subst (All IsSpelledPosition) s.positions_are s.spelled.positions

limits_then : (version : Version) (ps : List Position) → IsReadOnce (own_limits version ps)
limits_then version ps = within_then (own_are version ps).back (record {
  once = λ t u more p q e. (limits_once version ps (spelled_in p)).once t u more p q e;
  clear = λ t p. (limits_once version ps (spelled_in p)).clear t p;
})

pub is_read_once : IsReadOnce tasks
is_read_once = one_then starts_with_version (λ version. run_then (starts_with_positions version) (limits_then version))
