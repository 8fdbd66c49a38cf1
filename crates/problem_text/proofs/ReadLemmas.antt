-- what the steps of the reader make of a text
use Rattle.std.proofs.Common.{◌≡◌, ℕ, Bool, ◌+◌, ◌++◌, ◌∷◌, List, [], map, refl, sym, ◌∙◌, ap, pos, subst, arith, All, Option, Some, None, IfSome, option_map, lit<}
use Rattle.std.proofs.lemmas.List.{append_assoc, length-append, length-map}
use Rattle.std.proofs.lemmas.List.Elements.{All-nil}
use Rattle.mass_units.specs.declared.Kg.{Kg}
use Rattle.mass_units.specs.declared.Ticks.{Ticks}
use Rattle.hold_limits.specs.Problem.{Problem}
use Rattle.hold_parts.specs.declared.parts.Position.{Position}
use Rattle.hold_parts.specs.declared.parts.Combined.{Combined}
use Rattle.hold_parts.specs.declared.parts.Cumulative.{Cumulative}
use Rattle.hold_parts.specs.declared.parts.Lateral.{Lateral}
use Rattle.hold_parts.specs.declared.parts.Indices.{Indices}
use Rattle.text_lines.specs.Lines.{text_of, IsStopped}
use Rattle.text_lines.specs.Grammar.{Fails}
use Rattle.text_lines.specs.Sections.{IsOfKind}
use Rattle.text_lines.specs.declared.lines.Lines.{Lines as Point}
use Rattle.text_lines.specs.declared.fault.LineFault.{LineFault}
use Rattle.text_lines.proofs.SectionLemmas.{text_of-append}
use Rattle.text_lines.proofs.PartSteps.{IsAny, PartBetween, section_part, whole_part}
use Rattle.text_lines.proofs.Rests.{Rest, FailsAt, behind, Leads, then, StartsWithOne, past_said, fails_at_one}
use Rattle.text_lines.proofs.RunsOfLines.{StartsWithRun, past_run}
use Rattle.problem_text.proofs.SmallerTexts.{Holds, fails_within, read_within}
use Rattle.problem_text.specs.TaskText.{exclude_line, combined_line, cumulative_line, side_line, lateral_line, lateral_lines, item_line, IsSpelledPosition, IsSpelledExclude, IsSpelledCombined, IsSpelledCumulative, IsSpelledSide, IsSpelledLateral, IsSpelledItem, IsSpelledLoose}
use Rattle.problem_text.specs.PositionNumbers.{keep_pair, keep_combined, keep_cumulative, keep_lateral, keep_loose, keep_problem}
use Rattle.problem_text.specs.Parts.{IsLateral, AreSections, AreIndices, last_lines, problem_of_parts}
use Rattle.problem_text.specs.Parts.IsLateral.{absent, present}
use Rattle.problem_text.specs.Grammar.{version_of, item_part, limit_part, IsTaskOf, AreLast}
use Rattle.problem_text.specs.declared.parts.Version.{Version}
use Rattle.problem_text.specs.declared.parts.Version.TheVariants.{Two}
use Rattle.problem_text.specs.declared.parts.Sections.{Sections}
use Rattle.problem_text.specs.declared.parts.Parts.{Parts}
use Rattle.problem_text.proofs.LineLemmas as kind
use Rattle.problem_text.proofs.LineLemmas.{Band, lateral_text, base_text, window_text, ideal_text, IsSpelledMass, IsSpelledIndex, IsSpelledBand}
use Rattle.problem_text.proofs.LineKinds.{sides_end}
use Rattle.problem_text.proofs.RefusalLemmas.{empty_task, zero_index}
use Rattle.problem_text.proofs.TaskParts.{are_names, limits, from_lateral, from_last, lateral_on, indices, from_ideal, from_end, indices_with, are_spelled, starts_with_base, starts_with_window, starts_with_ideal, task_with, are_indices, SaysLateral, starts_with_excludes, starts_with_combined, starts_with_cumulative, starts_with_items, starts_with_loose, past_lateral}

abbrev Lines : Type 0
Lines = List (List ℕ)

-- The lateral limit that was read -----------------------------------------------------------------

pub record LateralRead (version : Version) (ps : List Position) (here there : Point) (got : Option Lateral) : Type 0 where
  pub said : Option Lateral
  pub says : SaysLateral version ps here there said
  pub kept : got ≡ option_map keep_lateral said

lateral_read : (version : Version) (ps : List Position) (here there : Point) (got : Option Lateral) → IsLateral ps here there version got → LateralRead version ps here there got
lateral_read _ ps here there _ (absent e counted) = record {
  said = None;
  says = record { right = (refl, tt); read = e; counted = omega (arith, counted) };
  kept = refl;
}
lateral_read _ ps here there _ (present got behind s most e counted) =
    let sides : Lines = map (side_line ps) s.said in
    let line = lateral_line got.most.0 in
    let long = length-append sides (line ∷ []) in
    let few = length-map s.said (side_line ps) in
    let old = s.counted in
    record {
      said = Some (record { most = got.most; sides = s.said });
      says = record {
        right = (refl, record { sides = s.right; most = most });
        read = s.read ∙ ap (λ t. text_of sides ++ t) (e ∙ sym (append_assoc line (10 ∷ []) there.rest.now))
            ∙ sym (append_assoc (text_of sides) (line ++ 10 ∷ []) there.rest.now) ∙ ap (λ t. t ++ there.rest.now) (sym (text_of-append sides (line ∷ [])));
        counted = omega (arith, long, few, old, counted);
      };
      kept = λ i. Some (record { most = got.most; sides = s.kept i });
    }

-- The sections that were read ---------------------------------------------------------------------

module _ (version : Version) (ps : List Position) (spelled : All IsSpelledPosition ps) where
  -- the limits before the lateral one
  pub to_lateral : (l0 l1 l2 l3 : Point) {excludes : List (ℕ × ℕ)} {combined : List Combined} {cumulative : List Cumulative} → PartBetween (exclude_line ps) (IsSpelledExclude ps) IsAny l0 l1 excludes
      → PartBetween (combined_line ps) (IsSpelledCombined ps) IsAny l1 l2 combined → PartBetween (cumulative_line ps) (IsSpelledCumulative ps) IsAny l2 l3 cumulative → Leads (limits version ps) l0 (from_lateral version ps excludes combined cumulative) l3
  to_lateral l0 l1 l2 l3 {excludes = excludes} {combined = combined} a b c =
      then (past_run (starts_with_excludes version ps spelled) l0 l1 a)
      (then (past_run (starts_with_combined version ps spelled excludes) l1 l2 b) (past_run (starts_with_cumulative version ps spelled excludes combined) l2 l3 c))

  -- where the lines from that of the lateral limit on fail, those from the first limit on fail
  pub fails_before_lateral : (l0 l1 l2 l3 : Point) (excludes : List (ℕ × ℕ)) (combined : List Combined) (cumulative : List Cumulative) → PartBetween (exclude_line ps) (IsSpelledExclude ps) IsAny l0 l1 excludes
      → PartBetween (combined_line ps) (IsSpelledCombined ps) IsAny l1 l2 combined → PartBetween (cumulative_line ps) (IsSpelledCumulative ps) IsAny l2 l3 cumulative
      → (fault : LineFault) → FailsAt (lateral_on version ps) l3 fault → FailsAt (limits version ps) l0 fault
  fails_before_lateral l0 l1 l2 l3 excludes combined cumulative a b c fault fails =
      let whole : Problem → Problem = λ t. record t { hold = record t.hold { excludes = excludes; combined = combined; cumulative = cumulative } } in
      let right : (t : Problem) → IsTaskOf version ps t → IsTaskOf version ps (whole t) = λ t s.
      let Own : List Position → Type 0 = λ qs. All (IsSpelledExclude qs) excludes × All (IsSpelledCombined qs) combined × All (IsSpelledCumulative qs) cumulative in
      let own : Own t.hold.positions = subst Own (sym s.positions_are) (a.right, b.right, c.right) in
      record {
        spelled = record {
          positions = s.spelled.positions;
          excludes = own.0;
          combined = own.1;
          cumulative = own.2;
          lateral = s.spelled.lateral;
          items = s.spelled.items;
          loose = s.spelled.loose;
          base = s.spelled.base;
          low = s.spelled.low;
          high = s.spelled.high;
          ideal_low = s.spelled.ideal_low;
          ideal_high = s.spelled.ideal_high;
        };
        version_is = s.version_is;
        positions_are = s.positions_are;
      } in
      let holds : Holds (from_lateral version ps excludes combined cumulative) (lateral_on version ps) whole = record {
        forth = λ t s. ((((right t s, refl), refl), refl), refl);
        back = λ t s. (t, s.0.0.0, refl, λ i. record t { hold = record t.hold { excludes = sym s.0.0.1 i; combined = sym s.0.1 i; cumulative = sym s.1 i } });
      } in
      (to_lateral l0 l1 l2 l3 a b c).fails fault (fails_within holds l3 fault fails)

  module _ (here there : Point) (got : Sections) (s : AreSections version ps here there got) where
    pub lateral : LateralRead version ps s.after_cumulative s.after_lateral got.lateral
    lateral = lateral_read version ps s.after_cumulative s.after_lateral got.lateral s.lateral

    items_are : PartBetween item_line IsSpelledItem IsAny s.after_lateral s.after_items got.items.items
    items_are = whole_part item_line IsSpelledItem s.after_lateral.rest.now s.after_items.rest.now s.after_lateral.number s.after_items.number got.items.items s.items

    -- the task with these sections and indices
    abbrev pub task_read : Indices → Problem
    task_read = task_with (record { positions = ps; excludes = s.excludes.said; combined = s.combined.said; cumulative = s.cumulative.said; lateral = lateral.said }) got.items.items s.loose.said

    task_right : (at : Indices) → AreIndices at → IsTaskOf version ps (task_read at)
    task_right at right = record {
      spelled = record {
        positions = spelled;
        excludes = s.excludes.right;
        combined = s.combined.right;
        cumulative = s.cumulative.right;
        lateral = lateral.says.right.1;
        items = items_are.right;
        loose = s.loose.right;
        base = right.base;
        low = right.low;
        high = right.high;
        ideal_low = right.ideal_low;
        ideal_high = right.ideal_high;
      };
      version_is = lateral.says.right.0;
      positions_are = refl;
    }

    abbrev last : Rest Problem
    last = from_last version ps s.excludes.said s.combined.said s.cumulative.said lateral.said got.items.items s.loose.said

    to_last : Leads (limits version ps) here last there
    to_last =
        then (to_lateral here s.after_excludes s.after_combined s.after_cumulative (section_part _ _ keep_pair _ _ _ _ got.excludes.items s.excludes) (section_part _ _ keep_combined _ _ _ _ got.combined.items s.combined) (section_part _ _ keep_cumulative _ _ _ _ got.cumulative.items s.cumulative))
        (then (past_lateral version ps spelled s.excludes.said s.combined.said s.cumulative.said s.after_cumulative s.after_lateral lateral.said lateral.says)
        (then (past_run (starts_with_items version ps spelled s.excludes.said s.combined.said s.cumulative.said lateral.said) s.after_lateral s.after_items items_are)
        (past_run (starts_with_loose version ps spelled s.excludes.said s.combined.said s.cumulative.said lateral.said got.items.items) s.after_items there (section_part _ _ keep_loose _ _ _ _ got.loose.items s.loose))))

    holds_indices : Holds last indices task_read
    holds_indices = record {
      forth = λ at right. (((((((task_right at right, refl), refl), refl), refl), refl), refl), refl);
      back = are_indices version ps spelled s.excludes.said s.combined.said s.cumulative.said lateral.said got.items.items s.loose.said;
    }

    -- where the last lines fail, those from behind the positions on fail
    pub fails_before_last : (fault : LineFault) → Fails AreLast there.rest.now there.number fault → FailsAt (limits version ps) here fault
    fails_before_last fault fails = to_last.fails fault (fails_within holds_indices there fault fails)

    pub read_to_last : (at : Indices) → AreIndices at → there.rest.now ≡ text_of (last_lines at) → IsTaskOf version ps (task_read at) × (here.rest.now ≡ text_of (limit_part ps (task_read at)))
    read_to_last at right e = let r = read_within holds_indices at right e in to_last.read (task_read at) r.0 r.1

    pub task_kept : (parts : Parts) → parts.positions.items ≡ ps → parts.sections ≡ got → problem_of_parts parts ≡ keep_problem (task_read parts.indices)
    task_kept parts same_positions same_sections i = record {
      hold = record {
        positions = same_positions i;
        excludes = (ap (λ (x : Sections). x.excludes.items) same_sections ∙ s.excludes.kept) i;
        combined = (ap (λ (x : Sections). x.combined.items) same_sections ∙ s.combined.kept) i;
        cumulative = (ap (λ (x : Sections). x.cumulative.items) same_sections ∙ s.cumulative.kept) i;
        lateral = (ap (λ (x : Sections). x.lateral) same_sections ∙ lateral.kept) i;
      };
      items = (same_sections i).items.items;
      loose = (ap (λ (x : Sections). x.loose.items) same_sections ∙ s.loose.kept) i;
      base = parts.indices.base.0;
      low = parts.indices.window.low.0;
      high = parts.indices.window.high.0;
      ideal_low = parts.indices.ideal.low.0;
      ideal_high = parts.indices.ideal.high.0;
    }

-- The lines of a lateral limit --------------------------------------------------------------------

sides_of : Option Lateral → List (ℕ × Bool)
sides_of None = []
sides_of (Some lateral) = lateral.sides

most_of : Option Lateral → Kg
most_of None = record { 0 = 0 }
most_of (Some lateral) = lateral.most

module _ (ps : List Position) (spelled : All IsSpelledPosition ps) where
  lateral_are : (lateral : Option Lateral) (lines : Lines) → version_of lateral ≡ Two → lateral_lines ps lateral ++ lines ≡ map (side_line ps) (sides_of lateral) ++ (lateral_text (most_of lateral) ∷ lines)
  unfolding sides_of most_of
  lateral_are None lines v = absurd (cc)
  lateral_are (Some l) lines v = append_assoc (map (side_line ps) l.sides) (lateral_line l.most.0 ∷ []) lines

  lateral_right : (lateral : Option Lateral) → version_of lateral ≡ Two → IfSome lateral (IsSpelledLateral ps) → All (IsSpelledSide ps) (sides_of lateral) × IsSpelledMass (most_of lateral)
  unfolding sides_of most_of
  lateral_right None v s = absurd (cc)
  lateral_right (Some l) v s = (s.sides, s.most)

  right_of : (t : Problem) → IsTaskOf Two ps t → All (IsSpelledSide ps) (sides_of t.hold.lateral) × IsSpelledMass (most_of t.hold.lateral)
  right_of t s = lateral_right t.hold.lateral s.version_is (subst (λ (qs : List Position). IfSome t.hold.lateral (IsSpelledLateral qs)) s.positions_are s.spelled.lateral)

  most_part : Problem → Lines
  most_part t = lateral_text (most_of t.hold.lateral) ∷ item_part ps t

  starts_with_sides : StartsWithRun (lateral_on Two ps) (side_line ps) (IsSpelledSide ps) IsAny (λ t. sides_of t.hold.lateral) most_part
  unfolding most_part
  starts_with_sides = record {
    kind = kind.sides ps (are_names ps spelled);
    front = λ xs ys any. tt;
    right = λ t s. (right_of t s).0;
    allowed = λ t s. tt;
    are = λ t s. lateral_are t.hold.lateral (item_part ps t) s.version_is;
    other = λ t s. sides_end ps (most_of t.hold.lateral).0 (item_part ps t);
  }

  starts_with_most : (sides : List (ℕ × Bool)) → StartsWithOne (behind (lateral_on Two ps) (λ t. sides_of t.hold.lateral) sides most_part) lateral_text IsSpelledMass (λ t. most_of t.hold.lateral) (item_part ps)
  unfolding most_part
  starts_with_most sides = record {
    kind = kind.lateral;
    right = λ t s. (right_of t s.0).1;
    are = λ t s. refl;
  }

  -- some task of the version has these sides
  some_task : List (ℕ × Bool) → Problem
  some_task sides = record empty_task { hold = record empty_task.hold { positions = ps; lateral = Some (record { most = record { 0 = 0 }; sides = sides }) } }

  some_is : (sides : List (ℕ × Bool)) → All (IsSpelledSide ps) sides → IsTaskOf Two ps (some_task sides)
  unfolding some_task
  some_is sides right = record {
    spelled = record {
      positions = spelled;
      excludes = All-nil (IsSpelledExclude ps);
      combined = All-nil (IsSpelledCombined ps);
      cumulative = All-nil (IsSpelledCumulative ps);
      lateral = record { sides = right; most = lit< tt };
      items = All-nil IsSpelledItem;
      loose = All-nil (IsSpelledLoose ps);
      base = zero_index;
      low = zero_index;
      high = zero_index;
      ideal_low = zero_index;
      ideal_high = zero_index;
    };
    version_is = refl;
    positions_are = refl;
  }

  pub fails_behind_sides : (here there : Point) (sides : List (ℕ × Bool)) (fault : LineFault) → PartBetween (side_line ps) (IsSpelledSide ps) IsAny here there sides → IsStopped there.rest.now there.number (IsOfKind lateral_text IsSpelledMass) fault → FailsAt (lateral_on Two ps) here fault
  unfolding some_task sides_of
  fails_behind_sides here there sides fault are stopped =
      (past_run starts_with_sides here there are).fails fault (fails_at_one (starts_with_most sides) (some_task sides) (some_is sides are.right, refl) there fault stopped)

-- The lines of the indices ------------------------------------------------------------------------

pub zeros : Band
zeros = (record { 0 = pos 0 }, record { 0 = pos 0 })

pub zeros_right : IsSpelledBand zeros
unfolding zeros
zeros_right = (zero_index, zero_index)

-- a line that was read between two points
abbrev pub Reads : {X : Type 0} → (X → List ℕ) → (X → Type 0) → Point → Point → X → Type 0
Reads line IsRight here there x = (IsRight x × (here.rest.now ≡ line x ++ 10 ∷ there.rest.now)) × (there.number ≡ here.number + 1)

pub to_ideal : (l0 l1 l2 : Point) (base : Ticks) (window : Band) → Reads base_text IsSpelledIndex l0 l1 base → Reads window_text IsSpelledBand l1 l2 window → Leads indices l0 (from_ideal base window) l2
to_ideal l0 l1 l2 base window b w = then (past_said starts_with_base l0 l1 base b.0 b.1) (past_said (starts_with_window base) l1 l2 window w.0 w.1)

pub to_end : (l0 l1 l2 l3 : Point) (base : Ticks) (window ideal : Band) → Reads base_text IsSpelledIndex l0 l1 base → Reads window_text IsSpelledBand l1 l2 window → Reads ideal_text IsSpelledBand l2 l3 ideal
    → Leads indices l0 (from_end base window ideal) l3 × (from_end base window ideal).Is (indices_with base window ideal)
to_end l0 l1 l2 l3 base window ideal b w i = (
  then (to_ideal l0 l1 l2 base window b w) (past_said (starts_with_ideal base window) l2 l3 ideal i.0 i.1),
  (((are_spelled base window ideal b.0.0 w.0.0 i.0.0, refl), refl), refl),
)
