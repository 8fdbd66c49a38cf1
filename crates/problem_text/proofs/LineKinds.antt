-- the kinds of a task's lines come in their order, and none comes back
use Rattle.std.proofs.Common.{◌≡◌, ℕ, ◌+◌, ◌<◌, ◌≤◌, Bool, true, false, cond, eqb, ◌++◌, ◌∷◌, List, [], map, refl, ap, sym, subst, ◌∙◌, arith, Option, Some, None, lit<}
use Rattle.std.proofs.lemmas.List.{append_assoc}
use Rattle.hold_limits.specs.Problem.{Problem}
use Rattle.hold_parts.specs.declared.parts.Position.{Position}
use Rattle.hold_parts.specs.declared.parts.Lateral.{Lateral}
use Rattle.problem_text.specs.TaskText.{position_line, position_word, exclude_line, combined_line, cumulative_line, side_line, lateral_line, lateral_lines, item_line, loose_line, base_line, IsSpelledPosition, IsSpelledExclude, IsSpelledCombined, IsSpelledCumulative, IsSpelledSide, IsSpelledItem, IsSpelledLoose}
use Rattle.problem_text.specs.Grammar.{last_part, loose_part, item_part, lateral_part, cumulative_part, combined_part, limit_part}
use Rattle.text_lines.proofs.Rests.{HasOther}

abbrev Lines : Type 0
Lines = List (List ℕ)

-- the kind of a line, by its first two bytes
pub kind : List ℕ → ℕ
kind [] = 10
kind (a ∷ []) = 10
kind (a ∷ b ∷ line) =
    cond (eqb a 112) 1 (cond (eqb a 101) 2 (cond (eqb a 115) 5 (cond (eqb a 108) (cond (eqb b 97) 6 8)
    (cond (eqb a 98) (cond (eqb b 117) 1 9) (cond (eqb a 99) (cond (eqb b 111) 3 4) (cond (eqb a 105) 7 10))))))

kind_of_position : (q : Position) → kind (position_line q) ≡ 1
unfolding kind
kind_of_position q = of_word q.bulk _
  where
    of_word : (bulk : Bool) (rest : List ℕ) → kind (position_word bulk ++ 32 ∷ rest) ≡ 1
    of_word true rest = refl
    of_word false rest = refl

-- the next line is of a later kind
record HasLater (k : ℕ) (lines : Lines) : Type 0 where
  first : List ℕ
  more : Lines
  are : lines ≡ first ∷ more
  later : k < kind first

at_line : (line : List ℕ) (k : ℕ) (more : Lines) → k < kind line → HasLater k (line ∷ more)
at_line line k more less = record { first = line; more = more; are = refl; later = less }

earlier : (j k : ℕ) (lines : Lines) → j ≤ k → HasLater k lines → HasLater j lines
earlier j k lines less h = record { first = h.first; more = h.more; are = h.are; later = let later = h.later in omega (arith, later, less) }

-- over lines of the kind behind this one
over : {X : Type 0} (line : X → List ℕ) (k : ℕ) → ((x : X) → kind (line x) ≡ k + 1) → (xs : List X) (lines : Lines) → HasLater (k + 1) lines → HasLater k (map line xs ++ lines)
over line k of [] lines h = earlier k (k + 1) lines (omega arith) h
over line k of (x ∷ xs) lines h = at_line (line x) k (map line xs ++ lines) (let is = of x in omega (arith, is))

other : {X : Type 0} (line : X → List ℕ) (P : X → Type 0) (k : ℕ) → ((x : X) → kind (line x) ≡ k) → (lines : Lines) → HasLater k lines → HasOther line P lines
other line P k of lines h = record { first = h.first; more = h.more; are = h.are; other = λ x right e. let later = h.later in let is = ap kind e ∙ of x in omega (arith, later, is) }

-- ---- each part goes on with a line of a later kind

later_last : (t : Problem) → HasLater 8 (last_part t)
unfolding kind
later_last t = at_line (base_line t.base) 8 _ (lit< tt)

later_loose : (ps : List Position) (t : Problem) → HasLater 7 (loose_part ps t)
unfolding kind
later_loose ps t = over (loose_line ps) 7 (λ x. refl) t.loose (last_part t) (later_last t)

later_items : (ps : List Position) (t : Problem) → HasLater 6 (item_part ps t)
unfolding kind
later_items ps t = over item_line 6 (λ x. refl) t.items (loose_part ps t) (later_loose ps t)

later_lateral_line : (most : ℕ) (lines : Lines) → HasLater 5 (lateral_line most ∷ lines)
unfolding kind
later_lateral_line most lines = at_line (lateral_line most) 5 lines (lit< tt)

over_lateral : (ps : List Position) (lateral : Option Lateral) (lines : Lines) → HasLater 6 lines → HasLater 4 (lateral_lines ps lateral ++ lines)
unfolding kind
over_lateral ps None lines h = earlier 4 6 lines (omega arith) h
over_lateral ps (Some l) lines h =
    subst (HasLater 4) (sym (append_assoc (map (side_line ps) l.sides) (lateral_line l.most.0 ∷ []) lines)) (over (side_line ps) 4 (λ x. refl) l.sides (lateral_line l.most.0 ∷ lines) (later_lateral_line l.most.0 lines))

later_lateral : (ps : List Position) (t : Problem) → HasLater 4 (lateral_part ps t)
later_lateral ps t = over_lateral ps t.hold.lateral (item_part ps t) (later_items ps t)

later_cumulative : (ps : List Position) (t : Problem) → HasLater 3 (cumulative_part ps t)
unfolding kind
later_cumulative ps t = over (cumulative_line ps) 3 (λ x. refl) t.hold.cumulative (lateral_part ps t) (later_lateral ps t)

later_combined : (ps : List Position) (t : Problem) → HasLater 2 (combined_part ps t)
unfolding kind
later_combined ps t = over (combined_line ps) 2 (λ x. refl) t.hold.combined (cumulative_part ps t) (later_cumulative ps t)

later_limits : (ps : List Position) (t : Problem) → HasLater 1 (limit_part ps t)
unfolding kind
later_limits ps t = over (exclude_line ps) 1 (λ x. refl) t.hold.excludes (combined_part ps t) (later_combined ps t)

-- ---- so each run of lines ends where the next part begins

pub positions_end : (ps : List Position) (t : Problem) → HasOther position_line IsSpelledPosition (limit_part ps t)
positions_end ps t = other position_line IsSpelledPosition 1 kind_of_position (limit_part ps t) (later_limits ps t)

pub excludes_end : (ps : List Position) (t : Problem) → HasOther (exclude_line ps) (IsSpelledExclude ps) (combined_part ps t)
unfolding kind
excludes_end ps t = other (exclude_line ps) (IsSpelledExclude ps) 2 (λ x. refl) (combined_part ps t) (later_combined ps t)

pub combined_end : (ps : List Position) (t : Problem) → HasOther (combined_line ps) (IsSpelledCombined ps) (cumulative_part ps t)
unfolding kind
combined_end ps t = other (combined_line ps) (IsSpelledCombined ps) 3 (λ x. refl) (cumulative_part ps t) (later_cumulative ps t)

pub cumulative_end : (ps : List Position) (t : Problem) → HasOther (cumulative_line ps) (IsSpelledCumulative ps) (lateral_part ps t)
unfolding kind
cumulative_end ps t = other (cumulative_line ps) (IsSpelledCumulative ps) 4 (λ x. refl) (lateral_part ps t) (later_lateral ps t)

pub sides_end : (ps : List Position) (most : ℕ) (lines : Lines) → HasOther (side_line ps) (IsSpelledSide ps) (lateral_line most ∷ lines)
unfolding kind
sides_end ps most lines = other (side_line ps) (IsSpelledSide ps) 5 (λ x. refl) (lateral_line most ∷ lines) (later_lateral_line most lines)

pub items_end : (ps : List Position) (t : Problem) → HasOther item_line IsSpelledItem (loose_part ps t)
unfolding kind
items_end ps t = other item_line IsSpelledItem 7 (λ x. refl) (loose_part ps t) (later_loose ps t)

pub loose_end : (ps : List Position) (t : Problem) → HasOther (loose_line ps) (IsSpelledLoose ps) (last_part t)
unfolding kind
loose_end ps t = other (loose_line ps) (IsSpelledLoose ps) 8 (λ x. refl) (last_part t) (later_last t)
