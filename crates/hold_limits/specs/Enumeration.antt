-- the plain way to the best path, beside the definitions: try every path there is, and keep the one with the least key
use Rattle.std.specs.Prelude.{ℕ, zero, suc, ℤ, unsigned_abs, int_le, Bool, true, false, not, ◌&&◌, ◌||◌, ◌==◌, nat_le, if◌then◌else◌, List, [], ◌∷◌, length, map, flat_map, Option, Some, None, slice_get}
use Rattle.std.specs.List.{list_all, list_any, range_with_len}
use Rattle.std.specs.Option.{option_map_or}
use Rattle.std.specs.Ordering.{is_gt}
use Rattle.hold_parts.specs.declared.parts.Combined.{Combined}
use Rattle.hold_parts.specs.declared.parts.Cumulative.{Cumulative}
use Rattle.hold_parts.specs.declared.parts.Lateral.{Lateral}
use Rattle.hold_limits.specs.Layout.{Layout}
use Rattle.hold_limits.specs.Problem.{Problem}
use Rattle.hold_limits.specs.Placement.{Placed, placed, load_of, hold_index, lateral_difference, key, key_cmp}
use Rattle.hold_parts.specs.Limits.{is_listed, is_counted}
use Rattle.hold_parts.specs.Accepting.{accepts}

-- whether the test holds of each element and each later one
abbrev pub list_all_pairs : {X : Type 0} → (X → X → Bool) → List X → Bool
list_all_pairs test [] = true
list_all_pairs test (x ∷ xs) = list_all (test x) xs && list_all_pairs test xs

-- whether the number is that of a position, and the position accepts the container
abbrev pub is_accepted : Layout → Placed → Bool
is_accepted hold p = option_map_or (accepts p.0) (slice_get hold.positions p.1) false

-- whether the two positions are an excluding pair, in either order
abbrev pub exclude : Layout → ℕ → ℕ → Bool
exclude hold a b = list_any (λ (pair : ℕ × ℕ). ((pair.0 == a) && (pair.1 == b)) || ((pair.0 == b) && (pair.1 == a))) hold.excludes

-- whether every combined limit and every cumulative limit holds the load of its positions
abbrev pub keeps_limits : Problem → List ℕ → Bool
keeps_limits t prefix =
    list_all (λ (c : Combined). nat_le (load_of (is_listed c.places) t prefix) c.most.0) t.hold.combined
    && list_all (λ (c : Cumulative). nat_le (load_of (is_counted c) t prefix) c.most.0) t.hold.cumulative

-- whether the prefix is sound
unfoldable pub is_sound : Problem → List ℕ → Bool
is_sound t prefix =
    nat_le (length prefix) (length t.items)
    && (list_all (is_accepted t.hold) (placed t prefix)
    && (list_all_pairs (λ a b. not (a == b)) prefix
    && (list_all_pairs (λ a b. not (exclude t.hold a b)) prefix
    && keeps_limits t prefix)))

-- whether the difference is within the lateral limit of the hold, if it has one
abbrev pub is_within_lateral : Layout → ℤ → Bool
is_within_lateral hold difference = option_map_or (λ (l : Lateral). nat_le (unsigned_abs difference) l.most.0) hold.lateral true

-- whether the path is admissible
unfoldable pub is_admissible : Problem → List ℕ → Bool
is_admissible t path =
    is_sound t path
    && ((length path == length t.items)
    && (int_le t.low (hold_index t path)
    && (int_le (hold_index t path) t.high
    && is_within_lateral t.hold (lateral_difference t path))))

-- every list of n numbers below m
unfoldable pub all_paths : ℕ → ℕ → List (List ℕ)
all_paths zero m = [] ∷ []
all_paths (suc n) m = flat_map (λ q. map (λ path. q ∷ path) (all_paths n m)) (range_with_len 0 m)

-- every list with a number of a position for each container
abbrev pub candidates : Problem → List (List ℕ)
candidates t = all_paths (length t.items) (length t.hold.positions)

-- of two paths the one with the smaller key
abbrev pub better : Problem → List ℕ → List ℕ → List ℕ
better t a b = if is_gt (key_cmp (key t a) (key t b)) then b else a

-- the best of those paths of the list that are admissible
unfoldable pub best_among : Problem → List (List ℕ) → Option (List ℕ)
best_among t [] = None
best_among t (path ∷ rest) = if is_admissible t path then Some (option_map_or (better t path) (best_among t rest) path) else best_among t rest

-- the best path of all, found by trying each
abbrev pub best_by_trial : Problem → Option (List ℕ)
best_by_trial t = best_among t (candidates t)
