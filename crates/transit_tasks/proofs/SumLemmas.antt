-- Sums over what is aboard: what stays is a container or a loose load, and the task around it has both as loose loads.
use Rattle.std.proofs.Common.{◌≡◌, ℕ, ◌+◌, ℤ, ◌+ℤ◌, if◌then◌else◌, Bool, Option, Some, None, List, [], ◌∷◌, ◌++◌, map, refl, ap₂, ◌∙◌, arith}
use Rattle.std.proofs.lemmas.Int.{ints}
use Rattle.std.proofs.lemmas.List.Sums.{sum_by-cons, sum_by-append}
use Rattle.std.specs.Prelude.{sum_by}
use Rattle.std.specs.Option.{option_map_or}
use Rattle.base_words.specs.Lists.{int_sum_by}
use Rattle.hold_parts.specs.declared.parts.Loose.{Loose}
use Rattle.hold_parts.specs.declared.parts.Position.{Position}
use Rattle.hold_limits.specs.Placement.{Placed, placed, load_of}
use Rattle.hold_limits.specs.Problem.{Problem}
use Rattle.hold_limits.specs.Stowage.{as_load}
use Rattle.ldm_cpm.specs.Messages.{Placing}
use Rattle.transit_tasks.specs.Joined.{joined_containers, joined_loads, aboard_on}
use Rattle.transit_tasks.specs.NewTask.{loads_around, task_around}
use Rattle.transit_tasks.specs.Staying.{standing, lying, staying_containers, staying_loads}

-- Whole numbers ---------------------------------------------------------------------------------

int_sum_by-append : {X : Type 0} (f : X → ℤ) (xs ys : List X) → int_sum_by f (xs ++ ys) ≡ int_sum_by f xs +ℤ int_sum_by f ys
int_sum_by-append f [] ys = omega (arith, ints)
int_sum_by-append f (x ∷ xs) ys = omega (arith, ints, int_sum_by-append f xs ys)

pub int_sum_by-same : {X : Type 0} (f g : X → ℤ) → ((x : X) → f x ≡ g x) → (xs : List X) → int_sum_by f xs ≡ int_sum_by g xs
int_sum_by-same f g same [] = refl
int_sum_by-same f g same (x ∷ xs) = ap₂ (λ a b. a +ℤ b) (same x) (int_sum_by-same f g same xs)

-- one place more: its container, or its loose load
one-ints : (f : Placed → ℤ) (g : Loose → ℤ) (stands : List ℕ → Placed) (lies : Loose) → ((id : List ℕ) → g lies ≡ f (stands id))
    → (id : Option (List ℕ)) (cs : List Placed) (ls : List Loose) (rest : ℤ) → rest ≡ int_sum_by f cs +ℤ int_sum_by g ls
    → g lies +ℤ rest ≡ int_sum_by f (option_map_or (λ i. stands i ∷ []) id [] ++ cs) +ℤ int_sum_by g (option_map_or (λ i. []) id (lies ∷ []) ++ ls)
one-ints f g stands lies same None cs ls rest is = omega (arith, ints, is)
one-ints f g stands lies same (Some id) cs ls rest is = omega (arith, ints, is, same id)

staying-ints : (f : Placed → ℤ) (g : Loose → ℤ) → ((p : Placed) → g (as_load p) ≡ f p) → (positions : List Position) (stay : List Placing)
    → int_sum_by g (map (lying positions) stay) ≡ int_sum_by f (staying_containers positions stay) +ℤ int_sum_by g (staying_loads positions stay)
staying-ints f g same positions [] = refl
staying-ints f g same positions (p ∷ stay) =
    one-ints f g (standing positions p) (lying positions p) (λ id. same (standing positions p id)) p.id
    (staying_containers positions stay) (staying_loads positions stay) (int_sum_by g (map (lying positions) stay)) (staying-ints f g same positions stay)

-- the sum over the task around what stays is that over the path joined with it
pub ints-joined : (f : Placed → ℤ) (g : Loose → ℤ) → ((p : Placed) → g (as_load p) ≡ f p) → (t : Problem) (stay : List Placing) (path : List ℕ)
    → int_sum_by f (placed t path) +ℤ int_sum_by g (loads_around t stay) ≡ int_sum_by f (joined_containers t stay path) +ℤ int_sum_by g (joined_loads t stay)
ints-joined f g same t stay path =
    let positions : List Position = t.hold.positions in
    omega (
      arith,
      ints,
      int_sum_by-append g t.loose (map (lying positions) stay),
      staying-ints f g same positions stay,
      int_sum_by-append f (placed t path) (staying_containers positions stay),
      int_sum_by-append g t.loose (staying_loads positions stay),
    )

-- Masses ----------------------------------------------------------------------------------------

one-masses : (f : Placed → ℕ) (g : Loose → ℕ) (stands : List ℕ → Placed) (lies : Loose) → ((id : List ℕ) → g lies ≡ f (stands id))
    → (id : Option (List ℕ)) (cs : List Placed) (ls : List Loose) (rest : ℕ) → rest ≡ sum_by f cs + sum_by g ls
    → g lies + rest ≡ sum_by f (option_map_or (λ i. stands i ∷ []) id [] ++ cs) + sum_by g (option_map_or (λ i. []) id (lies ∷ []) ++ ls)
one-masses f g stands lies same None cs ls rest is = omega (arith, is, sum_by-cons g lies ls)
one-masses f g stands lies same (Some id) cs ls rest is = omega (arith, is, same id, sum_by-cons f (stands id) cs)

staying-masses : (f : Placed → ℕ) (g : Loose → ℕ) → ((p : Placed) → g (as_load p) ≡ f p) → (positions : List Position) (stay : List Placing)
    → sum_by g (map (lying positions) stay) ≡ sum_by f (staying_containers positions stay) + sum_by g (staying_loads positions stay)
staying-masses f g same positions [] = refl
staying-masses f g same positions (p ∷ stay) =
    sum_by-cons g (lying positions p) (map (lying positions) stay)
    ∙ one-masses f g (standing positions p) (lying positions p) (λ id. same (standing positions p id)) p.id
    (staying_containers positions stay) (staying_loads positions stay) (sum_by g (map (lying positions) stay)) (staying-masses f g same positions stay)

-- so is the load of a set of positions
pub load-joined : (is_in : ℕ → Bool) (t : Problem) (stay : List Placing) (path : List ℕ)
    → load_of is_in (task_around t stay) path ≡ aboard_on is_in (joined_containers t stay path) (joined_loads t stay)
load-joined is_in t stay path =
    let positions : List Position = t.hold.positions in
    let f : Placed → ℕ = λ p. if is_in p.1 then p.0.mass.0 else 0 in
    let g : Loose → ℕ = λ l. if is_in l.position then l.mass.0 else 0 in
    omega (
      arith,
      sum_by-append g t.loose (map (lying positions) stay),
      staying-masses f g (λ p. refl) positions stay,
      sum_by-append f (placed t path) (staying_containers positions stay),
      sum_by-append g t.loose (staying_loads positions stay),
    )
