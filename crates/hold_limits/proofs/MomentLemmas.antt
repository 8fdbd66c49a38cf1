-- sums of moments, one load more at a time, and how large they can be
use Rattle.std.proofs.Common.{◌≡◌, ⊎_elim, Bool, true, false, if◌then◌else◌, negsuc, ℕ, ◌+◌, ◌*◌, ◌^◌, ◌<◌, ◌≤◌, ℤ, pos, ◌+ℤ◌, ◌*ℤ◌, List, [], ◌∷◌, length, take, get_or, ap, ap₂, sym, ◌∙◌, subst, arith, unsigned_abs, length-take}
use Rattle.std.proofs.lemmas.Int.{ints, unsigned_abs-mul}
use Rattle.std.proofs.lemmas.List.{take_all}
use Rattle.std.proofs.lemmas.List.Elements.{All-head, All-tail, All-take, All-map}
use Rattle.std.proofs.lemmas.Option.{slice_get_cases, slice_get_within, get_or_from_slice_get}
use Rattle.std.proofs.lemmas.Slice.Zip.{get_or-zip, length-zip}
use Rattle.std.proofs.Math.Nat.{suc-mul, mul_assoc, mul-le-mul, le_refl}
use Rattle.std.specs.Prelude.{All}
use Rattle.base_words.specs.Lists.{int_sum_by}
use Rattle.hold_parts.specs.declared.parts.Item.{Item}
use Rattle.hold_parts.specs.declared.parts.Loose.{Loose}
use Rattle.hold_parts.specs.declared.parts.Position.{Position}
use Rattle.hold_limits.specs.declared.moments.Arm.{Arm}
use Rattle.hold_limits.specs.declared.moments.Arm.TheVariants.{Influence, Side}
use Rattle.hold_limits.specs.Layout.{Layout}
use Rattle.hold_limits.specs.Lateral.{is_right, is_left, side_at}
use Rattle.hold_limits.specs.Arms.{arm_at, longest, placed_by, loose_by, moment_by}
use Rattle.hold_limits.specs.Problem.{Problem}
use Rattle.hold_limits.specs.Faults.{IsLawful, IsLawfulHold}
use Rattle.hold_limits.specs.BranchOrder.{Offered, branch_order, ordered}
use Rattle.hold_limits.specs.Placement.{Placed, placed, influence_at, placed_moment, loose_moment}
use Rattle.hold_limits.proofs.BranchOrderLemmas.{entries-offered}
use Rattle.hold_limits.proofs.PlacedLemmas.{length-placed}
use Rattle.hold_limits.specs.Bounds.{KeepsTaskRules}
use Rattle.hold_limits.proofs.LawfulBounds.{lawful-bounds, hold-bounds}
use Rattle.base_words.proofs.SignedSums.{int_sum_by-more}

-- Signed sums -----------------------------------------------------------------------------------

pub abs-sum : (a b : ℤ) (m n : ℕ) → unsigned_abs a ≤ m → unsigned_abs b ≤ n → unsigned_abs (a +ℤ b) ≤ m + n
abs-sum a b m n p q = omega (arith, ints)

-- a sum of terms of at most m each
pub int_sum_by-bound : {X : Type 0} (f : X → ℤ) (m : ℕ) (xs : List X) → All (λ x. unsigned_abs (f x) ≤ m) xs → unsigned_abs (int_sum_by f xs) ≤ length xs * m
int_sum_by-bound f m [] each = omega arith
int_sum_by-bound {X} f m (x ∷ xs) each =
    let rest = int_sum_by-bound f m xs (All-tail (λ (x : X). unsigned_abs (f x) ≤ m) x xs each) in
    let here = All-head (λ (x : X). unsigned_abs (f x) ≤ m) x xs each in
    let both = abs-sum (f x) (int_sum_by f xs) m (length xs * m) here rest in
    omega (arith, both, suc-mul (length xs) m)

-- How large moments are -------------------------------------------------------------------------

-- positions of at most 100,000 ticks for a kilogram
abbrev AreNear : Layout → Type 0
AreNear hold = All (λ (position : Position). unsigned_abs position.influence ≤ 100000) hold.positions

influence-near : (hold : Layout) → AreNear hold → (q : ℕ) → unsigned_abs (influence_at hold q) ≤ 100000
influence-near hold near q = ⊎_elim
    (λ inside. rw inside.2 (rw inside.3 at (near q inside.0 inside.1)))
    (λ past. rw past.1 (omega arith))
    (slice_get_cases hold.positions q).1

pub influence_at-bound : (t : Problem) → KeepsTaskRules t → (q : ℕ) → unsigned_abs (influence_at t.hold q) ≤ 100000
influence_at-bound t bounds q = influence-near t.hold bounds.influences q

-- no side is farther out than 1
side_at-bound : (hold : Layout) (q : ℕ) → unsigned_abs (side_at hold q) ≤ 1
side_at-bound hold q = by_side (is_right hold q) (is_left hold q)
  where
    by_side : (right left : Bool) → unsigned_abs (if right then pos 1 else if left then negsuc 0 else pos 0) ≤ 1
    by_side true left = omega arith
    by_side false true = omega arith
    by_side false false = omega arith

arm-bound : (arm : Arm) (hold : Layout) → AreNear hold → (q : ℕ) → unsigned_abs (arm_at arm hold q) ≤ longest arm
arm-bound Influence hold near q = influence-near hold near q
arm-bound Side hold near q = side_at-bound hold q

moment-bound : (mass : ℕ) (arm : ℤ) (longest : ℕ) → mass ≤ 20000 → unsigned_abs arm ≤ longest → unsigned_abs (pos mass *ℤ arm) ≤ 20000 * longest
moment-bound mass arm longest light near =
    let product : mass * unsigned_abs arm ≤ 20000 * longest = mul-le-mul light near in
    omega (arith, unsigned_abs-mul (pos mass) arm, product)

-- so many moments, of at most 20,000 kg each
all-moments : (n most m : ℕ) → n ≤ most → n * (20000 * m) ≤ most * 20000 * m
all-moments n most m few = rw (mul_assoc most 20000 m) (mul-le-mul few (le_refl (20000 * m)))

longest-most : (arm : Arm) → longest arm ≤ 100000
longest-most Influence = omega arith
longest-most Side = omega arith

-- the moment of a load of any mass in 32 bits
pub load-bound : (arm : Arm) (hold : Layout) → IsLawfulHold hold → (l : Loose) → l.mass.0 < 2 ^ 32 → unsigned_abs (loose_by (arm_at arm hold) l) ≤ 500000000000000
load-bound arm hold lawful l light =
    let lighter : l.mass.0 ≤ 2 ^ 32 = omega arith in
    let near : unsigned_abs (arm_at arm hold l.position) ≤ 100000 = omega (arith, arm-bound arm hold (hold-bounds hold lawful).influences l.position, longest-most arm) in
    let product : l.mass.0 * unsigned_abs (arm_at arm hold l.position) ≤ 2 ^ 32 * 100000 = mul-le-mul lighter near in
    omega (arith, unsigned_abs-mul (pos l.mass.0) (arm_at arm hold l.position), product)

-- the moments of one load more, each of at most so much
pub moments-more : (f : Loose → ℤ) (loads : List Loose) (i : ℕ) (d : Loose) (sum moment : ℤ) (most : ℕ) → i < length loads → sum ≡ int_sum_by f (take i loads) → unsigned_abs sum ≤ most * i
    → moment ≡ f (get_or loads i d) → unsigned_abs (f (get_or loads i d)) ≤ most
    → (int_sum_by f (take (i + 1) loads) ≡ sum +ℤ moment) × (unsigned_abs (sum +ℤ moment) ≤ most * (i + 1))
moments-more f loads i d sum moment most within is bound here one =
    let next : int_sum_by f (take (i + 1) loads) ≡ int_sum_by f (take i loads) +ℤ f (get_or loads i d) = int_sum_by-more f loads i d within in
    let wider : most * (i + 1) ≡ most * i + most = omega arith in
    let size : unsigned_abs moment ≤ most = omega (arith, ap unsigned_abs here, one) in
    (next ∙ ap₂ (λ x y. x +ℤ y) (sym is) (sym here), omega (arith, ints))

loose_by-each : (arm : Arm) (t : Problem) → KeepsTaskRules t → All (λ (load : Loose). unsigned_abs (loose_by (arm_at arm t.hold) load) ≤ 20000 * longest arm) t.loose
loose_by-each arm t bounds k d within = moment-bound _ _ (longest arm) (bounds.loose_masses k d within) (arm-bound arm t.hold bounds.influences _)

-- the first loose loads have at most 64 times 20,000 kg at the longest arm
pub loose_by-bound : (arm : Arm) (t : Problem) → IsLawful t → (n : ℕ) → unsigned_abs (int_sum_by (loose_by (arm_at arm t.hold)) (take n t.loose)) ≤ 1280000 * longest arm
loose_by-bound arm t lawful n =
    let bounds = lawful-bounds t lawful in
    let each = All-take (λ (load : Loose). unsigned_abs (loose_by (arm_at arm t.hold) load) ≤ 20000 * longest arm) n t.loose (loose_by-each arm t bounds) in
    let most = int_sum_by-bound (loose_by (arm_at arm t.hold)) (20000 * longest arm) (take n t.loose) each in
    omega (arith, most, all-moments (length (take n t.loose)) 64 (longest arm) (omega (arith, length-take n t.loose, bounds.loose)))

ordered-masses : (t : Problem) → KeepsTaskRules t → All (λ (item : Item). item.mass.0 ≤ 20000) (ordered t.items)
ordered-masses t bounds = All-map (λ (item : Item). item.mass.0 ≤ 20000) (λ (e : Offered). e.1) (branch_order t.items)
    (λ k d within.
    let e = get_or (branch_order t.items) k d in
    let there = entries-offered t.items k d within in
    rw (get_or_from_slice_get t.items e.0 e.1 e.1 there) at (bounds.item_masses e.0 e.1 (slice_get_within t.items e.0 e.1 there)))

placed_by-each : (arm : Arm) (t : Problem) → KeepsTaskRules t → (prefix : List ℕ) → All (λ (p : Placed). unsigned_abs (placed_by (arm_at arm t.hold) p) ≤ 20000 * longest arm) (placed t prefix)
placed_by-each arm t bounds prefix k d within =
    let counted = length-zip (ordered t.items) prefix in
    let in_order : k < length (ordered t.items) = omega arith in
    let in_prefix : k < length prefix = omega arith in
    let P : Placed → Type 0 = λ p. unsigned_abs (placed_by (arm_at arm t.hold) p) ≤ 20000 * longest arm in
    subst P (sym (get_or-zip (ordered t.items) prefix k d in_order in_prefix))
    (moment-bound _ _ (longest arm) (ordered-masses t bounds k d.0 in_order) (arm-bound arm t.hold bounds.influences (get_or prefix k d.1)))

-- the first placed containers have at most 60 times 20,000 kg at the longest arm
pub placed_by-bound : (arm : Arm) (t : Problem) → IsLawful t → (prefix : List ℕ) (n : ℕ) → length prefix ≤ length t.items
    → unsigned_abs (int_sum_by (placed_by (arm_at arm t.hold)) (take n (placed t prefix))) ≤ 1200000 * longest arm
placed_by-bound arm t lawful prefix n short =
    let bounds = lawful-bounds t lawful in
    let each = All-take (λ (p : Placed). unsigned_abs (placed_by (arm_at arm t.hold) p) ≤ 20000 * longest arm) n (placed t prefix) (placed_by-each arm t bounds prefix) in
    let most = int_sum_by-bound (placed_by (arm_at arm t.hold)) (20000 * longest arm) (take n (placed t prefix)) each in
    let few : length (take n (placed t prefix)) ≤ 60 = omega (arith, length-take n (placed t prefix), length-placed t prefix short, bounds.items) in
    omega (arith, most, all-moments (length (take n (placed t prefix))) 60 (longest arm) few)

-- by influence
pub loose-bound : (t : Problem) → IsLawful t → (n : ℕ) → unsigned_abs (int_sum_by (loose_moment t.hold) (take n t.loose)) ≤ 128000000000
loose-bound t lawful n = loose_by-bound Influence t lawful n

pub placed-bound : (t : Problem) → IsLawful t → (prefix : List ℕ) (n : ℕ) → length prefix ≤ length t.items
    → unsigned_abs (int_sum_by (placed_moment t.hold) (take n (placed t prefix))) ≤ 120000000000
placed-bound t lawful prefix n short = placed_by-bound Influence t lawful prefix n short

-- all of the placed containers
pub placed-all : (t : Problem) (prefix : List ℕ) (n : ℕ) → length prefix ≤ length t.items → length prefix ≤ n → take n (placed t prefix) ≡ placed t prefix
placed-all t prefix n short past = take_all n (placed t prefix) (omega (arith, length-placed t prefix short))

-- all that a lawful task has in its hold
pub moment_by-bound : (arm : Arm) (t : Problem) → IsLawful t → (prefix : List ℕ) → length prefix ≤ length t.items → unsigned_abs (moment_by (arm_at arm t.hold) t prefix) ≤ 2480000 * longest arm
moment_by-bound arm t lawful prefix short =
    let on_positions = subst (λ ps. unsigned_abs (int_sum_by (placed_by (arm_at arm t.hold)) ps) ≤ 1200000 * longest arm) (placed-all t prefix (length prefix) short (omega arith)) (placed_by-bound arm t lawful prefix (length prefix) short) in
    let loose = subst (λ ls. unsigned_abs (int_sum_by (loose_by (arm_at arm t.hold)) ls) ≤ 1280000 * longest arm) (take_all (length t.loose) t.loose (omega arith)) (loose_by-bound arm t lawful (length t.loose)) in
    let both = abs-sum (int_sum_by (placed_by (arm_at arm t.hold)) (placed t prefix)) (int_sum_by (loose_by (arm_at arm t.hold)) t.loose) (1200000 * longest arm) (1280000 * longest arm) on_positions loose in
    omega (arith, both)
