-- lists with one element changed or removed, and limits with one of them written
use Rattle.std.proofs.Common.{◌≡◌, ◌∙◌, ⊎_elim, ℕ, zero, suc, ◌<◌, List, [], ◌∷◌, Some, get_or, set, length, drop, take, refl, ap, sym, subst, arith}
use Rattle.std.proofs.lemmas.List.{length-set, get_or-set_same, set-get_or, set-set}
use Rattle.std.proofs.lemmas.List.Elements.{All-append, All-drop, All-set, All-take}
use Rattle.std.proofs.lemmas.Option.{get_or_from_slice_get, slice_get-get_or, slice_get_cases}
use Rattle.std.specs.Option.{option_map_or}
use Rattle.std.specs.Prelude.{All, Any, remove, slice_get}
use Rattle.mass_units.specs.declared.Kg.{Kg}
use Rattle.hold_parts.specs.declared.parts.Combined.{Combined}
use Rattle.hold_parts.specs.declared.parts.Cumulative.{Cumulative}
use Rattle.hold_limits.specs.Layout.{Layout}
use Rattle.changed_task.specs.Parts.{changed_at, combined_of, cumulative_of, with_limits, with_combined, with_cumulative}

-- One element changed ---------------------------------------------------------------------------

pub length-changed_at : {X : Type 0} (f : X → X) (xs : List X) (at : ℕ) → length (changed_at f xs at) ≡ length xs
length-changed_at f xs at = ⊎_elim
    (λ inside. rw inside.2 (length-set xs at (f inside.0)))
    (λ past. rw past.1 refl)
    (slice_get_cases xs at).1

-- what holds of each element, also where it is changed
pub All-changed_at : {X : Type 0} (P : X → Type 0) (f : X → X) → ((x : X) → P x → P (f x)) → (xs : List X) (at : ℕ) → All P xs → All P (changed_at f xs at)
All-changed_at P f each xs at all = ⊎_elim
    (λ inside. rw inside.2 (All-set P xs at (f inside.0) (each inside.0 (subst P inside.3 (all at inside.0 inside.1))) all))
    (λ past. rw past.1 all)
    (slice_get_cases xs at).1

-- one element is changed in another way
pub All-changed_again : {X : Type 0} (P : X → Type 0) (f g : X → X) → ((x : X) → P (f x) → P (g x)) → (xs : List X) (at : ℕ) → All P (changed_at f xs at) → All P (changed_at g xs at)
All-changed_again {X} P f g each xs at all = ⊎_elim
    (λ inside.
    let x : X = inside.0 in
    let first : All P (set xs at (f x)) = rw inside.2 at all in
    let there : P (f x) = subst P (get_or-set_same xs at (f x) x inside.1) (first at x (omega (arith, length-set xs at (f x), inside.1))) in
    rw inside.2 (subst (All P) (set-set xs at (f x) (g x)) (All-set P (set xs at (f x)) at (g x) (each x there) first)))
    (λ past. let same : All P xs = rw past.1 at all in rw past.1 same)
    (slice_get_cases xs at).1

-- an element that stands there is changed by writing what it becomes
pub changed_at-set : {X : Type 0} (f : X → X) (xs : List X) (at : ℕ) (x : X) → at < length xs → get_or xs at x ≡ x → set xs at (f x) ≡ changed_at f xs at
changed_at-set f xs at x within is =
    sym (ap (λ o. option_map_or (λ y. set xs at (f y)) o xs) (slice_get-get_or xs at x within ∙ ap Some is))

-- a change that leaves the element as it is
pub changed_at-same : {X : Type 0} (f : X → X) (xs : List X) (at : ℕ) (x : X) → slice_get xs at ≡ Some x → f x ≡ x → changed_at f xs at ≡ xs
changed_at-same f xs at x there same =
    ap (λ o. option_map_or (λ y. set xs at (f y)) o xs) there
    ∙ ap (set xs at) (same ∙ sym (get_or_from_slice_get xs at x x there))
    ∙ set-get_or xs at x

-- One element removed ---------------------------------------------------------------------------

pub All-remove : {X : Type 0} (P : X → Type 0) (xs : List X) (at : ℕ) → All P xs → All P (remove xs at)
All-remove P xs at all = All-append P (take at xs) (drop (suc at) xs) (All-take P at xs all) (All-drop P (suc at) xs all)

kept : {X : Type 0} (P : X → Type 0) (xs : List X) (at k : ℕ) (x : X) → k < length (remove xs at) → get_or (remove xs at) k x ≡ x → P x → Any P xs
kept P [] zero k x within is holds = (k, x, within, is, holds)
kept P [] (suc at) k x within is holds = (k, x, within, is, holds)
kept P (y ∷ xs) zero k x within is holds = (suc k, x, omega (arith, within), is, holds)
kept P (y ∷ xs) (suc at) zero x within is holds = (zero, x, omega arith, is, holds)
kept P (y ∷ xs) (suc at) (suc k) x within is holds =
    let later = kept P xs at k x (omega (arith, within)) is holds in
    (suc later.0, later.1, omega (arith, later.2), later.3, later.4)

pub Any-from_remove : {X : Type 0} (P : X → Type 0) (xs : List X) (at : ℕ) → Any P (remove xs at) → Any P xs
Any-from_remove P xs at any = kept P xs at any.0 any.1 any.2 any.3 any.4

-- One limit written -----------------------------------------------------------------------------

-- copies of a hold's limits, with the greatest mass of one written
pub combined-written : (h : Layout) (excludes : List (ℕ × ℕ)) (combined : List Combined) (cumulative : List Cumulative) (at : ℕ) (x : Combined) (most : Kg)
    → excludes ≡ h.excludes → combined ≡ h.combined → cumulative ≡ h.cumulative → at < length h.combined → x ≡ get_or combined at x
    → with_limits h excludes (set combined at (combined_of most x)) cumulative ≡ with_combined h at most
combined-written h excludes combined cumulative at x most a b c within is =
    let there : x ≡ get_or h.combined at x = is ∙ ap (λ (xs : List Combined). get_or xs at x) b in
    rw (a, b, c) (ap (λ xs. with_limits h h.excludes xs h.cumulative) (changed_at-set (combined_of most) h.combined at x within (sym there)))

pub cumulative-written : (h : Layout) (excludes : List (ℕ × ℕ)) (combined : List Combined) (cumulative : List Cumulative) (at : ℕ) (x : Cumulative) (most : Kg)
    → excludes ≡ h.excludes → combined ≡ h.combined → cumulative ≡ h.cumulative → at < length h.cumulative → x ≡ get_or cumulative at x
    → with_limits h excludes combined (set cumulative at (cumulative_of most x)) ≡ with_cumulative h at most
cumulative-written h excludes combined cumulative at x most a b c within is =
    let there : x ≡ get_or h.cumulative at x = is ∙ ap (λ (xs : List Cumulative). get_or xs at x) c in
    rw (a, b, c) (ap (λ xs. with_limits h h.excludes h.combined xs) (changed_at-set (cumulative_of most) h.cumulative at x within (sym there)))
