-- the last ones of a list, with one more at its end
use Rattle.std.proofs.Common.{refl, if◌then◌else◌, ◌≡◌, Bool, true, false, ◌||◌, ◌&&◌, List, [], ◌∷◌, ◌++◌, Option, None, Some, fold, cond, arith, append_assoc}
use Rattle.std.proofs.lemmas.List.{append-nil}
use Rattle.std.specs.List.{list_any}
use Rattle.std.specs.Option.{option_or}
use Rattle.flight_history.specs.LastOnes.{last_told, since, up_to}

pub option_or_assoc : {A : Type 0} (a b c : Option A) → option_or (option_or a b) c ≡ option_or a (option_or b c)
option_or_assoc None b c = refl
option_or_assoc (Some x) b c = refl

pub last_told-push : {A B : Type 0} (tells : A → Option B) (xs : List A) (y : A) → last_told tells (xs ++ y ∷ []) ≡ option_or (tells y) (last_told tells xs)
last_told-push tells [] y = elim (tells y) as (λ o. option_or None o ≡ option_or o None) [ None ↦ refl | Some x ↦ refl ]
last_told-push tells (x ∷ xs) y = rw (last_told-push tells xs y) (option_or_assoc (tells y) (last_told tells xs) (tells x))

pub fold-push : {A B : Type 0} (f : B → A → B) (b : B) (xs : List A) (y : A) → fold f b (xs ++ y ∷ []) ≡ f (fold f b xs) y
fold-push f b [] y = refl
fold-push f b (x ∷ xs) y = fold-push f (f b x) xs y

or_shift : (a b c : Bool) → (a || cond b true c) ≡ cond b true (a || c)
or_shift true true c = refl
or_shift true false c = refl
or_shift false true c = refl
or_shift false false c = refl

pub list_any-push : {A : Type 0} (p : A → Bool) (xs : List A) (y : A) → list_any p (xs ++ y ∷ []) ≡ (if p y then true else list_any p xs)
list_any-push p [] y = elim (p y) as (λ b. (b || false) ≡ cond b true false) [ true ↦ refl | false ↦ refl ]
list_any-push p (x ∷ xs) y = rw (list_any-push p xs y) (or_shift (p x) (p y) (list_any p xs))

pub since-push : {A : Type 0} (p : A → Bool) (xs : List A) (y : A) → since p (xs ++ y ∷ []) ≡ (if p y then [] else since p xs ++ y ∷ [])
since-push p [] y = refl
since-push p (x ∷ xs) y = rw (list_any-push p xs y, since-push p xs y) (grind arith)

pub up_to-push : {A : Type 0} (p : A → Bool) (xs : List A) (y : A) → up_to p (xs ++ y ∷ []) ≡ (if p y then xs ++ y ∷ [] else up_to p xs)
up_to-push p [] y = refl
up_to-push p (x ∷ xs) y = rw (list_any-push p xs y, up_to-push p xs y) (grind arith)

ends_from : {A : Type 0} (P : List A → Type 0) → ((xs : List A) (x : A) → P xs → P (xs ++ x ∷ [])) → (before xs : List A) → P before → P (before ++ xs)
ends_from P more before [] here = rw (append-nil before) here
ends_from P more before (x ∷ xs) here = rw (← append_assoc before (x ∷ []) xs) (ends_from P more (before ++ x ∷ []) xs (more before x here))

-- what holds of the empty list, and goes on where one more comes at the end, holds of each list
pub by_ends : {A : Type 0} (P : List A → Type 0) → P [] → ((xs : List A) (x : A) → P xs → P (xs ++ x ∷ [])) → (xs : List A) → P xs
by_ends P none more xs = ends_from P more [] xs none

-- a test, by cases, with which way it went
pub by_test : (P : Bool → Type 0) (b : Bool) → (b ≡ true → P true) → (b ≡ false → P false) → P b
by_test P true passes fails = passes refl
by_test P false passes fails = fails refl

-- both tests passed
pub both_pass : (a b : Bool) → (a && b) ≡ true → (a ≡ true) × (b ≡ true)
both_pass true true h = (refl, refl)
both_pass true false h = absurd (cc)
both_pass false b h = absurd (cc)
