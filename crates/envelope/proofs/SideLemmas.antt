-- The tick next to a side: a bound over the edges that were visited.
use Rattle.std.proofs.Common.{◌≡◌, ℕ, ◌+◌, ◌<◌, ◌≤◌, ◌↔◌, List, [], ◌∷◌, ◌++◌, length, get_or, refl, subst, ◌∙◌, arith, ℤ, All, Any, Option, Some, None, IfSome, IfNone, MatchOption, Bool, min, inl, inr, take, false, true, IsTrue, rules}
use Rattle.std.specs.Option.{option_map_or}
use Rattle.std.proofs.lemmas.Bool.{cases_lt}
use Rattle.mass_units.specs.declared.Kg.{Kg}
use Rattle.std.proofs.lemmas.List.{get_or_append_left, get_or_push, length_push, take_more}
use Rattle.std.proofs.lemmas.List.Elements.{All-push, All-weaker}
use Rattle.std.proofs.lemmas.List.Quantifiers.{Any-push}
use Rattle.mass_units.specs.declared.Ticks.{Ticks}
use Rattle.envelope.specs.declared.corner.Corner.{Corner}
use Rattle.mass_units.specs.declared.line.Line.{Line}

-- what holds of each element of a longer list
pub All-pushed : {X : Type 0} (P : X → Type 0) (xs : List X) (x : X) → All P (xs ++ x ∷ []) → All P xs × P x
All-pushed P xs x every = (
  λ k d l. subst P (get_or_append_left xs (x ∷ []) d k l) (every k d (omega (arith, length_push xs x))),
  subst P (get_or_push xs x x (length xs) refl) (every (length xs) x (omega (arith, length_push xs x))),
)

pub Any-more : {X : Type 0} (P : X → Type 0) (xs : List X) (x : X) → Any P xs → Any P (xs ++ x ∷ [])
Any-more P xs x found =
    (found.0, found.1, omega (arith, length_push xs x, found.2), get_or_append_left xs (x ∷ []) found.1 found.0 found.2 ∙ found.3, found.4)

pub Any-all : {X : Type 0} (P : X → Type 0) (Q : X → Type 0) (xs : List X) → Any P xs → All Q xs → (x : X) × P x × Q x
Any-all P Q xs found every = (found.1, found.4, subst Q found.3 (every found.0 found.1 found.2))

-- R t z says that the tick t bounds z. Of the edges that span the mass (S), each allows z (P) exactly where the best tick
-- bounds it; and there is a best tick where an edge spans the mass
pub record IsBound (R : ℤ → ℤ → Type 0) (S : Line → Type 0) (P : Line → ℤ → Type 0) (seen : List Line) (best : Option Ticks) : Type 0 where
  pub every : (z : ℤ) → All (λ e. S e → P e z) seen ↔ IfSome best (λ t. R t.0 z)
  pub spanned : MatchOption best (All (λ e. ¬ (S e)) seen) (λ _. Any S seen)

spanned-more : (S : Line → Type 0) (seen : List Line) (e : Line) (best : Option Ticks) → ¬ (S e) → MatchOption best (All (λ e. ¬ (S e)) seen) (λ _. Any S seen) → MatchOption best (All (λ e. ¬ (S e)) (seen ++ e ∷ [])) (λ _. Any S (seen ++ e ∷ []))
spanned-more S seen e None none h = All-push (λ e. ¬ (S e)) seen e h none
spanned-more S seen e (Some t) none h = Any-more S seen e h

-- an edge that does not span the mass
pub IsBound-skip : (R : ℤ → ℤ → Type 0) (S : Line → Type 0) (P : Line → ℤ → Type 0) (seen : List Line) (e : Line) (best : Option Ticks) → IsBound R S P seen best → ¬ (S e) → IsBound R S P (seen ++ e ∷ []) best
IsBound-skip R S P seen e best bound none = record {
  every = λ z. (
    λ h. (bound.every z).0 ((All-pushed (λ e. S e → P e z) seen e h).0),
    λ h. All-push (λ e. S e → P e z) seen e ((bound.every z).1 h) (λ s. absurd (none s)),
  );
  spanned = spanned-more S seen e best none bound.spanned;
}

-- an edge that spans it, with its own tick
pub IsBound-take : (R : ℤ → ℤ → Type 0) (S : Line → Type 0) (P : Line → ℤ → Type 0) (seen : List Line) (e : Line) (best : Option Ticks) (own next : Ticks) → IsBound R S P seen best → S e → ((z : ℤ) → P e z ↔ R own.0 z) → ((z : ℤ) → R next.0 z ↔ (R own.0 z × IfSome best (λ t. R t.0 z))) → IsBound R S P (seen ++ e ∷ []) (Some next)
IsBound-take R S P seen e best own next bound spans is joined = record {
  every = λ z. (
    λ h. let parts = All-pushed (λ e. S e → P e z) seen e h in (joined z).1 ((is z).0 (parts.1 spans), (bound.every z).0 parts.0),
    λ h. let parts = (joined z).0 h in All-push (λ e. S e → P e z) seen e ((bound.every z).1 parts.1) (λ _. (is z).1 parts.0),
  );
  spanned = Any-push S seen e spans;
}

pub IsBound-some : (R : ℤ → ℤ → Type 0) (S : Line → Type 0) (P : Line → ℤ → Type 0) (xs : List Line) (best : Option Ticks) → IsBound R S P xs best → IfSome best (λ t. (z : ℤ) → (Any S xs × All (λ e. S e → P e z) xs) ↔ R t.0 z)
IsBound-some R S P xs None bound = tt
IsBound-some R S P xs (Some t) bound = λ z. (λ h. (bound.every z).0 h.1, λ h. (bound.spanned, (bound.every z).1 h))

pub IsBound-none : (R : ℤ → ℤ → Type 0) (S : Line → Type 0) (P : Line → ℤ → Type 0) (xs : List Line) (best : Option Ticks) → IsBound R S P xs best → IfNone best ((z : ℤ) → ¬ (Any S xs × All (λ e. S e → P e z) xs))
IsBound-none R S P xs None bound = λ z h. let found = Any-all S (λ e. ¬ (S e)) xs h.0 bound.spanned in found.2 found.1
IsBound-none R S P xs (Some t) bound = tt

-- what the result of a test says
pub holds_from_true : {P : Type 0} (b : Bool) → (IsTrue b ↔ P) → b ≡ true → P
holds_from_true b test e = test.0 (rw e (search rules))

pub fails_from_false : {P : Type 0} (b : Bool) → (IsTrue b ↔ P) → b ≡ false → ¬ P
fails_from_false b test e p = let holds : IsTrue false = rw e at (test.1 p) in search rules

-- ---- the least mass of a corner for which Q does not hold

abbrev pub IsLeastOf : (Corner → Type 0) → List Corner → ℕ → Type 0
IsLeastOf Q seen mass = Any (λ c. (c.mass.0 ≡ mass) × ¬ (Q c)) seen × All (λ c. ¬ (Q c) → mass ≤ c.mass.0) seen

abbrev pub FirstOutside : (Corner → Type 0) → List Corner → Option Kg → Type 0
FirstOutside Q seen first = MatchOption first (All Q seen) (λ mass. IsLeastOf Q seen mass.0)

pub FirstOutside-skip : (Q : Corner → Type 0) (seen : List Corner) (c : Corner) (first : Option Kg) → FirstOutside Q seen first → Q c → FirstOutside Q (seen ++ c ∷ []) first
FirstOutside-skip Q seen c None all holds = All-push Q seen c all holds
FirstOutside-skip Q seen c (Some mass) least holds = (
  Any-more (λ c. (c.mass.0 ≡ mass.0) × ¬ (Q c)) seen c least.0,
  All-push (λ c. ¬ (Q c) → mass.0 ≤ c.mass.0) seen c least.1 (λ h. absurd (h holds)),
)

take_any : (Q : Corner → Type 0) (seen : List Corner) (c : Corner) (mass next : ℕ) → Any (λ c. (c.mass.0 ≡ mass) × ¬ (Q c)) seen → ¬ (Q c) → next ≡ min c.mass.0 mass → Any (λ c. (c.mass.0 ≡ next) × ¬ (Q c)) (seen ++ c ∷ [])
take_any Q seen c mass next found out is =
    elim (cases_lt c.mass.0 mass) [
      | inl lt ↦ let same : c.mass.0 ≡ next = omega arith in Any-push (λ c. (c.mass.0 ≡ next) × ¬ (Q c)) seen c (same, out)
      | inr le ↦ let same : mass ≡ next = omega arith in rw same at (Any-more (λ c. (c.mass.0 ≡ mass) × ¬ (Q c)) seen c found)
    ]

pub FirstOutside-take : (Q : Corner → Type 0) (seen : List Corner) (c : Corner) (first : Option Kg) (next : Kg) → FirstOutside Q seen first → ¬ (Q c) → next.0 ≡ min c.mass.0 (option_map_or (λ m. m.0) first c.mass.0) → FirstOutside Q (seen ++ c ∷ []) (Some next)
FirstOutside-take Q seen c None next all out is =
    let same : c.mass.0 ≡ next.0 = omega arith in (
      Any-push (λ c. (c.mass.0 ≡ next.0) × ¬ (Q c)) seen c (same, out),
      All-push (λ c. ¬ (Q c) → next.0 ≤ c.mass.0) seen c (All-weaker Q (λ c. ¬ (Q c) → next.0 ≤ c.mass.0) (λ d q h. absurd (h q)) seen all) (λ h. omega arith),
    )
FirstOutside-take Q seen c (Some mass) next least out is = (
  take_any Q seen c mass.0 next.0 least.0 out is,
  All-push (λ c. ¬ (Q c) → next.0 ≤ c.mass.0) seen c (All-weaker (λ c. ¬ (Q c) → mass.0 ≤ c.mass.0) (λ c. ¬ (Q c) → next.0 ≤ c.mass.0) (λ d q h. omega (arith, q h)) seen least.1) (λ h. omega arith),
)

-- the same for the corner at a place of the list
pub FirstOutside-skip_at : (Q : Corner → Type 0) (xs : List Corner) (i : ℕ) (d : Corner) (first : Option Kg) → i < length xs → FirstOutside Q (take i xs) first → Q (get_or xs i d) → FirstOutside Q (take (i + 1) xs) first
FirstOutside-skip_at Q xs i d first within so_far holds =
    rw (take_more xs i d within) (FirstOutside-skip Q (take i xs) (get_or xs i d) first so_far holds)

pub FirstOutside-take_at : (Q : Corner → Type 0) (xs : List Corner) (i : ℕ) (d : Corner) (first : Option Kg) (next : Kg) → i < length xs → FirstOutside Q (take i xs) first → ¬ (Q (get_or xs i d)) → next.0 ≡ min (get_or xs i d).mass.0 (option_map_or (λ m. m.0) first (get_or xs i d).mass.0) → FirstOutside Q (take (i + 1) xs) (Some next)
FirstOutside-take_at Q xs i d first next within so_far out is =
    rw (take_more xs i d within) (FirstOutside-take Q (take i xs) (get_or xs i d) first next so_far out is)
