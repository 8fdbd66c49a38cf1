-- what a prefix is on each sector: its part on the first one, complete parts, and shorter prefixes
use Rattle.std.proofs.Common.{◌≡◌, ⊎_elim, ℕ, zero, suc, ◌+◌, ◌<◌, ◌≤◌, true, false, nat_le, List, [], ◌∷◌, ◌++◌, length, get_or, Some, refl, ap, sym, ◌∙◌, subst, arith, length-append}
use Rattle.std.proofs.lemmas.Bool.{cases_Bool}
use Rattle.std.proofs.lemmas.List.{length-map}
use Rattle.std.proofs.lemmas.List.Elements.{All-weaker}
use Rattle.std.specs.Prelude.{slice_get}
use Rattle.hold_limits.specs.Problem.{Problem}
use Rattle.hold_limits.specs.BranchOrder.{branch_order, ordered}
use Rattle.hold_limits.proofs.BranchOrderLemmas.{length-branch_order, length-ordered}
use Rattle.stop_tasks.specs.Stops.{Stops, staying}
use Rattle.stop_tasks.specs.StopFaults.{AreLawfulStops}
use Rattle.stop_tasks.specs.StopPaths.{IsFirstSector, IsReachable, IsStopAdmissible, IsStopViable, IsWidelyViable, KeepsWayOut, OnSectors, last_sectors, part_of}
use Rattle.stop_tasks.proofs.AdmissibleLemmas.{one-first}
use Rattle.stop_tasks.proofs.PartLemmas.{part-longer, remaining-aboard}
use Rattle.stop_world.proofs.WideLemmas.{admissible-widely, complete-admissible, widely-shorter}

-- What stays ------------------------------------------------------------------------------------

-- as much stays of lists of one length
staying-long : {X Y : Type 0} (xs : List X) (ys : List Y) (last : List ℕ) (number : ℕ) → length xs ≡ length ys → length (staying xs last number) ≡ length (staying ys last number)
staying-long [] [] last number long = refl
staying-long [] (y ∷ ys) last number long = absurd (omega (arith, long))
staying-long (x ∷ xs) [] last number long = absurd (omega (arith, long))
staying-long (x ∷ xs) (y ∷ ys) [] number long = refl
staying-long (x ∷ xs) (y ∷ ys) (n ∷ last) number long =
    let rest = staying-long xs ys last number (omega (arith, long)) in
    ⊎_elim
    (λ (stays : nat_le number n ≡ true). rw (stays, rest) refl)
    (λ (gone : nat_le number n ≡ false). rw gone rest)
    (cases_Bool (nat_le number n))

-- no more stays than there was
staying-short : {X : Type 0} (xs : List X) (last : List ℕ) (number : ℕ) → length (staying xs last number) ≤ length xs
staying-short [] last number = omega arith
staying-short (x ∷ xs) [] number = omega arith
staying-short (x ∷ xs) (n ∷ last) number =
    let rest = staying-short xs last number in
    ⊎_elim
    (λ (stays : nat_le number n ≡ true). rw stays (omega (arith, rest)))
    (λ (gone : nat_le number n ≡ false). rw gone (omega (arith, rest)))
    (cases_Bool (nat_le number n))

-- where all of a list stays, all of a list that is no longer stays
staying-whole : {X Y : Type 0} (xs : List X) (ys : List Y) (last : List ℕ) (number : ℕ) → length (staying xs last number) ≡ length xs → length ys ≤ length xs → staying ys last number ≡ ys
staying-whole xs [] last number whole short = refl
staying-whole [] (y ∷ ys) last number whole short = absurd (omega (arith, short))
staying-whole (x ∷ xs) (y ∷ ys) [] number whole short = absurd (omega (arith, whole))
staying-whole (x ∷ xs) (y ∷ ys) (n ∷ last) number whole short =
    ⊎_elim
    (λ (stays : nat_le number n ≡ true). rw stays (ap (λ zs. y ∷ zs) (staying-whole xs ys last number (omega (arith, rw stays at whole)) (omega (arith, short)))))
    (λ (gone : nat_le number n ≡ false). absurd (omega (arith, rw gone at whole, staying-short xs last number)))
    (cases_Bool (nat_le number n))

-- Parts -----------------------------------------------------------------------------------------

length-last : (t : Stops) (first : Problem) → length (last_sectors t first) ≡ length first.items
length-last t first = length-map (branch_order first.items) _ ∙ length-branch_order first.items

-- the part of a path has a number for each container of the sector
pub part-complete : (t : Stops) (first sector : Problem) (place : ℕ) (path : List ℕ) → AreLawfulStops t → IsFirstSector t first → slice_get t.sectors place ≡ Some sector
    → length path ≡ length first.items → length (part_of (last_sectors t first) (place + 1) path) ≡ length sector.items
part-complete t first sector place path lawful is_first at_place complete =
    staying-long path (ordered first.items) (last_sectors t first) (place + 1) (complete ∙ sym (length-ordered first.items))
    ∙ sym (ap length (remaining-aboard t first sector place lawful is_first at_place))
    ∙ length-ordered sector.items

-- the part of a prefix on the first sector is the prefix
pub first-part : (t : Stops) (first : Problem) (prefix : List ℕ) → AreLawfulStops t → IsFirstSector t first → length prefix ≤ length first.items → part_of (last_sectors t first) 1 prefix ≡ prefix
first-part t first prefix lawful is_first short =
    staying-whole (ordered first.items) prefix (last_sectors t first) 1
    (sym (ap length (remaining-aboard t first first 0 lawful is_first is_first)))
    (omega (arith, short, length-ordered first.items))

-- so what holds on each sector holds of the prefix on the first one
pub on-first : (P : Problem → List ℕ → Type 0) (t : Stops) (first : Problem) (prefix : List ℕ) → AreLawfulStops t → IsFirstSector t first → length prefix ≤ length first.items
    → OnSectors P t.sectors (last_sectors t first) prefix → P first prefix
on-first P t first prefix lawful is_first short each = subst (P first) (first-part t first prefix lawful is_first short) (each 0 first is_first)

-- Viable prefixes -------------------------------------------------------------------------------

-- the parts of the definition, for this first sector
abbrev pub HasViableParts : Stops → List ℕ → Problem → Type 0
HasViableParts t prefix first = (length prefix ≤ length first.items) × IsReachable (last_sectors t first) t.behind prefix × OnSectors IsWidelyViable t.sectors (last_sectors t first) prefix

pub viable-parts : (t : Stops) (first : Problem) (prefix : List ℕ) → IsFirstSector t first → IsStopViable t prefix → HasViableParts t prefix first
viable-parts t first prefix is_first v = subst (HasViableParts t prefix) (one-first t v.first first v.is_first is_first) (v.short, v.reachable, v.sectors)

slice_get-front : (xs ys : List ℕ) (i x : ℕ) → slice_get xs i ≡ Some x → slice_get (xs ++ ys) i ≡ Some x
slice_get-front [] ys i x is = absurd (cc)
slice_get-front (z ∷ xs) ys zero x is = is
slice_get-front (z ∷ xs) ys (suc i) x is = slice_get-front xs ys i x is

reachable-shorter : (last : List ℕ) (behind : List (ℕ × ℕ)) (prefix : List ℕ) (q : ℕ) → IsReachable last behind (prefix ++ q ∷ []) → IsReachable last behind prefix
reachable-shorter last behind prefix q reachable =
    All-weaker (KeepsWayOut last (prefix ++ q ∷ [])) (KeepsWayOut last prefix)
    (λ pair keeps i j one other. keeps i j (slice_get-front prefix (q ∷ []) i pair.0 one) (slice_get-front prefix (q ∷ []) j pair.1 other))
    behind reachable

-- a prefix that is viable at every stop is so without its last number too
pub viable-shorter : (t : Stops) (prefix : List ℕ) (q : ℕ) → IsStopViable t (prefix ++ q ∷ []) → IsStopViable t prefix
viable-shorter t prefix q viable =
    let long : length prefix < length viable.first.items = omega (arith, viable.short, length-append prefix (q ∷ [])) in
    let last = last_sectors t viable.first in
    record {
      first = viable.first;
      is_first = viable.is_first;
      short = omega (arith, long);
      reachable = reachable-shorter last t.behind prefix q viable.reachable;
      sectors = λ place sector at_place.
          let longer = part-longer last (place + 1) prefix q (omega (arith, long, length-last t viable.first)) in
          let whole = viable.sectors place sector at_place in
          ⊎_elim
          (λ (stays : nat_le (place + 1) (get_or last (length prefix) 0) ≡ true).
          widely-shorter sector (part_of last (place + 1) prefix) q (subst (IsWidelyViable sector) (rw stays at longer) whole))
          (λ (gone : nat_le (place + 1) (get_or last (length prefix) 0) ≡ false). subst (IsWidelyViable sector) (rw gone at longer) whole)
          (cases_Bool (nat_le (place + 1) (get_or last (length prefix) 0)));
    }

-- a path is viable at every stop exactly where it is admissible
pub viable-admissible : (t : Stops) (path : List ℕ) (first : Problem) → AreLawfulStops t → IsFirstSector t first → length path ≡ length first.items → IsStopViable t path → IsStopAdmissible t path
viable-admissible t path first lawful is_first complete viable =
    let parts = viable-parts t first path is_first viable in
    record {
      first = first;
      is_first = is_first;
      complete = complete;
      reachable = parts.1;
      sectors = λ place sector at_place. complete-admissible sector (part_of (last_sectors t first) (place + 1) path)
          (part-complete t first sector place path lawful is_first at_place complete) (parts.2 place sector at_place);
    }

pub admissible-viable : (t : Stops) (path : List ℕ) → IsStopAdmissible t path → IsStopViable t path
admissible-viable t path admissible = record {
  first = admissible.first;
  is_first = admissible.is_first;
  short = omega (arith, admissible.complete);
  reachable = admissible.reachable;
  sectors = λ place sector at_place. admissible-widely sector (part_of (last_sectors t admissible.first) (place + 1) path) (admissible.sectors place sector at_place);
}
