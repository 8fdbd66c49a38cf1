-- Desks that were made, after calls, are all desks of their room.
use Rattle.std.proofs.Common.{◌≡◌, ◌+◌, ◌<◌, ℕ, zero, suc, List, [], ◌∷◌, ◌++◌, length, get_or, take, Some, refl, sym, ap, ◌∙◌, subst, arith}
use Rattle.std.proofs.Math.Seq.{take-append_seam}
use Rattle.std.specs.List.{slice_get}
use Rattle.std.proofs.lemmas.Option.{slice_get-get_or, slice_get_within, get_or_from_slice_get}
use Rattle.atomic_table.specs.Seated.{TableId}
use Rattle.desk_lock.specs.declared.desk.Desk.{Desk}
use Rattle.desk_lock.specs.declared.views.Origin.{Origin}
use Rattle.desk_lock.specs.Desks.{IsSameDesk}
use Rattle.desk_lock.specs.Rooms.{AreNew, AreAllDesks, AreSameDesks, StayAllDesks}

pub there : {A : Type 0} (xs : List A) (k : ℕ) → k < length xs → (x : A) × (slice_get xs k ≡ Some x)
there [] k h = absurd (omega arith)
there (x ∷ xs) zero h = (x, refl)
there (x ∷ xs) (suc k) h = there xs k (omega arith)

-- what a `Vec` holds after its slice was written
pub written : {A : Type 0} (new rest : List A) (n : ℕ) → n ≡ length new → take n (new ++ rest) ≡ new
written new rest n is = ap (λ k. take k (new ++ rest)) is ∙ take-append_seam new rest

module _ {M Q R E G : Type 0} where
  -- new desks are all desks of their room, whatever calls they make
  pub new_stay : (history_of : M → List E) (p : Origin M) (room : TableId) (count : ℕ) (desks : List (Desk M Q R E G)) → length desks ≡ count
      → AreNew history_of p room desks → StayAllDesks p room count desks
  new_stay history_of p room count desks many new after same = record {
    mine = λ i e here.
        let w = slice_get_within after i e here in
        let n = same.0 in
        let old = new i (get_or desks i e) (slice_get-get_or desks i e (omega arith)) in
        let s = subst (λ x. IsSameDesk (get_or desks i e) x) (get_or_from_slice_get after i e e here) (same.1 i e (omega arith)) in
        (s.1 ∙ old.of, s.2 ∙ old.at);
    all = λ k lt.
        let n = same.0 in
        let e = there after k (omega arith) in
        let old = new k (get_or desks k e.0) (slice_get-get_or desks k e.0 (omega arith)) in
        let s = subst (λ x. IsSameDesk (get_or desks k e.0) x) (get_or_from_slice_get after k e.0 e.0 e.1) (same.1 k e.0 (omega arith)) in
        (k, e.0, e.1, ap (λ x. x + 1) s.0 ∙ old.place);
  }

  -- so they are at first
  pub now_all : (p : Origin M) (room : TableId) (count : ℕ) (desks : List (Desk M Q R E G)) → StayAllDesks p room count desks → AreAllDesks p room count desks
  now_all p room count desks stay = stay desks (refl, λ i d lt. (refl, refl, refl, refl))

  -- desks that were called through the slice of their `Vec`, which then has what the slice has
  pub all_written : (p : Origin M) (room : TableId) (count : ℕ) (before after rest : List (Desk M Q R E G)) (n : ℕ)
      → StayAllDesks p room count before → AreSameDesks before after → length before ≡ n → AreAllDesks p room count (take n (after ++ rest))
  all_written p room count before after rest n stay same many =
      subst (AreAllDesks p room count) (sym (written after rest n (sym many ∙ sym same.0))) (stay after same)
