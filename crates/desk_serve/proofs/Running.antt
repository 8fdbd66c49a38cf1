-- from bays, last first, to doors and desks in order
use Rattle.std.proofs.Common.{◌≡◌, ◌↔◌, ◌-◌, ◌<◌, ℕ, suc, List, [], ◌∷◌, length, map, reverse, get_or, Option, Some, None, Bool, true, false, IsTrue, refl, sym, ap, ◌∙◌, arith, subst}
use Rattle.std.specs.List.{All, slice_get}
use Rattle.std.specs.Option.{option_map}
use Rattle.std.proofs.lemmas.Bool.{false≢true}
use Rattle.std.proofs.lemmas.List.{get_or-reverse, length-reverse, length-map, reverse-reverse}
use Rattle.std.proofs.lemmas.List.Elements.{All-nil, All-cons}
use Rattle.std.proofs.lemmas.Option.{slice_get-map, slice_get-get_or, slice_get_within, get_or_from_slice_get}
use Rattle.desk_lock.specs.Desks.{IsSameDesk}
use Rattle.desk_serve.specs.Bays.{OfficeDesk, AreEach, Worked, AllWorked}

module _ {B : Type 0} where
  each_turned : (R : B → B → Type 0) (xs ys : List B) → length ys ≡ length xs → AreEach R xs ys → AreEach R (reverse xs) (reverse ys)
  each_turned R xs ys n h i d lt =
      let lx : length (reverse xs) ≡ length xs = length-reverse xs in
      let i_lt : i < length xs = omega arith in
      let j : ℕ = length xs - 1 - i in
      let r : R (get_or xs j d) (get_or ys j d) = h j d (omega arith) in
      let r' : R (get_or xs j d) (get_or ys (length ys - 1 - i) d) = subst (λ m. R (get_or xs j d) (get_or ys (m - 1 - i) d)) (sym n) r in
      subst (λ x. R x (get_or (reverse ys) i d)) (sym (get_or-reverse xs i d i_lt)) (subst (λ y. R (get_or xs j d) y) (sym (get_or-reverse ys i d (omega arith))) r')

  each_at : (R : B → B → Type 0) (xs ys : List B) → AreEach R xs ys → (i : ℕ) (x y : B) → slice_get xs i ≡ Some x → slice_get ys i ≡ Some y → R x y
  each_at R xs ys h i x y a b =
      subst (λ z. R z y) (get_or_from_slice_get xs i x x a) (subst (λ z. R (get_or xs i x) z) (get_or_from_slice_get ys i y x b) (h i x (slice_get_within xs i x a)))

  all_turned : (P : B → Type 0) (xs : List B) → All P xs → All P (reverse xs)
  all_turned P xs h i d lt =
      let lx : length (reverse xs) ≡ length xs = length-reverse xs in
      let i_lt : i < length xs = omega arith in
      subst P (sym (get_or-reverse xs i d i_lt)) (h (length xs - 1 - i) d (omega arith))

  abbrev Finds : (B → Bool) → List B → Type 0
  Finds c xs = (i : ℕ) × (b : B) × (slice_get xs i ≡ Some b) × (c b ≡ false)

  find_head : (c : B → Bool) (x : B) (xs : List B) (t : Bool) → c x ≡ t → (All (λ b. c b ≡ true) (x ∷ xs) → ⊥) → ((All (λ b. c b ≡ true) xs → ⊥) → Finds c xs) → Finds c (x ∷ xs)
  find_head c x xs false e h more = (0, x, refl, e)
  find_head c x xs true e h more =
      let r : Finds c xs = more (λ all. h (All-cons (λ b. c b ≡ true) x xs e all)) in
      (suc r.0, r.1, r.2, r.3)

  -- where not all are true, some one is false
  find_false : (c : B → Bool) (xs : List B) → (All (λ b. c b ≡ true) xs → ⊥) → Finds c xs
  find_false c [] h = absurd (h (All-nil (λ b. c b ≡ true)))
  find_false c (x ∷ xs) h = find_head c x xs (c x) refl h (find_false c xs)

  module _ {A : Type 0} (f : B → A) where
    there_of : (o : Option B) (a : A) → option_map f o ≡ Some a → (b : B) × (o ≡ Some b) × (f b ≡ a)
    there_of None a e = absurd (let q : None ≡ Some a = e in cc)
    there_of (Some b) a e = (b, refl, (let q : Some (f b) ≡ Some a = e in cc))

    mapped_at : (us : List A) (xs : List B) → us ≡ map f xs → (i : ℕ) (a : A) → slice_get us i ≡ Some a → (b : B) × (slice_get xs i ≡ Some b) × (f b ≡ a)
    mapped_at us xs e i a h = there_of (slice_get xs i) a (sym (slice_get-map f xs i) ∙ (ap (λ zs. slice_get zs i) (sym e) ∙ h))

    at_mapped : (us : List A) (xs : List B) → us ≡ map f xs → (i : ℕ) (b : B) → slice_get xs i ≡ Some b → slice_get us i ≡ Some (f b)
    at_mapped us xs e i b h = ap (λ zs. slice_get zs i) e ∙ (slice_get-map f xs i ∙ ap (option_map f) h)

module _ {D L B : Type 0} (coming_of handed_of : D → Option (List L)) (faults_of : D → ℕ) (input_of output_of : L → Option (List ℕ)) (reads_of writes_of : L → ℕ)
    (door_of : B → D) (desk_of : B → OfficeDesk) (closed_of : B → Bool) where
  abbrev Works : B → B → Type 0
  Works b b' = Worked coming_of handed_of faults_of input_of output_of reads_of writes_of (desk_of b) (desk_of b') (door_of b) (door_of b') (closed_of b')

  runs : (xs ys : List B) (ds ds' : List D) (ks ks' : List OfficeDesk) (all : Bool) → length ys ≡ length xs → AreEach Works xs ys
      → ds ≡ map door_of (reverse xs) → ks ≡ map desk_of (reverse xs) → ds' ≡ map door_of (reverse ys) → ks' ≡ map desk_of (reverse ys)
      → (all ≡ true → All (λ b. closed_of b ≡ true) ys) → (all ≡ false → All (λ b. closed_of b ≡ true) ys → ⊥)
      → AllWorked coming_of handed_of faults_of input_of output_of reads_of writes_of ds ds' ks ks' all
  runs xs ys ds ds' ks ks' all n each e f e' f' whole broken =
      let lx : length (reverse xs) ≡ length xs = length-reverse xs in
      let ly : length (reverse ys) ≡ length ys = length-reverse ys in
      let le : length ds ≡ length (reverse xs) = ap length e ∙ length-map (reverse xs) door_of in
      let le' : length ds' ≡ length (reverse ys) = ap length e' ∙ length-map (reverse ys) door_of in
      let lf : length ks ≡ length (reverse xs) = ap length f ∙ length-map (reverse xs) desk_of in
      let lf' : length ks' ≡ length (reverse ys) = ap length f' ∙ length-map (reverse ys) desk_of in
      let turned : AreEach Works (reverse xs) (reverse ys) = each_turned Works xs ys n each in
      record {
        many = omega arith;
        desks = omega arith;
        same = λ i k' at.
            let b' = mapped_at desk_of ks' (reverse ys) f' i k' at in
            let lt : i < length (reverse ys) = slice_get_within (reverse ys) i b'.0 b'.1 in
            let x = get_or (reverse xs) i b'.0 in
            let here : slice_get (reverse xs) i ≡ Some x = slice_get-get_or (reverse xs) i b'.0 (omega arith) in
            let w = each_at Works (reverse xs) (reverse ys) turned i x b'.0 here b'.1 in
            (desk_of x, at_mapped desk_of ks (reverse xs) f i x here, subst (λ k. IsSameDesk (desk_of x) k) b'.2 w.same);
        each = λ i d d' at at'.
            let b = mapped_at door_of ds (reverse xs) e i d at in
            let b' = mapped_at door_of ds' (reverse ys) e' i d' at' in
            let w = each_at Works (reverse xs) (reverse ys) turned i b.0 b'.0 b.1 b'.1 in (
              desk_of b.0,
              desk_of b'.0,
              closed_of b'.0,
              at_mapped desk_of ks (reverse xs) f i b.0 b.1,
              at_mapped desk_of ks' (reverse ys) f' i b'.0 b'.1,
              subst (λ y. Worked coming_of handed_of faults_of input_of output_of reads_of writes_of (desk_of b.0) (desk_of b'.0) d y (closed_of b'.0)) b'.2
                  (subst (λ y. Worked coming_of handed_of faults_of input_of output_of reads_of writes_of (desk_of b.0) (desk_of b'.0) y (door_of b'.0) (closed_of b'.0)) b.2 w),
              λ t. subst (λ z. closed_of z ≡ true) (get_or_from_slice_get (reverse ys) i b'.0 b'.0 b'.1)
                  (all_turned (λ z. closed_of z ≡ true) ys (whole t) i b'.0 (slice_get_within (reverse ys) i b'.0 b'.1)),
            );
        failed = λ t.
            let r = find_false closed_of (reverse ys) (λ h. broken t (subst (All (λ z. closed_of z ≡ true)) (reverse-reverse ys) (all_turned (λ z. closed_of z ≡ true) (reverse ys) h))) in
            let lt : r.0 < length (reverse ys) = slice_get_within (reverse ys) r.0 r.1 r.2 in
            let x = get_or (reverse xs) r.0 r.1 in
            let here : slice_get (reverse xs) r.0 ≡ Some x = slice_get-get_or (reverse xs) r.0 r.1 (omega arith) in
            let w = each_at Works (reverse xs) (reverse ys) turned r.0 x r.1 here r.2 in
            (r.0, door_of x, door_of r.1, at_mapped door_of ds (reverse xs) e r.0 x here, at_mapped door_of ds' (reverse ys) e' r.0 r.1 r.2, w.attended.handles.failed r.3);
      }

  -- the same, as the calls say it
  pub runs_back : (xs mid ys after seen : List B) (ds ds' : List D) (ks ks' : List OfficeDesk) (all : Bool) → mid ≡ xs → after ≡ ys → seen ≡ after → length ys ≡ length mid → AreEach Works mid ys
      → ds ≡ map door_of (reverse xs) → ks ≡ map desk_of (reverse xs) → ds' ≡ map door_of (reverse after) → ks' ≡ map desk_of (reverse after)
      → (IsTrue all ↔ All (λ b. closed_of b ≡ true) seen)
      → AllWorked coming_of handed_of faults_of input_of output_of reads_of writes_of ds ds' ks ks' all
  runs_back xs mid ys after seen ds ds' ks ks' all m a s n each e f e' f' iff =
      runs mid ys ds ds' ks ks' all n each
      (e ∙ ap (λ zs. map door_of (reverse zs)) (sym m)) (f ∙ ap (λ zs. map desk_of (reverse zs)) (sym m))
      (e' ∙ ap (λ zs. map door_of (reverse zs)) a) (f' ∙ ap (λ zs. map desk_of (reverse zs)) a)
      (λ t. subst (All (λ b. closed_of b ≡ true)) (s ∙ a) (iff.0 t))
      (λ t h. false≢true (sym t ∙ iff.1 (subst (All (λ b. closed_of b ≡ true)) (sym (s ∙ a)) h)))
