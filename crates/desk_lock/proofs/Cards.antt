-- Each kind of step over the directory of cards alone.
use Rattle.std.proofs.Common.{◌≡◌, ◌≢◌, ◌⊎◌, ⊎_elim, ◌+◌, ◌<◌, ◌≤◌, ℕ, zero, suc, List, [], ◌∷◌, ◌++◌, length, get_or, set, Option, Some, None, true, false, cond, refl, sym, ◌∙◌, ap, subst, arith, inl, inr, append_assoc, append-nil, length-append, nat_le, min}
use Rattle.std.specs.List.{All, count_by}
use Rattle.std.proofs.lemmas.List.Elements.{All-push, All-nil}
use Rattle.std.proofs.lemmas.List.Sums.{sum_by-set, sum_by-append}
use Rattle.std.proofs.lemmas.Bool.{cases_Bool, false≢true}
use Rattle.std.proofs.lemmas.Bool.Decides.{nat_tests}
use mathlib.Core.Option.{some-injective, some-ne-none}
use native.Mathlib.Decide.{ℕ_discrete, dec_le}
use mathlib.Core.Logic.{dite}
use Rattle.atomic_table.proofs.Lists.{at_set, set_here, set_else, at_longer}
use Rattle.desk_lock.specs.declared.views.Card.{Card}
use Rattle.desk_lock.specs.Views.{card}
use Rattle.desk_lock.specs.Rule.{At, is_beyond, is_beyond_ticket, IsValidCard, IsOrderly}

module _ {A : Type 0} where
  pub within : (xs : List A) (i : ℕ) (x : A) → At xs i x → i < length xs
  within [] i x e = absurd (some-ne-none x (sym e))
  within (y ∷ ys) zero x e = omega arith
  within (y ∷ ys) (suc i) x e = let h = within ys i x e in omega arith

  pub at_get_or : (xs : List A) (i : ℕ) (x d : A) → At xs i x → get_or xs i d ≡ x
  at_get_or [] i x d e = absurd (some-ne-none x (sym e))
  at_get_or (y ∷ ys) zero x d e = some-injective y x e
  at_get_or (y ∷ ys) (suc i) x d e = at_get_or ys i x d e

  pub same_at : (xs : List A) (i : ℕ) (x y : A) → At xs i x → At xs i y → x ≡ y
  same_at xs i x y a b = some-injective x y (sym a ∙ b)

  pub length_set : (xs : List A) (i : ℕ) (x : A) → length (set xs i x) ≡ length xs
  length_set [] i x = refl
  length_set (y ∷ ys) zero x = refl
  length_set (y ∷ ys) (suc i) x = ap suc (length_set ys i x)

module _ {E : Type 0} where
  -- the number of full tickets after a card is changed
  counts : (capacity : ℕ) (cards : List (Card E)) (k : ℕ) (c d : Card E) → At cards k c
      → count_by (is_beyond capacity) (set cards k d) + cond (is_beyond capacity c) 1 0 ≡ count_by (is_beyond capacity) cards + cond (is_beyond capacity d) 1 0
  counts capacity cards k c d at =
      let e = sum_by-set (λ x. cond (is_beyond capacity x) 1 0) cards k d c (within cards k c at) in
      let f : get_or cards k c ≡ c = at_get_or cards k c c at in
      rw f at e

  -- a card after the change of one
  pub changed : (cards : List (Card E)) (k : ℕ) (d : Card E) (P : ℕ → Card E → Type 0) → P k d → ((j : ℕ) (c : Card E) → j ≢ k → At cards j c → P j c)
      → (j : ℕ) (c : Card E) → At (set cards k d) j c → P j c
  changed cards k d P here others j c at = ⊎_elim
      (λ t. subst (λ (x : ℕ × Card E). P x.0 x.1) (λ i. (sym t.0 i, t.1 i)) here)
      (λ t. others j c t.0 t.1)
      (at_set cards k j d c at)

pub no_ticket : (o : Option ℕ) (t : ℕ) → o ≡ None → o ≡ Some t → ⊥
no_ticket o t a b = absurd (let e : None ≡ Some t = sym a ∙ b in cc)

pub one_ticket : (o : Option ℕ) (t u : ℕ) → o ≡ Some t → o ≡ Some u → t ≡ u
one_ticket o t u a b = cc

module _ {E : Type 0} (desk_of : E → ℕ) (capacity : ℕ) (opening : List E) where
  below_cap : (t : ℕ) → t < capacity → is_beyond_ticket capacity (Some t) ≡ false
  below_cap t h = grind (arith, nat_tests)

  all_made : (cards : List (Card E)) (k : ℕ) (d : Card E) (xs : List E) → All (λ e. (0 < desk_of e) × (desk_of e ≤ length cards)) xs → All (λ e. (0 < desk_of e) × (desk_of e ≤ length (set cards k d))) xs
  all_made cards k d xs h = subst (λ n. All (λ e. (0 < desk_of e) × (desk_of e ≤ n)) xs) (sym (length_set cards k d)) h

  -- a seat draws the next ticket
  draw_few : (cards : List (Card E)) (tickets : ℕ) (k : ℕ) (c : Card E) → tickets ≤ capacity + count_by (is_beyond capacity) cards → At cards k c → c.ticket ≡ None
      → tickets + 1 ≤ capacity + count_by (is_beyond capacity) (set cards k (card (Some tickets) (Some tickets) c.has_turn c.seen))
  draw_few cards tickets k c few at free =
      let e = counts capacity cards k c (card (Some tickets) (Some tickets) c.has_turn c.seen) at in
      let fc : is_beyond capacity c ≡ false = ap (is_beyond_ticket capacity) free in
      elim (cases_Bool (nat_le capacity tickets)) [
        | inl y ↦ let f = rw (fc, y) at e in omega arith
        | inr n ↦ let f = rw (fc, n) at e in let g : tickets < capacity = grind (arith, nat_tests) in omega arith
      ]

  pub draws : (cards : List (Card E)) (tickets serving : ℕ) (log : List E) (k : ℕ) (c : Card E)
      → IsOrderly desk_of capacity opening cards tickets serving log → At cards k c → c.ticket ≡ None
      → IsOrderly desk_of capacity opening (set cards k (card (Some tickets) (Some tickets) c.has_turn c.seen)) (tickets + 1) serving log
  draws cards tickets serving log k c r at free =
      let d : Card E = card (Some tickets) (Some tickets) c.has_turn c.seen in
      let old = r.valid k c at in
      let newest = λ (i t : ℕ) (a : Card E) (p : (i ≡ k) × (d ≡ a)) (ta : a.last ≡ Some t). one_ticket a.last tickets t (sym (ap (λ (x : Card E). x.last) p.1)) ta in
      record {
        small = r.small;
        desks = subst (λ n. n ≤ 8) (sym (length_set cards k d)) r.desks;
        below = r.below;
        drawn = let h = r.drawn in omega arith;
        few = draw_few cards tickets k c r.few at free;
        valid = changed cards k d (IsValidCard desk_of capacity (tickets + 1) serving log)
            record {
              seen = old.seen;
              drawn = λ t e. let q : tickets ≡ t = cc in omega arith;
              ticket = λ t e. let q : tickets ≡ t = cc in let h = r.drawn in (e, λ _. omega arith);
              turn = λ is. absurd (no_ticket c.ticket serving free (old.turn is).0);
            }
            (λ j b ne atj. let f = r.valid j b atj in record {
              seen = f.seen;
              drawn = λ t e. let g = f.drawn t e in omega arith;
              ticket = f.ticket;
              turn = f.turn;
            });
        alone = λ i j a b t ai bj ta tb. ⊎_elim
            (λ p. ⊎_elim
            (λ q. p.0 ∙ sym q.0)
            (λ q. let g = (r.valid j b q.1).drawn t tb in let h : tickets ≡ t = newest i t a p ta in absurd (omega arith))
            (at_set cards k j d b bj))
            (λ p. ⊎_elim
            (λ q. let g = (r.valid i a p.1).drawn t ta in let h : tickets ≡ t = newest j t b q tb in absurd (omega arith))
            (λ q. r.alone i j a b t p.1 q.1 ta tb)
            (at_set cards k j d b bj))
            (at_set cards k i d a ai);
        newest = λ t e. (k, d, set_here cards k d (within cards k c at), ap Some (omega arith));
        pending = λ t lo hi. dite (ℕ_discrete t tickets)
            (λ e. (k, d, set_here cards k d (within cards k c at), ap Some (sym e)))
            (λ ne.
            let had = r.pending t lo (omega arith) in
            let other : had.0 ≢ k = λ e. no_ticket c.ticket t free (ap (λ (x : Card E). x.ticket) (same_at cards k c had.1 at (subst (λ n. At cards n had.1) e had.2)) ∙ had.3) in
            (had.0, had.1, set_else cards k had.0 d other ∙ had.2, had.3));
        rest = r.rest;
        beyond = r.beyond;
        long = r.long;
        made = all_made cards k d r.rest r.made;
      }

  -- a card that keeps its ticket, in hand or the last one: each card has one that stood there before, with its ticket
  stood : (of : Card E → Option ℕ) (cards : List (Card E)) (k : ℕ) (c d : Card E) → At cards k c → of d ≡ of c → (j : ℕ) (a : Card E) → At (set cards k d) j a → (b : Card E) × At cards j b × (of b ≡ of a)
  stood of cards k c d at same j a e = ⊎_elim
      (λ t. (c, subst (λ n. At cards n c) (sym t.0) at, sym same ∙ ap of t.1))
      (λ t. (a, t.1, refl))
      (at_set cards k j d a e)

  -- and each card that stood before has one now
  stands : (of : Card E → Option ℕ) (cards : List (Card E)) (k : ℕ) (c d : Card E) → At cards k c → of d ≡ of c → (j : ℕ) (b : Card E) → At cards j b → (a : Card E) × At (set cards k d) j a × (of a ≡ of b)
  stands of cards k c d at same j b e = dite (ℕ_discrete j k)
      (λ is. (d, subst (λ n. At (set cards k d) n d) (sym is) (set_here cards k d (within cards k c at)), same ∙ ap of (same_at cards k c b at (subst (λ n. At cards n b) is e))))
      (λ ne. (b, set_else cards k j d ne ∙ e, refl))

  -- so no two desks drew one ticket, and the newest is still some desk's
  alone_still : (cards : List (Card E)) (tickets serving : ℕ) (log : List E) (k : ℕ) (c d : Card E) → IsOrderly desk_of capacity opening cards tickets serving log → At cards k c → d.last ≡ c.last
      → (i j : ℕ) (a b : Card E) (t : ℕ) → At (set cards k d) i a → At (set cards k d) j b → a.last ≡ Some t → b.last ≡ Some t → i ≡ j
  alone_still cards tickets serving log k c d r at same i j a b t ai bj ta tb =
      let p = stood (λ x. x.last) cards k c d at same i a ai in
      let q = stood (λ x. x.last) cards k c d at same j b bj in
      r.alone i j p.0 q.0 t p.1 q.1 (p.2 ∙ ta) (q.2 ∙ tb)

  newest_still : (cards : List (Card E)) (tickets serving : ℕ) (log : List E) (k : ℕ) (c d : Card E) → IsOrderly desk_of capacity opening cards tickets serving log → At cards k c → d.last ≡ c.last
      → (t : ℕ) → t + 1 ≡ tickets → (j : ℕ) × (a : Card E) × At (set cards k d) j a × (a.last ≡ Some t)
  newest_still cards tickets serving log k c d r at same t e =
      let had = r.newest t e in
      let now = stands (λ x. x.last) cards k c d at same had.0 had.1 had.2 in
      (had.0, now.0, now.1, now.2 ∙ had.3)

  -- nor do two desks have one in hand
  pub alone_in_hand : (cards : List (Card E)) (tickets serving : ℕ) (log : List E) → IsOrderly desk_of capacity opening cards tickets serving log
      → (i j : ℕ) (a b : Card E) (t : ℕ) → At cards i a → At cards j b → a.ticket ≡ Some t → b.ticket ≡ Some t → i ≡ j
  alone_in_hand cards tickets serving log r i j a b t ai bj ta tb =
      r.alone i j a b t ai bj ((r.valid i a ai).ticket t ta).0 ((r.valid j b bj).ticket t tb).0

  -- the seat whose ticket is served has the slot
  pub marks : (cards : List (Card E)) (tickets serving : ℕ) (log : List E) (k : ℕ) (c : Card E)
      → IsOrderly desk_of capacity opening cards tickets serving log → At cards k c → c.ticket ≡ Some serving → serving < capacity
      → IsOrderly desk_of capacity opening (set cards k (card (Some serving) (Some serving) true log)) tickets serving log
  marks cards tickets serving log k c r at mine under =
      let d : Card E = card (Some serving) (Some serving) true log in
      let old = r.valid k c at in
      let same : d.ticket ≡ c.ticket = sym mine in
      let kept : d.last ≡ c.last = sym (old.ticket serving mine).0 in
      record {
        small = r.small;
        desks = subst (λ n. n ≤ 8) (sym (length_set cards k d)) r.desks;
        below = r.below;
        drawn = r.drawn;
        few = let e = counts capacity cards k c d at in let f : is_beyond capacity c ≡ is_beyond capacity d = ap (is_beyond_ticket capacity) mine in let g = rw f at e in let h = r.few in omega arith;
        valid = changed cards k d (IsValidCard desk_of capacity tickets serving log)
            record {
              seen = record { rest = []; is = sym (append-nil log); others = All-nil (λ e. desk_of e ≢ k + 1) };
              drawn = λ t e. old.drawn t (sym kept ∙ e);
              ticket = λ t e. (e, (old.ticket t (mine ∙ e)).1);
              turn = λ _. (refl, under, refl);
            }
            (λ j b ne atj. r.valid j b atj);
        alone = alone_still cards tickets serving log k c d r at kept;
        newest = newest_still cards tickets serving log k c d r at kept;
        pending = λ t lo hi.
            let had = r.pending t lo hi in
            let now = stands (λ x. x.ticket) cards k c d at same had.0 had.1 had.2 in
            (had.0, now.0, now.1, now.2 ∙ had.3);
        rest = r.rest;
        beyond = r.beyond;
        long = r.long;
        made = all_made cards k d r.rest r.made;
      }

  -- the seat that has the slot gives it back, with one more entry of its own
  pub advances : (cards : List (Card E)) (tickets serving : ℕ) (log : List E) (k : ℕ) (c : Card E) (e : E)
      → IsOrderly desk_of capacity opening cards tickets serving log → At cards k c → c.has_turn ≡ true → desk_of e ≡ k + 1
      → IsOrderly desk_of capacity opening (set cards k (card None c.last false (log ++ e ∷ []))) tickets (serving + 1) (log ++ e ∷ [])
  advances cards tickets serving log k c e r at has_turn by =
      let d : Card E = card None c.last false (log ++ e ∷ []) in
      let old = r.valid k c at in
      let turn = old.turn has_turn in
      let mine : c.ticket ≡ Some serving = turn.0 in
      let under : serving < capacity = turn.1 in
      let drawn = old.drawn serving (old.ticket serving mine).0 in
      record {
        small = r.small;
        desks = subst (λ n. n ≤ 8) (sym (length_set cards k d)) r.desks;
        below = omega arith;
        drawn = omega arith;
        few = let s = counts capacity cards k c d at in let f : is_beyond capacity c ≡ false = ap (is_beyond_ticket capacity) mine ∙ below_cap serving under in let g = rw f at s in let h = r.few in omega arith;
        valid = changed cards k d (IsValidCard desk_of capacity tickets (serving + 1) (log ++ e ∷ []))
            record {
              seen = record { rest = []; is = sym (append-nil (log ++ e ∷ [])); others = All-nil (λ x. desk_of x ≢ k + 1) };
              drawn = old.drawn;
              ticket = λ t is. absurd (no_ticket None t refl is);
              turn = λ is. absurd (false≢true is);
            }
            (λ j b ne atj.
            let f = r.valid j b atj in
            let unserved : b.ticket ≡ Some serving → ⊥ = λ is. ne (alone_in_hand cards tickets serving log r j k b c serving atj at is mine) in
            record {
              seen = record {
                rest = f.seen.rest ++ e ∷ [];
                is = ap (λ (xs : List E). xs ++ e ∷ []) f.seen.is ∙ append_assoc b.seen f.seen.rest (e ∷ []);
                others = All-push (λ x. desk_of x ≢ j + 1) f.seen.rest e f.seen.others (λ is. ne (omega arith));
              };
              drawn = f.drawn;
              ticket = λ t is. let g = f.ticket t is in (g.0, λ low. let a = g.1 low in let b : t ≢ serving = λ z. unserved (is ∙ ap Some z) in omega arith);
              turn = λ is. absurd (unserved (f.turn is).0);
            });
        alone = alone_still cards tickets serving log k c d r at refl;
        newest = newest_still cards tickets serving log k c d r at refl;
        pending = λ t lo hi.
            let had = r.pending t (omega arith) hi in
            let other : had.0 ≢ k = λ z. let u : serving ≡ t = one_ticket c.ticket serving t mine (ap (λ (x : Card E). x.ticket) (same_at cards k c had.1 at (subst (λ n. At cards n had.1) z had.2)) ∙ had.3) in omega arith in
            (had.0, had.1, set_else cards k had.0 d other ∙ had.2, had.3);
        rest = r.rest ++ e ∷ [];
        beyond = ap (λ (xs : List E). xs ++ e ∷ []) r.beyond ∙ append_assoc opening r.rest (e ∷ []);
        long = let h = r.long in omega (arith, length-append r.rest (e ∷ []));
        made = all_made cards k d (r.rest ++ e ∷ []) (All-push (λ x. (0 < desk_of x) × (desk_of x ≤ length cards)) r.rest e r.made (let h = within cards k c at in (omega arith, omega arith)));
      }

module _ {A : Type 0} where
  pub at_end : (l : List A) (a b : A) (j : ℕ) → At (l ++ a ∷ []) j b → (At l j b) ⊎ ((j ≡ length l) × (a ≡ b))
  at_end [] a b zero e = inr (refl, some-injective a b e)
  at_end [] a b (suc j) e = absurd (some-ne-none b (sym e))
  at_end (x ∷ xs) a b zero e = inl e
  at_end (x ∷ xs) a b (suc j) e = ⊎_elim (λ t. inl t) (λ t. inr (ap suc t.0, t.1)) (at_end xs a b j e)

module _ {E : Type 0} (desk_of : E → ℕ) (capacity : ℕ) (opening : List E) where
  -- one more desk
  pub joins_in : (cards : List (Card E)) (tickets serving : ℕ) (log : List E)
      → IsOrderly desk_of capacity opening cards tickets serving log → length cards < 8
      → IsOrderly desk_of capacity opening (cards ++ card None None false opening ∷ []) tickets serving log
  joins_in cards tickets serving log r room =
      let d : Card E = card None None false opening in
      let longer : length (cards ++ d ∷ []) ≡ length cards + 1 = length-append cards (d ∷ []) ∙ omega arith in
      record {
        small = r.small;
        desks = omega arith;
        below = r.below;
        drawn = r.drawn;
        few = let h = r.few in let e : count_by (is_beyond capacity) (cards ++ d ∷ []) ≡ count_by (is_beyond capacity) cards + 0 = sum_by-append (λ x. cond (is_beyond capacity x) 1 0) cards (d ∷ []) in omega arith;
        valid = λ k c at. ⊎_elim
            (λ t. r.valid k c t)
            (λ t. subst (λ (x : ℕ × Card E). IsValidCard desk_of capacity tickets serving log x.0 x.1) (λ i. (sym t.0 i, t.1 i)) record {
              seen = record { rest = r.rest; is = r.beyond; others = λ i e lt. let g = r.made i e lt in λ is. absurd (omega arith) };
              drawn = λ t e. absurd (no_ticket None t refl e);
              ticket = λ t e. absurd (no_ticket None t refl e);
              turn = λ is. absurd (false≢true is);
            })
            (at_end cards d c k at);
        alone = λ i j a b t ai bj ta tb. ⊎_elim
            (λ p. ⊎_elim
            (λ q. r.alone i j a b t p q ta tb)
            (λ q. absurd (no_ticket b.last t (sym (ap (λ (x : Card E). x.last) q.1)) tb))
            (at_end cards d b j bj))
            (λ p. absurd (no_ticket a.last t (sym (ap (λ (x : Card E). x.last) p.1)) ta))
            (at_end cards d a i ai);
        newest = λ t e. let had = r.newest t e in (had.0, had.1, at_longer cards (d ∷ []) had.0 had.1 had.2, had.3);
        pending = λ t lo hi. let had = r.pending t lo hi in (had.0, had.1, at_longer cards (d ∷ []) had.0 had.1 had.2, had.3);
        rest = r.rest;
        beyond = r.beyond;
        long = r.long;
        made = λ i e lt. let g = r.made i e lt in (g.0, omega arith);
      }

  -- where no desk has a ticket below the capacity, all tickets below it are served
  pub all_served : (cards : List (Card E)) (tickets serving : ℕ) (log : List E) → IsOrderly desk_of capacity opening cards tickets serving log
      → ((k : ℕ) (c : Card E) → At cards k c → (t : ℕ) → c.ticket ≡ Some t → capacity ≤ t) → serving ≡ min tickets capacity
  all_served cards tickets serving log r idle =
      let a = r.below in let b = r.drawn in
      let done : serving < tickets → serving < capacity → ⊥ = λ x y. let h = r.pending serving (omega arith) x in let z = idle h.0 h.1 h.2 serving h.3 in omega arith in
      dite (dec_le tickets serving) (λ x. omega arith) (λ x. dite (dec_le capacity serving) (λ y. omega arith) (λ y. absurd (done (omega arith) (omega arith))))
