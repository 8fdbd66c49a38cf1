-- The cards of desks that are given back.
use Rattle.std.proofs.Common.{◌≡◌, ◌<◌, ◌≤◌, ◌+◌, ℕ, zero, suc, List, [], ◌∷◌, ◌++◌, length, map, get_or, Option, Some, None, Bool, true, false, nat_le, min, refl, sym, ◌∙◌, ap, subst, arith, append_assoc, length-append}
use Rattle.std.proofs.Math.ListN.{get_or-append}
use Rattle.desk_lock.proofs.Seats.{last_taken}
use Rattle.std.specs.List.{All, slice_get}
use Rattle.std.proofs.lemmas.Bool.Decides.{nat_tests}
use mathlib.Core.Option.{some, some-injective, some-ne-none}
use mathlib.Core.List.{map-append}
use Rattle.atomic_table.specs.Seated.{TableId}
use Rattle.desk_lock.specs.declared.desk.Desk.{Desk}
use Rattle.desk_lock.specs.declared.views.Card.{Card}
use Rattle.desk_lock.specs.declared.views.Origin.{Origin}
use Rattle.desk_lock.specs.declared.views.Stage.{Stage}
use Rattle.desk_lock.specs.declared.views.View.TheVariants.{InRoom}
use Rattle.desk_lock.specs.Views.{card_of, collected_in, keep_if, lasting_ticket}
use Rattle.desk_lock.specs.Rule.{At}
use Rattle.desk_lock.specs.Steps.{Seated, Ends, IsIdle, Covers, AreIdle}
use Rattle.desk_lock.specs.Desks.{number, seen, ticket, origin, room_of}
use Rattle.desk_lock.specs.Rooms.{greatest, drawn_up_to, tickets_drawn, AreAllDesks, Closes}
use Rattle.desk_lock.proofs.Owning.{own-Continues}

pub rejoined : {M E : Type 0} (p : Origin M) (n : ℕ) (s : Stage) (collected : List (ℕ × Card E)) (w : Seated M E) → w ≡ (InRoom p n s collected, []) → w ≡ (InRoom p n s (collected_in w.0), [])
rejoined {M} {E} p n s collected w e = e ∙ ap (λ (j : List (ℕ × Card E)). (InRoom p n s j, [])) (sym (ap (λ (z : Seated M E). collected_in z.0) e))

pub now_joined : {M E : Type 0} (p : Origin M) (n : ℕ) (s : Stage) (collected : List (ℕ × Card E)) (w : Seated M E) → w ≡ (InRoom p n s collected, []) → collected_in w.0 ≡ collected
now_joined {M} {E} p n s collected w e = ap (λ (z : Seated M E). collected_in z.0) e

module _ {A B : Type 0} (f : A → B) where
  pub moved : (rest : List A) (d : A) (items : List A) (old new whole : List B) → items ≡ rest ++ d ∷ [] → new ≡ f d ∷ old → map f items ++ old ≡ whole → map f rest ++ new ≡ whole
  moved rest d items old new whole e n h =
      ap (λ xs. map f rest ++ xs) n ∙ (sym (append_assoc (map f rest) (f d ∷ []) old) ∙ (ap (λ xs. xs ++ old) (sym (map-append f rest (d ∷ []))) ∙ (ap (λ xs. map f xs ++ old) (sym e) ∙ h)))

  pub at_get : (xs : List A) (i : ℕ) (d : A) → slice_get xs i ≡ Some d → At (map f xs) i (f d)
  at_get [] i d e = absurd (let q : None ≡ Some d = e in cc)
  at_get (x ∷ xs) zero d e = let q : x ≡ d = cc in ap (λ y. some (f y)) q
  at_get (x ∷ xs) (suc i) d e = at_get xs i d e

  pub get_at : (xs : List A) (i : ℕ) (y : B) → At (map f xs) i y → (d : A) × (slice_get xs i ≡ Some d) × (f d ≡ y)
  get_at [] i y e = absurd (some-ne-none y (sym e))
  get_at (x ∷ xs) zero y e = (x, refl, some-injective (f x) y e)
  get_at (x ∷ xs) (suc i) y e = get_at xs i y e

pub all_front : {A : Type 0} (P : A → Type 0) (rest : List A) (d : A) (items : List A) → items ≡ rest ++ d ∷ [] → All P items → All P rest
all_front P rest d items e h k x lt =
    let n : length items ≡ length rest + 1 = ap length e ∙ length-append rest (d ∷ []) in
    subst P (ap (λ l. get_or l k x) e ∙ get_or-append rest (d ∷ []) x k lt) (h k x (omega arith))

pub same_machine : {M : Type 0} (taken : List (ℕ × Option M)) (m x : M) → taken ≡ (0, Some m) ∷ [] → taken ≡ (0, Some x) ∷ [] → m ≡ x
same_machine taken m x a b = let q : Some m ≡ Some x = sym (ap last_taken a) ∙ ap last_taken b in cc

-- a ticket that a desk keeps between its calls is not below the capacity
kept-beyond : (capacity t u : ℕ) (b : Bool) → nat_le capacity t ≡ b → keep_if b t ≡ Some u → capacity ≤ u
kept-beyond capacity t u true h e = let same : t ≡ u = cc in let beyond : capacity ≤ t = grind (arith, nat_tests) in omega arith
kept-beyond capacity t u false h e = absurd (let none : None ≡ Some u = e in cc)

lasting-beyond : (capacity : ℕ) (o : Option ℕ) (t : ℕ) → lasting_ticket capacity o ≡ Some t → capacity ≤ t
lasting-beyond capacity None t e = absurd (let none : None ≡ Some t = e in cc)
lasting-beyond capacity (Some u) t e = kept-beyond capacity u t (nat_le capacity u) refl e

-- the greatest of the numbers of the elements: none is greater, and where one reaches a bound of all it is the bound
module _ {A : Type 0} (of : A → ℕ) where
  greatest-each : (xs : List A) (i : ℕ) (x : A) → slice_get xs i ≡ Some x → of x ≤ greatest of xs
  greatest-each [] i x e = absurd (let q : None ≡ Some x = e in cc)
  greatest-each (y ∷ ys) zero x e = let q : y ≡ x = cc in let same : of y ≡ of x = ap of q in omega arith
  greatest-each (y ∷ ys) (suc i) x e = let h = greatest-each ys i x e in omega arith

  greatest-most : (n : ℕ) (xs : List A) → ((i : ℕ) (x : A) → slice_get xs i ≡ Some x → of x ≤ n) → greatest of xs ≤ n
  greatest-most n [] each = omega arith
  greatest-most n (y ∷ ys) each = let first = each 0 y refl in let others = greatest-most n ys (λ i. each (suc i)) in omega arith

  pub greatest-is : (n : ℕ) (xs : List A) → ((i : ℕ) (x : A) → slice_get xs i ≡ Some x → of x ≤ n)
      → ((t : ℕ) → t + 1 ≡ n → (i : ℕ) × (x : A) × (slice_get xs i ≡ Some x) × (of x ≡ n)) → greatest of xs ≡ n
  greatest-is zero xs each reached = let most = greatest-most 0 xs each in omega arith
  greatest-is (suc t) xs each reached =
      let most = greatest-most (suc t) xs each in
      let h = reached t (omega arith) in
      let least = greatest-each xs h.0 h.1 h.2 in
      let is = h.3 in
      omega arith

-- a last ticket that is one of so many
pub up_to : (found : ℕ) (o : Option ℕ) → ((t : ℕ) → o ≡ Some t → t < found) → drawn_up_to o ≤ found
up_to found None h = omega arith
up_to found (Some t) h = let lt = h t refl in omega arith

module _ {M Q R E G : Type 0} where
  abbrev card_at : Desk M Q R E G → ℕ × Card E
  card_at d = (d.place, card_of d.seat.me.0)

  pub mine_front : (p : Origin M) (t : TableId) (others : List (Desk M Q R E G)) (d : Desk M Q R E G) (items : List (Desk M Q R E G)) → items ≡ others ++ d ∷ []
      → All (λ (d : Desk M Q R E G). (origin d ≡ p) × (room_of d ≡ t)) items → All (λ (d : Desk M Q R E G). (origin d ≡ p) × (room_of d ≡ t)) others
  mine_front p t others d items e h = all_front (λ (d : Desk M Q R E G). (origin d ≡ p) × (room_of d ≡ t)) others d items e h

  ticket_is : (d : Desk M Q R E G) → (card_of d.seat.me.0).ticket ≡ lasting_ticket d.capacity d.ticket
  ticket_is d = ap (λ (z : Seated M E). (card_of z.0).ticket) d.idle

  rests : (d : Desk M Q R E G) → IsIdle (origin d).capacity (card_of d.seat.me.0)
  rests d t e = subst (λ c. c ≤ t) d.limit (lasting-beyond d.capacity d.ticket t (sym (ticket_is d) ∙ e))

  -- the ticket that a desk drew last is in its card
  last_is : (d : Desk M Q R E G) → (card_of d.seat.me.0).last ≡ ticket d
  last_is d = ap (λ (z : Seated M E). (card_of z.0).last) d.idle

  pub covers : (n : ℕ) (desks : List (Desk M Q R E G)) (collected : List (ℕ × Card E)) → collected ≡ map card_at desks
      → ((k : ℕ) → k < n → (i : ℕ) × (d : Desk M Q R E G) × (slice_get desks i ≡ Some d) × (number d ≡ k + 1)) → Covers n collected
  covers n desks collected is all k lt =
      let a = all k lt in
      let c = card_of a.1.seat.me.0 in
      let place : a.1.place ≡ k = (let e = a.3 in omega arith) in
      (a.0, c, subst (λ j. At j a.0 (k, c)) (sym is) (subst (λ x. At (map card_at desks) a.0 (x, c)) place (at_get card_at desks a.0 a.1 a.2)))

  pub all_rest : (p : Origin M) (desks : List (Desk M Q R E G)) (collected : List (ℕ × Card E)) → collected ≡ map card_at desks
      → ((i : ℕ) (d : Desk M Q R E G) → slice_get desks i ≡ Some d → origin d ≡ p) → AreIdle p.capacity collected
  all_rest p desks collected is mine i x here =
      let g = get_at card_at desks i x (subst (λ j. At j i x) is here) in
      subst (λ (y : ℕ × Card E). IsIdle p.capacity y.1) g.2 (subst (λ (q : Origin M). IsIdle q.capacity (card_of g.0.seat.me.0)) (mine i g.0 g.1) (rests g.0))

  -- what the last look tells, said of the desks that came back
  pub closes : (setting_of : M → G) (follows : M → M → Type 0) (history_of : M → List E) (desk_of : E → ℕ) (p : Origin M) (room : TableId) (count found : ℕ) (desks : List (Desk M Q R E G)) (collected : List (ℕ × Card E)) (m : M)
      → collected ≡ map card_at desks → AreAllDesks p room count desks
      → Ends setting_of follows history_of desk_of p count found collected m
      → Closes history_of desk_of p count desks (history_of m)
  closes setting_of follows history_of desk_of p room count found desks collected m is back ends =
      let carried = λ (i : ℕ) (d : Desk M Q R E G) (here : slice_get desks i ≡ Some d). subst (λ j. At j i (card_at d)) (sym is) (at_get card_at desks i d here) in
      let drawn = λ (i : ℕ) (d : Desk M Q R E G) (here : slice_get desks i ≡ Some d) (t : ℕ) (e : ticket d ≡ Some t). ends.drawn i (card_at d) (carried i d here) t (last_is d ∙ e) in
      let drawer : (t : ℕ) → ((i : ℕ) × (x : ℕ × Card E) × At collected i x × (x.1.last ≡ Some t)) → (i : ℕ) × (d : Desk M Q R E G) × (slice_get desks i ≡ Some d) × (ticket d ≡ Some t) = λ t h.
      let g = get_at card_at desks h.0 h.1 (subst (λ j. At j h.0 h.1) is h.2) in
      (h.0, g.0, g.1, sym (last_is g.0) ∙ (ap (λ (y : ℕ × Card E). y.1.last) g.2 ∙ h.3)) in
      let all : tickets_drawn desks ≡ found = greatest-is (λ (d : Desk M Q R E G). drawn_up_to (ticket d)) found desks
      (λ i d here. up_to found (ticket d) (drawn i d here))
      (λ t e. let h = drawer t (ends.newest t e) in (h.0, h.1, h.2, ap drawn_up_to h.3 ∙ e)) in
      let long : length ends.rest ≡ min (tickets_drawn desks) p.capacity = ends.long ∙ ap (λ n. min n p.capacity) (sym all) in
      let seen_by = λ (i : ℕ) (d : Desk M Q R E G) (here : slice_get desks i ≡ Some d). ends.seen i (card_at d) (carried i d here) in
      record {
        rest = ends.rest;
        beyond = ends.history;
        made = ends.made;
        long = long;
        seen_by = seen_by;
        own_of = λ i d here. own-Continues desk_of (number d) (seen d) (history_of m) (seen_by i d here);
        full = λ i d here full.
            let lt : full.0 < found = drawn i d here full.0 full.1 in
            let beyond : p.capacity ≤ full.0 = subst (λ (q : Origin M). q.capacity ≤ full.0) (back.mine i d here).0 full.2 in
            ends.long ∙ omega arith;
        alone = λ i j d e t here there td te. ap (λ x. x + 1) (ends.alone i j (card_at d) (card_at e) t (carried i d here) (carried j e there) (last_is d ∙ td) (last_is e ∙ te));
        refused = λ t beyond lt. drawer t (ends.kept t beyond (subst (λ n. t < n) all lt));
      }
