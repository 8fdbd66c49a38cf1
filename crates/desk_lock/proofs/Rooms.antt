-- Each step of the room's seat keeps the rule.
use Rattle.std.proofs.Common.{◌≡◌, ◌≢◌, ⊎_elim, ◌+◌, ◌^◌, ◌<◌, ◌≤◌, ℕ, zero, suc, List, [], ◌∷◌, ◌++◌, length, set, Option, Some, None, true, false, cond, eqb, slice_index, refl, sym, ◌∙◌, ap, ap₂, subst, arith, inl, inr, length-append, min, replicate, append-nil}
use Rattle.std.specs.List.{All}
use Rattle.std.proofs.lemmas.List.Elements.{All-nil}
use Rattle.std.proofs.lemmas.Bool.{cases_Bool, false≢true}
use Rattle.std.proofs.lemmas.Bool.Decides.{nat_tests}
use mathlib.Core.Option as math
use mathlib.Core.Option.{some, none, some-injective, some-ne-none}
use native.Mathlib.Decide.{ℕ_discrete}
use mathlib.Core.Logic.{dite}
use lib.ListN.{get_elem?}
use Rattle.atomic_table.specs.Table.{State, Me, Allows, Splits, Joins, takes, gives, step, opening, rest}
use Rattle.atomic_table.proofs.Lists.{at_set, set_else, at_longer, at_last}
use Rattle.desk_lock.specs.declared.views.Card.{Card}
use Rattle.desk_lock.specs.declared.views.Stage.{Stage}
use Rattle.desk_lock.specs.declared.views.Stage.TheVariants.{Vacant, Out, Working}
use Rattle.desk_lock.specs.declared.views.View.{View}
use Rattle.desk_lock.specs.declared.views.View.TheVariants.{Spent, AtDesk, InRoom}
use Rattle.desk_lock.specs.declared.views.Origin.{Origin}
use Rattle.desk_lock.specs.Views.{card, with_stage, with_one_more, next_desk, with_card_of}
use Rattle.desk_lock.specs.Rule.{At, Slot, IsHeld, IsHoused, Agrees, IsKept, first_view}
use Rattle.desk_lock.specs.Histories.{Continues}
use Rattle.desk_lock.specs.Steps.{Seated, Clears, Opens, Shuts, Ends, IsIdle, Covers, AreIdle}
use Rattle.desk_lock.proofs.Cards.{within, length_set, same_at, at_end, joins_in, all_served}

first_home : {A : Type 0} (homes : List (math.Option A)) (x : A) → homes ≡ some x ∷ [] → get_elem? homes 0 ≡ some (some x)
first_home homes x e = rw e refl

first_out : {A : Type 0} (homes : List (math.Option A)) (x : A) → homes ≡ some x ∷ [] → set homes 0 none ≡ none ∷ []
first_out homes x e = rw e refl

first_back : {A : Type 0} (homes : List (math.Option A)) (x : A) → homes ≡ none ∷ [] → set homes 0 (some x) ≡ some x ∷ []
first_back homes x e = rw e refl

-- where no desk was made there is no entry
no_rest : {E : Type 0} (desk_of : E → ℕ) (n : ℕ) → n ≡ 0 → (rest : List E) → All (λ e. (0 < desk_of e) × (desk_of e ≤ n)) rest → rest ≡ []
no_rest desk_of n z [] h = refl
no_rest desk_of n z (e ∷ es) h = let g = h 0 e (omega arith) in absurd (omega arith)

module _ {M E G : Type 0} (setting_of : M → G) (follows : M → M → Type 0) (history_of : M → List E) (spare_of : M → ℕ) (desk_of : E → ℕ) (origin : Origin M) where
  abbrev St : Type 0
  St = State (Option M) (View E (Origin M))

  abbrev Rule : St → Type 0
  Rule s = IsKept setting_of follows history_of spare_of desk_of origin s

  abbrev Home : List (Card E) → ℕ → List E → Slot M → Stage → Type 0
  Home = IsHoused setting_of follows history_of spare_of desk_of origin

  -- the table at the start
  only : (v u : View E (Origin M)) (by : ℕ) → get_elem? (v ∷ []) by ≡ some u → (by ≡ 0) × (v ≡ u)
  only v u zero e = (refl, some-injective v u e)
  only v u (suc by) e = absurd (some-ne-none u (sym e))

  none_there : (k : ℕ) (c : Card E) → At [] k c → ⊥
  none_there k c e = absurd (some-ne-none c (sym e))

  pub starts : origin.capacity < 2 ^ 63 → Rule (opening (0 ∷ 0 ∷ []) (replicate 1 None) (first_view origin))
  starts small = record {
    cards = [];
    seat_of = λ _. 0;
    stage = Vacant;
    tickets = 0;
    serving = 0;
    log = history_of origin.machine;
    words = refl;
    seats = λ by v at. let o = only (first_view origin) v by at in
        subst (λ u. Agrees origin [] (λ _. 0) Vacant by u) o.1 (refl, o.0, refl, refl, λ i x e. absurd (some-ne-none x (sym e)));
    shut = inr (λ k lt. refl);
    runs = record {
      small = small;
      desks = omega arith;
      below = omega arith;
      drawn = omega arith;
      few = omega arith;
      valid = λ k c at. absurd (none_there k c at);
      alone = λ i j a b t ai bj ta tb. absurd (none_there i a ai);
      newest = λ t e. absurd (omega arith);
      pending = λ t lo hi. absurd (omega arith);
      rest = [];
      beyond = sym (append-nil (history_of origin.machine));
      long = refl;
      made = All-nil (λ e. (0 < desk_of e) × (desk_of e ≤ 0));
    };
    housed = (refl, (None, refl));
  }

  -- the room's view is at the seat 0 alone; it goes from one stage to another
  restage : (cards : List (Card E)) (seat_of : ℕ → ℕ) (a b : Stage) (views : List (View E (Origin M))) (id n : ℕ) (collected : List (ℕ × Card E))
      → ((by : ℕ) (v : View E (Origin M)) → At views by v → Agrees origin cards seat_of a by v) → At views id (InRoom origin n a collected)
      → (by : ℕ) (v : View E (Origin M)) → At (set views id (InRoom origin n b collected)) by v → Agrees origin cards seat_of b by v
  restage cards seat_of a b views id n collected seats at =
      let f = seats id (InRoom origin n a collected) at in
      λ by v here. ⊎_elim
      (λ t. subst (λ (x : ℕ × View E (Origin M)). Agrees origin cards seat_of b x.0 x.1) (λ i. (sym t.0 i, t.1 i)) (refl, f.1, f.2, refl, f.4))
      (λ t. other by t.0 f.1 v (seats by v t.1))
      (at_set views id by (InRoom origin n b collected) v here)
    where
      other : (by : ℕ) → by ≢ id → id ≡ 0 → (v : View E (Origin M)) → Agrees origin cards seat_of a by v → Agrees origin cards seat_of b by v
      other by ne root Spent g = tt
      other by ne root (AtDesk q k c) g = g
      other by ne root (InRoom q m s j) g = absurd (ne (g.1 ∙ sym root))

  abbrev Sits : Type 0
  Sits = Me (Option M) (View E (Origin M))

  -- what the rule says where the room's seat is seen: it is the seat 0, it has made as many desks as there are cards, and
  -- the stage is the one that it knows
  record RoomSeat (s : St) (kept : Rule s) (id n : ℕ) (stage : Stage) (collected : List (ℕ × Card E)) : Type 0 where
    root : id ≡ 0
    made : n ≡ length kept.cards
    here : (i : ℕ) (x : ℕ × Card E) → At collected i x → (kept.seat_of x.0 ≡ 0) × At kept.cards x.0 x.1
    seats : (by : ℕ) (v : View E (Origin M)) → At s.views by v → Agrees origin kept.cards kept.seat_of stage by v
    housed : Home kept.cards kept.serving kept.log s.homes stage

  room_at : (s : St) (kept : Rule s) (id n : ℕ) (stage : Stage) (collected : List (ℕ × Card E)) → At s.views id (InRoom origin n stage collected)
      → RoomSeat s kept id n stage collected
  room_at s kept id n stage collected at =
      let f = kept.seats id (InRoom origin n stage collected) at in
      record {
        root = f.1;
        made = f.2;
        here = f.4;
        seats = subst (λ z. (by : ℕ) (v : View E (Origin M)) → At s.views by v → Agrees origin kept.cards kept.seat_of z by v) (sym f.3) kept.seats;
        housed = subst (λ z. Home kept.cards kept.serving kept.log s.homes z) (sym f.3) kept.housed;
      }

  -- the room takes the empty slot
  clears : (slots id n : ℕ) (collected : List (ℕ × Card E)) → Allows Rule slots id (InRoom origin n Vacant collected, []) 0 (λ x. x) (Clears (step slots 0 0 0 none) (InRoom origin n Vacant collected, []))
  clears slots id n collected s kept len at bound =
      let f = room_at s kept id n Vacant collected at in (
        InRoom origin n Out collected,
        takes 0 f.housed.1.0,
        first_home s.homes f.housed.1.0 f.housed.1.1,
        record {
          cards = kept.cards;
          seat_of = kept.seat_of;
          stage = Out;
          tickets = kept.tickets;
          serving = kept.serving;
          log = kept.log;
          words = rw kept.words refl;
          seats = restage kept.cards kept.seat_of Vacant Out s.views id n collected f.seats at;
          shut = inr (λ k lt. let z = f.housed.0 in absurd (omega arith));
          runs = kept.runs;
          housed = first_out s.homes f.housed.1.0 f.housed.1.1;
        },
        (f.housed.1.0, refl),
      )

  -- the room gives the machine into the slot, before a desk is made
  opens : (slots id : ℕ) (m : M) → IsHeld setting_of follows history_of spare_of desk_of origin 0 (history_of origin.machine) m
      → Allows Rule slots id (InRoom origin 0 Out [], (0, Some m) ∷ []) 0 (λ x. x) (Opens (step slots 0 0 0 none) (InRoom origin 0 Out [], (0, Some m) ∷ []))
  opens slots id m held s kept len at bound =
      let f = room_at s kept id 0 Out [] at in
      let out : s.homes ≡ none ∷ [] = f.housed in
      let no_card : (k : ℕ) (c : Card E) → At kept.cards k c → ⊥ = λ k c e. let w = within kept.cards k c e in let z = f.made in omega arith in
      let empty : kept.runs.rest ≡ [] = no_rest desk_of (length kept.cards) (sym f.made) kept.runs.rest kept.runs.made in
      let start : kept.log ≡ history_of origin.machine = kept.runs.beyond ∙ (ap (λ xs. history_of origin.machine ++ xs) empty ∙ append-nil (history_of origin.machine)) in (
        InRoom origin 0 Working [],
        gives,
        tt,
        record {
          cards = kept.cards;
          seat_of = kept.seat_of;
          stage = Working;
          tickets = kept.tickets;
          serving = kept.serving;
          log = kept.log;
          words = rw kept.words refl;
          seats = restage kept.cards kept.seat_of Out Working s.views id 0 [] f.seats at;
          shut = inl refl;
          runs = kept.runs;
          housed = (
            (λ k c e is. absurd (no_card k c e)),
            λ _. (m, first_back s.homes (Some m) out, record { same = held.same; later = held.later; history = held.history ∙ sym start; spare = let h = held.spare in omega arith }),
          );
        },
        refl,
      )

  -- a desk is made: which seat carries which place then
  abbrev with_new : (ℕ → ℕ) → ℕ → ℕ → ℕ → ℕ
  with_new seat_of n new j = cond (eqb j n) new (seat_of j)

  new_here : (seat_of : ℕ → ℕ) (n new : ℕ) → with_new seat_of n new n ≡ new
  new_here seat_of n new = let e : eqb n n ≡ true = grind (arith, nat_tests) in rw e refl

  new_else : (seat_of : ℕ → ℕ) (n new j : ℕ) → j ≢ n → with_new seat_of n new j ≡ seat_of j
  new_else seat_of n new j ne = let e : eqb j n ≡ false = grind (arith, nat_tests) in rw e refl

  longer : (cards : List (Card E)) (d : Card E) (seat_of : ℕ → ℕ) (n new id by : ℕ) → n ≡ length cards → by ≢ id → id ≡ 0 → (v : View E (Origin M))
      → Agrees origin cards seat_of Working by v → Agrees origin (cards ++ d ∷ []) (with_new seat_of n new) Working by v
  longer cards d seat_of n new id by is ne root Spent f = tt
  longer cards d seat_of n new id by is ne root (AtDesk q k c) f =
      let w = within cards k c f.3 in
      (f.0, new_else seat_of n new k (λ e. omega arith) ∙ f.1, f.2, at_longer cards (d ∷ []) k c f.3)
  longer cards d seat_of n new id by is ne root (InRoom q m s collected) f = absurd (ne (f.1 ∙ sym root))

  splits : (id n : ℕ) (collected : List (ℕ × Card E)) → n < 8
      → Splits Rule id (InRoom origin n Working collected) (InRoom origin (n + 1) Working collected) (AtDesk origin n (card None None false (history_of origin.machine)))
  splits id n collected few s kept at =
      let f = room_at s kept id n Working collected at in
      let d : Card E = card None None false (history_of origin.machine) in
      let v : View E (Origin M) = InRoom origin (n + 1) Working collected in
      let new = length (set s.views id v) in
      let wide : id < new = subst (λ x. id < x) (sym (length_set s.views id v)) (within s.views id (InRoom origin n Working collected) at) in
      let made : n ≡ length kept.cards = f.made in
      record {
        cards = kept.cards ++ d ∷ [];
        seat_of = with_new kept.seat_of n new;
        stage = Working;
        tickets = kept.tickets;
        serving = kept.serving;
        log = kept.log;
        words = kept.words;
        seats = λ by u here. ⊎_elim
            (λ old. ⊎_elim
            (λ t. subst (λ (x : ℕ × View E (Origin M)). Agrees origin (kept.cards ++ d ∷ []) (with_new kept.seat_of n new) Working x.0 x.1) (λ i. (sym t.0 i, t.1 i)) (
              refl,
              f.root,
              (let e = length-append kept.cards (d ∷ []) in omega arith),
              refl,
              λ i x here. let g = f.here i x here in let w = within kept.cards x.0 x.1 g.1 in
                  (new_else kept.seat_of n new x.0 (λ e. omega arith) ∙ g.0, at_longer kept.cards (d ∷ []) x.0 x.1 g.1),
            ))
            (λ t. longer kept.cards d kept.seat_of n new id by made t.0 f.root u (f.seats by u t.1))
            (at_set s.views id by v u old))
            (λ t. subst (λ (x : ℕ × View E (Origin M)). Agrees origin (kept.cards ++ d ∷ []) (with_new kept.seat_of n new) Working x.0 x.1) (λ i. (sym t.0 i, t.1 i))
            (refl, new_here kept.seat_of n new, omega arith, at_last kept.cards d n (sym made)))
            (at_end (set s.views id v) (AtDesk origin n d) u by here);
        shut = inl refl;
        runs = joins_in desk_of origin.capacity (history_of origin.machine) kept.cards kept.tickets kept.serving kept.log kept.runs (omega arith);
        housed = (
          (λ k c e is. ⊎_elim (λ old. f.housed.0 k c old is) (λ t. absurd (false≢true (ap (λ (x : Card E). x.has_turn) t.1 ∙ is))) (at_end kept.cards d c k e)),
          λ free. f.housed.1 (λ k c e. free k c (at_longer kept.cards (d ∷ []) k c e)),
        );
      }

  -- a desk comes back
  others_stay : (cards : List (Card E)) (seat_of : ℕ → ℕ) (k id other by : ℕ) → seat_of k ≡ other → by ≢ other → by ≢ id → id ≡ 0 → (v : View E (Origin M))
      → Agrees origin cards seat_of Working by v → Agrees origin cards (with_new seat_of k 0) Working by v
  others_stay cards seat_of k id other by mine ne nq root Spent f = tt
  others_stay cards seat_of k id other by mine ne nq root (AtDesk q j c) f = (f.0, new_else seat_of k 0 j (λ e. ne (sym f.1 ∙ (ap seat_of e ∙ mine))) ∙ f.1, f.2, f.3)
  others_stay cards seat_of k id other by mine ne nq root (InRoom q m s collected) f = absurd (nq (f.1 ∙ sym root))

  zero_stays : (seat_of : ℕ → ℕ) (k j : ℕ) → seat_of j ≡ 0 → with_new seat_of k 0 j ≡ 0
  zero_stays seat_of k j e = dite (ℕ_discrete j k) (λ is. ap (with_new seat_of k 0) is ∙ new_here seat_of k 0) (λ ne. new_else seat_of k 0 j ne ∙ e)

  joins : (id other n k : ℕ) (collected : List (ℕ × Card E)) (c : Card E)
      → Joins Rule id (InRoom origin n Working collected) other (AtDesk origin k c) (InRoom origin n Working ((k, c) ∷ collected)) Spent
  joins id other n k collected c s kept at apart there =
      let f = room_at s kept id n Working collected at in
      let v : View E (Origin M) = InRoom origin n Working ((k, c) ∷ collected) in
      let was : At s.views other (AtDesk origin k c) = sym (set_else s.views id other v apart) ∙ there in
      let g = kept.seats other (AtDesk origin k c) was in
      record {
        cards = kept.cards;
        seat_of = with_new kept.seat_of k 0;
        stage = Working;
        tickets = kept.tickets;
        serving = kept.serving;
        log = kept.log;
        words = kept.words;
        seats = λ by u here. ⊎_elim
            (λ t. subst (λ (x : View E (Origin M)). Agrees origin kept.cards (with_new kept.seat_of k 0) Working by x) t.1 tt)
            (λ p. ⊎_elim
            (λ t. subst (λ (x : ℕ × View E (Origin M)). Agrees origin kept.cards (with_new kept.seat_of k 0) Working x.0 x.1) (λ i. (sym t.0 i, t.1 i))
            (refl, f.root, f.made, refl, joined_more kept.cards kept.seat_of k c collected g.3 f.here))
            (λ t. others_stay kept.cards kept.seat_of k id other by g.1 p.0 t.0 f.root u (f.seats by u t.1))
            (at_set s.views id by v u p.1))
            (at_set (set s.views id v) other by Spent u here);
        shut = inl refl;
        runs = kept.runs;
        housed = f.housed;
      }
    where
      joined_more : (cards : List (Card E)) (seat_of : ℕ → ℕ) (k : ℕ) (c : Card E) (collected : List (ℕ × Card E)) → At cards k c
          → ((i : ℕ) (x : ℕ × Card E) → At collected i x → (seat_of x.0 ≡ 0) × At cards x.0 x.1)
          → (i : ℕ) (x : ℕ × Card E) → At ((k, c) ∷ collected) i x → (with_new seat_of k 0 x.0 ≡ 0) × At cards x.0 x.1
      joined_more cards seat_of k c collected here old zero x e = subst (λ (y : ℕ × Card E). (with_new seat_of k 0 y.0 ≡ 0) × At cards y.0 y.1) (some-injective (k, c) x e) (new_here seat_of k 0, here)
      joined_more cards seat_of k c collected here old (suc i) x e = let g = old i x e in (zero_stays seat_of k x.0 g.0, g.1)

  -- the room is closed
  shuts : (slots id n : ℕ) (collected : List (ℕ × Card E)) → Covers n collected → AreIdle origin.capacity collected
      → Allows Rule slots id (InRoom origin n Working collected, []) 0 (λ x. x) (Shuts setting_of follows history_of desk_of (step slots 0 0 0 none) (InRoom origin n Working collected, []))
  shuts slots id n collected covers idle s kept len at bound =
      let f = room_at s kept id n Working collected at in
      let found = slice_index s.words 0 in
      let is : slice_index s.words 0 ≡ kept.tickets = rw kept.words refl in
      let r = kept.runs in
      let all_idle : (k : ℕ) (c : Card E) → At kept.cards k c → IsIdle origin.capacity c = λ k c here t e.
      let w = within kept.cards k c here in
      let z = covers k (subst (λ x. k < x) (sym f.made) w) in
      let g = f.here z.0 (k, z.1) z.2 in
      idle z.0 (k, z.1) z.2 t (ap (λ (x : Card E). x.ticket) (same_at kept.cards k z.1 c g.1 here) ∙ e) in
      let back : (t k : ℕ) (c : Card E) → At kept.cards k c → c.last ≡ Some t → (i : ℕ) × (x : ℕ × Card E) × At collected i x × (x.1.last ≡ Some t) = λ t k c here e.
      let w = within kept.cards k c here in
      let z = covers k (subst (λ x. k < x) (sym f.made) w) in
      let g = f.here z.0 (k, z.1) z.2 in
      (z.0, (k, z.1), z.2, ap (λ (x : Card E). x.last) (same_at kept.cards k z.1 c g.1 here) ∙ e) in
      let clear : (k : ℕ) (c : Card E) → At kept.cards k c → c.has_turn ≡ false = λ k c here. elim (cases_Bool c.has_turn) [
        | inl y ↦ let m = (r.valid k c here).turn y in let z = all_idle k c here kept.serving m.0 in absurd (omega arith)
        | inr n ↦ n
      ] in
      let home = f.housed.1 clear in
      let served : kept.serving ≡ min kept.tickets origin.capacity = all_served desk_of origin.capacity (history_of origin.machine) kept.cards kept.tickets kept.serving kept.log r all_idle in (
        InRoom origin n Out collected,
        takes 0 (Some home.0),
        first_home s.homes (Some home.0) home.1,
        record {
          cards = kept.cards;
          seat_of = kept.seat_of;
          stage = Out;
          tickets = kept.tickets;
          serving = kept.serving;
          log = kept.log;
          words = rw kept.words refl;
          seats = restage kept.cards kept.seat_of Working Out s.views id n collected f.seats at;
          shut = inr (λ k lt. let z = covers k (subst (λ x. k < x) (sym f.made) lt) in (f.here z.0 (k, z.1) z.2).0);
          runs = r;
          housed = first_out s.homes (Some home.0) home.1;
        },
        (
          home.0,
          refl,
          record {
            same = home.2.same;
            later = home.2.later;
            rest = r.rest;
            history = home.2.history ∙ r.beyond;
            long = r.long ∙ (served ∙ ap (λ x. min x origin.capacity) (sym is));
            made = subst (λ x. All (λ e. (0 < desk_of e) × (desk_of e ≤ x)) r.rest) (sym f.made) r.made;
            seen = λ i x here.
                let g = f.here i x here in
                subst (λ l. Continues desk_of (x.0 + 1) x.1.seen l) (sym home.2.history) (r.valid x.0 x.1 g.1).seen;
            drawn = λ i x here t e.
                let g = f.here i x here in
                subst (λ z. t < z) (sym is) ((r.valid x.0 x.1 g.1).drawn t e);
            newest = λ t e. let h = r.newest t (e ∙ is) in back t h.0 h.1 h.2 h.3;
            kept = λ t beyond lt.
                let below = r.below in
                let h = r.pending t (omega arith) (subst (λ z. t < z) is lt) in
                back t h.0 h.1 h.2 ((r.valid h.0 h.1 h.2).ticket t h.3).0;
            alone = λ i j x y t xi yj tx ty. r.alone x.0 y.0 x.1 y.1 t (f.here i x xi).1 (f.here j y yj).1 tx ty;
          },
        ),
      )

  -- the same where the view and the slots are known by an equation
  pub clears_at : (slots id n : ℕ) (collected : List (ℕ × Card E)) (me : Sits) → me ≡ (InRoom origin n Vacant collected, []) → Allows Rule slots id me 0 (λ x. x) (Clears (step slots 0 0 0 none) me)
  clears_at slots id n collected me e = subst (λ (z : Sits). Allows Rule slots id z 0 (λ x. x) (Clears (step slots 0 0 0 none) z)) (sym e) (clears slots id n collected)

  pub opens_at : (slots id : ℕ) (m : M) (me : Sits) → me ≡ (InRoom origin 0 Out [], (0, Some m) ∷ []) → IsHeld setting_of follows history_of spare_of desk_of origin 0 (history_of origin.machine) m → Allows Rule slots id me 0 (λ x. x) (Opens (step slots 0 0 0 none) me)
  opens_at slots id m me e held = subst (λ (z : Sits). Allows Rule slots id z 0 (λ x. x) (Opens (step slots 0 0 0 none) z)) (sym e) (opens slots id m held)

  pub splits_at : (id n : ℕ) (collected : List (ℕ × Card E)) (v : View E (Origin M)) → v ≡ InRoom origin n Working collected → n < 8 → Splits Rule id v (with_one_more v) (next_desk (λ p. history_of p.machine) v)
  splits_at id n collected v e few = subst (λ z. Splits Rule id z (with_one_more z) (next_desk (λ p. history_of p.machine) z)) (sym e) (splits id n collected few)

  pub joins_at : (id other n k : ℕ) (collected : List (ℕ × Card E)) (c : Card E) (v w : View E (Origin M)) → v ≡ InRoom origin n Working collected → w ≡ AtDesk origin k c → Joins Rule id v other w (with_card_of v w) Spent
  joins_at id other n k collected c v w e f = subst (λ (z : View E (Origin M) × View E (Origin M)). Joins Rule id z.0 other z.1 (with_card_of z.0 z.1) Spent) (λ i. (sym e i, sym f i)) (joins id other n k collected c)

  pub shuts_at : (slots id n : ℕ) (collected : List (ℕ × Card E)) (me : Sits) → me ≡ (InRoom origin n Working collected, []) → Covers n collected → AreIdle origin.capacity collected → Allows Rule slots id me 0 (λ x. x) (Shuts setting_of follows history_of desk_of (step slots 0 0 0 none) me)
  shuts_at slots id n collected me e covers idle = subst (λ (z : Sits). Allows Rule slots id z 0 (λ x. x) (Shuts setting_of follows history_of desk_of (step slots 0 0 0 none) z)) (sym e) (shuts slots id n collected covers idle)

-- what the steps tell, where the view and the slots before are known by an equation
module _ {M E : Type 0} (origin : Origin M) where
  pub cleared : (found n : ℕ) (collected : List (ℕ × Card E)) (me w : Seated M E) → me ≡ (InRoom origin n Vacant collected, []) → Clears (step 1 0 0 0 none) me found w
      → (x : Option M) × (w ≡ (InRoom origin n Out collected, (0, x) ∷ []))
  cleared found n collected me w e h = (h.0, h.1 ∙ ap (λ (z : Seated M E). (with_stage Out z.0, (0, h.0) ∷ z.1)) e)

  pub opened : (found : ℕ) (x : Option M) (me w : Seated M E) → me ≡ (InRoom origin 0 Out [], (0, x) ∷ []) → Opens (step 1 0 0 0 none) me found w → w ≡ (InRoom origin 0 Working [], [])
  opened found x me w e h = h ∙ ap (λ (z : Seated M E). (with_stage Working z.0, rest z.1)) e

  pub split_left : (n : ℕ) (collected : List (ℕ × Card E)) (me w : Seated M E) → me ≡ (InRoom origin n Working collected, []) → w ≡ (with_one_more me.0, me.1) → w ≡ (InRoom origin (n + 1) Working collected, [])
  split_left n collected me w e h = h ∙ ap (λ (z : Seated M E). (with_one_more z.0, z.1)) e

  pub split_right : (first : Origin M → List E) (n : ℕ) (collected : List (ℕ × Card E)) (me w : Seated M E) → me ≡ (InRoom origin n Working collected, []) → w ≡ (next_desk first me.0, []) → w ≡ (AtDesk origin n (card None None false (first origin)), [])
  split_right first n collected me w e h = h ∙ ap (λ (z : Seated M E). (next_desk first z.0, [])) e

  pub joined_both : (n k : ℕ) (collected : List (ℕ × Card E)) (c : Card E) (me other w : Seated M E) → me ≡ (InRoom origin n Working collected, []) → other ≡ (AtDesk origin k c, []) → w ≡ (with_card_of me.0 other.0, me.1)
      → w ≡ (InRoom origin n Working ((k, c) ∷ collected), [])
  joined_both n k collected c me other w e f h = h ∙ ap₂ (λ (y z : Seated M E). (with_card_of y.0 z.0, y.1)) e f

module _ {M E G : Type 0} (setting_of : M → G) (follows : M → M → Type 0) (history_of : M → List E) (desk_of : E → ℕ) (origin : Origin M) where
  pub shut_tells : (found n : ℕ) (collected : List (ℕ × Card E)) (me w : Me (Option M) (View E (Origin M))) → me ≡ (InRoom origin n Working collected, []) → Shuts setting_of follows history_of desk_of (step 1 0 0 0 none) me found w
      → (m : M) × (w.1 ≡ (0, Some m) ∷ []) × Ends setting_of follows history_of desk_of origin n found collected m
  shut_tells found n collected me w e h =
      let f = subst (λ (z : Me (Option M) (View E (Origin M))). Shuts setting_of follows history_of desk_of (step 1 0 0 0 none) z found w) e h in
      (f.0, ap (λ (z : Me (Option M) (View E (Origin M))). z.1) f.1, f.2)
