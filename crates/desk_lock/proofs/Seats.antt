-- Each step of a desk's seat keeps the rule.
use Rattle.std.proofs.Common.{◌≡◌, ◌≢◌, ◌==◌, ◌⊎◌, ⊎_elim, ◌+◌, ◌%◌, ◌^◌, ◌<◌, ◌≤◌, ℕ, zero, suc, List, [], ◌∷◌, ◌++◌, length, set, Option, Some, None, true, false, slice_index, refl, sym, ◌∙◌, ap, subst, arith, inl, inr, length-append}
use Rattle.std.proofs.lemmas.List.Sums.{count_by-le-length}
use Rattle.std.proofs.lemmas.Bool.{cases_Bool, false≢true}
use Rattle.std.proofs.lemmas.Bool.Decides.{nat_tests}
use Rattle.std.specs.Bool.{MatchBool}
use Rattle.std.specs.Option.{unwrap_or}
use mathlib.Core.Option.{some, none}
use lib.ListN.{get_elem?}
use native.Mathlib.Decide.{ℕ_discrete}
use mathlib.Core.Logic.{dite}
use Rattle.atomic_table.specs.Table.{State, Me, Allows, keeps, takes, gives, step}
use Rattle.atomic_table.proofs.Lists.{at_set, set_here, set_else, set_again}
use Rattle.desk_lock.specs.declared.views.Card.{Card}
use Rattle.desk_lock.specs.declared.views.Stage.{Stage}
use Rattle.desk_lock.specs.declared.views.Stage.TheVariants.{Working}
use Rattle.desk_lock.specs.declared.views.View.{View}
use Rattle.desk_lock.specs.declared.views.View.TheVariants.{Spent, AtDesk, InRoom}
use Rattle.desk_lock.specs.declared.views.Origin.{Origin}
use Rattle.desk_lock.specs.Views.{card, card_of, with_card}
use Rattle.desk_lock.specs.Rule.{At, Slot, is_beyond, IsOrderly, IsHoused, Agrees, IsKept}
use Rattle.desk_lock.specs.Steps.{Draws, GetsTurn, Looks, Advances, Counts}
use Rattle.desk_lock.proofs.Cards.{within, same_at, length_set, changed, draws as draw_runs, marks, advances as advance_runs, alone_in_hand, one_ticket}

pub pair_again : (a b i : ℕ) → i < 2 → set (a ∷ b ∷ []) i (slice_index (a ∷ b ∷ []) i) ≡ a ∷ b ∷ []
pair_again a b zero h = refl
pair_again a b (suc zero) h = refl
pair_again a b (suc (suc i)) h = absurd (omega arith)

-- what the slot that was taken last holds
abbrev pub last_taken : {M : Type 0} → List (ℕ × Option M) → Option M
last_taken [] = None
last_taken (x ∷ xs) = x.1

either_way : (j k : ℕ) → (j ≡ k) ⊎ (j ≢ k)
either_way j k = dite (ℕ_discrete j k) (λ e. inl e) (λ ne. inr ne)

module _ {M E : Type 0} (origin : Origin M) (cards : List (Card E)) (seat_of : ℕ → ℕ) (stage : Stage) (id k : ℕ) (d : Card E) where
  refit : (by : ℕ) → by ≢ id → seat_of k ≡ id → 0 < id → (v : View E (Origin M)) → Agrees origin cards seat_of stage by v → Agrees origin (set cards k d) seat_of stage by v
  refit by ne mine room Spent f = tt
  refit by ne mine room (AtDesk q j b) f = (f.0, f.1, f.2, set_else cards k j d (λ e. ne (sym f.1 ∙ (ap seat_of e ∙ mine))) ∙ f.3)
  refit by ne mine room (InRoom q n s collected) f = (
    f.0,
    f.1,
    f.2 ∙ sym (length_set cards k d),
    f.3,
    λ i x here.
        let g = f.4 i x here in
        (g.0, set_else cards k x.0 d (λ e. let z : 0 ≡ id = sym g.0 ∙ (ap seat_of e ∙ mine) in absurd (omega arith)) ∙ g.1),
  )

  reseat : (views : List (View E (Origin M))) (c : Card E) (p : Origin M)
      → ((by : ℕ) (v : View E (Origin M)) → At views by v → Agrees origin cards seat_of stage by v) → At views id (AtDesk p k c)
      → (by : ℕ) (v : View E (Origin M)) → At (set views id (AtDesk p k d)) by v → Agrees origin (set cards k d) seat_of stage by v
  reseat views c p seats at =
      let mine = seats id (AtDesk p k c) at in
      λ by v here. ⊎_elim
      (λ t. subst (λ (x : ℕ × View E (Origin M)). Agrees origin (set cards k d) seat_of stage x.0 x.1) (λ i. (sym t.0 i, t.1 i))
      (mine.0, mine.1, mine.2, set_here cards k d (within cards k c mine.3)))
      (λ t. refit by t.0 mine.1 mine.2 v (seats by v t.1))
      (at_set views id by (AtDesk p k d) v here)

module _ {M E G : Type 0} (setting_of : M → G) (follows : M → M → Type 0) (history_of : M → List E) (spare_of : M → ℕ) (desk_of : E → ℕ) (origin : Origin M) where
  abbrev St : Type 0
  St = State (Option M) (View E (Origin M))

  abbrev Rule : St → Type 0
  Rule s = IsKept setting_of follows history_of spare_of desk_of origin s

  abbrev Home : List (Card E) → ℕ → List E → Slot M → Stage → Type 0
  Home = IsHoused setting_of follows history_of spare_of desk_of origin

  -- where a desk steps, the room works
  pub works : (s : St) (kept : Rule s) (id k : ℕ) (c : Card E) → At s.views id (AtDesk origin k c) → kept.stage ≡ Working
  works s kept id k c at =
      let f = kept.seats id (AtDesk origin k c) at in
      ⊎_elim (λ w. w) (λ none_out. let z : 0 ≡ id = sym (none_out k (within kept.cards k c f.3)) ∙ f.1 in absurd (omega arith)) kept.shut

  -- what the rule says of a desk's own card
  pub own : (s : St) (kept : Rule s) (id k : ℕ) (c : Card E) → At s.views id (AtDesk origin k c) → At kept.cards k c
  own s kept id k c at = (kept.seats id (AtDesk origin k c) at).3

  pub at_work : (s : St) (kept : Rule s) (id k : ℕ) (c : Card E) → At s.views id (AtDesk origin k c) → Home kept.cards kept.serving kept.log s.homes Working
  at_work s kept id k c at = subst (λ z. Home kept.cards kept.serving kept.log s.homes z) (works s kept id k c at) kept.housed

  pub settles : (s : St) (kept : Rule s) (id k : ℕ) (c d : Card E) → At s.views id (AtDesk origin k c)
      → (words : List ℕ) (homes : Slot M) (tickets serving : ℕ) (log : List E) → words ≡ tickets ∷ serving ∷ []
      → IsOrderly desk_of origin.capacity (history_of origin.machine) (set kept.cards k d) tickets serving log
      → Home (set kept.cards k d) serving log homes Working
      → Rule record { words = words; homes = homes; views = set s.views id (AtDesk origin k d) }
  settles s kept id k c d at words homes tickets serving log is runs housed =
      let w = works s kept id k c at in
      record {
        cards = set kept.cards k d;
        seat_of = kept.seat_of;
        stage = Working;
        tickets = tickets;
        serving = serving;
        log = log;
        words = is;
        seats = subst (λ z. (by : ℕ) (v : View E (Origin M)) → At (set s.views id (AtDesk origin k d)) by v → Agrees origin (set kept.cards k d) kept.seat_of z by v) w
            (reseat origin kept.cards kept.seat_of kept.stage id k d s.views c origin kept.seats at);
        shut = inl refl;
        runs = runs;
        housed = housed;
      }

  -- no word wraps
  pub no_wrap : (cards : List (Card E)) (tickets serving : ℕ) (log : List E) → IsOrderly desk_of origin.capacity (history_of origin.machine) cards tickets serving log → (tickets + 1) % 2 ^ 64 ≡ tickets + 1
  no_wrap cards tickets serving log r =
      let a = r.small in let b = r.desks in let c = r.few in
      let d = count_by-le-length (is_beyond origin.capacity) cards in
      omega arith

  pub no_wrap_serving : (cards : List (Card E)) (tickets serving : ℕ) (log : List E) → IsOrderly desk_of origin.capacity (history_of origin.machine) cards tickets serving log → (serving + 1) % 2 ^ 64 ≡ serving + 1
  no_wrap_serving cards tickets serving log r = let a = r.small in let b = r.below in omega arith

  -- a desk draws
  draw_home : (cards : List (Card E)) (k : ℕ) (c d : Card E) (serving : ℕ) (log : List E) (homes : Slot M) → At cards k c → d.has_turn ≡ c.has_turn → Home cards serving log homes Working → Home (set cards k d) serving log homes Working
  draw_home cards k c d serving log homes at same h = (
    changed cards k d (λ j b. b.has_turn ≡ true → homes ≡ none ∷ []) (λ is. h.0 k c at (sym same ∙ is)) (λ j b ne atj. h.0 j b atj),
    λ free. h.1 (λ j b atj. ⊎_elim
        (λ (e : j ≡ k). ap (λ (x : Card E). x.has_turn) (same_at cards k b c (subst (λ n. At cards n b) e atj) at) ∙ (sym same ∙ free k d (set_here cards k d (within cards k c at))))
        (λ (ne : j ≢ k). free j b (set_else cards k j d ne ∙ atj))
        (either_way j k)),
  )

  pub draws : (slots id k : ℕ) (c : Card E) (carried : List (ℕ × Option M)) → c.ticket ≡ None
      → Allows Rule slots id (AtDesk origin k c, carried) 0 (λ n. (n + 1) % 2 ^ 64) (Draws (step slots 0 1 0 none) (AtDesk origin k c, carried))
  draws slots id k c carried free s kept len at bound =
      let n = slice_index s.words 0 in
      let d : Card E = card (Some n) (Some n) c.has_turn c.seen in
      let is : slice_index s.words 0 ≡ kept.tickets = rw kept.words refl in
      let mine = own s kept id k c at in
      let d' : Card E = card (Some kept.tickets) (Some kept.tickets) c.has_turn c.seen in
      let same : d' ≡ d = ap (λ x. card (Some x) (Some x) c.has_turn c.seen) (sym is) in (
        AtDesk origin k d,
        keeps,
        tt,
        settles s kept id k c d at (set s.words 0 ((n + 1) % 2 ^ 64)) s.homes (kept.tickets + 1) kept.serving kept.log
            (rw kept.words (ap (λ x. x ∷ kept.serving ∷ []) (no_wrap kept.cards kept.tickets kept.serving kept.log kept.runs)))
            (subst (λ x. IsOrderly desk_of origin.capacity (history_of origin.machine) (set kept.cards k x) (kept.tickets + 1) kept.serving kept.log) same (draw_runs desk_of origin.capacity (history_of origin.machine) kept.cards kept.tickets kept.serving kept.log k c kept.runs mine free))
            (draw_home kept.cards k c d kept.serving kept.log s.homes mine refl (at_work s kept id k c at)),
        refl,
      )

  -- where the served ticket is this seat's, and it is not has_turn, no seat is
  unmarked : (cards : List (Card E)) (tickets serving : ℕ) (log : List E) (k : ℕ) (c : Card E) → IsOrderly desk_of origin.capacity (history_of origin.machine) cards tickets serving log
      → At cards k c → c.ticket ≡ Some serving → c.has_turn ≡ false → (j : ℕ) (b : Card E) → At cards j b → b.has_turn ≡ false
  unmarked cards tickets serving log k c r at mine free j b atj = elim (cases_Bool b.has_turn) [
    | inl is ↦
        let e : j ≡ k = alone_in_hand desk_of origin.capacity (history_of origin.machine) cards tickets serving log r j k b c serving atj at ((r.valid j b atj).turn is).0 mine in
        ap (λ (x : Card E). x.has_turn) (same_at cards k b c (subst (λ n. At cards n b) e atj) at) ∙ free
    | inr not ↦ not
  ]

  -- a desk looks, and it is its turn
  pub look_hit : (s : St) (kept : Rule s) (id k : ℕ) (c : Card E) (carried : List (ℕ × Option M)) → At s.views id (AtDesk origin k c) → c.ticket ≡ Some kept.serving → kept.serving < origin.capacity → c.has_turn ≡ false
      → (m : M) × (s.homes ≡ some (Some m) ∷ [])
      × Rule record { words = set s.words 1 (slice_index s.words 1); homes = set s.homes 0 none; views = set s.views id (AtDesk origin k (card (Some kept.serving) (Some kept.serving) true kept.log)) }
      × GetsTurn setting_of follows history_of spare_of desk_of origin k kept.serving c carried (AtDesk origin k (card (Some kept.serving) (Some kept.serving) true kept.log), (0, Some m) ∷ carried)
  look_hit s kept id k c carried at mine under free =
      let here = own s kept id k c at in
      let d : Card E = card (Some kept.serving) (Some kept.serving) true kept.log in
      let home = (at_work s kept id k c at).1 (unmarked kept.cards kept.tickets kept.serving kept.log k c kept.runs here mine free) in (
        home.0,
        home.1,
        settles s kept id k c d at (set s.words 1 (slice_index s.words 1)) (set s.homes 0 none) kept.tickets kept.serving kept.log
            (rw kept.words refl)
            (marks desk_of origin.capacity (history_of origin.machine) kept.cards kept.tickets kept.serving kept.log k c kept.runs here mine under)
            ((λ _ _ _ _. rw home.1 refl), λ all_free. absurd (false≢true (sym (all_free k d (set_here kept.cards k d (within kept.cards k c here)))))),
        (
          record {
            log = kept.log;
            machine = home.0;
            place = ap length kept.runs.beyond ∙ (length-append (history_of origin.machine) kept.runs.rest ∙ ap (λ x. length (history_of origin.machine) + x) kept.runs.long);
            held = home.2;
            after = refl;
          },
          (kept.runs.valid k c here).seen,
        ),
      )

  -- a desk looks, and it is another's turn
  look_miss : (s : St) (kept : Rule s) (id : ℕ) (v : View E (Origin M)) (i : ℕ) → At s.views id v → i < 2 → Rule record { words = set s.words i (slice_index s.words i); homes = s.homes; views = set s.views id v }
  look_miss s kept id v i at lt =
      let same : set s.views id v ≡ s.views = set_again s.views id v at in
      record {
        cards = kept.cards;
        seat_of = kept.seat_of;
        stage = kept.stage;
        tickets = kept.tickets;
        serving = kept.serving;
        log = kept.log;
        words = rw kept.words (pair_again kept.tickets kept.serving i lt);
        seats = rw same kept.seats;
        shut = kept.shut;
        runs = kept.runs;
        housed = kept.housed;
      }

  -- a seat looks at a word, and nothing changes
  pub counts : (slots id i : ℕ) (me : Me (Option M) (View E (Origin M))) → i < 2 → Allows Rule slots id me i (λ n. n) (Counts (step slots i 0 0 none) me)
  counts slots id i me lt s kept len at bound = (me.0, keeps, tt, look_miss s kept id me.0 i at lt, refl)

  at_home : (homes : Slot M) (m : M) → homes ≡ some (Some m) ∷ [] → get_elem? homes 0 ≡ some (some (Some m))
  at_home homes m e = rw e refl

  pub looks : (slots id k t : ℕ) (c : Card E) (carried : List (ℕ × Option M)) → c.ticket ≡ Some t → t < origin.capacity → c.has_turn ≡ false
      → Allows Rule slots id (AtDesk origin k c, carried) 1 (λ n. n) (Looks setting_of follows history_of spare_of desk_of (step slots 1 0 0 none) (AtDesk origin k c, carried))
  looks slots id k t c carried tick under free s kept len at bound =
      let n = slice_index s.words 1 in
      let is : slice_index s.words 1 ≡ kept.serving = rw kept.words refl in
      elim (cases_Bool (slice_index s.words 1 == unwrap_or c.ticket 0)) [
        | inl hit ↦
            let mine : unwrap_or c.ticket 0 ≡ t = rw tick refl in
            let now : t ≡ kept.serving = grind (arith, nat_tests) in
            let h = look_hit s kept id k c carried at (tick ∙ ap Some now) (subst (λ x. x < origin.capacity) now under) free in (
              AtDesk origin k (card (Some kept.serving) (Some kept.serving) true kept.log),
              takes 0 (Some h.0),
              at_home s.homes h.0 h.1,
              h.2,
              rw hit (subst (λ x. GetsTurn setting_of follows history_of spare_of desk_of origin k x c carried (AtDesk origin k (card (Some kept.serving) (Some kept.serving) true kept.log), (0, Some h.0) ∷ carried)) (sym is) h.3),
            )
        | inr miss ↦ (AtDesk origin k c, keeps, tt, look_miss s kept id (AtDesk origin k c) 1 at (omega arith), rw miss refl)
      ]

  -- a desk advances
  pub advances : (slots id k t : ℕ) (c : Card E) (m : M) (e : E) (carried : List (ℕ × Option M)) → c.ticket ≡ Some t → c.has_turn ≡ true
      → history_of m ≡ c.seen ++ e ∷ [] → desk_of e ≡ k + 1 → setting_of m ≡ setting_of origin.machine → follows origin.machine m → origin.capacity ≤ (t + 1) + spare_of m
      → Allows Rule slots id (AtDesk origin k c, (0, Some m) ∷ carried) 1 (λ n. (n + 1) % 2 ^ 64) (Advances history_of (step slots 1 1 0 none) (AtDesk origin k c, (0, Some m) ∷ carried))
  advances slots id k t c m e carried tick has_turn log by same later spare s kept len at bound =
      let n = slice_index s.words 1 in
      let here = own s kept id k c at in
      let turn = (kept.runs.valid k c here).turn has_turn in
      let now : t ≡ kept.serving = one_ticket c.ticket t kept.serving tick turn.0 in
      let longer : kept.log ++ e ∷ [] ≡ history_of m = ap (λ (xs : List E). xs ++ e ∷ []) (sym turn.2) ∙ sym log in
      let d : Card E = card None c.last false (history_of m) in
      let out : s.homes ≡ none ∷ [] = (at_work s kept id k c at).0 k c here has_turn in (
        AtDesk origin k d,
        gives,
        tt,
        settles s kept id k c d at (set s.words 1 ((n + 1) % 2 ^ 64)) (set s.homes 0 (some (Some m))) kept.tickets (kept.serving + 1) (history_of m)
            (rw kept.words (ap (λ x. kept.tickets ∷ x ∷ []) (no_wrap_serving kept.cards kept.tickets kept.serving kept.log kept.runs)))
            (subst (λ x. IsOrderly desk_of origin.capacity (history_of origin.machine) (set kept.cards k (card None c.last false x)) kept.tickets (kept.serving + 1) x) longer
            (advance_runs desk_of origin.capacity (history_of origin.machine) kept.cards kept.tickets kept.serving kept.log k c e kept.runs here has_turn by)) (
              changed kept.cards k d (λ j b. b.has_turn ≡ true → set s.homes 0 (some (Some m)) ≡ none ∷ []) (λ is. absurd (false≢true is))
                  (λ j b ne atj is. absurd (ne (alone_in_hand desk_of origin.capacity (history_of origin.machine) kept.cards kept.tickets kept.serving kept.log kept.runs j k b c kept.serving atj here ((kept.runs.valid j b atj).turn is).0 turn.0))),
              λ _. (m, (rw out refl), record { same = same; later = later; history = refl; spare = subst (λ x. origin.capacity ≤ (x + 1) + spare_of m) now spare }),
            ),
        λ m' is. let f : m ≡ m' = cc in ap (λ (x : M). (AtDesk origin k (card None c.last false (history_of x)), carried)) f,
      )

  -- the same where a seat's view and slots are known by an equation
  abbrev Sits : Type 0
  Sits = Me (Option M) (View E (Origin M))

  pub draws_at : (slots id k : ℕ) (c : Card E) (carried : List (ℕ × Option M)) (me : Sits) → me ≡ (AtDesk origin k c, carried) → c.ticket ≡ None
      → Allows Rule slots id me 0 (λ n. (n + 1) % 2 ^ 64) (Draws (step slots 0 1 0 none) me)
  draws_at slots id k c carried me e free = subst (λ (z : Sits). Allows Rule slots id z 0 (λ n. (n + 1) % 2 ^ 64) (Draws (step slots 0 1 0 none) z)) (sym e) (draws slots id k c carried free)

  pub looks_at : (slots id k t : ℕ) (c : Card E) (carried : List (ℕ × Option M)) (me : Sits) → me ≡ (AtDesk origin k c, carried) → c.ticket ≡ Some t → t < origin.capacity → c.has_turn ≡ false
      → Allows Rule slots id me 1 (λ n. n) (Looks setting_of follows history_of spare_of desk_of (step slots 1 0 0 none) me)
  looks_at slots id k t c carried me e tick under free =
      subst (λ (z : Sits). Allows Rule slots id z 1 (λ n. n) (Looks setting_of follows history_of spare_of desk_of (step slots 1 0 0 none) z)) (sym e) (looks slots id k t c carried tick under free)

  looked_here : (k t found : ℕ) (c : Card E) (carried : List (ℕ × Option M)) (w : Sits) → c.ticket ≡ Some t → MatchBool (found == unwrap_or c.ticket 0) (GetsTurn setting_of follows history_of spare_of desk_of origin k found c carried w) (w ≡ (AtDesk origin k c, carried))
      → MatchBool (found == t) (GetsTurn setting_of follows history_of spare_of desk_of origin k t c carried w) (w ≡ (AtDesk origin k c, carried))
  looked_here k t found c carried w tick h =
      let f = subst (λ (o : Option ℕ). MatchBool (found == unwrap_or o 0) (GetsTurn setting_of follows history_of spare_of desk_of origin k found c carried w) (w ≡ (AtDesk origin k c, carried))) tick h in
      elim (cases_Bool (found == t)) [
        | inl y ↦ let g = rw y at f in let same : found ≡ t = grind (arith, nat_tests) in rw y (subst (λ x. GetsTurn setting_of follows history_of spare_of desk_of origin k x c carried w) same g)
        | inr n ↦ let g = rw n at f in rw n g
      ]

  pub looked : (slots k t found : ℕ) (c : Card E) (carried : List (ℕ × Option M)) (me w : Sits) → me ≡ (AtDesk origin k c, carried) → c.ticket ≡ Some t
      → Looks setting_of follows history_of spare_of desk_of (step slots 1 0 0 none) me found w
      → MatchBool (found == t) (GetsTurn setting_of follows history_of spare_of desk_of origin k t (card_of me.0) carried w) (w ≡ me)
  looked slots k t found c carried me w e tick = subst
      (λ (z : Sits). Looks setting_of follows history_of spare_of desk_of (step slots 1 0 0 none) z found w → MatchBool (found == t) (GetsTurn setting_of follows history_of spare_of desk_of origin k t (card_of z.0) carried w) (w ≡ z))
      (sym e) (looked_here k t found c carried w tick)

  pub advances_at : (slots id k t : ℕ) (c : Card E) (m : M) (e : E) (carried : List (ℕ × Option M)) (me : Sits) → me ≡ (AtDesk origin k c, (0, Some m) ∷ carried) → c.ticket ≡ Some t → c.has_turn ≡ true
      → history_of m ≡ c.seen ++ e ∷ [] → desk_of e ≡ k + 1 → setting_of m ≡ setting_of origin.machine → follows origin.machine m → origin.capacity ≤ (t + 1) + spare_of m
      → Allows Rule slots id me 1 (λ n. (n + 1) % 2 ^ 64) (Advances history_of (step slots 1 1 0 none) me)
  advances_at slots id k t c m e carried me is tick has_turn log by same later spare =
      subst (λ (z : Sits). Allows Rule slots id z 1 (λ n. (n + 1) % 2 ^ 64) (Advances history_of (step slots 1 1 0 none) z)) (sym is) (advances slots id k t c m e carried tick has_turn log by same later spare)

module _ {M E : Type 0} (origin : Origin M) where
  pub drew : (slots k n : ℕ) (c : Card E) (carried : List (ℕ × Option M)) (me w : Me (Option M) (View E (Origin M))) → me ≡ (AtDesk origin k c, carried) → Draws (step slots 0 1 0 none) me n w
      → w ≡ (AtDesk origin k (card (Some n) (Some n) c.has_turn c.seen), carried)
  drew slots k n c carried me w e h = h ∙ ap (λ (z : Me (Option M) (View E (Origin M))). (with_card (card (Some n) (Some n) (card_of z.0).has_turn (card_of z.0).seen) z.0, z.1)) e

module _ {M E : Type 0} (history_of : M → List E) (origin : Origin M) where
  pub advanced : (slots k found : ℕ) (c : Card E) (x : M) (me w : Me (Option M) (View E (Origin M))) → me ≡ (AtDesk origin k c, (0, Some x) ∷ []) → Advances history_of (step slots 1 1 0 none) me found w
      → (m : M) → me.1 ≡ (0, Some m) ∷ [] → w ≡ (AtDesk origin k (card None c.last false (history_of m)), [])
  advanced slots k found c x me w is = subst
      (λ (z : Me (Option M) (View E (Origin M))). Advances history_of (step slots 1 1 0 none) z found w → (m : M) → z.1 ≡ (0, Some m) ∷ [] → w ≡ (AtDesk origin k (card None c.last false (history_of m)), []))
      (sym is) (λ h m e. h m (ap last_taken e))
