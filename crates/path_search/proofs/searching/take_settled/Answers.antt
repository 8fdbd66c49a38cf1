use Rattle.std.proofs.Common.{rules, ◌≡◌, ℕ, List, ◌∷◌, sym, subst, ◌∙◌}
use Rattle.std.proofs.lemmas.List.Elements.{All-cons, All-head, All-tail}
use Rattle.std.proofs.lemmas.List.Sorted.{All-permutation}
use Rattle.std.specs.Prelude.{All, IsPermutation}
use Rattle.hold_limits.specs.Placement.{Key}
use Rattle.path_search.specs.Keys.{key_of}
use Rattle.path_search.specs.Looks.{Shows}
use Rattle.path_search.specs.Search.{IsWaiting, IsSearched}
use Rattle.path_search.specs.Worlds.{World}
use Rattle.path_search.specs.declared.explorer.Look.{Look}
use Rattle.path_search.specs.declared.explorer.Look.TheVariants.{Later, TurnedBack}
use Rattle.path_search.proofs.SearchLemmas.{IsSearched-later, IsSearched-noted}
use Rattle.path_search.proofs.TickLemmas.{fewer-later, fewer-noted}
use Rattle.path_search.proofs.searching.take_settled.Goals as goal

-- those that wait, with the least first
least-first : (MayWait : List ℕ → ℕ → Type 0) (queue rest : List Key) (k : Key) → IsPermutation queue (k ∷ rest) → All (IsWaiting MayWait) queue → All (IsWaiting MayWait) (k ∷ rest)
least-first MayWait queue rest k moved waiting = All-permutation (IsWaiting MayWait) queue (k ∷ rest) moved waiting

pub look-requires-clause-waits : goal.look-requires-clause-waits
look-requires-clause-waits g c =
    let s = g.E.Explorer.subject c.args.explorer.now in
    let may = g.E.Explorer.may_wait in
    let k = key_of c.in-Some.first in
    let all = least-first (may s) c.loop-first.queue c.take_least.new.self k c.in-Some.ensures.taken c.loop-first.invariant.waiting in
    subst (λ u. may u c.as_slice.result.now k.0) (sym c.loop-first.invariant.subject)
    (subst (λ p. may s p k.0) (sym c.as_slice.ensures.value) (All-head (IsWaiting (may s)) k c.take_least.new.self all))

-- what a look at the prefix showed
shown : {S : Type 0} (world : S → World) (may : S → List ℕ → ℕ → Type 0) (At : List ℕ → Type 0) (s u : S) (prefix path : List ℕ) (waited : ℕ) (look is : Look) → u ≡ s → path ≡ prefix → look ≡ is
    → Shows ((world u).HasBound path) (may u path) (At path) waited look → Shows ((world s).HasBound prefix) (may s prefix) (At prefix) waited is
shown {S} world may At s u prefix path waited look is here there same given =
    subst (λ (v : S). Shows ((world v).HasBound prefix) (may v prefix) (At prefix) waited is) here
    (subst (λ p. Shows ((world u).HasBound p) (may u p) (At p) waited is) there
    (subst (λ l. Shows ((world u).HasBound path) (may u path) (At path) waited l) same given))

-- One that waits again --------------------------------------------------------------------------

pub loop-first-smaller-in-Continue-branch-3 : goal.loop-first-smaller-in-Continue-branch-3
loop-first-smaller-in-Continue-branch-3 g c =
    let k = key_of c.in-Some.first in
    let later = shown g.E.Explorer.world g.E.Explorer.may_wait (g.E.Explorer.is_at c.look.new.self) (g.E.Explorer.subject c.args.explorer.now) (g.E.Explorer.subject c.loop-first.explorer) k.1 c.as_slice.result.now k.0
    c.in_ok-look.field-0 (Later c.in-Later.bound) c.loop-first.invariant.subject c.as_slice.ensures.value c.in-Later.is c.in_ok-look.ensures.shown in
    fewer-later c.loop-first.queue c.take_least.new.self c.add.new.self k c.in-Later.bound c.in-Some.ensures.taken c.in_ok-add-in-Later.ensures.added later.0 (search rules)

pub loop-first-preserved-in-Continue-branch-3 : goal.loop-first-preserved-in-Continue-branch-3
loop-first-preserved-in-Continue-branch-3 g c =
    let s = g.E.Explorer.subject c.args.explorer.now in
    let w = g.E.Explorer.world s in
    let waits : List ℕ → ℕ → Type 0 = g.E.Explorer.may_wait s in
    let k = key_of c.in-Some.first in
    let rest = c.take_least.new.self in
    let later = shown g.E.Explorer.world g.E.Explorer.may_wait (g.E.Explorer.is_at c.look.new.self) s (g.E.Explorer.subject c.loop-first.explorer) k.1 c.as_slice.result.now k.0
    c.in_ok-look.field-0 (Later c.in-Later.bound) c.loop-first.invariant.subject c.as_slice.ensures.value c.in-Later.is c.in_ok-look.ensures.shown in
    let longer : Key = (c.in-Later.bound, k.1) in
    let all = least-first waits c.loop-first.queue rest k c.in-Some.ensures.taken c.loop-first.invariant.waiting in
    record {
      ready = c.in_ok-look.ensures.ready;
      subject = c.in_ok-look.ensures.subject ∙ c.loop-first.invariant.subject;
      waiting = All-permutation (IsWaiting waits) (longer ∷ rest) c.add.new.self c.in_ok-add-in-Later.ensures.added (All-cons (IsWaiting waits) longer rest later.1 (All-tail (IsWaiting waits) k rest all));
      stays = λ taken searched. IsSearched-later w waits taken c.loop-first.queue rest c.add.new.self c.loop-first.turned k c.in-Later.bound c.in-Some.ensures.taken later.0 later.1 c.in_ok-add-in-Later.ensures.added
          (c.loop-first.invariant.stays taken searched);
    }

-- One that has no bound -------------------------------------------------------------------------

pub loop-first-smaller : goal.loop-first-smaller
loop-first-smaller g c = fewer-noted c.loop-first.queue c.take_least.new.self (key_of c.in-Some.first) c.in-Some.ensures.taken

pub loop-first-preserved : goal.loop-first-preserved
loop-first-preserved g c =
    let s = g.E.Explorer.subject c.args.explorer.now in
    let w = g.E.Explorer.world s in
    let waits : List ℕ → ℕ → Type 0 = g.E.Explorer.may_wait s in
    let k = key_of c.in-Some.first in
    let rest = c.take_least.new.self in
    let none = shown g.E.Explorer.world g.E.Explorer.may_wait (g.E.Explorer.is_at c.look.new.self) s (g.E.Explorer.subject c.loop-first.explorer) k.1 c.as_slice.result.now k.0
    c.in_ok-look.field-0 TurnedBack c.loop-first.invariant.subject c.as_slice.ensures.value c.in-TurnedBack.is c.in_ok-look.ensures.shown in
    let all = least-first waits c.loop-first.queue rest k c.in-Some.ensures.taken c.loop-first.invariant.waiting in
    record {
      ready = c.in_ok-look.ensures.ready;
      subject = c.in_ok-look.ensures.subject ∙ c.loop-first.invariant.subject;
      waiting = All-tail (IsWaiting waits) k rest all;
      stays = λ taken searched. subst (λ after. IsSearched w waits taken rest after) (sym c.in_ok-note-in-TurnedBack.ensures.noted)
          (IsSearched-noted w waits c.requires.laws taken c.loop-first.queue rest c.loop-first.turned k c.in-Some.ensures.taken none (c.loop-first.invariant.stays taken searched));
    }

-- Nothing waits ---------------------------------------------------------------------------------

pub returns-clause-none : goal.returns-clause-none
returns-clause-none g c =
    let s = g.E.Explorer.subject c.args.explorer.now in
    λ taken searched. subst (λ queue. IsSearched (g.E.Explorer.world s) (g.E.Explorer.may_wait s) taken queue c.loop-first.turned) c.in_default.ensures.empty (c.loop-first.invariant.stays taken searched)
