use Rattle.std.proofs.Common.{◌≡◌, ℕ, ◌<◌, ◌≤◌, List, [], ◌∷◌, length, Option, Some, None, sym, ap, ◌∙◌, subst, arith}
use Rattle.std.specs.Prelude.{IfNone, IfSome}
use Rattle.hold_limits.specs.Placement.{Key}
use Rattle.certificate.specs.Evidence.{claimed}
use Rattle.path_search.specs.Keys.{key_of}
use Rattle.path_search.specs.Promising.{IsPromising, AreMoreThan}
use Rattle.path_search.specs.Search.{AddsChildren, IsFirst, StaysSearched}
use Rattle.path_search.specs.Worlds.{World}
use Rattle.path_search.specs.declared.queue.Waiting.{Waiting}
use Rattle.path_search.proofs.SearchLemmas.{IsSearched-next}
use Rattle.path_search.proofs.AnswerLemmas.{more-promising, none-found, none-enough, first-found, first-enough}
use Rattle.path_search.proofs.searching.search.Goals as goal

-- What was taken out ----------------------------------------------------------------------------

-- what was taken out waited with its own bound
settled : {S : Type 0} (world : S → World) (may : S → List ℕ → ℕ → Type 0) (s u : S) (o : Option Waiting) (first : Waiting) (old new : List Key) (before after : List (List ℕ)) → u ≡ s → o ≡ Some first
    → IfSome o (λ f. IsFirst (world u) (may u) (key_of f) old new before after) → IsFirst (world s) (may s) (key_of first) old new before after
settled {S} world may s u o first old new before after same is given =
    subst (λ (v : S). IsFirst (world v) (may v) (key_of first) old new before after) same (subst (λ o. IfSome o (λ f. IsFirst (world u) (may u) (key_of f) old new before after)) is given)

-- nothing was left to take out
nothing : {S : Type 0} (world : S → World) (may : S → List ℕ → ℕ → Type 0) (s u : S) (o : Option Waiting) (old : List Key) (before after : List (List ℕ)) → u ≡ s → o ≡ None
    → IfNone o (StaysSearched (world u) (may u) old [] before after) → StaysSearched (world s) (may s) old [] before after
nothing {S} world may s u o old before after same is given =
    subst (λ (v : S). StaysSearched (world v) (may v) old [] before after) same (subst (λ o. IfNone o (StaysSearched (world u) (may u) old [] before after)) is given)

empty : (o : Option Waiting) (queue : List Key) → o ≡ None → IfNone o (queue ≡ []) → queue ≡ []
empty o queue is given = subst (λ o. IfNone o (queue ≡ [])) is given

-- Nothing waits ---------------------------------------------------------------------------------

pub returns-in_default-clause-found : goal.returns-in_default-clause-found
returns-in_default-clause-found g c =
    let s = g.E.Explorer.subject c.args.explorer in
    let taken = c.loop-expanded.invariant.taken in
    let queue = c.take_settled.new.queue in
    let turned = c.take_settled.new.turned in
    let told = c.in_ok-end.ensures in
    let stays = nothing g.E.Explorer.world g.E.Explorer.may_wait s (g.E.Explorer.subject c.loop-expanded.explorer) c.in_ok-first.field-0 c.loop-expanded.queue c.loop-expanded.turned turned c.loop-expanded.invariant.subject c.in_default.is
    c.in_ok-first.ensures.none in
    none-found (g.E.Explorer.world s) (g.E.Explorer.may_wait s) c.laws.ensures taken.0 turned queue _ c.in_ok-end.field-0
    (stays taken.0 taken.1) (empty c.in_ok-first.field-0 queue c.in_default.is c.in_ok-first.ensures.empty) c.count-complete.ensures (ap claimed told.claim)
    (record { kept = told.kept; sorted = told.sorted; expanded = told.expanded ∙ sym taken.2 })

pub returns-in_default-clause-enough : goal.returns-in_default-clause-enough
returns-in_default-clause-enough g c =
    let s = g.E.Explorer.subject c.args.explorer in
    let taken = c.loop-expanded.invariant.taken in
    let turned = c.take_settled.new.turned in
    let stays = nothing g.E.Explorer.world g.E.Explorer.may_wait s (g.E.Explorer.subject c.loop-expanded.explorer) c.in_ok-first.field-0 c.loop-expanded.queue c.loop-expanded.turned turned c.loop-expanded.invariant.subject c.in_default.is
    c.in_ok-first.ensures.none in
    none-enough (g.E.Explorer.world s) (g.E.Explorer.may_wait s) c.laws.ensures taken.0 turned c.args.budget (stays taken.0 taken.1) (omega (arith, taken.2, c.loop-expanded-test.true))

pub returns-clause-found : goal.returns-clause-found
returns-clause-found g c =
    let s = g.E.Explorer.subject c.args.explorer in
    let taken = c.loop-expanded.invariant.taken in
    let queue = c.take_settled-2.new.queue in
    let turned = c.take_settled-2.new.turned in
    let told = c.in_ok-end-in-None.ensures in
    let stays = nothing g.E.Explorer.world g.E.Explorer.may_wait s (g.E.Explorer.subject c.loop-expanded.explorer) c.in_ok-take_settled.field-0 c.loop-expanded.queue c.loop-expanded.turned turned c.loop-expanded.invariant.subject
    c.in-None.is c.in_ok-take_settled.ensures.none in
    none-found (g.E.Explorer.world s) (g.E.Explorer.may_wait s) c.laws.ensures taken.0 turned queue _ c.in_ok-end-in-None.field-0
    (stays taken.0 taken.1) (empty c.in_ok-take_settled.field-0 queue c.in-None.is c.in_ok-take_settled.ensures.empty) c.count-complete.ensures (ap claimed told.claim)
    (record { kept = told.kept; sorted = told.sorted; expanded = omega (arith, told.expanded, taken.2, c.loop-expanded-test.false, c.loop-expanded.auto.expanded-end) })

pub returns-clause-enough : goal.returns-clause-enough
returns-clause-enough g c =
    let s = g.E.Explorer.subject c.args.explorer in
    let taken = c.loop-expanded.invariant.taken in
    let turned = c.take_settled-2.new.turned in
    let stays = nothing g.E.Explorer.world g.E.Explorer.may_wait s (g.E.Explorer.subject c.loop-expanded.explorer) c.in_ok-take_settled.field-0 c.loop-expanded.queue c.loop-expanded.turned turned c.loop-expanded.invariant.subject
    c.in-None.is c.in_ok-take_settled.ensures.none in
    none-enough (g.E.Explorer.world s) (g.E.Explorer.may_wait s) c.laws.ensures taken.0 turned c.args.budget (stays taken.0 taken.1) (omega (arith, taken.2, c.loop-expanded.auto.expanded-end))

-- The best path waits ---------------------------------------------------------------------------

pub returns-then-len-complete-clause-found : goal.returns-then-len-complete-clause-found
returns-then-len-complete-clause-found g c =
    let s = g.E.Explorer.subject c.args.explorer in
    let taken = c.loop-expanded.invariant.taken in
    let rest = c.take_settled.new.queue in
    let turned = c.take_settled.new.turned in
    let k = key_of c.in-Some.first in
    let told = c.in_ok-end-2.ensures in
    let first = settled g.E.Explorer.world g.E.Explorer.may_wait s (g.E.Explorer.subject c.loop-expanded.explorer) c.in_ok-first.field-0 c.in-Some.first c.loop-expanded.queue rest c.loop-expanded.turned turned
    c.loop-expanded.invariant.subject c.in-Some.is c.in_ok-first.ensures.first in
    first-found (g.E.Explorer.world s) (g.E.Explorer.may_wait s) c.laws.ensures taken.0 turned first.queue rest k c.count-complete.result c.in_ok-end-2.field-0
    (first.stays taken.0 taken.1) first.bound first.moved first.least (omega (arith, c.len.ensures.value, c.if-len-complete.true)) c.count-complete.ensures (ap claimed told.claim)
    (record { kept = told.kept; sorted = told.sorted; expanded = told.expanded ∙ sym taken.2 })

pub returns-then-len-complete-clause-enough : goal.returns-then-len-complete-clause-enough
returns-then-len-complete-clause-enough g c =
    let s = g.E.Explorer.subject c.args.explorer in
    let taken = c.loop-expanded.invariant.taken in
    let rest = c.take_settled.new.queue in
    let turned = c.take_settled.new.turned in
    let k = key_of c.in-Some.first in
    let first = settled g.E.Explorer.world g.E.Explorer.may_wait s (g.E.Explorer.subject c.loop-expanded.explorer) c.in_ok-first.field-0 c.in-Some.first c.loop-expanded.queue rest c.loop-expanded.turned turned
    c.loop-expanded.invariant.subject c.in-Some.is c.in_ok-first.ensures.first in
    first-enough (g.E.Explorer.world s) (g.E.Explorer.may_wait s) c.laws.ensures taken.0 turned first.queue rest k c.args.budget
    (first.stays taken.0 taken.1) first.bound first.moved first.least (omega (arith, c.len.ensures.value, c.if-len-complete.true, c.count-complete.ensures)) (omega (arith, taken.2, c.loop-expanded-test.true))

-- One prefix more -------------------------------------------------------------------------------

-- a viable prefix that is not complete leaves containers
leaves : (size number complete count : ℕ) → size ≤ count → number ≡ size → (number ≡ complete → ⊥) → complete ≡ count → size < count
leaves size number complete count short is not all = grind arith

-- what was added to the queue
added : {S : Type 0} (world : S → World) (may : S → List ℕ → ℕ → Type 0) (s u : S) (front path : List ℕ) (bound : ℕ) (old new : List Key) → u ≡ s → path ≡ front
    → AddsChildren (world u) (may u) path bound ((world u).positions) old new → AddsChildren (world s) (may s) front bound ((world s).positions) old new
added {S} world may s u front path bound old new same is given =
    subst (λ (v : S). AddsChildren (world v) (may v) front bound ((world v).positions) old new) same (subst (λ p. AddsChildren (world u) (may u) p bound ((world u).positions) old new) is given)

pub loop-expanded-preserved : goal.loop-expanded-preserved
loop-expanded-preserved g c =
    let s = g.E.Explorer.subject c.args.explorer in
    let w = g.E.Explorer.world s in
    let waits : List ℕ → ℕ → Type 0 = g.E.Explorer.may_wait s in
    let taken = c.loop-expanded.invariant.taken in
    let rest = c.take_settled.new.queue in
    let new = c.add_children.new.queue in
    let turned = c.take_settled.new.turned in
    let k = key_of c.in-Some.first in
    let same = c.in_ok-first.ensures.subject ∙ c.loop-expanded.invariant.subject in
    let first = settled g.E.Explorer.world g.E.Explorer.may_wait s (g.E.Explorer.subject c.loop-expanded.explorer) c.in_ok-first.field-0 c.in-Some.first c.loop-expanded.queue rest c.loop-expanded.turned turned
    c.loop-expanded.invariant.subject c.in-Some.is c.in_ok-first.ensures.first in
    let short = leaves (length k.1) c.len.result c.count-complete.result w.count (c.laws.ensures.short k.1 (c.laws.ensures.viable k.1 k.0 first.bound)) c.len.ensures.value c.if-len-complete.false c.count-complete.ensures in
    let adds = added g.E.Explorer.world g.E.Explorer.may_wait s (g.E.Explorer.subject c.take_settled.new.explorer) k.1 c.as_slice.result.now k.0 rest new same c.as_slice.ensures.value c.in_ok-add_children.ensures in
    record {
      subject = same;
      ready = c.in_ok-first.ensures.ready;
      taken = (
        k.1 ∷ taken.0,
        IsSearched-next w waits c.laws.ensures taken.0 first.queue rest new turned k first.bound first.moved first.least short adds (first.stays taken.0 taken.1),
        omega (arith, taken.2),
      );
    }

-- The budget is spent ---------------------------------------------------------------------------

pub returns-in-Some-2-clause-over : goal.returns-in-Some-2-clause-over
returns-in-Some-2-clause-over g c =
    let s = g.E.Explorer.subject c.args.explorer in
    let w = g.E.Explorer.world s in
    let taken = c.loop-expanded.invariant.taken in
    let rest = c.take_settled-2.new.queue in
    let turned = c.take_settled-2.new.turned in
    let k = key_of c.in-Some-2.field-0 in
    let first = settled g.E.Explorer.world g.E.Explorer.may_wait s (g.E.Explorer.subject c.loop-expanded.explorer) c.in_ok-take_settled.field-0 c.in-Some-2.field-0 c.loop-expanded.queue rest c.loop-expanded.turned turned
    c.loop-expanded.invariant.subject c.in-Some-2.is c.in_ok-take_settled.ensures.first in
    let spent : length taken.0 ≡ c.args.budget = omega (arith, taken.2, c.loop-expanded-test.false, c.loop-expanded.auto.expanded-end) in
    subst (AreMoreThan (IsPromising w)) spent (more-promising w (g.E.Explorer.may_wait s) c.laws.ensures taken.0 first.queue rest turned k (first.stays taken.0 taken.1) first.bound first.moved first.least)
