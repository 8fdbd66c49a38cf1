use Rattle.std.proofs.Common.{refl, ◌≡◌, ◌⊎◌, ℕ, zero, suc, ◌-◌, ◌<◌, ℤ, List, [], ◌∷◌, ◌++◌, length, length-append, Some, ◌∙◌, subst, arith}
use Rattle.std.proofs.lemmas.List.Elements.{All-contains, Contains-push}
use Rattle.std.specs.Prelude.{slice_get}
use Rattle.hold_limits.specs.Placement.{IsSound}
use Rattle.hold_limits.specs.Problem.{Problem}
use Rattle.hold_limits.specs.Twins.{IsRising}
use Rattle.hold_limits.proofs.LawfulBounds.{lawful-bounds}
use Rattle.hold_limits.proofs.SoundLemmas.{IsSound-within}
use Rattle.hold_partial.specs.Placing.{Placing, placing_of}
use Rattle.hold_reach.specs.Reach.{IsViable}
use Rattle.hold_reach.proofs.ViableLemmas.{band-in_order}
use Rattle.priced_placer.specs.Waits.{EndAt}
use Rattle.priced_placer.proofs.LookLemmas.{IsAround, waits-longer, waits-for_ever}
use Rattle.priced_placer.proofs.horizon.OwnPositionsHorizon.wait_on.Goals as goal

pub around_on-requires-clause-known : goal.around_on-requires-clause-known
around_on-requires-clause-known c =
    let t = c.args.partial.now.task in
    let path = c.args.partial.now.prefix ++ c.args.number ∷ [] in
    let within : c.args.number < length t.hold.positions = All-contains (λ q. q < length t.hold.positions) path c.args.number (IsSound-within t path c.requires.reach.0.sound) (Contains-push c.args.partial.now.prefix c.args.number) in
    omega (arith, within, (lawful-bounds t c.task.ensures.lawful).positions)

-- the last of a list is what it ends with
get-last : (front : List Placing) (p : Placing) (last : ℕ) → last ≡ length front → slice_get (front ++ p ∷ []) last ≡ Some p
get-last [] p zero is = refl
get-last [] p (suc last) is = absurd (omega (arith, is))
get-last (x ∷ front) p zero is = absurd (omega (arith, is))
get-last (x ∷ front) p (suc last) is = get-last front p last (omega (arith, is))

here : (seen : List Placing) (t : Problem) (prefix : List ℕ) (last : Placing) → EndAt seen t prefix → Some last ≡ slice_get seen (length seen - 1) → last ≡ placing_of t prefix
here seen t prefix last ends is =
    let found : Some last ≡ slice_get (ends.0 ++ placing_of t prefix ∷ []) (length (ends.0 ++ placing_of t prefix ∷ []) - 1) = rw ends.1 at is in
    let same : Some last ≡ Some (placing_of t prefix) = found ∙ get-last ends.0 (placing_of t prefix) _ (omega (arith, length-append ends.0 (placing_of t prefix ∷ []))) in
    cc

-- what the bracket's placement allows with a number more is in the span
around : (t : Problem) (prefix : List ℕ) (q : ℕ) (span : ℤ × ℤ) (b : Placing) → b ≡ placing_of t prefix → IsViable t (prefix ++ q ∷ [])
    → (IsSound b.task (b.prefix ++ q ∷ []) → IsRising b.task (b.prefix ++ q ∷ []) → IsAround b.task (b.prefix ++ q ∷ []) span) → IsAround t (prefix ++ q ∷ []) span
around t prefix q span b same viable given =
    (subst (λ (p : Placing). IsSound p.task (p.prefix ++ q ∷ []) → IsRising p.task (p.prefix ++ q ∷ []) → IsAround p.task (p.prefix ++ q ∷ []) span) same given) viable.sound viable.rising

pub returns-in-Some-gap_in_window-clause-waits : goal.returns-in-Some-gap_in_window-clause-waits
returns-in-Some-gap_in_window-clause-waits c =
    let t = c.args.partial.now.task in
    let prefix = c.args.partial.now.prefix in
    let span : ℤ × ℤ = (c.around_on.result.low, c.around_on.result.high) in
    let last = here c.args.self.now.seen.items t prefix c.in-Some.bracket.now c.requires.at (subst (λ seen. Some c.in-Some.bracket.now ≡ slice_get seen (length seen - 1)) c.deref.ensures.value c.in-Some.ensures.value) in
    let found = rw c.task.ensures.value at c.in-Some-gap_in_window.ensures.found in
    let either = subst (λ n. (c.greatest.result ≡ n) ⊎ ((c.greatest.result ≡ c.args.reach) ⊎ (c.greatest.result ≡ c.args.bound))) found.1 c.greatest.ensures.either in
    waits-longer t prefix c.args.number c.args.bound c.args.reach c.greatest.result span (band-in_order t c.task.ensures.lawful) c.requires.bound c.requires.reach
    (around t prefix c.args.number span c.in-Some.bracket.now last c.requires.reach.0 c.around_on.ensures.around) either

pub returns-in-None-clause-waits : goal.returns-in-None-clause-waits
returns-in-None-clause-waits c =
    let t = c.args.partial.now.task in
    let prefix = c.args.partial.now.prefix in
    let span : ℤ × ℤ = (c.around_on.result.low, c.around_on.result.high) in
    let last = here c.args.self.now.seen.items t prefix c.in-Some.bracket.now c.requires.at (subst (λ seen. Some c.in-Some.bracket.now ≡ slice_get seen (length seen - 1)) c.deref.ensures.value c.in-Some.ensures.value) in
    waits-for_ever t (prefix ++ c.args.number ∷ []) 18446744073709551615 span c.requires.reach.0
    (around t prefix c.args.number span c.in-Some.bracket.now last c.requires.reach.0 c.around_on.ensures.around) (rw c.task.ensures.value at c.in-None.ensures.none)
