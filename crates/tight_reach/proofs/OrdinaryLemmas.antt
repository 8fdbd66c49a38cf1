-- the containers that a lawful task leaves, and its influences, are such as an assignment takes
use Rattle.std.proofs.Common.{◌≡◌, ℕ, ◌+◌, ◌<◌, ◌≤◌, ℤ, pos, unsigned_abs, List, [], ◌∷◌, length, get_or, Some, sym, ap, ◌∙◌, subst, arith}
use Rattle.std.proofs.lemmas.List.Elements.{All-nil, All-cons, All-head, All-tail}
use Rattle.std.proofs.lemmas.Option.{slice_get-get_or, get_or_from_slice_get}
use Rattle.std.proofs.lemmas.Slice.Zip.{AllZip-long}
use Rattle.std.specs.Prelude.{All, slice_get}
use Rattle.std.specs.List.{AllZip}
use Rattle.hold_parts.specs.declared.parts.Item.{Item}
use Rattle.hold_limits.specs.BranchOrder.{ordered}
use Rattle.hold_limits.specs.Faults.{IsLawful}
use Rattle.hold_limits.specs.Placement.{influence_at}
use Rattle.hold_limits.specs.Problem.{Problem}
use Rattle.hold_limits.proofs.LawfulBounds.{lawful-bounds}
use Rattle.hold_limits.proofs.MomentLemmas.{influence_at-bound}
use Rattle.hold_limits.proofs.SoundLemmas.{accepted_within}
use Rattle.hold_limits.proofs.BranchOrderLemmas.{length-ordered}
use Rattle.hold_reach.specs.Reach.{remaining}
use Rattle.hold_reach.proofs.LoadLemmas.{mass-at}
use Rattle.std.proofs.lemmas.Option.{slice_get_within}
use Rattle.assignment.specs.declared.candidate.Candidate.{Candidate}
use Rattle.assignment.specs.Costs.{MayStand, IsOrdinary}
use Rattle.assignment_prices.specs.declared.end.End.{End}
use Rattle.assignment_prices.proofs.SpanLemmas.{length-remaining, remaining-at}
use Rattle.tight_reach.specs.Candidates.{IsCandidate, AreCandidates, AreInfluences}
use Rattle.tight_reach.proofs.Crossing.{counted-size, is-open}

-- what holds of containers holds of their candidates
all-candidates : (t : Problem) (prefix : List ℕ) (P : Item → Type 0) (Q : Candidate → Type 0) → ((item : Item) (c : Candidate) → IsCandidate t prefix item c → P item → Q c)
    → (items : List Item) (candidates : List Candidate) → AllZip (IsCandidate t prefix) items candidates → All P items → All Q candidates
all-candidates t prefix P Q gives [] [] each all = All-nil Q
all-candidates t prefix P Q gives [] (c ∷ candidates) each all = absurd each
all-candidates t prefix P Q gives (item ∷ items) [] each all = absurd each
all-candidates t prefix P Q gives (item ∷ items) (c ∷ candidates) each all =
    All-cons Q c candidates (gives item c each.0 (All-head P item items all)) (all-candidates t prefix P Q gives items candidates each.1 (All-tail P item items all))

light-remaining : (t : Problem) (prefix : List ℕ) → IsLawful t → All (λ (item : Item). item.mass.0 ≤ 20000) (remaining t prefix)
light-remaining t prefix lawful k d within =
    let there : slice_get (remaining t prefix) k ≡ Some (get_or (remaining t prefix) k d) = slice_get-get_or (remaining t prefix) k d within in
    let rank = remaining-at t prefix k (get_or (remaining t prefix) k d) there in
    let inside = slice_get_within (ordered t.items) (length prefix + k) (get_or (remaining t prefix) k d) rank in
    mass-at t lawful (length prefix + k) (get_or (remaining t prefix) k d) (omega (arith, inside, length-ordered t.items)) rank

near-influences : (t : Problem) (end : End) (influences : List ℤ) → IsLawful t → AreInfluences t.hold end influences → All (λ influence. unsigned_abs influence ≤ 100000) influences
near-influences t end influences lawful are k d within =
    let here : get_or influences k (pos 0) ≡ get_or influences k d = get_or_from_slice_get influences k (get_or influences k d) (pos 0) (slice_get-get_or influences k d within) in
    let bound = influence_at-bound t (lawful-bounds t lawful) k in
    subst (λ n. n ≤ 100000) (sym (counted-size end (influence_at t.hold k)) ∙ ap unsigned_abs (sym (are.each k) ∙ here)) bound

pub are-ordinary : (t : Problem) (prefix : List ℕ) (end : End) (candidates : List Candidate) (influences : List ℤ) → IsLawful t → AreCandidates t prefix candidates → AreInfluences t.hold end influences → IsOrdinary candidates influences
are-ordinary t prefix end candidates influences lawful are influence = record {
  few_candidates = omega (arith, AllZip-long (IsCandidate t prefix) (remaining t prefix) candidates are, length-remaining t prefix, (lawful-bounds t lawful).items);
  few_positions = omega (arith, influence.count, (lawful-bounds t lawful).positions);
  light = all-candidates t prefix (λ (item : Item). item.mass.0 ≤ 20000) (λ (c : Candidate). c.mass ≤ 20000) (λ item c is light. subst (λ m. m ≤ 20000) (sym is.mass) light)
      (remaining t prefix) candidates are (light-remaining t prefix lawful);
  near = near-influences t end influences lawful influence;
  known = all-candidates t prefix (λ (item : Item). Unit {0}) (λ (c : Candidate). (q : ℕ) → MayStand c q → q < length influences)
      (λ item c is any q may. omega (arith, accepted_within t.hold (item, q) ((is-open t prefix item c q is may).free.accepted), influence.count))
      (remaining t prefix) candidates are (λ k d within. tt);
}
