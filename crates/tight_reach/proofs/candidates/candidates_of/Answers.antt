use Rattle.std.proofs.Common.{◌≡◌, ℕ, ◌+◌, ◌-◌, ◌<◌, ◌≤◌, List, [], ◌∷◌, ◌++◌, get_or, length, Some, ap, ap₂, sym, ◌∙◌, subst, arith}
use Rattle.std.specs.Prelude.{slice_get}
use Rattle.std.proofs.lemmas.List.{get_or-drop}
use Rattle.std.proofs.lemmas.Option.{get_or_from_slice_get, slice_get-get_or, slice_get_within}
use Rattle.hold_parts.specs.declared.parts.Item.{Item}
use Rattle.hold_limits.specs.Problem.{Problem}
use Rattle.hold_limits.specs.BranchOrder.{ordered}
use Rattle.hold_limits.proofs.BranchOrderLemmas.{length-ordered}
use Rattle.hold_reach.specs.Reach.{remaining, is_open}
use Rattle.hold_partial.proofs.KeptLemmas.{no_set}
use Rattle.hold_partial.proofs.TableLemmas.{each-push}
use Rattle.assignment.specs.declared.candidate.Candidate.{Candidate}
use Rattle.assignment_prices.proofs.SpanLemmas.{length-remaining, remaining-at, AllZip-at, AllZip-from_places}
use Rattle.position_set.specs.declared.set.PositionSet.{PositionSet}
use Rattle.position_set.specs.Sets.{Stands}
use Rattle.tight_reach.specs.Candidates.{IsCandidate}
use Rattle.tight_reach.proofs.candidates.candidates_of.Goals as goal

pub loop-rank-preserved : goal.loop-rank-preserved
loop-rank-preserved c =
    let t = c.args.partial.now.task in
    let prefix = c.args.partial.now.prefix in
    let rank = c.loop-rank.rank in
    let done : ℕ = rank - length prefix in
    let left = remaining t prefix in
    let sets = c.open_sets-open_sets.result.items in
    let from : length prefix ≤ rank = omega (arith, c.loop-rank.auto.rank, ap length c.prefix-placed.ensures.value) in
    let P : ℕ → Candidate → Type 0 = λ k candidate. (item : Item) → slice_get (ordered t.items) (length prefix + k) ≡ Some item → IsCandidate t prefix item candidate in
    let set : PositionSet = get_or c.deref.result.now (rank - length c.prefix-placed.result.now) no_set in
    let candidate : Candidate = record { mass = c.at_rank.result.now.mass.0; «open» = set } in
    let one : set ≡ get_or sets done no_set = ap₂ (λ (all : List PositionSet) n. get_or all n no_set) c.deref.ensures.0 (ap (λ (path : List ℕ). rank - length path) c.prefix-placed.ensures.value) in
    let own : slice_get (ordered t.items) rank ≡ Some c.at_rank.result.now =
    subst (λ (u : Problem). slice_get (ordered u.items) rank ≡ Some c.at_rank.result.now) c.task-task.ensures.value c.at_rank.ensures.value in
    let fewer : done < length left =
    omega (arith, from, length-remaining t prefix, length-ordered t.items, slice_get_within (ordered t.items) rank c.at_rank.result.now own) in
    let here : P done candidate = λ item there.
    let at : slice_get (ordered t.items) rank ≡ Some item = subst (λ n. slice_get (ordered t.items) n ≡ Some item) (omega (arith, from)) there in
    let same : c.at_rank.result.now ≡ item = cc (sym own ∙ at) in
    let among : slice_get left done ≡ Some item =
    slice_get-get_or left done item fewer
    ∙ ap (λ (i : Item). Some i) (get_or-drop (length prefix) (ordered t.items) done item ∙ get_or_from_slice_get (ordered t.items) (length prefix + done) item item there) in
    let given : slice_get sets done ≡ Some set = slice_get-get_or sets done no_set (omega (arith, fewer, c.open_sets-open_sets.ensures.count)) ∙ ap (λ (s : PositionSet). Some s) (sym one) in
    let stands = AllZip-at (λ (item : Item) (set : PositionSet). Stands set (is_open t prefix item)) left sets done item set c.open_sets-open_sets.ensures.sets among given in
    record { mass = ap (λ (i : Item). i.mass.0) same; positions = stands } in
    let more : done + 1 ≡ (rank + 1) - length prefix = omega (arith, from) in
    record {
      count = omega (arith, c.push.ensures.len, c.loop-rank.invariant.count, from);
      each = rw c.push.ensures.items (subst (λ n. (k : ℕ) (d : Candidate) → k < n → P k (get_or (c.loop-rank.candidates.items ++ candidate ∷ []) k d)) more
          (each-push P c.loop-rank.candidates.items done candidate c.loop-rank.invariant.count c.loop-rank.invariant.each here));
    }

pub returns-clause-count : goal.returns-clause-count
returns-clause-count c =
    let t = c.args.partial.now.task in
    let prefix = c.args.partial.now.prefix in
    let ends : c.loop-rank.rank ≡ length t.items = omega (arith, c.loop-rank-test.false, c.loop-rank.auto.rank-end within, all) in
    omega (arith, c.loop-rank.invariant.count, length-remaining t prefix, ends)
  where
    all : length c.items-rank-end.result.now ≡ length c.args.partial.now.task.items
    all = ap length (c.items-rank-end.ensures.value ∙ ap (λ (u : Problem). u.items) c.task-task.ensures.value)

    within : length c.prefix-placed.result.now ≤ length c.items-rank-end.result.now
    within = omega (arith, ap length c.prefix-placed.ensures.value, c.prefix-placed.ensures.sound.short, all)

pub returns-clause-candidates : goal.returns-clause-candidates
returns-clause-candidates c =
    let t = c.args.partial.now.task in
    let prefix = c.args.partial.now.prefix in
    let candidates = c.loop-rank.candidates.items in
    AllZip-from_places (IsCandidate t prefix) (remaining t prefix) candidates (returns-clause-count c)
    (λ k item candidate there given.
    subst (IsCandidate t prefix item) (get_or_from_slice_get candidates k candidate candidate given)
    (c.loop-rank.invariant.each k candidate (omega (arith, slice_get_within candidates k candidate given, c.loop-rank.invariant.count)) item (remaining-at t prefix k item there)))
