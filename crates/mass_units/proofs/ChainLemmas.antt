-- Lines that follow one another: each begins where the one before it ends.
use Rattle.std.proofs.Common.{◌≡◌, ℕ, ◌-◌, ◌<◌, ◌≤◌, List, [], ◌∷◌, ◌++◌, ap, sym, subst, ◌∙◌, arith, ℤ, pos, ◌+ℤ◌, ◌-ℤ◌, ◌*ℤ◌, ◌<ℤ◌, All}
use Rattle.std.proofs.lemmas.Int.{ints}
use Rattle.std.proofs.Math.IntN.{*ℤ-zero}
use Rattle.std.proofs.lemmas.List.Elements.{All-nil, All-cons, All-head, All-tail, All-weaker}
use Rattle.mass_units.specs.declared.line.Line.{Line}
use Rattle.mass_units.specs.Line.{Spans, IsFloor, scaled_index}
use Rattle.mass_units.proofs.LineLemmas.{times_lt, times-add, times-sub, times-one}

-- each line rises, and begins where the one before it ends
abbrev pub IsChain : List Line → Type 0
IsChain [] = Unit {0}
IsChain (l ∷ []) = l.from.0 < l.to.0
IsChain (l ∷ k ∷ lines) = (l.from.0 < l.to.0) × ((k.from.0 ≡ l.to.0) × ((k.at_from.0 ≡ l.at_to.0) × IsChain (k ∷ lines)))

pub chain_rises : (l : Line) (lines : List Line) → IsChain (l ∷ lines) → l.from.0 < l.to.0
chain_rises l [] chain = chain
chain_rises l (k ∷ lines) chain = chain.0

pub chain_rest : (l : Line) (lines : List Line) → IsChain (l ∷ lines) → IsChain lines
chain_rest l [] chain = tt
chain_rest l (k ∷ lines) chain = chain.1.1.1

-- the later lines lie above
pub chain_later : (l : Line) (lines : List Line) → IsChain (l ∷ lines) → All (λ k. l.to.0 ≤ k.from.0) lines
chain_later l [] chain = All-nil (λ k. l.to.0 ≤ k.from.0)
chain_later l (k ∷ lines) chain =
    let next = chain.1.0 in
    let rises = chain_rises k lines chain.1.1.1 in
    All-cons (λ j. l.to.0 ≤ j.from.0) k lines (omega arith) (All-weaker (λ j. k.to.0 ≤ j.from.0) (λ j. l.to.0 ≤ j.from.0) (λ j h. omega arith) lines (chain_later k lines chain.1.1.1))

-- two lines span one mass only where the one ends and the other begins
pub record Meet (l k : Line) (mass : ℕ) : Type 0 where
  pub at_end : mass ≡ l.to.0
  pub at_start : mass ≡ k.from.0
  pub same : k.at_from.0 ≡ l.at_to.0

pub chain_meet : (l : Line) (lines : List Line) (mass : ℕ) → IsChain (l ∷ lines) → Spans l mass → All (λ k. Spans k mass → Meet l k mass) lines
chain_meet l [] mass chain spans = All-nil (λ k. Spans k mass → Meet l k mass)
chain_meet l (k ∷ lines) mass chain spans =
    let next = chain.1.0 in
    let rises = chain_rises k lines chain.1.1.1 in
    All-cons (λ j. Spans j mass → Meet l j mass) k lines
    (λ s. record { at_end = omega (arith, s, spans); at_start = omega (arith, s, spans); same = chain.1.1.0 })
    (All-weaker (λ j. k.to.0 ≤ j.from.0) (λ j. Spans j mass → Meet l j mass) (λ j h s. absurd (omega (arith, s, spans))) lines (chain_later k lines chain.1.1.1))

-- ---- the ends of a line

pub IsFloor-end : (l : Line) (mass : ℕ) (n : ℤ) → l.from.0 < l.to.0 → mass ≡ l.to.0 → IsFloor l mass n → n ≡ l.at_to.0
IsFloor-end l mass n rises e floor =
    let d : ℕ = l.to.0 - l.from.0 in
    let whole : mass - l.from.0 ≡ d = omega arith in
    let index : scaled_index l mass ≡ l.at_to.0 *ℤ pos d = rw whole (let split = times-sub l.at_to.0 l.at_from.0 d in omega (arith, ints)) in
    let next : (n +ℤ pos 1) *ℤ pos d ≡ (n *ℤ pos d) +ℤ pos d = times-add n (pos 1) d ∙ ap (λ x. (n *ℤ pos d) +ℤ x) (times-one d) in
    let above : (l.at_to.0 +ℤ pos 1) *ℤ pos d ≡ (l.at_to.0 *ℤ pos d) +ℤ pos d = times-add l.at_to.0 (pos 1) d ∙ ap (λ x. (l.at_to.0 *ℤ pos d) +ℤ x) (times-one d) in
    let low : n <ℤ (l.at_to.0 +ℤ pos 1) = times_lt n (l.at_to.0 +ℤ pos 1) d (rw above (omega (arith, ints, floor.0))) in
    let high : l.at_to.0 <ℤ (n +ℤ pos 1) = times_lt l.at_to.0 (n +ℤ pos 1) d (rw (← index) floor.1) in
    omega (arith, ints)

pub IsFloor-start : (k : Line) (mass : ℕ) → k.from.0 < k.to.0 → mass ≡ k.from.0 → IsFloor k mass k.at_from.0
IsFloor-start k mass rises e =
    let d : ℕ = k.to.0 - k.from.0 in
    let none : mass - k.from.0 ≡ 0 = omega arith in
    let index : scaled_index k mass ≡ k.at_from.0 *ℤ pos d = rw none (let zero = *ℤ-zero (k.at_to.0 -ℤ k.at_from.0) in omega (arith, ints)) in
    let next : (k.at_from.0 +ℤ pos 1) *ℤ pos d ≡ (k.at_from.0 *ℤ pos d) +ℤ pos d = times-add k.at_from.0 (pos 1) d ∙ ap (λ x. (k.at_from.0 *ℤ pos d) +ℤ x) (times-one d) in
    rw index (omega (arith, ints), rw next (omega (arith, ints)))

-- where two lines meet they have one index
pub IsFloor-meet : (l k : Line) (mass : ℕ) (n : ℤ) → l.from.0 < l.to.0 → k.from.0 < k.to.0 → Meet l k mass → IsFloor l mass n → IsFloor k mass n
IsFloor-meet l k mass n rises_l rises_k meet floor =
    let same : k.at_from.0 ≡ n = meet.same ∙ sym (IsFloor-end l mass n rises_l meet.at_end floor) in
    let start = IsFloor-start k mass rises_k meet.at_start in
    let P : ℤ → Type 0 = IsFloor k mass in subst P same start

chain_all : (lines : List Line) → IsChain lines → All (λ k. k.from.0 < k.to.0) lines
chain_all [] chain = All-nil (λ k. k.from.0 < k.to.0)
chain_all (l ∷ lines) chain = All-cons (λ k. k.from.0 < k.to.0) l lines (chain_rises l lines chain) (chain_all lines (chain_rest l lines chain))

both : (P Q R : Line → Type 0) → ((k : Line) → P k → Q k → R k) → (lines : List Line) → All P lines → All Q lines → All R lines
both P Q R f lines p q = λ i d l. f _ (p i d l) (q i d l)

-- the floor of the first line that spans the mass is that of each line that does
pub chain_floor : (before : List Line) (l : Line) (rest : List Line) (mass : ℕ) (n : ℤ) → IsChain (before ++ l ∷ rest) → All (λ k. ¬ (Spans k mass)) before → Spans l mass → IsFloor l mass n → All (λ k. Spans k mass → IsFloor k mass n) (before ++ l ∷ rest)
chain_floor [] l rest mass n chain apart spans floor =
    let rises = chain_rises l rest chain in
    All-cons (λ k. Spans k mass → IsFloor k mass n) l rest (λ _. floor)
    (both (λ k. Spans k mass → Meet l k mass) (λ k. k.from.0 < k.to.0) (λ k. Spans k mass → IsFloor k mass n) (λ k meet rise s. IsFloor-meet l k mass n rises rise (meet s) floor) rest (chain_meet l rest mass chain spans) (chain_all rest (chain_rest l rest chain)))
chain_floor (k ∷ before) l rest mass n chain apart spans floor =
    All-cons (λ k. Spans k mass → IsFloor k mass n) k (before ++ l ∷ rest) (λ s. absurd (All-head (λ k. ¬ (Spans k mass)) k before apart s))
    (chain_floor before l rest mass n (chain_rest k (before ++ l ∷ rest) chain) (All-tail (λ k. ¬ (Spans k mass)) k before apart) spans floor)
