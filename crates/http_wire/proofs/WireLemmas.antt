-- A window of a buffer, and a wire over the buffer.
use Rattle.std.proofs.Common.{◌≡◌, ◌+◌, ◌-◌, ◌≤◌, ℕ, List, ◌++◌, length, take, drop, slice_range, Option, Some, None, Result, Bool, IfSome, IsSomeAnd, ap, subst, sym, ◌∙◌, arith}
use Rattle.std.proofs.Math.Seq.{drop-append_seam}
use Rattle.std.proofs.lemmas.List.{drop-drop, length-take, length-take-le, take-append-le, take-take}
use Rattle.std.proofs.lemmas.Slice.{between_is}
use borrow.Rule.Slice.PartMut.{put_mid, post_of}
use Rattle.http_wire.specs.declared.heads.RequestPlaces.{RequestPlaces}
use Rattle.http_wire.specs.declared.refusals.WireFault.{WireFault}
use Rattle.http_wire.specs.Requests.{BeginsWith}
use Rattle.http_wire.specs.Hearing.{Hearing, IsNext, to_come}
use Rattle.http_wire.specs.Places.{HasWholeRequest, HearsAt, request_at}

-- the first bytes of a window
pub window_front : (size start end : ℕ) (buffer : List ℕ) → start ≤ end → end ≤ start + size
    → take (end - start) (slice_range buffer start (start + size)) ≡ slice_range buffer start end
window_front size start end buffer ordered full = take-take (end - start) (start + size - start) (drop start buffer) (omega arith)

-- the first bytes of what was put in the place of a window
pub window_put : (start size n : ℕ) (xs ys : List ℕ) → start ≤ length xs → n ≤ length ys → slice_range (put_mid start size xs ys) start (start + n) ≡ take n ys
window_put start size n xs ys inside short =
    let front : length (take start xs) ≡ start = length-take-le start xs inside in
    let behind : drop start (put_mid start size xs ys) ≡ ys ++ post_of start size xs =
    ap (λ k. drop k (put_mid start size xs ys)) (sym front) ∙ drop-append_seam (take start xs) (ys ++ post_of start size xs) in
    let count : start + n - start ≡ n = omega arith in
    ap (λ k. take k (drop start (put_mid start size xs ys))) count ∙ ap (take n) behind ∙ take-append-le n ys (post_of start size xs) short

-- what was heard of a request, where its bytes stand elsewhere
pub hears_elsewhere : (heard there old before : List ℕ) (left after : Option (List ℕ)) (result : Result (Option RequestPlaces) WireFault)
    → heard ≡ there → old ≡ before → HearsAt HasWholeRequest old left heard after result → HearsAt HasWholeRequest before left there after result
hears_elsewhere heard there old before left after result same same_before hears =
    subst (λ l. HearsAt HasWholeRequest before left l after result) same
    (subst (λ l. HearsAt HasWholeRequest l left heard after result) same_before hears)

-- a whole request at the front of what was heard is the next one, unless the link hides its bytes
is_next : (heard used rest : List ℕ) (places : RequestPlaces) (left input : Option (List ℕ)) → to_come heard left ≡ input → used ≡ take places.body.end heard → rest ≡ drop places.body.end heard
    → ((more : List ℕ) → BeginsWith (heard ++ more) (request_at (take places.body.end heard) places) (drop places.body.end heard ++ more))
    → IsNext input left rest (request_at used places)
is_next heard used rest places None input is front behind begins =
    subst (λ t. IfSome t (λ bytes. IsSomeAnd (to_come rest None) (BeginsWith bytes (request_at used places)))) is tt
is_next heard used rest places (Some more) input is front behind begins =
    subst (λ t. IfSome t (λ bytes. IsSomeAnd (to_come rest (Some more)) (BeginsWith bytes (request_at used places)))) is (rw (front, behind) (begins more))

-- a whole request that was heard in a buffer, and what was heard behind it
pub next_request : (items buffer : List ℕ) (start end : ℕ) (places : RequestPlaces) (left input : Option (List ℕ)) → items ≡ buffer → to_come (slice_range buffer start end) left ≡ input
    → HasWholeRequest (slice_range buffer start end) places
    → IsNext input left (slice_range items (start + places.body.end) end) (request_at (slice_range items start (start + places.body.end)) places)
next_request items buffer start end places left input same is whole =
    let n = places.body.end in
    let count : start + n - start ≡ n = omega arith in
    let short : n ≤ end - start = omega (arith, whole.inside, length-take (end - start) (drop start buffer)) in
    let front : slice_range items start (start + n) ≡ take n (slice_range buffer start end) =
    ap (λ b. slice_range b start (start + n)) same ∙ ap (λ k. take k (drop start buffer)) count ∙ sym (take-take n (end - start) (drop start buffer) short) in
    let behind : slice_range items (start + n) end ≡ drop n (slice_range buffer start end) =
    ap (λ b. slice_range b (start + n) end) same ∙ between_is buffer (start + n) end ∙ sym (drop-drop n start (take end buffer)) ∙ ap (drop n) (sym (between_is buffer start end)) in
    is_next (slice_range buffer start end) _ _ places left input is front behind whole.begins

-- what is to come to a wire is what is to come in its buffer
pub to_come_in : (items slice used : List ℕ) (start end : ℕ) (over : Bool) (wire : Hearing) (left : Option (List ℕ)) → slice ≡ items
    → record { used = used; heard = slice_range items start end; over = over } ≡ wire → to_come (slice_range slice start end) left ≡ to_come wire.heard left
to_come_in items slice used start end over wire left same view =
    ap (λ b. to_come (slice_range b start end) left) same ∙ ap (λ w. to_come w.heard left) view
