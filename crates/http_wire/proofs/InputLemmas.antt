-- Bytes to come, which move from a link into a buffer, and what follows for an input of which nothing is a request yet.
use Rattle.std.proofs.Common.{◌≡◌, ◌+◌, ◌<◌, ◌≤◌, inl, inr, ℕ, min, List, [], ◌++◌, length, take, drop, Option, Some, None, Result, Ok, Err, IfSome, IfOk, append_assoc, ap, subst, refl, sym, ◌∙◌, arith, length-append, ⊎_elim}
use Rattle.std.proofs.Math.Seq.{take-append-add}
use Rattle.std.proofs.lemmas.List.{take-append-le, take-append-drop, take-take, take_all, length-take, length-take-le, append-nil}
use Rattle.std.proofs.lemmas.Bool.{cases_lt}
use borrow.Rule.Slice.PartMut.{put_mid, post_of}
use Rattle.httparse.specs.Grammar.{HasNoRequest}
use Rattle.load_io.specs.Source.{Moves}
use Rattle.http_wire.specs.declared.refusals.Refusal.{Refusal}
use Rattle.http_wire.specs.declared.refusals.Refusal.TheVariants.{BadHead, HeadTooLong}
use Rattle.http_wire.specs.Requests.{Refuses}
use Rattle.http_wire.specs.Hearing.{HasNoWholeRequest, to_come}

-- what a read moves is then heard, and nothing is lost
pub to_come-moved : (old new : Option (List ℕ)) (heard bytes : List ℕ) → Moves old new bytes → to_come (heard ++ bytes) new ≡ to_come heard old
to_come-moved None new heard bytes moved = rw moved refl
to_come-moved (Some left) new heard bytes (rest, was, is) = rw (is, was) (ap Some (append_assoc heard bytes rest))

-- where nothing is left, what was heard is all
pub all_heard : (heard : List ℕ) (left input : Option (List ℕ)) → to_come heard left ≡ input → IfSome left (λ bytes. bytes ≡ []) → IfSome input (λ bytes. bytes ≡ heard)
all_heard heard None input is ended = subst (λ t. IfSome t (λ bytes. bytes ≡ heard)) is tt
all_heard heard (Some bytes) input is ended = subst (λ t. IfSome t (λ bytes. bytes ≡ heard)) is (ap (λ l. heard ++ l) ended ∙ append-nil heard)

-- so many bytes were heard
pub heard_length : (end : ℕ) (buffer : List ℕ) → length buffer ≡ 24576 → end ≤ 24576 → length (take end buffer) ≡ end
heard_length end buffer size inside = length-take-le end buffer (omega arith)

-- what holds of these bytes and of any that follow holds of what is to come
pub IfSome-to_come : (P : List ℕ → Type 0) (heard : List ℕ) (left input : Option (List ℕ)) → to_come heard left ≡ input → ((more : List ℕ) → P (heard ++ more)) → IfSome input P
IfSome-to_come P heard None input is holds = subst (λ t. IfSome t P) is tt
IfSome-to_come P heard (Some more) input is holds = subst (λ t. IfSome t P) is (holds more)

-- the first bytes of a buffer, and then those that were put behind them
take-put : (a k n : ℕ) (xs ys : List ℕ) → a ≤ length xs → n ≤ length ys → take (a + n) (put_mid a k xs ys) ≡ take a xs ++ take n ys
take-put a k n xs ys inside short =
    let front : length (take a xs) ≡ a = length-take-le a xs inside in
    ap (λ m. take (m + n) (put_mid a k xs ys)) (sym front) ∙ take-append-add (take a xs) (ys ++ post_of a k xs) n
    ∙ ap (λ l. take a xs ++ l) (take-append-le n ys _ short)

-- a read into the rest of a buffer
pub to_come-read : {E : Type 0} (result : Result ℕ E) (a k : ℕ) (xs ys : List ℕ) (old new : Option (List ℕ)) → a ≤ length xs
    → IfOk result (λ n. n ≤ length ys) → IfOk result (λ n. Moves old new (take n ys))
    → IfOk result (λ n. to_come (take (a + n) (put_mid a k xs ys)) new ≡ to_come (take a xs) old)
to_come-read (Ok n) a k xs ys old new inside short moved =
    ap (λ l. to_come l new) (take-put a k n xs ys inside short) ∙ to_come-moved old new (take a xs) (take n ys) moved
to_come-read (Err e) a k xs ys old new inside short moved = tt

-- what is refused for its first bytes, whatever follows them, is refused
pub refused_front : (n : ℕ) (heard : List ℕ) (left input : Option (List ℕ)) (reason : Refusal) → to_come heard left ≡ input
    → ((more : List ℕ) → Refuses (take n heard ++ more) reason) → IfSome input (λ bytes. Refuses bytes reason)
refused_front n heard left input reason is refused =
    IfSome-to_come (λ bytes. Refuses bytes reason) heard left input is
    (λ more. subst (λ l. Refuses l reason) (sym (append_assoc (take n heard) (drop n heard) more) ∙ ap (λ l. l ++ more) (take-append-drop n heard)) (refused (drop n heard ++ more)))

-- as many bytes as a head has at most were heard, and they hold none
pub refused_long : (heard : List ℕ) (left : Option (List ℕ)) → 8192 ≤ length heard → HasNoRequest (take 8192 heard)
    → IfSome (to_come heard left) (λ bytes. Refuses bytes HeadTooLong)
refused_long heard left long none = IfSome-to_come (λ bytes. Refuses bytes HeadTooLong) heard left _ refl
    (λ more. inr (inl (omega (arith, long, length-append heard more), subst HasNoRequest (sym (take-append-le 8192 heard more long)) none)))

-- all that was heard holds no head
none_in_all : (heard : List ℕ) → length heard ≤ 8192 → HasNoRequest (take 8192 heard) → HasNoRequest heard
none_in_all heard short none = subst HasNoRequest (take_all 8192 heard short) none

-- no request is whole where no head is
pub none_whole : (heard : List ℕ) → length heard ≤ 8192 → HasNoRequest (take 8192 heard) → HasNoWholeRequest heard
none_whole heard short none request left (head, rest, is) = none_in_all heard short none head rest is.begins.reads

-- the input ends in the middle of a head
pub refused_end : (heard : List ℕ) (left : Option (List ℕ)) → 0 < length heard → length heard ≤ 8192 → HasNoRequest (take 8192 heard)
    → IfSome left (λ bytes. bytes ≡ []) → IfSome (to_come heard left) (λ bytes. Refuses bytes BadHead)
refused_end heard None some short none ended = tt
refused_end heard (Some bytes) some short none ended =
    subst (λ l. Refuses l BadHead) (sym (ap (λ l. heard ++ l) ended ∙ append-nil heard)) (some, none_in_all heard short none)

-- what is looked at is what was heard, up to as much as a head has at most
pub looked_at : (end : ℕ) (buffer : List ℕ) → take (min end 8192) buffer ≡ take 8192 (take end buffer)
looked_at end buffer = ⊎_elim
    (λ below. let least : min end 8192 ≡ end = omega arith in
    ap (λ n. take n buffer) least ∙ sym (take_all 8192 (take end buffer) (omega (arith, length-take end buffer))))
    (λ above. let least : min end 8192 ≡ 8192 = omega arith in
    ap (λ n. take n buffer) least ∙ sym (take-take 8192 end buffer (omega arith)))
    (cases_lt end 8192)
