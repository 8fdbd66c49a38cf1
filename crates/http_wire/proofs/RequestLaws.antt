-- An input begins with one request, or is refused for one reason, or is at its end.
use Rattle.std.proofs.Common.{◌≡◌, ◌+◌, ◌-◌, ◌<◌, ◌≤◌, ◌⊎◌, inl, inr, ℕ, if◌then◌else◌, nat_lt, List, [], ◌++◌, length, take, drop, Option, Some, None, MatchOption, true, false, append_assoc, ap, subst, refl, sym, ◌∙◌, arith, length-append, ⊎_elim}
use Rattle.std.specs.Prelude.{⊤, unwrap_or}
use Rattle.std.proofs.Math.Seq.{take-append_seam, drop-append_seam, take-append-add}
use Rattle.std.proofs.lemmas.Bool.Decides.{nat_tests}
use Rattle.httparse.specs.Grammar.{RequestHead, ReadsRequest, print_request}
use Rattle.httparse.proofs.GrammarLemmas.{ReadsRequest-append, request_unique}
use Rattle.http_wire.specs.declared.refusals.Refusal.{Refusal}
use Rattle.http_wire.specs.declared.refusals.Refusal.TheVariants.{BadHead, HeadTooLong, TransferCoding, BadLength, BodyTooLong, BodyCut}
use Rattle.http_wire.specs.Fields.{body_length, is_coded}
use Rattle.http_wire.specs.Requests.{Request, BeginsWith, BeginsWithHead, Refuses, fields_of, is_last, line_feeds, most_body}
use Rattle.http_wire.specs.Laws.{BeginsAlike, BeginsWithOne, NothingAtTheEnd, OfHead, RefusedForOne, RefusedOrNot}
use Rattle.http_wire.proofs.LineLemmas.{in_head, line_feeds-append}

-- one head with its body: the bodies are as long as the head states, so they are the same
pub one_request : BeginsWithOne
one_request input request other left rest (head, behind, one) (head_2, behind_2, two) =
    let same = request_unique input head head_2 behind behind_2 one.begins.reads two.begins.reads in
    let size : length request.body ≡ length other.body =
    ap (λ o. unwrap_or o 0) (sym one.body.stated ∙ ap (λ h. body_length (fields_of h)) same.0 ∙ two.body.stated) in
    let whole : request.body ++ left ≡ other.body ++ rest = sym one.whole ∙ same.1 ∙ two.whole in
    let body : request.body ≡ other.body =
    sym (take-append_seam request.body left) ∙ ap (take (length request.body)) whole ∙ ap (λ n. take n (other.body ++ rest)) size ∙ take-append_seam other.body rest in
    let after : left ≡ rest =
    sym (drop-append_seam request.body left) ∙ ap (drop (length request.body)) whole ∙ ap (λ n. drop n (other.body ++ rest)) size ∙ drop-append_seam other.body rest in
    let method : request.method ≡ other.method = one.method ∙ ap (λ h. h.method) same.0 ∙ sym two.method in
    let target : request.target ≡ other.target = one.target ∙ ap (λ h. h.target) same.0 ∙ sym two.target in
    let last : request.last ≡ other.last = one.last ∙ ap is_last same.0 ∙ sym two.last in
    (λ i. record { method = method i; target = target i; body = body i; last = last i }, after)

-- a value is not none
some_none : {A : Type 0} {it : A} → Some it ≡ None → ⊥
some_none is = subst (λ o. MatchOption o ⊥ (λ it. ⊤)) is tt

-- a length over the limit is
over : (n : ℕ) → most_body < n → nat_lt most_body n ≡ true
over n long = grind (arith, nat_tests)

-- where some of a body is not there, it is cut
is_cut : (there n : ℕ) → there < n → nat_lt there n ≡ true
is_cut there n cut = grind (arith, nat_tests)

-- a length within the limit is not over it
not_over : (n : ℕ) → n ≤ most_body → nat_lt most_body n ≡ false
not_over n short = grind (arith, nat_tests)

-- where all of a body is there, it is not cut
not_cut : (there n : ℕ) → n ≤ there → nat_lt there n ≡ false
not_cut there n whole = grind (arith, nat_tests)

-- why a body of which so many bytes are there is refused, if it is
abbrev verdict_on : Option ℕ → ℕ → Option Refusal
verdict_on None there = Some BadLength
verdict_on (Some n) there = if nat_lt most_body n then Some BodyTooLong else (if nat_lt there n then Some BodyCut else None)

-- why the body behind a head is refused, if it is
abbrev verdict : RequestHead → List ℕ → Option Refusal
verdict head rest = if is_coded (fields_of head) then Some TransferCoding else verdict_on (body_length (fields_of head)) (length rest)

-- the input begins with a head within the limits, and this is the verdict on its body
record IsJudged (input : List ℕ) (reason : Option Refusal) : Type 0 where
  head : RequestHead
  rest : List ℕ
  begins : BeginsWithHead input head rest
  judged : verdict head rest ≡ reason

-- there is one verdict
one_verdict : (input : List ℕ) (reason other : Option Refusal) → IsJudged input reason → IsJudged input other → reason ≡ other
one_verdict input reason other one two =
    let same = request_unique input one.head two.head one.rest two.rest one.begins.reads two.begins.reads in
    sym one.judged ∙ ap (λ h. verdict h one.rest) same.0 ∙ ap (verdict two.head) same.1 ∙ two.judged

-- no head within the limits is at the front
abbrev HasNoHead : List ℕ → Type 0
HasNoHead input = (head : RequestHead) (rest : List ℕ) → ¬ (BeginsWithHead input head rest)

-- a head within the limits is in the first bytes, as many as it has at most
in_time : (input : List ℕ) (head : RequestHead) (rest : List ℕ) → BeginsWithHead input head rest → ReadsRequest (take 8192 input) head (take (8192 - length (print_request head)) rest)
in_time input head rest begins =
    let text = print_request head in
    let count : 8192 ≡ length text + (8192 - length text) = omega (arith, begins.short) in
    (begins.reads.0, ap (take 8192) begins.reads.1 ∙ ap (λ n. take n (text ++ rest)) count ∙ take-append-add text rest (8192 - length text))

-- a head that is refused for itself is none within the limits, and any other refusal is the verdict
judged_refusal : (input : List ℕ) (reason : Refusal) → Refuses input reason → (OfHead reason × HasNoHead input) ⊎ IsJudged input (Some reason)
judged_refusal input BadHead refused = inl (inl refl, λ head rest begins. refused.1 head rest begins.reads)
judged_refusal input HeadTooLong (inl (large, behind, reads, inl many)) = inl (
  inr refl,
  λ head rest begins.
      let same = request_unique input large head behind rest reads begins.reads in
      omega (arith, many, begins.few, ap (λ h. length h.fields) same.0),
)
judged_refusal input HeadTooLong (inl (large, behind, reads, inr long)) = inl (
  inr refl,
  λ head rest begins.
      let same = request_unique input large head behind rest reads begins.reads in
      omega (arith, long, begins.short, ap (λ h. length (print_request h)) same.0),
)
judged_refusal input HeadTooLong (inr (inl (long, none))) = inl (inr refl, λ head rest begins. none head _ (in_time input head rest begins))
judged_refusal input HeadTooLong (inr (inr (lines, many))) = inl (inr refl, λ head rest begins. omega (arith, many head rest begins.reads, begins.few))
judged_refusal input TransferCoding (head, rest, begins, coded) =
    inr (record { head = head; rest = rest; begins = begins; judged = rw coded refl })
judged_refusal input BadLength (head, rest, begins, plain, none) =
    inr (record { head = head; rest = rest; begins = begins; judged = rw (plain, none) refl })
judged_refusal input BodyTooLong (head, rest, begins, plain, n, states, long) =
    inr (record { head = head; rest = rest; begins = begins; judged = rw (plain, states, over n long) refl })
judged_refusal input BodyCut (head, rest, begins, n, body, cut) =
    inr (record { head = head; rest = rest; begins = begins; judged = rw (body.plain, body.stated, not_over n body.short, is_cut (length rest) n cut) refl })

-- the verdict on a whole request is none
judged_request : (input : List ℕ) (request : Request) (left : List ℕ) → BeginsWith input request left → IsJudged input None
judged_request input request left (head, rest, is) =
    let whole : length request.body ≤ length rest = omega (arith, ap length is.whole, length-append request.body left) in
    record { head = head; rest = rest; begins = is.begins; judged = rw (is.body.plain, is.body.stated, not_over (length request.body) is.body.short, not_cut (length rest) (length request.body) whole) refl }

-- what is refused begins with no request
pub refused_or_not : RefusedOrNot
refused_or_not input reason request left refused begins = ⊎_elim
    (λ head. head.1 begins.0 begins.1 begins.2.begins)
    (λ judged. some_none (one_verdict input (Some reason) None judged (judged_request input request left begins)))
    (judged_refusal input reason refused)

-- an input is refused for one reason, but for those on the head
pub one_refusal : RefusedForOne
one_refusal input reason other one two = ⊎_elim
    (λ head. ⊎_elim
    (λ head_2. inr (head.0, head_2.0))
    (λ judged. absurd (head.1 judged.head judged.rest judged.begins))
    (judged_refusal input other two))
    (λ judged. ⊎_elim
    (λ head. absurd (head.1 judged.head judged.rest judged.begins))
    (λ judged_2. inl (ap (λ o. unwrap_or o reason) (one_verdict input (Some reason) (Some other) judged judged_2)))
    (judged_refusal input other two))
    (judged_refusal input reason one)

-- no bytes are no head
no_head : (head : RequestHead) (rest : List ℕ) → ¬ (ReadsRequest [] head rest)
no_head head rest reads = omega (arith, in_head head, ap line_feeds reads.1 ∙ line_feeds-append (print_request head) rest)

-- nothing begins at the end of the input, and nothing is refused there
pub nothing_at_the_end : NothingAtTheEnd
nothing_at_the_end = (λ request left begins. no_head begins.0 begins.1 begins.2.begins.reads, refused)
  where
    refused : (reason : Refusal) → ¬ (Refuses [] reason)
    refused BadHead (some, none) = omega (arith, some)
    refused HeadTooLong (inl (head, rest, reads, why)) = no_head head rest reads
    refused HeadTooLong (inr (inl (long, none))) = omega (arith, long)
    refused HeadTooLong (inr (inr (lines, many))) = omega (arith, lines)
    refused TransferCoding (head, rest, begins, coded) = no_head head rest begins.reads
    refused BadLength (head, rest, begins, plain, none) = no_head head rest begins.reads
    refused BodyTooLong (head, rest, begins, plain, n, states, long) = no_head head rest begins.reads
    refused BodyCut (head, rest, begins, n, body, cut) = no_head head rest begins.reads

-- what is behind a request does not matter to it
pub begins_alike : BeginsAlike
begins_alike front more request left (head, rest, is) = (
  head,
  rest ++ more,
  record {
    begins = record {
      reads = ReadsRequest-append front head rest more is.begins.reads;
      few = is.begins.few;
      short = is.begins.short;
    };
    body = is.body;
    whole = ap (λ l. l ++ more) is.whole ∙ append_assoc request.body left more;
    method = is.method;
    target = is.target;
    last = is.last;
  },
)
