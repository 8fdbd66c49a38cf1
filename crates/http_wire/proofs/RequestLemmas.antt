-- A request whose head was heard, and whose body is still to come or was heard too.
use Rattle.std.proofs.Common.{◌≡◌, ◌+◌, ◌-◌, ◌<◌, ◌≤◌, ℕ, List, [], ◌++◌, length, take, drop, Option, Some, None, IfSome, append_assoc, ap, subst, sym, ◌∙◌, arith, length-append, length-drop}
use Rattle.std.specs.Prelude.{unwrap_or}
use Rattle.std.proofs.lemmas.List.{take-take, take-append-drop, drop-drop, length-take, length-take-le, append-nil}
use Rattle.std.proofs.lemmas.Slice.{between_is}
use Rattle.httparse.specs.declared.spans.Span.{Span}
use Rattle.httparse.specs.Grammar.{RequestHead, ReadsRequest}
use Rattle.httparse.specs.Spans.{span_bytes}
use Rattle.httparse.proofs.GrammarLemmas.{request_unique}
use Rattle.http_wire.specs.declared.heads.RequestPlaces.{RequestPlaces}
use Rattle.http_wire.specs.declared.refusals.Refusal.TheVariants.{BodyCut}
use Rattle.http_wire.specs.Requests.{BeginsWithHead, Refuses, StatesBody, fields_of}
use Rattle.http_wire.specs.Fields.{body_length}
use Rattle.http_wire.specs.Hearing.{HasNoWholeRequest}
use Rattle.http_wire.specs.Places.{HasHeadAt, HasWholeHead, HasWholeRequest}

-- a span sees the bytes up to its end alone
span_same : (xs ys : List ℕ) (s : Span) (n : ℕ) → s.end ≤ n → take n xs ≡ take n ys → span_bytes xs s ≡ span_bytes ys s
span_same xs ys s n inside same =
    between_is xs s.start s.end ∙ ap (drop s.start) (sym (take-take s.end n xs inside) ∙ ap (take s.end) same ∙ take-take s.end n ys inside)
    ∙ sym (between_is ys s.start s.end)

-- the head stays where it is in longer bytes with the same front
same_head : (before heard : List ℕ) (places : RequestPlaces) (head : RequestHead) → places.body.start ≤ length heard
    → take places.body.start heard ≡ take places.body.start before → HasHeadAt before places head → HasHeadAt heard places head
same_head before heard places head inside same at =
    record {
      is = at.is;
      bytes = same ∙ at.bytes;
      size = at.size;
      inside = inside;
      short = at.short;
      few = at.few;
      method_inside = at.method_inside;
      target_inside = at.target_inside;
      method = span_same heard before places.method places.body.start at.method_inside.1 same ∙ at.method;
      target = span_same heard before places.target places.body.start at.target_inside.1 same ∙ at.target;
      body = at.body;
      last = at.last;
    }

-- in the first bytes of a buffer, more of which were heard since
pub head_kept : (before now : List ℕ) (first end : ℕ) (places : RequestPlaces) → first ≤ length before → end ≤ length now → first ≤ end
    → take first now ≡ take first before → HasWholeHead (take first before) places → HasWholeHead (take end now) places
head_kept before now first end places inside inside_now further kept (head, at) =
    let long : length (take first before) ≡ first = length-take-le first before inside in
    let long_now : length (take end now) ≡ end = length-take-le end now inside_now in
    let start = places.body.start in
    let short : start ≤ first = omega (arith, at.inside, long) in
    let same : take start (take end now) ≡ take start (take first before) =
    take-take start end now (omega arith) ∙ sym (take-take start first now short) ∙ ap (take start) kept in
    (head, same_head (take first before) (take end now) places head (omega (arith, long_now)) same at)

-- whatever follows, the input begins with the head
begins_at : (heard : List ℕ) (places : RequestPlaces) (head : RequestHead) → HasHeadAt heard places head
    → (more : List ℕ) → BeginsWithHead (heard ++ more) head (drop places.body.start heard ++ more)
begins_at heard places head at more =
    let start = places.body.start in
    record {
      reads = (at.is, ap (λ l. l ++ more) (sym (take-append-drop start heard)) ∙ append_assoc (take start heard) (drop start heard) more ∙ ap (λ l. l ++ (drop start heard ++ more)) at.bytes);
      few = at.few;
      short = omega (arith, at.size, at.short);
    }

-- all of the body was heard
pub whole_request : (heard : List ℕ) (places : RequestPlaces) → HasWholeHead heard places → places.body.end ≤ length heard → HasWholeRequest heard places
whole_request heard places (head, at) whole =
    let start = places.body.start in
    let end = places.body.end in
    let n = at.body.0 in
    let ends : end ≡ start + n = at.body.1 in
    let front = take end heard in
    let same : take end front ≡ take end heard = take-take end end heard (omega arith) in
    let size : end - start ≡ n = omega (arith, ends) in
    let body : span_bytes front places.body ≡ take n (drop start heard) =
    span_same front heard places.body end (omega arith) same ∙ ap (λ k. take k (drop start heard)) size in
    let long : length (take n (drop start heard)) ≡ n = length-take n (drop start heard) ∙ omega (arith, length-drop start heard, whole, ends) in
    let before_method : places.method.end ≤ end = omega (arith, at.method_inside.1, ends) in
    let before_target : places.target.end ≤ end = omega (arith, at.target_inside.1, ends) in
    let behind : drop n (drop start heard) ≡ drop end heard = drop-drop n start heard ∙ ap (λ k. drop k heard) (sym ends) in
    record {
      inside = whole;
      within = record {
        method = (at.method_inside.0, before_method);
        target = (at.target_inside.0, before_target);
        body = (omega (arith, ends), omega arith);
      };
      begins = λ more. (
        head,
        drop start heard ++ more,
        record {
          begins = begins_at heard places head at more;
          body = subst (StatesBody head) (sym (ap length body ∙ long)) at.body.2;
          whole = ap (λ l. l ++ more) (sym (take-append-drop n (drop start heard))) ∙ append_assoc (take n (drop start heard)) (drop n (drop start heard)) more
              ∙ ap (λ l. l ++ (drop n (drop start heard) ++ more)) (sym body) ∙ ap (λ l. span_bytes front places.body ++ (l ++ more)) behind;
          method = span_same front heard places.method end before_method same ∙ at.method;
          target = span_same front heard places.target end before_target same ∙ at.target;
          last = at.last;
        },
      );
    }

-- the input ends before the body does
pub refused_cut : (heard : List ℕ) (places : RequestPlaces) (input : Option (List ℕ)) → HasWholeHead heard places → length heard < places.body.end
    → IfSome input (λ bytes. bytes ≡ heard) → IfSome input (λ bytes. Refuses bytes BodyCut)
refused_cut heard places None whole short is = tt
refused_cut heard places (Some input) (head, at) short is =
    let start = places.body.start in
    subst (λ l. Refuses l BodyCut) (append-nil heard ∙ sym is) (
      head,
      drop start heard ++ [],
      begins_at heard places head at [],
      at.body.0,
      at.body.2,
      omega (arith, length-append (drop start heard) [], length-drop start heard, short, at.inside, at.body.1),
    )

-- bytes have one head, so no request is whole while its body is not
pub none_whole_yet : (heard : List ℕ) (places : RequestPlaces) → HasWholeHead heard places → length heard < places.body.end → HasNoWholeRequest heard
none_whole_yet heard places (head, at) short request left (other, rest, is) =
    let start = places.body.start in
    let ours = begins_at heard places head at [] in
    let reads : ReadsRequest heard head (drop start heard) =
    subst (λ l. ReadsRequest l head (drop start heard)) (append-nil heard) (subst (λ l. ReadsRequest (heard ++ []) head l) (append-nil (drop start heard)) ours.reads) in
    let same = request_unique heard other head rest (drop start heard) is.begins.reads reads in
    let size : length request.body ≡ at.body.0 = ap (λ o. unwrap_or o 0) (sym is.body.stated ∙ ap (λ k. body_length (fields_of k)) same.0 ∙ at.body.2.stated) in
    let all : length (drop start heard) ≡ length request.body + length left = ap length (sym same.1 ∙ is.whole) ∙ length-append request.body left in
    absurd (omega (arith, size, all, length-drop start heard, short, at.inside, at.body.1))
