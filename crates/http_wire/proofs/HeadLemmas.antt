-- What a look for a head in the bytes that were heard says, whatever follows them.
use Rattle.std.proofs.Common.{◌≡◌, ◌<◌, ◌≤◌, inr, ℕ, min, List, [], ◌∷◌, ◌++◌, length, take, drop, Some, None, Err, IsTrue, IsFalse, append_assoc, ap, subst, sym, ◌∙◌, arith, rules, length-append}
use Rattle.std.proofs.Math.Seq.{take-append_seam}
use Rattle.std.proofs.lemmas.List.{take-append-drop, length-take, length-map, append-nil}
use Rattle.httparse.specs.declared.spans.HeaderSpan.{HeaderSpan}
use Rattle.httparse.specs.declared.spans.RequestSpans.{RequestSpans}
use Rattle.httparse.specs.Grammar.{RequestHead, IsRequestHead, NeverHasRequest, print_request, lf}
use Rattle.httparse.specs.Spans.{RequestExceeds, RequestOverflows, IsRequestWithin, IsRequestOf, header_bytes, name_and_value}
use Rattle.httparse.proofs.OnLiterals.{httparse_on_literals}
use Rattle.http_wire.specs.declared.refusals.Refusal.{Refusal}
use Rattle.http_wire.specs.declared.refusals.Refusal.TheVariants.{BadHead, HeadTooLong, TransferCoding, BadLength, BodyTooLong, BodyCut}
use Rattle.http_wire.specs.Fields.{is_coded, body_length}
use Rattle.http_wire.specs.Requests.{BeginsWithHead, Refuses, fields_of}
use Rattle.http_wire.specs.Places.{Frames, fields_at}
use Rattle.http_wire.proofs.LineLemmas.{line_feeds-append, many_lines}

-- some bytes are a head
abbrev a_head : RequestHead
a_head = record { blank = []; method = 71 ∷ []; target = 47 ∷ []; minor = 1; line_end = lf; fields = []; last = lf }

a_head-is : IsRequestHead a_head
unfolding httparse_on_literals
a_head-is = record { method = search rules; target = search rules; target_text = search rules; minor = search rules; fields = search rules }

-- so bytes that no head can begin with are some bytes
some_heard : (heard : List ℕ) → NeverHasRequest heard → 0 < length heard
some_heard [] never = absurd (never (print_request a_head) a_head [] (a_head-is, sym (append-nil (print_request a_head))))
some_heard (byte ∷ heard) never = omega arith

-- no bytes can follow that make a head
pub refused_bad : (heard : List ℕ) → NeverHasRequest heard → (more : List ℕ) → Refuses (heard ++ more) BadHead
refused_bad heard never more = (omega (arith, some_heard heard never, length-append heard more), never more)

-- there are more lines than a head may have
pub refused_many : (heard : List ℕ) → RequestExceeds 64 heard → RequestOverflows 64 heard → (more : List ℕ) → Refuses (heard ++ more) HeadTooLong
refused_many heard exceeds overflows more =
    inr (inr (omega (arith, many_lines 64 heard exceeds, line_feeds-append heard more), overflows more))

-- a head of the grammar that stands at the front, within the limits, and its fields
pub record IsFound (heard : List ℕ) (headers : List HeaderSpan) (spans : RequestSpans) (head : RequestHead) : Type 0 where
  pub is : IsRequestHead head
  pub bytes : take spans.len heard ≡ print_request head
  pub size : spans.len ≡ length (print_request head)
  pub few : length head.fields ≤ 64
  pub fields : fields_at heard (take spans.headers headers) ≡ fields_of head

-- what the parser found
pub is_found : (heard : List ℕ) (headers : List HeaderSpan) (spans : RequestSpans) → length headers ≡ 64
    → (found : IsRequestOf heard headers spans) → IsFound heard headers spans found.0
is_found heard headers spans room (head, at) =
    let count : length (take spans.headers headers) ≡ min spans.headers (length headers) = length-take spans.headers headers in
    let fields : length head.fields ≡ length (take spans.headers headers) =
    sym (length-map head.fields name_and_value) ∙ ap length (sym at.fields) ∙ length-map (take spans.headers headers) (header_bytes heard) in
    record {
      is = at.reads.0;
      bytes = ap (take spans.len) at.reads.1 ∙ ap (λ n. take n (print_request head ++ drop spans.len heard)) at.len ∙ take-append_seam (print_request head) (drop spans.len heard);
      size = at.len;
      few = omega (arith, fields, count, room);
      fields = at.fields;
    }

-- whatever follows, the input begins with that head
pub begins_with : (heard : List ℕ) (headers : List HeaderSpan) (spans : RequestSpans) (head : RequestHead) → length heard ≤ 8192 → spans.len ≤ length heard
    → IsFound heard headers spans head → (more : List ℕ) → BeginsWithHead (heard ++ more) head (drop spans.len heard ++ more)
begins_with heard headers spans head short inside found more =
    record {
      reads = (found.is, ap (λ l. l ++ more) (sym (take-append-drop spans.len heard)) ∙ append_assoc (take spans.len heard) (drop spans.len heard) more ∙ ap (λ l. l ++ (drop spans.len heard ++ more)) found.bytes);
      few = found.few;
      short = omega (arith, found.size, short, inside);
    }

-- why its body is refused
pub refused_framing : (heard : List ℕ) (headers : List HeaderSpan) (spans : RequestSpans) (version : ℕ) (reason : Refusal) → length heard ≤ 8192 → length headers ≡ 64
    → IsRequestWithin heard headers spans → IsRequestOf heard headers spans → Frames (fields_at heard (take spans.headers headers)) version (Err reason)
    → (more : List ℕ) → Refuses (heard ++ more) reason
refused_framing heard headers spans version BadHead short room within found framed more = absurd framed
refused_framing heard headers spans version HeadTooLong short room within found framed more = absurd framed
refused_framing heard headers spans version BodyCut short room within found framed more = absurd framed
refused_framing heard headers spans version TransferCoding short room within found framed more =
    let at = is_found heard headers spans room found in
    (found.0, _, begins_with heard headers spans found.0 short within.section.len_fits at more, subst (λ l. IsTrue (is_coded l)) at.fields framed)
refused_framing heard headers spans version BadLength short room within found framed more =
    let at = is_found heard headers spans room found in (
      found.0,
      _,
      begins_with heard headers spans found.0 short within.section.len_fits at more,
      subst (λ l. IsFalse (is_coded l)) at.fields framed.0,
      subst (λ l. body_length l ≡ None) at.fields framed.1,
    )
refused_framing heard headers spans version BodyTooLong short room within found (plain, n, states, long) more =
    let at = is_found heard headers spans room found in (
      found.0,
      _,
      begins_with heard headers spans found.0 short within.section.len_fits at more,
      subst (λ l. IsFalse (is_coded l)) at.fields plain,
      n,
      subst (λ l. body_length l ≡ Some n) at.fields states,
      long,
    )
