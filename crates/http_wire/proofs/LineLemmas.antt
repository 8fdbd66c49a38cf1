-- A head has a line feed for its first line, for each of its fields, and for the empty line at its end.
use Rattle.std.proofs.Common.{◌≡◌, ◌+◌, ◌≤◌, ◌==◌, ℕ, List, [], ◌∷◌, ◌++◌, length, filter, flat_map, refl, ap, sym, ◌∙◌, arith, length-append}
use Rattle.std.proofs.lemmas.List.{append-nil}
use Rattle.std.proofs.lemmas.List.Elements.{filter-append}
use Rattle.httparse.specs.Ascii.{line_feed}
use Rattle.httparse.specs.Grammar.{LineEnd, crlf, lf, Field, RequestHead, print_end, print_field, print_section, print_blank, print_version, print_request}
use Rattle.httparse.specs.Spans.{RequestExceeds}
use Rattle.httparse.proofs.GrammarLemmas.{print_request-append}
use Rattle.http_wire.specs.Requests.{line_feeds}

-- the line feeds of two texts
pub line_feeds-append : (xs ys : List ℕ) → line_feeds (xs ++ ys) ≡ line_feeds xs + line_feeds ys
line_feeds-append xs ys =
    ap length (filter-append (λ byte. byte == line_feed) xs ys) ∙ length-append (filter (λ byte. byte == line_feed) xs) (filter (λ byte. byte == line_feed) ys)

-- none is lost behind other bytes
behind : (xs ys : List ℕ) → line_feeds ys ≤ line_feeds (xs ++ ys)
behind xs ys = omega (arith, line_feeds-append xs ys)

-- a space is none
past_space : (ys : List ℕ) → line_feeds (32 ∷ ys) ≡ line_feeds ys
past_space ys = refl

-- a line end has one
at_line_end : (end : LineEnd) → line_feeds (print_end end) ≡ 1
at_line_end crlf = refl
at_line_end lf = refl

-- a field has one at least
in_field : (field : Field) → 1 ≤ line_feeds (print_field field)
in_field field = omega (arith, at_line_end field.end, behind (field.name ++ 58 ∷ field.raw) (print_end field.end))

-- fields have as many as they are, at least
in_fields : (fields : List Field) → length fields ≤ line_feeds (flat_map print_field fields)
in_fields [] = omega arith
in_fields (field ∷ fields) = omega (arith, in_field field, in_fields fields, line_feeds-append (print_field field) (flat_map print_field fields))

-- a head has two more than it has fields, at least
pub in_head : (head : RequestHead) → length head.fields + 2 ≤ line_feeds (print_request head)
in_head head =
    let section = print_section head.fields head.last ++ [] in
    let line = print_end head.line_end ++ section in
    let version = print_version head.minor ++ line in
    let target = head.target ++ 32 ∷ version in
    let method = head.method ++ 32 ∷ target in
    let whole : line_feeds (print_request head) ≡ line_feeds (print_blank head.blank ++ method) =
    ap line_feeds (sym (append-nil (print_request head)) ∙ print_request-append head []) in
    let fields : line_feeds section ≡ line_feeds (flat_map print_field head.fields) + 1 =
    ap line_feeds (append-nil (print_section head.fields head.last)) ∙ line_feeds-append (flat_map print_field head.fields) (print_end head.last)
    ∙ ap (λ n. line_feeds (flat_map print_field head.fields) + n) (at_line_end head.last) in
    omega (
      arith,
      whole,
      fields,
      in_fields head.fields,
      at_line_end head.line_end,
      line_feeds-append (print_end head.line_end) section,
      behind (print_version head.minor) line,
      behind head.target (32 ∷ version),
      past_space version,
      behind head.method (32 ∷ target),
      past_space target,
      behind (print_blank head.blank) method,
    )

-- where an empty line makes a head of too many fields, there are that many lines
pub many_lines : (room : ℕ) (bytes : List ℕ) → RequestExceeds room bytes → room + 2 ≤ line_feeds bytes
many_lines room bytes (front, rest, is, head, reads, many) =
    let whole : line_feeds front + 1 ≡ line_feeds (print_request head) =
    sym (line_feeds-append front (print_end lf)) ∙ ap line_feeds (reads.1 ∙ append-nil (print_request head)) in
    let all : line_feeds bytes ≡ line_feeds front + line_feeds rest = ap line_feeds is ∙ line_feeds-append front rest in
    omega (arith, whole, all, many, in_head head)
