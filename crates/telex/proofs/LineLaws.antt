-- Laws of the lines of a message.
use Rattle.std.proofs.Common.{◌≡◌, ℕ, suc, ◌+◌, ◌-◌, ◌<◌, ◌≤◌, false, List, [], ◌∷◌, ◌++◌, length, map, slice_get, get_or, take, drop, Option, Some, None, refl, sym, ap, subst, ◌∙◌, arith, append_assoc, length-append}
use Rattle.std.specs.List.{position, All, AllPairs, flat_map}
use Rattle.std.specs.Option.{option_map}
use Rattle.std.proofs.lemmas.Bool.{ltb-false, eqb-true}
use Rattle.std.proofs.lemmas.Bool.Decides.{nat_tests}
use Rattle.std.proofs.lemmas.List.{append-nil, take-append-drop, drop_more, drop_all, drop_at, take_at, get_or_at, length-take-le}
use Rattle.std.proofs.lemmas.List.Elements.{All-nil, All-cons, All-head, All-tail, All-weaker}
use Rattle.std.proofs.lemmas.List.Kept.{AllPairs-cons}
use Rattle.std.proofs.lemmas.List.Splits.{slice_split_at, slice_split_none, length-slice_split}
use Rattle.std.proofs.lemmas.List.Sums.{count_by-le-length}
use Rattle.std.proofs.lemmas.Option.{slice_get-get_or, get_or_from_slice_get, slice_get_within}
use Rattle.telex.specs.Text.{line_feed, longest_line, is_foreign, is_line_feed, is_too_long, pieces, IsEnded, IsTelex}
use Rattle.telex.specs.Lines.{PlacedLine, but_last, placed_from, lines_from, lines_of, LiesIn, AreLinesOf, IsPrintable}
use Rattle.telex.proofs.Cuts.{AllPairs-head, AllPairs-tail, All-left, by_cuts, All-from_no_position, IsCutAt-from_position, slice_split-apart, slice_split-All, slice_split-push}

-- ---- one line after another

pub but_last-cons : {X : Type 0} (x : X) (xs : List X) → 0 < length xs → but_last (x ∷ xs) ≡ x ∷ but_last xs
but_last-cons x [] some = absurd (omega arith)
but_last-cons x (y ∷ more) some = refl

pub but_last-push : {X : Type 0} (xs : List X) (x : X) → but_last (xs ++ x ∷ []) ≡ xs
but_last-push [] x = refl
but_last-push (y ∷ []) x = refl
but_last-push (y ∷ z ∷ more) x = ap (λ rest. y ∷ rest) (but_last-push (z ∷ more) x)

-- a text with no line feed has no line
pub lines_from-none : (at : ℕ) (text : List ℕ) → position is_line_feed text ≡ None → lines_from at text ≡ []
lines_from-none at text none =
    ap (λ ps. placed_from at (but_last ps)) (slice_split_none is_line_feed text (All-from_no_position is_line_feed text none))

-- the first line ends at the first line feed
pub lines_from-some : (at k : ℕ) (text : List ℕ) → position is_line_feed text ≡ Some k
    → lines_from at text ≡ record { text = take k text; at = at } ∷ lines_from (at + k + 1) (drop (k + 1) text)
lines_from-some at k text found =
    let cut = IsCutAt-from_position is_line_feed text k 0 found in
    let rest = drop (k + 1) text in
    let some : 0 < length (pieces rest) = omega (arith, length-slice_split is_line_feed rest) in
    let place : at + length (take k text) + 1 ≡ at + k + 1 = omega (arith, length-take-le k text (omega (arith, cut.within))) in
    ap (λ t. placed_from at (but_last (pieces t))) cut.is
    ∙ ap (λ ps. placed_from at (but_last ps)) (slice_split_at is_line_feed (take k text) (get_or text k 0) rest cut.clean cut.passes)
    ∙ ap (placed_from at) (but_last-cons (take k text) (pieces rest) some)
    ∙ ap (λ n. record { text = take k text; at = at } ∷ lines_from n rest) place

length-placed : (at : ℕ) (ps : List (List ℕ)) → length (placed_from at ps) ≡ length ps
length-placed at [] = refl
length-placed at (p ∷ more) = ap (λ n. suc n) (length-placed (at + length p + 1) more)

length-but_last : {X : Type 0} (xs : List X) → length (but_last xs) ≤ length xs - 1
length-but_last [] = omega arith
length-but_last (x ∷ []) = omega arith
length-but_last (x ∷ y ∷ more) = omega (arith, length-but_last (y ∷ more))

-- ---- the whole list

-- a piece that follows so many bytes of a text is at that offset
pub LiesIn-from_parts : (message front piece back : List ℕ) (at : ℕ) → message ≡ front ++ (piece ++ back) → length front ≡ at → LiesIn message at piece
LiesIn-from_parts message front piece back at e l = record {
  within = omega (arith, ap length e, length-append front (piece ++ back), length-append piece back);
  reads =
      let count : at + length piece - at ≡ length piece = omega arith in
      ap (λ n. take n (drop at message)) count ∙ ap (λ m. take (length piece) (drop at m)) e ∙ ap (take (length piece)) (drop_at front (piece ++ back) at l) ∙ take_at piece back (length piece) refl;
}

-- the body of a text that ends with a line feed
pub record HasBody (text : List ℕ) : Type 0 where
  pub body : List ℕ
  pub is : text ≡ body ++ line_feed ∷ []

HasBody-from_ended : (text : List ℕ) → IsEnded text → HasBody text
HasBody-from_ended text ended =
    let last = length text - 1 in
    let within : last < length text = slice_get_within text last line_feed ended in
    let whole : take last text ++ drop last text ≡ text = take-append-drop last text in
    let end : drop last text ≡ line_feed ∷ [] =
    drop_more text last 0 within
    ∙ ap (λ x. x ∷ drop (last + 1) text) (get_or_from_slice_get text last line_feed 0 ended)
    ∙ ap (λ rest. line_feed ∷ rest) (drop_all (last + 1) text (omega arith)) in
    record { body = take last text; is = sym whole ∙ ap (λ rest. take last text ++ rest) end }

-- the lines of such a text are the pieces of its body
lines_of-body : (body : List ℕ) → lines_of (body ++ line_feed ∷ []) ≡ placed_from 0 (pieces body)
lines_of-body body = ap (λ ps. placed_from 0 (but_last ps)) (slice_split-push is_line_feed body line_feed refl) ∙ ap (placed_from 0) (but_last-push (pieces body) [])

-- a piece and its line feed
abbrev ended : List ℕ → List ℕ
ended piece = piece ++ line_feed ∷ []

abbrev ended_line : PlacedLine → List ℕ
ended_line line = line.text ++ line_feed ∷ []

joined-placed : (at : ℕ) (ps : List (List ℕ)) → flat_map ended_line (placed_from at ps) ≡ flat_map ended ps
joined-placed at [] = refl
joined-placed at (p ∷ more) = ap (λ rest. ended p ++ rest) (joined-placed (at + length p + 1) more)

joined-pieces : (body : List ℕ) → flat_map ended (pieces body) ≡ body ++ line_feed ∷ []
joined-pieces body =
    by_cuts is_line_feed (λ body. flat_map ended (pieces body) ≡ body ++ line_feed ∷ [])
    (λ xs clean. ap (flat_map ended) (slice_split_none is_line_feed xs clean) ∙ append-nil (ended xs))
    (λ xs y ys clean passes rest.
    let feed : y ≡ line_feed = eqb-true y line_feed passes in
    ap (flat_map ended) (slice_split_at is_line_feed xs y ys clean passes)
    ∙ ap (λ more. ended xs ++ more) rest
    ∙ append_assoc xs (line_feed ∷ []) (ys ++ line_feed ∷ [])
    ∙ ap (λ z. xs ++ z ∷ (ys ++ line_feed ∷ [])) (sym feed)
    ∙ sym (append_assoc xs (y ∷ ys) (line_feed ∷ [])))
    [] body (All-nil _)

placed-All : (P : List ℕ → Type 0) (at : ℕ) (ps : List (List ℕ)) → All P ps → All (λ line. P line.text) (placed_from at ps)
placed-All P at [] h = All-nil (λ line. P line.text)
placed-All P at (p ∷ more) h =
    All-cons (λ line. P line.text) (record { text = p; at = at }) (placed_from (at + length p + 1) more) (All-head P p more h)
    (placed-All P (at + length p + 1) more (All-tail P p more h))

placed-lies : (message front : List ℕ) (at : ℕ) (ps : List (List ℕ)) → message ≡ front ++ flat_map ended ps → length front ≡ at
    → All (λ line. LiesIn message line.at line.text) (placed_from at ps)
placed-lies message front at [] e l = All-nil (λ line. LiesIn message line.at line.text)
placed-lies message front at (p ∷ more) e l =
    let rest = flat_map ended more in
    All-cons (λ line. LiesIn message line.at line.text) (record { text = p; at = at }) (placed_from (at + length p + 1) more)
    (LiesIn-from_parts message front p (line_feed ∷ rest) at (e ∙ ap (λ t. front ++ t) (append_assoc p (line_feed ∷ []) rest)) l)
    (placed-lies message (front ++ ended p) (at + length p + 1) more
    (e ∙ sym (append_assoc front (ended p) rest))
    (omega (arith, length-append front (ended p), length-append p (line_feed ∷ []))))

placed-ended : (message front : List ℕ) (at : ℕ) (ps : List (List ℕ))
    → message ≡ front ++ flat_map ended ps
    → length front ≡ at
    → All (λ line. slice_get message (line.at + length line.text) ≡ Some line_feed) (placed_from at ps)
placed-ended message front at [] e l = All-nil (λ line. slice_get message (line.at + length line.text) ≡ Some line_feed)
placed-ended message front at (p ∷ more) e l =
    let rest = flat_map ended more in
    let around : message ≡ (front ++ p) ++ line_feed ∷ rest =
    e ∙ ap (λ t. front ++ t) (append_assoc p (line_feed ∷ []) rest) ∙ sym (append_assoc front p (line_feed ∷ rest)) in
    let count : length (front ++ p) ≡ at + length p = omega (arith, length-append front p) in
    let within : at + length p < length message = omega (arith, ap length around, length-append (front ++ p) (line_feed ∷ rest)) in
    All-cons (λ line. slice_get message (line.at + length line.text) ≡ Some line_feed)
    (record { text = p; at = at })
    (placed_from (at + length p + 1) more)
    (slice_get-get_or message (at + length p) 0 within
    ∙ ap (λ m. Some (get_or m (at + length p) 0)) around
    ∙ ap Some (get_or_at (front ++ p) line_feed rest 0 (at + length p) count))
    (placed-ended message (front ++ ended p) (at + length p + 1) more
    (e ∙ sym (append_assoc front (ended p) rest))
    (omega (arith, length-append front (ended p), length-append p (line_feed ∷ []))))

placed-behind : (at : ℕ) (ps : List (List ℕ)) → All (λ line. at ≤ line.at) (placed_from at ps)
placed-behind at [] = All-nil (λ line. at ≤ line.at)
placed-behind at (p ∷ more) =
    All-cons (λ line. at ≤ line.at) (record { text = p; at = at }) (placed_from (at + length p + 1) more) (omega arith)
    (All-weaker (λ line. at + length p + 1 ≤ line.at) (λ line. at ≤ line.at) (λ line h. omega arith) (placed_from (at + length p + 1) more) (placed-behind (at + length p + 1) more))

placed-rising : (at : ℕ) (ps : List (List ℕ)) → AllPairs (λ line later. line.at + length line.text < later.at) (placed_from at ps)
placed-rising at [] = λ i j d less within. absurd (omega arith)
placed-rising at (p ∷ more) =
    AllPairs-cons (λ line later. line.at + length line.text < later.at) (record { text = p; at = at }) (placed_from (at + length p + 1) more)
    (All-weaker (λ line. at + length p + 1 ≤ line.at) (λ later. at + length p < later.at) (λ line h. omega arith) (placed_from (at + length p + 1) more) (placed-behind (at + length p + 1) more))
    (placed-rising (at + length p + 1) more)

pub AreLinesOf-lines_of : (text : List ℕ) → IsEnded text → AreLinesOf text (lines_of text)
AreLinesOf-lines_of text end =
    let b = HasBody-from_ended text end in
    let lines : lines_of text ≡ placed_from 0 (pieces b.body) = ap lines_of b.is ∙ lines_of-body b.body in
    let whole : flat_map ended (pieces b.body) ≡ text = joined-pieces b.body ∙ sym b.is in
    subst (AreLinesOf text) (sym lines) (record {
      joined = joined-placed 0 (pieces b.body) ∙ whole;
      placed = placed-lies text [] 0 (pieces b.body) (sym whole) refl;
      ended = placed-ended text [] 0 (pieces b.body) (sym whole) refl;
      rising = placed-rising 0 (pieces b.body);
      apart = placed-All (All (λ b. is_line_feed b ≡ false)) 0 (pieces b.body) (slice_split-apart is_line_feed b.body);
    })

-- what holds of each piece of a text that ends with a line feed holds of each of its lines
lines_of-All : (P : List ℕ → Type 0) (text : List ℕ) → IsEnded text → All P (pieces text) → All (λ line. P line.text) (lines_of text)
lines_of-All P text end h =
    let b = HasBody-from_ended text end in
    let lines : lines_of text ≡ placed_from 0 (pieces b.body) = ap lines_of b.is ∙ lines_of-body b.body in
    let cut : pieces text ≡ pieces b.body ++ [] ∷ [] = ap pieces b.is ∙ slice_split-push is_line_feed b.body line_feed refl in
    subst (All (λ line. P line.text)) (sym lines) (placed-All P 0 (pieces b.body) (All-left P (pieces b.body) ([] ∷ []) (subst (All P) cut h)))

none-from_map : (f : ℕ → ℕ) (o : Option ℕ) → option_map f o ≡ None → o ≡ None
none-from_map f None e = refl
none-from_map f (Some x) e = cc

pub lines_of-short : (text : List ℕ) → IsTelex text → All (λ line. length line.text ≤ longest_line) (lines_of text)
lines_of-short text telex =
    let none : position is_too_long (pieces text) ≡ None = none-from_map (λ k. k + 1) (position is_too_long (pieces text)) telex.short in
    lines_of-All (λ line. length line ≤ longest_line) text telex.ended
    (All-weaker (λ line. is_too_long line ≡ false) (λ line. length line ≤ longest_line) (λ line fits. ltb-false longest_line (length line) fits)
    (pieces text) (All-from_no_position is_too_long (pieces text) none))

printable : (b : ℕ) → is_foreign b ≡ false → is_line_feed b ≡ false → IsPrintable b
printable b known other = grind (arith, nat_tests)

pub lines_of-printable : (text : List ℕ) → IsTelex text → All (λ line. All IsPrintable line.text) (lines_of text)
lines_of-printable text telex =
    let known : All (λ line. All (λ b. is_foreign b ≡ false) line.text) (lines_of text) =
    lines_of-All (All (λ b. is_foreign b ≡ false)) text telex.ended
    (slice_split-All is_line_feed (λ b. is_foreign b ≡ false) text (All-from_no_position is_foreign text telex.plain)) in
    let other = (AreLinesOf-lines_of text telex.ended).apart in
    λ k d l k' d' l'. printable (get_or (get_or (lines_of text) k d).text k' d') (known k d l k' d' l') (other k d l k' d' l')

-- a text has no more lines than bytes
pub length-lines_from : (at : ℕ) (text : List ℕ) → length (lines_from at text) ≤ length text
length-lines_from at text =
    omega (arith, length-placed at (but_last (pieces text)), length-but_last (pieces text), length-slice_split is_line_feed text, count_by-le-length is_line_feed text)

-- ---- the only list

abbrev IsBehind : ℕ → PlacedLine → Type 0
IsBehind at line = at ≤ line.at

abbrev IsBefore : PlacedLine → PlacedLine → Type 0
IsBefore line later = line.at + length line.text < later.at

abbrev EndsWithin : ℕ → PlacedLine → Type 0
EndsWithin size line = line.at + length line.text < size

-- lines one after another are as long as their bytes
room : (size at : ℕ) (lines : List PlacedLine) → at ≤ size → All (IsBehind at) lines → AllPairs IsBefore lines → All (EndsWithin size) lines
    → at + length (flat_map ended_line lines) ≤ size
room size at [] fits behind rising within = omega arith
room size at (line ∷ more) fits behind rising within =
    let next = line.at + length line.text + 1 in
    let ends : line.at + length line.text < size = All-head (EndsWithin size) line more within in
    let begins : at ≤ line.at = All-head (IsBehind at) line more behind in
    let others : next + length (flat_map ended_line more) ≤ size =
    room size next more (omega arith)
    (All-weaker (IsBefore line) (IsBehind next) (λ later h. omega arith) more (AllPairs-head IsBefore line more rising))
    (AllPairs-tail IsBefore line more rising) (All-tail (EndsWithin size) line more within) in
    omega (arith, length-append (ended_line line) (flat_map ended_line more), length-append line.text (line_feed ∷ []))

-- lines that fill the message have no gaps
without_gaps : (size at : ℕ) (lines : List PlacedLine) → All (IsBehind at) lines → AllPairs IsBefore lines → All (EndsWithin size) lines
    → at + length (flat_map ended_line lines) ≡ size → lines ≡ placed_from at (map (λ line. line.text) lines)
without_gaps size at [] behind rising within full = refl
without_gaps size at (line ∷ more) behind rising within full =
    let next = line.at + length line.text + 1 in
    let ends : line.at + length line.text < size = All-head (EndsWithin size) line more within in
    let begins : at ≤ line.at = All-head (IsBehind at) line more behind in
    let after = All-weaker (IsBefore line) (IsBehind next) (λ later h. omega arith) more (AllPairs-head IsBefore line more rising) in
    let others : next + length (flat_map ended_line more) ≤ size =
    room size next more (omega arith) after (AllPairs-tail IsBefore line more rising) (All-tail (EndsWithin size) line more within) in
    let bytes : length (flat_map ended_line (line ∷ more)) ≡ length line.text + 1 + length (flat_map ended_line more) =
    omega (arith, length-append (ended_line line) (flat_map ended_line more), length-append line.text (line_feed ∷ [])) in
    let here : line.at ≡ at = omega arith in
    let rest : more ≡ placed_from next (map (λ line. line.text) more) =
    without_gaps size next more after (AllPairs-tail IsBefore line more rising) (All-tail (EndsWithin size) line more within) (omega arith) in
    ap (λ tail. line ∷ tail) rest
    ∙ ap (λ n. record { text = line.text; at = n } ∷ placed_from (n + length line.text + 1) (map (λ line. line.text) more)) here

-- the pieces of lines that are joined
pieces-joined : (lines : List PlacedLine) → All (λ line. All (λ b. is_line_feed b ≡ false) line.text) lines
    → pieces (flat_map ended_line lines) ≡ map (λ line. line.text) lines ++ [] ∷ []
pieces-joined [] apart = refl
pieces-joined (line ∷ more) apart =
    let clean = All-head (λ line. All (λ b. is_line_feed b ≡ false) line.text) line more apart in
    ap pieces (append_assoc line.text (line_feed ∷ []) (flat_map ended_line more))
    ∙ slice_split_at is_line_feed line.text line_feed (flat_map ended_line more) clean refl
    ∙ ap (λ ps. line.text ∷ ps) (pieces-joined more (All-tail (λ line. All (λ b. is_line_feed b ≡ false) line.text) line more apart))

-- no other list meets the description of the lines of a message
pub AreLinesOf-only : (text : List ℕ) (lines : List PlacedLine) → AreLinesOf text lines → lines ≡ lines_of text
AreLinesOf-only text lines h =
    let within : All (EndsWithin (length text)) lines =
    λ k d l. slice_get_within text ((get_or lines k d).at + length (get_or lines k d).text) line_feed (h.ended k d l) in
    let texts : pieces text ≡ map (λ line. line.text) lines ++ [] ∷ [] = ap pieces (sym h.joined) ∙ pieces-joined lines h.apart in
    without_gaps (length text) 0 lines (λ k d l. omega arith) h.rising within (omega (arith, ap length h.joined))
    ∙ ap (placed_from 0) (sym (ap but_last texts ∙ but_last-push (map (λ line. line.text) lines) []))
