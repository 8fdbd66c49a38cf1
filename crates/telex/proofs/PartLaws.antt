-- Laws of the parts of a line.
use Rattle.std.proofs.Common.{◌≡◌, ℕ, suc, replicate, ◌+◌, ◌<◌, ◌≤◌, true, cond, List, [], ◌∷◌, ◌++◌, length, get_or, take, drop, Some, None, refl, sym, ap, subst, ◌∙◌, arith, append_assoc, length-append}
use Rattle.std.specs.List.{position, slice_split, All, AllPairs, flat_map, filter, zip}
use Rattle.std.proofs.lemmas.List.{append-nil, length-replicate, take-append-drop, length-take-le}
use Rattle.std.proofs.lemmas.List.Elements.{All-nil, All-cons, All-head, All-tail, All-weaker, filter-append, filter_passes}
use Rattle.std.proofs.lemmas.List.Folds.{drop_split}
use Rattle.std.proofs.lemmas.List.Kept.{AllPairs-cons}
use Rattle.std.proofs.lemmas.List.Splits.{slice_split_at, slice_split_none, length-slice_split}
use Rattle.std.proofs.lemmas.List.Sums.{count_by-le-length, length-filter}
use Rattle.telex.specs.Lines.{PlacedLine, LiesIn}
use Rattle.telex.specs.Parts.{PlacedPart, is_separator, parts_placed_from, parts_from, parts_of, joined_parts, LeadBySeparators, ArePartsOf}
use Rattle.telex.proofs.Cuts.{AllPairs-head, AllPairs-tail, by_cuts, Fails, All-from_no_position, IsCutAt-from_position, slice_split-apart, filter-none}
use Rattle.telex.proofs.LineLaws.{LiesIn-from_parts}

-- ---- one part after another

-- a text with no separator is one part
pub parts_from-clean : (before at : ℕ) (text : List ℕ) → All (Fails is_separator) text
    → parts_from before at text ≡ record { before = before; text = text; at = at } ∷ []
parts_from-clean before at text clean =
    ap (λ marks. parts_placed_from at (zip (before ∷ marks) (slice_split is_separator text))) (filter-none is_separator text clean)
    ∙ ap (λ ps. parts_placed_from at (zip (before ∷ []) ps)) (slice_split_none is_separator text clean)

-- the first part ends at the first separator
pub parts_from-cut : (before at : ℕ) (part : List ℕ) (mark : ℕ) (rest : List ℕ) → All (Fails is_separator) part → is_separator mark ≡ true
    → parts_from before at (part ++ mark ∷ rest) ≡ record { before = before; text = part; at = at } ∷ parts_from mark (at + length part + 1) rest
parts_from-cut before at part mark rest clean passes =
    let marks : filter is_separator (part ++ mark ∷ rest) ≡ mark ∷ filter is_separator rest =
    filter-append is_separator part (mark ∷ rest) ∙ ap (λ front. front ++ filter is_separator (mark ∷ rest)) (filter-none is_separator part clean)
    ∙ ap (λ b. cond b (mark ∷ filter is_separator rest) (filter is_separator rest)) passes in
    ap (λ ms. parts_placed_from at (zip (before ∷ ms) (slice_split is_separator (part ++ mark ∷ rest)))) marks
    ∙ ap (λ ps. parts_placed_from at (zip (before ∷ mark ∷ filter is_separator rest) ps)) (slice_split_at is_separator part mark rest clean passes)

pub parts_from-none : (before at : ℕ) (text : List ℕ) → position is_separator text ≡ None
    → parts_from before at text ≡ record { before = before; text = text; at = at } ∷ []
parts_from-none before at text none = parts_from-clean before at text (All-from_no_position is_separator text none)

pub parts_from-some : (before at k : ℕ) (text : List ℕ) → position is_separator text ≡ Some k
    → parts_from before at text ≡ record { before = before; text = take k text; at = at } ∷ parts_from (get_or text k 0) (at + k + 1) (drop (k + 1) text)
parts_from-some before at k text found =
    let cut = IsCutAt-from_position is_separator text k 0 found in
    let mark = get_or text k 0 in
    let rest = drop (k + 1) text in
    let count : length (take k text) ≡ k = length-take-le k text (omega (arith, cut.within)) in
    ap (parts_from before at) cut.is
    ∙ parts_from-cut before at (take k text) mark rest cut.clean cut.passes
    ∙ ap (λ n. record { before = before; text = take k text; at = at } ∷ parts_from mark (at + n + 1) rest) count

-- ---- the whole list

-- a part with the separator before it
abbrev with_mark : PlacedPart → List ℕ
with_mark part = part.before ∷ part.text

joined-parts_from : (text : List ℕ) (before at : ℕ) → flat_map with_mark (parts_from before at text) ≡ before ∷ text
joined-parts_from text =
    by_cuts is_separator (λ text. (before at : ℕ) → flat_map with_mark (parts_from before at text) ≡ before ∷ text)
    (λ xs clean before at. ap (flat_map with_mark) (parts_from-clean before at xs clean) ∙ append-nil (before ∷ xs))
    (λ xs mark rest clean passes after before at.
    ap (flat_map with_mark) (parts_from-cut before at xs mark rest clean passes)
    ∙ ap (λ more. before ∷ (xs ++ more)) (after mark (at + length xs + 1)))
    [] text (All-nil (Fails is_separator))

joined_parts-from_marked : (parts : List PlacedPart) (before : ℕ) (text : List ℕ) → flat_map with_mark parts ≡ before ∷ text → joined_parts parts ≡ text
joined_parts-from_marked [] before text e = cc
joined_parts-from_marked (first ∷ others) before text e = cc

abbrev PartLies : List ℕ → PlacedPart → Type 0
PartLies message part = LiesIn message part.at part.text

parts_from-lies : (message back text : List ℕ) (before at : ℕ) (front : List ℕ) → message ≡ front ++ (text ++ back) → length front ≡ at
    → All (PartLies message) (parts_from before at text)
parts_from-lies message back text =
    by_cuts is_separator (λ text. (before at : ℕ) (front : List ℕ) → message ≡ front ++ (text ++ back) → length front ≡ at → All (PartLies message) (parts_from before at text))
    (λ xs clean before at front e l. subst (All (PartLies message)) (sym (parts_from-clean before at xs clean))
    (All-cons (PartLies message) (record { before = before; text = xs; at = at }) [] (LiesIn-from_parts message front xs back at e l) (All-nil (PartLies message))))
    (λ xs mark rest clean passes after before at front e l.
    let behind : message ≡ front ++ (xs ++ (mark ∷ (rest ++ back))) = e ∙ ap (λ t. front ++ t) (append_assoc xs (mark ∷ rest) back) in
    let further : message ≡ (front ++ (xs ++ mark ∷ [])) ++ (rest ++ back) =
    behind ∙ ap (λ t. front ++ t) (sym (append_assoc xs (mark ∷ []) (rest ++ back))) ∙ sym (append_assoc front (xs ++ mark ∷ []) (rest ++ back)) in
    let count : length (front ++ (xs ++ mark ∷ [])) ≡ at + length xs + 1 = omega (arith, length-append front (xs ++ mark ∷ []), length-append xs (mark ∷ [])) in
    subst (All (PartLies message)) (sym (parts_from-cut before at xs mark rest clean passes))
    (All-cons (PartLies message) (record { before = before; text = xs; at = at }) (parts_from mark (at + length xs + 1) rest)
    (LiesIn-from_parts message front xs (mark ∷ (rest ++ back)) at behind l)
    (after mark (at + length xs + 1) (front ++ (xs ++ mark ∷ [])) further count)))
    [] text (All-nil (Fails is_separator))

-- a text in a message has a front and a back there
front_and_back : (message : List ℕ) (at : ℕ) (text : List ℕ) → LiesIn message at text → message ≡ take at message ++ (text ++ drop (at + length text) message)
front_and_back message at text lies =
    sym (take-append-drop at message)
    ∙ ap (λ rest. take at message ++ rest) (drop_split message at (at + length text) (omega arith))
    ∙ ap (λ piece. take at message ++ (piece ++ drop (at + length text) message)) lies.reads

abbrev IsBehind : ℕ → PlacedPart → Type 0
IsBehind at part = at ≤ part.at

abbrev IsBefore : PlacedPart → PlacedPart → Type 0
IsBefore part later = part.at + length part.text < later.at

placed-behind : (at : ℕ) (pieces : List (ℕ × List ℕ)) → All (IsBehind at) (parts_placed_from at pieces)
placed-behind at [] = All-nil (IsBehind at)
placed-behind at (p ∷ more) =
    let next = at + length p.1 + 1 in
    All-cons (IsBehind at) (record { before = p.0; text = p.1; at = at }) (parts_placed_from next more) (omega arith)
    (All-weaker (IsBehind next) (IsBehind at) (λ part h. omega arith) (parts_placed_from next more) (placed-behind next more))

placed-rising : (at : ℕ) (pieces : List (ℕ × List ℕ)) → AllPairs IsBefore (parts_placed_from at pieces)
placed-rising at [] = λ i j d less within. absurd (omega arith)
placed-rising at (p ∷ more) =
    let first : PlacedPart = record { before = p.0; text = p.1; at = at } in
    let next = at + length p.1 + 1 in
    AllPairs-cons IsBefore first (parts_placed_from next more)
    (All-weaker (IsBehind next) (IsBefore first) (λ later h. omega arith) (parts_placed_from next more) (placed-behind next more))
    (placed-rising next more)

abbrev IsMarked : PlacedPart → Type 0
IsMarked part = is_separator part.before ≡ true

placed-marked : (at : ℕ) (marks : List ℕ) (pieces : List (List ℕ)) → All (λ b. is_separator b ≡ true) marks → All IsMarked (parts_placed_from at (zip marks pieces))
placed-marked at [] pieces h = All-nil IsMarked
placed-marked at (m ∷ marks) [] h = All-nil IsMarked
placed-marked at (m ∷ marks) (p ∷ pieces) h =
    All-cons IsMarked (record { before = m; text = p; at = at }) (parts_placed_from (at + length p + 1) (zip marks pieces)) (All-head (λ b. is_separator b ≡ true) m marks h)
    (placed-marked (at + length p + 1) marks pieces (All-tail (λ b. is_separator b ≡ true) m marks h))

placed-led : (at : ℕ) (marks : List ℕ) (pieces : List (List ℕ)) → All (λ b. is_separator b ≡ true) marks → 0 < length pieces
    → LeadBySeparators at (parts_placed_from at (zip (0 ∷ marks) pieces))
placed-led at marks [] h some = absurd (omega arith)
placed-led at marks (p ∷ pieces) h some = (refl, refl, placed-marked (at + length p + 1) marks pieces h)

placed-All : (P : List ℕ → Type 0) (at : ℕ) (marks : List ℕ) (pieces : List (List ℕ)) → All P pieces → All (λ part. P part.text) (parts_placed_from at (zip marks pieces))
placed-All P at [] pieces h = All-nil (λ part. P part.text)
placed-All P at (m ∷ marks) [] h = All-nil (λ part. P part.text)
placed-All P at (m ∷ marks) (p ∷ pieces) h =
    All-cons (λ part. P part.text) (record { before = m; text = p; at = at }) (parts_placed_from (at + length p + 1) (zip marks pieces)) (All-head P p pieces h)
    (placed-All P (at + length p + 1) marks pieces (All-tail P p pieces h))

pub ArePartsOf-parts_of : (line : PlacedLine) → ArePartsOf line (parts_of line)
ArePartsOf-parts_of line = record {
  joined = joined_parts-from_marked (parts_of line) 0 line.text (joined-parts_from line.text 0 line.at);
  placed = λ message lies.
      parts_from-lies message (drop (line.at + length line.text) message) line.text 0 line.at (take line.at message) (front_and_back message line.at line.text lies)
      (length-take-le line.at message (omega (arith, lies.within)));
  rising = placed-rising line.at (zip (0 ∷ filter is_separator line.text) (slice_split is_separator line.text));
  led = placed-led line.at (filter is_separator line.text) (slice_split is_separator line.text) (filter_passes is_separator line.text) (omega (arith, length-slice_split is_separator line.text));
  apart = placed-All (All (Fails is_separator)) line.at (0 ∷ filter is_separator line.text) (slice_split is_separator line.text) (slice_split-apart is_separator line.text);
}

-- a text has at most one part more than bytes
length-parts_placed_from : (at : ℕ) (pieces : List (ℕ × List ℕ)) → length (parts_placed_from at pieces) ≡ length pieces
length-parts_placed_from at [] = refl
length-parts_placed_from at (p ∷ more) = ap (λ n. suc n) (length-parts_placed_from (at + length p.1 + 1) more)

length-zip-le : (marks : List ℕ) (pieces : List (List ℕ)) → length (zip marks pieces) ≤ length marks
length-zip-le [] pieces = omega arith
length-zip-le (m ∷ marks) [] = omega arith
length-zip-le (m ∷ marks) (p ∷ pieces) = omega (arith, length-zip-le marks pieces)

pub length-parts_of : (line : PlacedLine) → length (parts_of line) ≤ length line.text + 1
length-parts_of line =
    let marks = filter is_separator line.text in
    let pieces = slice_split is_separator line.text in
    omega (
      arith,
      length-parts_placed_from line.at (zip (0 ∷ marks) pieces),
      length-zip-le (0 ∷ marks) pieces,
      length-filter is_separator line.text,
      count_by-le-length is_separator line.text,
    )

-- ---- the only list

abbrev EndsWithin : ℕ → PlacedPart → Type 0
EndsWithin size part = part.at + length part.text < size

-- parts one after another, each followed by a byte, are as long as their bytes
room : (size at : ℕ) (parts : List PlacedPart) → at ≤ size → All (IsBehind at) parts → AllPairs IsBefore parts → All (EndsWithin size) parts
    → at + length (flat_map with_mark parts) ≤ size
room size at [] fits behind rising within = omega arith
room size at (part ∷ more) fits behind rising within =
    let next = part.at + length part.text + 1 in
    let ends : part.at + length part.text < size = All-head (EndsWithin size) part more within in
    let begins : at ≤ part.at = All-head (IsBehind at) part more behind in
    let others : next + length (flat_map with_mark more) ≤ size =
    room size next more (omega arith)
    (All-weaker (IsBefore part) (IsBehind next) (λ later h. omega arith) more (AllPairs-head IsBefore part more rising))
    (AllPairs-tail IsBefore part more rising) (All-tail (EndsWithin size) part more within) in
    omega (arith, length-append (with_mark part) (flat_map with_mark more))

-- parts that fill a line are the parts of that line
without_gaps : (size : ℕ) (first : PlacedPart) (others : List PlacedPart)
    → All IsMarked others → All (λ part. All (Fails is_separator) part.text) (first ∷ others) → AllPairs IsBefore (first ∷ others) → All (EndsWithin size) (first ∷ others)
    → first.at + length (flat_map with_mark (first ∷ others)) ≡ size
    → first ∷ others ≡ parts_from first.before first.at (joined_parts (first ∷ others))
without_gaps size first [] marked apart rising within full =
    let clean : All (Fails is_separator) (first.text ++ []) =
    subst (All (Fails is_separator)) (sym (append-nil first.text)) (All-head (λ part. All (Fails is_separator) part.text) first [] apart) in
    sym (parts_from-clean first.before first.at (first.text ++ []) clean
    ∙ ap (λ text. record { before = first.before; text = text; at = first.at } ∷ []) (append-nil first.text))
without_gaps size first (second ∷ more) marked apart rising within full =
    let next = first.at + length first.text + 1 in
    let clean = All-head (λ part. All (Fails is_separator) part.text) first (second ∷ more) apart in
    let others = All-tail (EndsWithin size) first (second ∷ more) within in
    let ordered = AllPairs-tail IsBefore first (second ∷ more) rising in
    let begins : next ≤ second.at = All-head (IsBehind next) second more
    (All-weaker (IsBefore first) (IsBehind next) (λ later h. omega arith) (second ∷ more) (AllPairs-head IsBefore first (second ∷ more) rising)) in
    let ends : second.at + length second.text < size = All-head (EndsWithin size) second more others in
    let behind = All-weaker (IsBefore second) (IsBehind (second.at + length second.text + 1)) (λ later h. omega arith) more (AllPairs-head IsBefore second more ordered) in
    let rest : second.at + length second.text + 1 + length (flat_map with_mark more) ≤ size =
    room size (second.at + length second.text + 1) more (omega arith) behind (AllPairs-tail IsBefore second more ordered) (All-tail (EndsWithin size) second more others) in
    let here : second.at ≡ next =
    omega (arith, full, length-append (with_mark first) (flat_map with_mark (second ∷ more)), length-append (with_mark second) (flat_map with_mark more)) in
    let again : second ∷ more ≡ parts_from second.before second.at (joined_parts (second ∷ more)) =
    without_gaps size second more (All-tail IsMarked second more marked) (All-tail (λ part. All (Fails is_separator) part.text) first (second ∷ more) apart) ordered others
    (omega (arith, full, length-append (with_mark first) (flat_map with_mark (second ∷ more)))) in
    ap (λ tail. first ∷ tail) (again ∙ ap (λ n. parts_from second.before n (joined_parts (second ∷ more))) here)
    ∙ sym (parts_from-cut first.before first.at first.text second.before (joined_parts (second ∷ more)) clean (All-head IsMarked second more marked))

-- no other list meets the description of the parts of a line
pub ArePartsOf-only : (line : PlacedLine) (parts : List PlacedPart) → ArePartsOf line parts → parts ≡ parts_of line
ArePartsOf-only line [] h = absurd h.led
ArePartsOf-only line (first ∷ others) h =
    let front : List ℕ = replicate line.at 0 in
    let message : List ℕ = front ++ (line.text ++ []) in
    let count : length front ≡ line.at = length-replicate line.at 0 in
    let lies : All (PartLies message) (first ∷ others) = h.placed message (LiesIn-from_parts message front line.text [] line.at refl count) in
    let size : ℕ = line.at + length line.text + 1 in
    let bytes : length message ≡ line.at + length line.text = omega (arith, length-append front (line.text ++ []), ap length (append-nil line.text)) in
    let within : All (EndsWithin size) (first ∷ others) =
    All-weaker (PartLies message) (EndsWithin size) (λ part l. omega (arith, l.within)) (first ∷ others) lies in
    let full : first.at + length (flat_map with_mark (first ∷ others)) ≡ size =
    omega (arith, h.led.1, ap length h.joined, length-append (with_mark first) (flat_map with_mark others), length-append first.text (flat_map with_mark others)) in
    without_gaps size first others h.led.2 h.apart h.rising within full
    ∙ ap (λ before. parts_from before first.at (joined_parts (first ∷ others))) h.led.0
    ∙ ap (λ at. parts_from 0 at (joined_parts (first ∷ others))) h.led.1
    ∙ ap (parts_from 0 line.at) h.joined
