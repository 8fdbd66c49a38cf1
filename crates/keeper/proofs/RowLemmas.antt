-- a row put at its place among rows in the order of their keys
use Rattle.std.proofs.Common.{◌≡◌, ℕ, zero, suc, ◌+◌, ◌<◌, ◌≤◌, Bool, true, false, cond, nat_eq, eqb-true, List, [], ◌∷◌, ◌++◌, length, take, drop, set, get_or, refl, sym, ◌∙◌, ap, ap₂, arith, All, Option, Some, Result, Ok, Err, Ordering, Less, Equal, Greater, nat_cmp}
use Rattle.std.specs.Prelude.{option_map, if◌then◌else◌, find, bytes_eq}
use Rattle.std.specs.Cmp.Lexicographic.{slice_cmp}
use Rattle.std.specs.Ordering.{ordering_reverse, ordering_then, ordering_index}
use Rattle.std.specs.List.Sorted.{IsSearchInRange, IsBinarySearchResult, IsNonDecreasingBy}
use Rattle.std.proofs.lemmas.Bool.Decides.{nat_tests}
use Rattle.std.proofs.lemmas.Cmp.{nat_list_cmp_total, tied_itself, alike_right}
use Rattle.std.proofs.lemmas.List.Elements.{All-nil, All-cons, All-head, All-tail, All-weaker, All-get_or}
use Rattle.std.proofs.lemmas.List.Kept.{AllPairs-cons}
use Rattle.base_words.proofs.PairLemmas.{AllPairs-head, AllPairs-tail}
use Rattle.keeper.specs.declared.row.KeptRow.{KeptRow}
use Rattle.keeper.specs.Rows.{put_by, with_row, key_order, IsPlaceOf}
use Rattle.keeper.specs.Tables.{IsBefore, AreInKeyOrder, bytes_under}
use Rattle.std.proofs.lemmas.Slice.Eq.{bytes_eq-Decides}

-- in which order the keys of two rows stand
abbrev pub order_of : KeptRow → KeptRow → Ordering
order_of one other = slice_cmp nat_cmp one.key other.key

-- Order -----------------------------------------------------------------------------------------

turned : (o p : Ordering) → o ≡ ordering_reverse p → p ≡ Greater → o ≡ Less
turned o Less e g = absurd (cc)
turned o Equal e g = absurd (cc)
turned o Greater e g = e

before-from_greater : (row kept : KeptRow) → order_of row kept ≡ Greater → IsBefore kept row
before-from_greater row kept greater = turned (order_of kept row) (order_of row kept) (nat_list_cmp_total.antisymm kept.key row.key) greater

before-trans : (a b c : KeptRow) → IsBefore a b → IsBefore b c → IsBefore a c
before-trans a b c ab bc = nat_list_cmp_total.trans a.key b.key c.key ab bc

before-tied : (a b c : KeptRow) → order_of a b ≡ Equal → IsBefore b c → IsBefore a c
before-tied a b c tied bc = nat_list_cmp_total.congr a.key b.key c.key tied ∙ bc

-- what holds of the row and of the rows holds of the rows with it
each-put : (P : KeptRow → Type 0) (o : Ordering) (row kept : KeptRow) (rows further : List KeptRow) → P row → P kept → All P rows → All P further → All P (put_by o row kept rows further)
each-put P Less row kept rows further p q each later = All-cons P row (kept ∷ rows) p (All-cons P kept rows q each)
each-put P Equal row kept rows further p q each later = All-cons P row rows p each
each-put P Greater row kept rows further p q each later = All-cons P kept further q later

each-with_row : (P : KeptRow → Type 0) (row : KeptRow) (rows : List KeptRow) → P row → All P rows → All P (with_row row rows)
each-with_row P row [] p each = All-cons P row [] p each
each-with_row P row (kept ∷ rows) p each =
    let rest = All-tail P kept rows each in
    each-put P (order_of row kept) row kept rows (with_row row rows) p (All-head P kept rows each) rest (each-with_row P row rows p rest)

rising-put : (o : Ordering) (row kept : KeptRow) (rows further : List KeptRow) → order_of row kept ≡ o → AreInKeyOrder (kept ∷ rows) → (o ≡ Greater → All (IsBefore kept) further) → AreInKeyOrder further → AreInKeyOrder (put_by o row kept rows further)
rising-put Less row kept rows further is rising after later =
    let behind = AllPairs-head IsBefore kept rows rising in
    AllPairs-cons IsBefore row (kept ∷ rows) (All-cons (IsBefore row) kept rows is (All-weaker (IsBefore kept) (IsBefore row) (λ other. before-trans row kept other is) rows behind)) rising
rising-put Equal row kept rows further is rising after later =
    let behind = AllPairs-head IsBefore kept rows rising in
    AllPairs-cons IsBefore row rows (All-weaker (IsBefore kept) (IsBefore row) (λ other. before-tied row kept other is) rows behind) (AllPairs-tail IsBefore kept rows rising)
rising-put Greater row kept rows further is rising after later = AllPairs-cons IsBefore kept further (after refl) later

pub rising-with_row : (row : KeptRow) (rows : List KeptRow) → AreInKeyOrder rows → AreInKeyOrder (with_row row rows)
rising-with_row row [] rising = AllPairs-cons IsBefore row [] (All-nil (IsBefore row)) rising
rising-with_row row (kept ∷ rows) rising =
    rising-put (order_of row kept) row kept rows (with_row row rows) refl rising
    (λ greater. each-with_row (IsBefore kept) row rows (before-from_greater row kept greater) (AllPairs-head IsBefore kept rows rising))
    (rising-with_row row rows (AllPairs-tail IsBefore kept rows rising))

-- Looking up ------------------------------------------------------------------------------------

abbrev Found : Type 0
Found = Option (List ℕ)

found-cons : (b : Bool) (x : KeptRow) (r : Option KeptRow) → option_map (λ (row : KeptRow). row.bytes) (if b then Some x else r) ≡ cond b (Some x.bytes) (option_map (λ (row : KeptRow). row.bytes) r)
found-cons true x r = refl
found-cons false x r = refl

under-cons : (x : KeptRow) (xs : List KeptRow) (key : List ℕ) → bytes_under (x ∷ xs) key ≡ cond (bytes_eq x.key key) (Some x.bytes) (bytes_under xs key)
under-cons x xs key = found-cons (bytes_eq x.key key) x (find (λ (row : KeptRow). bytes_eq row.key key) xs)

same_test : (b : Bool) (x y z : Found) → cond b x z ≡ cond b x (cond b y z)
same_test true x y z = refl
same_test false x y z = refl

other_tests : (a b : Bool) (x y z : Found) → (a ≡ true → b ≡ true → ⊥) → cond b y (cond a x z) ≡ cond a x (cond b y z)
other_tests true true x y z apart = absurd (apart refl refl)
other_tests true false x y z apart = refl
other_tests false true x y z apart = refl
other_tests false false x y z apart = refl

then_equal : (o p : Ordering) → ordering_then o p ≡ Equal → (o ≡ Equal) × (p ≡ Equal)
then_equal Less p is = absurd (cc)
then_equal Equal p is = (refl, is)
then_equal Greater p is = absurd (cc)

nat_cmp_equal : (m n : ℕ) → nat_cmp m n ≡ Equal → m ≡ n
nat_cmp_equal m n is = grind (arith, nat_tests)

slice_cmp_equal : (xs ys : List ℕ) → slice_cmp nat_cmp xs ys ≡ Equal → xs ≡ ys
slice_cmp_equal [] [] is = refl
slice_cmp_equal [] (y ∷ ys) is = absurd (cc)
slice_cmp_equal (x ∷ xs) [] is = absurd (cc)
slice_cmp_equal (x ∷ xs) (y ∷ ys) is =
    let parts = then_equal (nat_cmp x y) (slice_cmp nat_cmp xs ys) is in
    ap₂ (λ z zs. z ∷ zs) (nat_cmp_equal x y parts.0) (slice_cmp_equal xs ys parts.1)

apart-from_greater : (row kept : KeptRow) (key : List ℕ) → order_of row kept ≡ Greater → bytes_eq row.key key ≡ true → bytes_eq kept.key key ≡ true → ⊥
apart-from_greater row kept key greater a b =
    let same : kept.key ≡ row.key = (bytes_eq-Decides kept.key key).0 b ∙ sym ((bytes_eq-Decides row.key key).0 a) in
    let tied : order_of row kept ≡ Equal = ap (λ k. slice_cmp nat_cmp row.key k) same ∙ tied_itself nat_list_cmp_total row.key in
    absurd (cc (greater, tied))

under-put : (o : Ordering) (row kept : KeptRow) (rows further : List KeptRow) (key : List ℕ) → order_of row kept ≡ o → bytes_under further key ≡ cond (bytes_eq row.key key) (Some row.bytes) (bytes_under rows key) → bytes_under (put_by o row kept rows further) key ≡ cond (bytes_eq row.key key) (Some row.bytes) (bytes_under (kept ∷ rows) key)
under-put Less row kept rows further key is later = under-cons row (kept ∷ rows) key
under-put Equal row kept rows further key is later =
    let same : kept.key ≡ row.key = sym (slice_cmp_equal row.key kept.key is) in
    let test : bytes_eq kept.key key ≡ bytes_eq row.key key = ap (λ k. bytes_eq k key) same in
    under-cons row rows key ∙ same_test (bytes_eq row.key key) (Some row.bytes) (Some kept.bytes) (bytes_under rows key)
    ∙ ap (λ t. cond (bytes_eq row.key key) (Some row.bytes) (cond t (Some kept.bytes) (bytes_under rows key))) (sym test)
    ∙ ap (λ r. cond (bytes_eq row.key key) (Some row.bytes) r) (sym (under-cons kept rows key))
under-put Greater row kept rows further key is later =
    under-cons kept further key ∙ ap (λ r. cond (bytes_eq kept.key key) (Some kept.bytes) r) later
    ∙ other_tests (bytes_eq row.key key) (bytes_eq kept.key key) (Some row.bytes) (Some kept.bytes) (bytes_under rows key) (apart-from_greater row kept key is)
    ∙ ap (λ r. cond (bytes_eq row.key key) (Some row.bytes) r) (sym (under-cons kept rows key))

pub under-with_row : (row : KeptRow) (rows : List KeptRow) (key : List ℕ) → bytes_under (with_row row rows) key ≡ cond (bytes_eq row.key key) (Some row.bytes) (bytes_under rows key)
under-with_row row [] key = under-cons row [] key
under-with_row row (kept ∷ rows) key = under-put (order_of row kept) row kept rows (with_row row rows) key refl (under-with_row row rows key)

pub under-put_copy : (row copy : KeptRow) (rows before after : List KeptRow) → after ≡ with_row copy rows → copy ≡ row → rows ≡ before → (key : List ℕ) → bytes_under after key ≡ cond (bytes_eq row.key key) (Some row.bytes) (bytes_under before key)
under-put_copy row copy rows before after put copied viewed key =
    ap (λ (kept : List KeptRow). bytes_under kept key) (put ∙ ap₂ with_row copied viewed) ∙ under-with_row row before key

-- Places ----------------------------------------------------------------------------------------

put-here : (row kept : KeptRow) (rows : List KeptRow) (o : Ordering) → order_of row kept ≡ o → with_row row (kept ∷ rows) ≡ put_by o row kept rows (with_row row rows)
put-here row kept rows o is = ap (λ p. put_by p row kept rows (with_row row rows)) is

-- seen from the row that is put
seen-from : (row kept : KeptRow) (o : Ordering) → key_order row.key kept ≡ o → order_of row kept ≡ ordering_reverse o
seen-from row kept o is = nat_list_cmp_total.antisymm row.key kept.key ∙ ap ordering_reverse is

-- a kept row before the one under the key is before the row that is put
before-found : (row kept found : KeptRow) → IsBefore kept found → key_order row.key found ≡ Equal → key_order row.key kept ≡ Less
before-found row kept found before tied = sym (alike_right nat_list_cmp_total found.key row.key kept.key tied) ∙ before

pub put-found : (row : KeptRow) (rows : List KeptRow) (at : ℕ) → AreInKeyOrder rows → IsPlaceOf row.key rows (Ok at) → set rows at row ≡ with_row row rows
put-found row [] at rising place = absurd (omega (arith, place.within))
put-found row (kept ∷ rows) zero rising place = sym (put-here row kept rows Equal (seen-from row kept Equal (place.is kept)))
put-found row (kept ∷ rows) (suc at) rising place =
    let within : at < length rows = omega (arith, place.within) in
    let after = All-get_or (IsBefore kept) rows at kept within (AllPairs-head IsBefore kept rows rising) in
    let greater = seen-from row kept Less (before-found row kept (get_or rows at kept) after (place.is kept)) in
    let rest : IsPlaceOf row.key rows (Ok at) = record { within = within; is = place.is } in
    ap (λ t. kept ∷ t) (put-found row rows at (AllPairs-tail IsBefore kept rows rising) rest) ∙ sym (put-here row kept rows Greater greater)

pub put-new : (row : KeptRow) (rows : List KeptRow) (at : ℕ) → IsPlaceOf row.key rows (Err at) → take at rows ++ row ∷ drop at rows ≡ with_row row rows
put-new row [] zero place = refl
put-new row [] (suc at) place = absurd (omega (arith, place.within))
put-new row (kept ∷ rows) zero place =
    sym (put-here row kept rows Less (seen-from row kept Greater (place.is.1 0 kept (omega arith) (omega arith))))
put-new row (kept ∷ rows) (suc at) place =
    let greater = seen-from row kept Less (place.is.0 0 kept (omega arith) (omega arith)) in
    let rest : IsPlaceOf row.key rows (Err at) = record {
      within = omega (arith, place.within);
      is = (λ k d low high. place.is.0 (suc k) d (omega arith) (omega arith), λ k d low high. place.is.1 (suc k) d (omega arith) (omega arith));
    } in
    ap (λ t. kept ∷ t) (put-new row rows at rest) ∙ sym (put-here row kept rows Greater greater)

-- among rows in key order the comparisons with a key rise
order-rises : (key : List ℕ) (one other : KeptRow) → IsBefore one other → ordering_index (key_order key one) ≤ ordering_index (key_order key other)
order-rises key one other before = by-later (key_order key one) (key_order key other) refl refl where
  by-later : (o p : Ordering) → key_order key one ≡ o → key_order key other ≡ p → ordering_index o ≤ ordering_index p
  by-later Less p is after = omega arith
  by-later Equal Less is after = absurd (cc (is, nat_list_cmp_total.trans one.key other.key key before after))
  by-later Equal Equal is after = omega arith
  by-later Equal Greater is after = omega arith
  by-later Greater Less is after = absurd (cc (is, nat_list_cmp_total.trans one.key other.key key before after))
  by-later Greater Equal is after = absurd (cc (is, before-found (record one { key = key }) one other before after))
  by-later Greater Greater is after = omega arith

orders-rise : (key : List ℕ) (rows : List KeptRow) → AreInKeyOrder rows → IsNonDecreasingBy (λ kept. ordering_index (key_order key kept)) rows
orders-rise key rows rising i j d le lt = by-place (nat_eq i j) refl where
  same-index : i ≡ j → ordering_index (key_order key (get_or rows i d)) ≤ ordering_index (key_order key (get_or rows j d))
  same-index same = omega (arith, ap (λ k. ordering_index (key_order key (get_or rows k d))) same)

  by-place : (b : Bool) → nat_eq i j ≡ b → ordering_index (key_order key (get_or rows i d)) ≤ ordering_index (key_order key (get_or rows j d))
  by-place true same = same-index (eqb-true i j same)
  by-place false other = order-rises key (get_or rows i d) (get_or rows j d) (rising i j d (grind (arith, nat_tests)) lt)

pub place-found : (key : List ℕ) (rows : List KeptRow) (place : Result ℕ ℕ) → AreInKeyOrder rows → IsSearchInRange place (length rows) → IsBinarySearchResult (key_order key) rows place → IsPlaceOf key rows place
place-found key rows (Ok at) rising within is = record { within = within; is = is }
place-found key rows (Err at) rising within is = record { within = within; is = is (orders-rise key rows rising) }
