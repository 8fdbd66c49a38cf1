-- the span of some amounts, one amount more at a time
use Rattle.std.proofs.Common.{◌≡◌, ℕ, ◌+◌, ℤ, Bool, true, false, List, [], ◌∷◌, ◌++◌, map, Option, Some, None, refl, ap, sym, subst, ◌∙◌, append-nil}
use Rattle.std.proofs.lemmas.List.{map-append}
use Rattle.std.proofs.lemmas.List.Elements.{filter-append}
use Rattle.std.proofs.lemmas.List.Sums.{fold-append}
use Rattle.std.specs.Int.{int_min, int_max}
use Rattle.std.specs.List.{filter, range_with_len}
use Rattle.hold_reach.specs.declared.span.Span.{Span}
use Rattle.hold_reach.specs.Extents.{IsSpanOfList}
use Rattle.hold_reach.proofs.SpanLemmas.{range-more}
use Rattle.plan_tests.specs.Widening.{wider_span}

IsSpanOfList-wider : (xs : List ℤ) (span : Option Span) (x : ℤ) → IsSpanOfList xs span → IsSpanOfList (xs ++ x ∷ []) (Some (wider_span span x))
IsSpanOfList-wider xs None x has = rw has ((λ is. cc), refl, refl)
IsSpanOfList-wider [] (Some e) x has = absurd (has.0 refl)
IsSpanOfList-wider (y ∷ ys) (Some e) x has = (
  (λ is. cc),
  ap (λ m. int_min m x) has.1 ∙ sym (fold-append int_min y ys (x ∷ [])),
  ap (λ m. int_max m x) has.2 ∙ sym (fold-append int_max y ys (x ∷ [])),
)

-- with one number more that passes the test, the span is widened by what the number stands for
pub IsSpanOfList-passing : (f : ℕ → ℤ) (p : ℕ → Bool) (n : ℕ) (span : Option Span) → p n ≡ true
    → IsSpanOfList (map f (filter p (range_with_len 0 n))) span → IsSpanOfList (map f (filter p (range_with_len 0 (n + 1)))) (Some (wider_span span (f n)))
IsSpanOfList-passing f p n span passes has =
    let one : filter p (n ∷ []) ≡ n ∷ [] = rw passes refl in
    let more : map f (filter p (range_with_len 0 (n + 1))) ≡ map f (filter p (range_with_len 0 n)) ++ f n ∷ [] =
    ap (λ ns. map f (filter p ns)) (range-more n)
    ∙ ap (map f) (filter-append p (range_with_len 0 n) (n ∷ []) ∙ ap (λ ns. filter p (range_with_len 0 n) ++ ns) one)
    ∙ map-append f (filter p (range_with_len 0 n)) (n ∷ []) in
    subst (λ xs. IsSpanOfList xs (Some (wider_span span (f n)))) (sym more) (IsSpanOfList-wider (map f (filter p (range_with_len 0 n))) span (f n) has)

-- with one that does not pass, it stays
pub IsSpanOfList-failing : (f : ℕ → ℤ) (p : ℕ → Bool) (n : ℕ) (span : Option Span) → p n ≡ false
    → IsSpanOfList (map f (filter p (range_with_len 0 n))) span → IsSpanOfList (map f (filter p (range_with_len 0 (n + 1)))) span
IsSpanOfList-failing f p n span fails has =
    let none : filter p (n ∷ []) ≡ [] = rw fails refl in
    let same : filter p (range_with_len 0 (n + 1)) ≡ filter p (range_with_len 0 n) =
    ap (filter p) (range-more n) ∙ filter-append p (range_with_len 0 n) (n ∷ []) ∙ ap (λ ns. filter p (range_with_len 0 n) ++ ns) none ∙ append-nil (filter p (range_with_len 0 n)) in
    subst (λ ns. IsSpanOfList (map f ns) span) (sym same) has
