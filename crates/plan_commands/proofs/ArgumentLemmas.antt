-- Facts about each argument and about its bytes.
use Rattle.std.proofs.Common.{◌≡◌, ℕ, ◌<◌, ◌≤◌, length, get_or, Bool, true, false, bytes_eq, List, [], ◌∷◌, map, refl, sym, ap, ◌∙◌, arith, Option, Some, None}
use Rattle.std.proofs.lemmas.Bool.{true≢false}
use Rattle.std.proofs.lemmas.List.Elements.{All-cons, All-head, All-tail}
use Rattle.std.proofs.lemmas.Slice.Eq.{bytes_eq-Decides}
use Rattle.std.specs.Option.{IfNone}
use Rattle.std.specs.Prelude.{All, not, String, string_bytes}
use Rattle.std.specs.declared.alloc.Global.{Global}
use Rattle.plan_commands.specs.Arguments.{arguments_of}

pub All-from_map : {X Y : Type 0} (P : Y → Type 0) (f : X → Y) (xs : List X) → All P (map f xs) → All (λ x. P (f x)) xs
All-from_map P f [] all = λ k d within. absurd (omega arith)
All-from_map P f (x ∷ xs) all = All-cons (λ y. P (f y)) x xs (All-head P (f x) (map f xs) all) (All-from_map P f xs (All-tail P (f x) (map f xs) all))

pub IfNone_then : {X : Type 0} (r : Option X) {A B : Type 0} → IfNone r A → (A → B) → IfNone r B
IfNone_then None is then = then is
IfNone_then (Some x) is then = tt

pub same_bytes : (xs ys : List ℕ) → bytes_eq xs ys ≡ true → xs ≡ ys
same_bytes xs ys equal = (bytes_eq-Decides xs ys).0 equal

-- bytes that a test calls different are not the same
pub different_bytes : (xs ys : List ℕ) (unequal : Bool) → unequal ≡ true → unequal ≡ not (bytes_eq xs ys) → xs ≡ ys → ⊥
different_bytes xs ys unequal holds is same = true≢false (sym holds ∙ is ∙ ap not ((bytes_eq-Decides xs ys).1 same))

-- and bytes that it does not call different are
pub equal_bytes : (xs ys : List ℕ) (unequal : Bool) → unequal ≡ false → unequal ≡ not (bytes_eq xs ys) → xs ≡ ys
equal_bytes xs ys unequal holds is = of (bytes_eq xs ys) refl
  where
    of : (test : Bool) → bytes_eq xs ys ≡ test → xs ≡ ys
    of true equal = same_bytes xs ys equal
    of false different = absurd (true≢false (sym (ap not different) ∙ sym is ∙ holds))

-- six arguments, by their texts
pub six_words : (xs : List (String Global)) (a b c d e f d0 d1 d2 d3 d4 d5 : String Global) (wa wb wc wd we wf : List ℕ)
    → 6 ≤ length xs → length xs < 7
    → a ≡ get_or xs 0 d0 → b ≡ get_or xs 1 d1 → c ≡ get_or xs 2 d2 → d ≡ get_or xs 3 d3 → e ≡ get_or xs 4 d4 → f ≡ get_or xs 5 d5
    → wa ≡ string_bytes a → wb ≡ string_bytes b → wc ≡ string_bytes c → wd ≡ string_bytes d → we ≡ string_bytes e → wf ≡ string_bytes f
    → arguments_of xs ≡ wa ∷ wb ∷ wc ∷ wd ∷ we ∷ wf ∷ []
six_words [] a b c d e f d0 d1 d2 d3 d4 d5 wa wb wc wd we wf low high pa pb pc pd pe pf qa qb qc qd qe qf = absurd (omega (arith, low))
six_words (x0 ∷ []) a b c d e f d0 d1 d2 d3 d4 d5 wa wb wc wd we wf low high pa pb pc pd pe pf qa qb qc qd qe qf = absurd (omega (arith, low))
six_words (x0 ∷ x1 ∷ []) a b c d e f d0 d1 d2 d3 d4 d5 wa wb wc wd we wf low high pa pb pc pd pe pf qa qb qc qd qe qf = absurd (omega (arith, low))
six_words (x0 ∷ x1 ∷ x2 ∷ []) a b c d e f d0 d1 d2 d3 d4 d5 wa wb wc wd we wf low high pa pb pc pd pe pf qa qb qc qd qe qf = absurd (omega (arith, low))
six_words (x0 ∷ x1 ∷ x2 ∷ x3 ∷ []) a b c d e f d0 d1 d2 d3 d4 d5 wa wb wc wd we wf low high pa pb pc pd pe pf qa qb qc qd qe qf = absurd (omega (arith, low))
six_words (x0 ∷ x1 ∷ x2 ∷ x3 ∷ x4 ∷ []) a b c d e f d0 d1 d2 d3 d4 d5 wa wb wc wd we wf low high pa pb pc pd pe pf qa qb qc qd qe qf = absurd (omega (arith, low))
six_words (x0 ∷ x1 ∷ x2 ∷ x3 ∷ x4 ∷ x5 ∷ []) a b c d e f d0 d1 d2 d3 d4 d5 wa wb wc wd we wf low high pa pb pc pd pe pf qa qb qc qd qe qf =
    rw (qa, qb, qc, qd, qe, qf, pa, pb, pc, pd, pe, pf) refl
six_words (x0 ∷ x1 ∷ x2 ∷ x3 ∷ x4 ∷ x5 ∷ x6 ∷ more) a b c d e f d0 d1 d2 d3 d4 d5 wa wb wc wd we wf low high pa pb pc pd pe pf qa qb qc qd qe qf = absurd (omega (arith, high))

-- seven arguments, by their texts
pub seven_words : (xs : List (String Global)) (a b c d e f g d0 d1 d2 d3 d4 d5 d6 : String Global) (wa wb wc wd we wf wg : List ℕ)
    → 7 ≤ length xs → length xs < 8
    → a ≡ get_or xs 0 d0 → b ≡ get_or xs 1 d1 → c ≡ get_or xs 2 d2 → d ≡ get_or xs 3 d3 → e ≡ get_or xs 4 d4 → f ≡ get_or xs 5 d5 → g ≡ get_or xs 6 d6
    → wa ≡ string_bytes a → wb ≡ string_bytes b → wc ≡ string_bytes c → wd ≡ string_bytes d → we ≡ string_bytes e → wf ≡ string_bytes f → wg ≡ string_bytes g
    → arguments_of xs ≡ wa ∷ wb ∷ wc ∷ wd ∷ we ∷ wf ∷ wg ∷ []
seven_words [] a b c d e f g d0 d1 d2 d3 d4 d5 d6 wa wb wc wd we wf wg low high pa pb pc pd pe pf pg qa qb qc qd qe qf qg = absurd (omega (arith, low))
seven_words (x0 ∷ []) a b c d e f g d0 d1 d2 d3 d4 d5 d6 wa wb wc wd we wf wg low high pa pb pc pd pe pf pg qa qb qc qd qe qf qg = absurd (omega (arith, low))
seven_words (x0 ∷ x1 ∷ []) a b c d e f g d0 d1 d2 d3 d4 d5 d6 wa wb wc wd we wf wg low high pa pb pc pd pe pf pg qa qb qc qd qe qf qg = absurd (omega (arith, low))
seven_words (x0 ∷ x1 ∷ x2 ∷ []) a b c d e f g d0 d1 d2 d3 d4 d5 d6 wa wb wc wd we wf wg low high pa pb pc pd pe pf pg qa qb qc qd qe qf qg = absurd (omega (arith, low))
seven_words (x0 ∷ x1 ∷ x2 ∷ x3 ∷ []) a b c d e f g d0 d1 d2 d3 d4 d5 d6 wa wb wc wd we wf wg low high pa pb pc pd pe pf pg qa qb qc qd qe qf qg = absurd (omega (arith, low))
seven_words (x0 ∷ x1 ∷ x2 ∷ x3 ∷ x4 ∷ []) a b c d e f g d0 d1 d2 d3 d4 d5 d6 wa wb wc wd we wf wg low high pa pb pc pd pe pf pg qa qb qc qd qe qf qg = absurd (omega (arith, low))
seven_words (x0 ∷ x1 ∷ x2 ∷ x3 ∷ x4 ∷ x5 ∷ []) a b c d e f g d0 d1 d2 d3 d4 d5 d6 wa wb wc wd we wf wg low high pa pb pc pd pe pf pg qa qb qc qd qe qf qg = absurd (omega (arith, low))
seven_words (x0 ∷ x1 ∷ x2 ∷ x3 ∷ x4 ∷ x5 ∷ x6 ∷ []) a b c d e f g d0 d1 d2 d3 d4 d5 d6 wa wb wc wd we wf wg low high pa pb pc pd pe pf pg qa qb qc qd qe qf qg =
    rw (qa, qb, qc, qd, qe, qf, qg, pa, pb, pc, pd, pe, pf, pg) refl
seven_words (x0 ∷ x1 ∷ x2 ∷ x3 ∷ x4 ∷ x5 ∷ x6 ∷ x7 ∷ more) a b c d e f g d0 d1 d2 d3 d4 d5 d6 wa wb wc wd we wf wg low high pa pb pc pd pe pf pg qa qb qc qd qe qf qg = absurd (omega (arith, high))
