-- all limits of a task
use Rattle.std.proofs.Common.{◌≡◌, ℕ, zero, suc, ◌<◌, ◌≤◌, List, [], ◌∷◌, ◌++◌, length, All, Option, None, Some, arith, ap, refl}
use Rattle.std.specs.Prelude.{is_some}
use Rattle.std.proofs.lemmas.List.Elements.{All-nil, All-cons, All-append}
use Rattle.hold_parts.specs.declared.parts.Lateral.{Lateral as LateralLimit}
use Rattle.hold_limits.specs.Problem.{Problem}
use Rattle.plan_reasons.specs.Limits.{for_each, lateral_limits, limits_of, IsLimitOf}
use Rattle.plan_reasons.specs.declared.limit.TaskLimit.{TaskLimit}
use Rattle.plan_reasons.specs.declared.limit.TaskLimit.TheVariants.{Exclude, Combined, Cumulative, Lateral, WindowLow, WindowHigh}
use Rattle.plan_reasons.proofs.Pieces.{five_pieces, regroup}

-- a list to which they were appended, kind by kind
pub all-limits : (t : Problem) (n0 n1 n2 n3 n4 n5 n6 : List TaskLimit) → n0 ≡ [] → n1 ≡ n0 ++ for_each Exclude (length t.hold.excludes)
    → n2 ≡ n1 ++ for_each Combined (length t.hold.combined) → n3 ≡ n2 ++ for_each Cumulative (length t.hold.cumulative)
    → n4 ≡ n3 ++ lateral_limits t.hold.lateral → n5 ≡ n4 ++ WindowLow ∷ [] → n6 ≡ n5 ++ WindowHigh ∷ [] → n6 ≡ limits_of t
all-limits t n0 n1 n2 n3 n4 n5 n6 e0 e1 e2 e3 e4 e5 e6 =
    five_pieces (for_each Exclude (length t.hold.excludes)) (for_each Combined (length t.hold.combined)) (for_each Cumulative (length t.hold.cumulative))
    (lateral_limits t.hold.lateral) (WindowLow ∷ WindowHigh ∷ []) n0 n1 n2 n3 n4 n6 e0 e1 e2 e3 e4 (regroup n4 (WindowLow ∷ []) (WindowHigh ∷ []) n5 n6 e5 e6)

-- those of one kind are limits of the task
each-below : (t : Problem) (make : ℕ → TaskLimit) (count : ℕ) → ((n : ℕ) → n < count → IsLimitOf t (make n)) → (m : ℕ) → m ≤ count → All (IsLimitOf t) (for_each make m)
each-below t make count right zero within = All-nil (IsLimitOf t)
each-below t make count right (suc m) within =
    All-append (IsLimitOf t) (for_each make m) (make m ∷ []) (each-below t make count right m (omega (arith, within)))
    (All-cons (IsLimitOf t) (make m) [] (right m (omega (arith, within))) (All-nil (IsLimitOf t)))

lateral-is : (t : Problem) (lateral : Option LateralLimit) → t.hold.lateral ≡ lateral → All (IsLimitOf t) (lateral_limits lateral)
lateral-is t None same = All-nil (IsLimitOf t)
lateral-is t (Some limit) same = All-cons (IsLimitOf t) Lateral [] (ap (λ (o : Option LateralLimit). is_some o) same) (All-nil (IsLimitOf t))

-- each of them is one
pub limits-are : (t : Problem) → All (IsLimitOf t) (limits_of t)
limits-are t =
    let ends : All (IsLimitOf t) (WindowLow ∷ WindowHigh ∷ []) =
    All-cons (IsLimitOf t) WindowLow (WindowHigh ∷ []) tt (All-cons (IsLimitOf t) WindowHigh [] tt (All-nil (IsLimitOf t))) in
    All-append (IsLimitOf t) (for_each Exclude (length t.hold.excludes)) _
    (each-below t Exclude (length t.hold.excludes) (λ n within. within) (length t.hold.excludes) (omega arith))
    (All-append (IsLimitOf t) (for_each Combined (length t.hold.combined)) _
    (each-below t Combined (length t.hold.combined) (λ n within. within) (length t.hold.combined) (omega arith))
    (All-append (IsLimitOf t) (for_each Cumulative (length t.hold.cumulative)) _
    (each-below t Cumulative (length t.hold.cumulative) (λ n within. within) (length t.hold.cumulative) (omega arith))
    (All-append (IsLimitOf t) (lateral_limits t.hold.lateral) (WindowLow ∷ WindowHigh ∷ []) (lateral-is t t.hold.lateral refl) ends)))
