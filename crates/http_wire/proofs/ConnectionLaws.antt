-- The requests of a connection are one list, whether it is read at once or request by request.
use Rattle.std.proofs.Common.{◌≡◌, ◌+◌, ◌<◌, ◌⊎◌, inl, inr, ℕ, zero, suc, List, [], ◌∷◌, ◌++◌, length, IsTrue, IsFalse, subst, refl, sym, ◌∙◌, arith, rules}
use Rattle.http_wire.specs.Requests.{Request, BeginsWith}
use Rattle.http_wire.specs.Hearing.{HasNoWholeRequest}
use Rattle.http_wire.specs.Connection.{Ending, Ended, RefusedFor, Served, AreRequests}
use Rattle.http_wire.specs.Laws.{GoesOn, GoesOnByOne, HasOneList}
use Rattle.http_wire.proofs.RequestLaws.{nothing_at_the_end, one_request, refused_or_not}

-- where no request may be heard, none is
at_most_none : (input : List ℕ) (requests : List Request) (ending : Ending) (left : List ℕ) → AreRequests 0 input requests ending left → (requests ≡ []) × (input ≡ left)
at_most_none input [] Served left is = (refl, is)
at_most_none input [] Ended left is = absurd is
at_most_none input [] (RefusedFor reason) left is = absurd is
at_most_none input (request ∷ more) ending left is = absurd is

-- where none is heard, none begins the input, and all of it is left
none_heard : (n : ℕ) (input : List ℕ) (ending : Ending) (left : List ℕ) → AreRequests (suc n) input [] ending left → (left ≡ input) × HasNoWholeRequest input
none_heard n input Ended left (end, nothing) = (nothing ∙ sym end, subst HasNoWholeRequest (sym end) nothing_at_the_end.0)
none_heard n input (RefusedFor reason) left (refused, all) = (all, λ request rest begins. refused_or_not input reason request rest refused begins)
none_heard n input Served left is = absurd is

-- a request is not both a last one and followed by another
not_both : (request other : Request) (n : ℕ) → request ≡ other → (IsFalse request.last ⊎ (n ≡ 0)) → IsTrue other.last → 0 < n → ⊥
not_both request other n same (inl plain) last some = absurd (search rules)
not_both request other n same (inr none) last some = omega (arith, none, some)

pub one_list : HasOneList
one_list zero input requests others ending other left rest one two =
    let (nothing, all) = at_most_none input requests ending left one in
    let (nothing_2, all_2) = at_most_none input others other rest two in
    (nothing ∙ sym nothing_2, sym all ∙ all_2)
one_list (suc n) input [] [] ending other left rest one two =
    (refl, (none_heard n input ending left one).0 ∙ sym (none_heard n input other rest two).0)
one_list (suc n) input [] (request ∷ others) ending other left rest one (after, begins, goes) =
    absurd ((none_heard n input ending left one).1 request after begins)
one_list (suc n) input (request ∷ more) [] ending other left rest (after, begins, goes) two =
    absurd ((none_heard n input other rest two).1 request after begins)
one_list (suc n) input (request ∷ more) (second ∷ others) ending other left rest (after, begins, inl (plain, one)) (after_2, begins_2, inl (plain_2, two)) =
    let (same, behind) = one_request input request second after after_2 begins begins_2 in
    let (alike, is) = one_list n after more others ending other left rest one (subst (λ l. AreRequests n l others other rest) (sym behind) two) in
    (λ i. same i ∷ alike i, is)
one_list (suc n) input (request ∷ more) (second ∷ others) ending other left rest (after, begins, inl (plain, one)) (after_2, begins_2, inr (last, some, nothing, ended, is)) =
    let (same, behind) = one_request input request second after after_2 begins begins_2 in
    absurd (not_both request second n same plain last some)
one_list (suc n) input (request ∷ more) (second ∷ others) ending other left rest (after, begins, inr (last, some, nothing, ended, is)) (after_2, begins_2, inl (plain, two)) =
    let (same, behind) = one_request input request second after after_2 begins begins_2 in
    absurd (not_both second request n (sym same) plain last some)
one_list (suc n) input (request ∷ more) (second ∷ others) ending other left rest (after, begins, inr (last, some, nothing, ended, is)) (after_2, begins_2, inr (last_2, some_2, nothing_2, ended_2, is_2)) =
    let (same, behind) = one_request input request second after after_2 begins begins_2 in
    (λ i. same i ∷ (nothing ∙ sym nothing_2) i, is ∙ behind ∙ sym is_2)

pub goes_on_by_one : GoesOnByOne
goes_on_by_one input [] now request left is begins plain = (left, subst (λ l. BeginsWith l request left) (sym is) begins, plain, refl)
goes_on_by_one input (first ∷ more) now request left (rest, begins, plain, all) next last =
    (rest, begins, plain, goes_on_by_one rest more now request left all next last)

pub goes_on : GoesOn
goes_on input [] now n more ending left is are =
    let count : n ≡ 0 + n = omega arith in
    subst (λ k. AreRequests k input more ending left) count (subst (λ l. AreRequests n l more ending left) (sym is) are)
goes_on input (first ∷ requests) now n more ending left (rest, begins, plain, all) are =
    let count : suc (length requests + n) ≡ suc (length requests) + n = omega arith in
    subst (λ k. AreRequests k input (first ∷ (requests ++ more)) ending left) count
    (rest, begins, inl (inl plain, goes_on rest requests now n more ending left all are))
