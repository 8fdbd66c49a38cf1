-- the requests of an input, heard one after another
use Rattle.std.proofs.Common.{◌≡◌, ◌+◌, ◌<◌, ℕ, suc, List, [], ◌∷◌, ◌++◌, length, Option, Some, None, IsTrue, IsFalse, refl, subst, append-nil, inl, inr}
use Rattle.std.specs.Prelude.{IfSome, IsSomeAnd}
use Rattle.http_wire.specs.Connection.{Ending, Ended, RefusedFor, Served, AreRequests, BeginsWithAll}
use Rattle.http_wire.specs.Hearing.{IsNext, IsBrokenOff, to_come}
use Rattle.http_wire.specs.Requests.{Request, BeginsWith, Refuses}
use Rattle.http_wire.specs.declared.refusals.Refusal.{Refusal}
use Rattle.http_wire.proofs.ConnectionLaws.{goes_on, goes_on_by_one}

-- the input begins with these requests, and these bytes are still to come
abbrev pub AreHeard : Option (List ℕ) → List Request → Option (List ℕ) → Type 0
AreHeard input requests now = IfSome input (λ bytes. IsSomeAnd now (BeginsWithAll bytes requests))

pub none_heard : (input : Option (List ℕ)) → AreHeard input [] (to_come [] input)
none_heard None = tt
none_heard (Some bytes) = refl

pub one_more : (input now left : Option (List ℕ)) (heard : List ℕ) (requests : List Request) (request : Request) → AreHeard input requests now
    → IsNext now left heard request → IsFalse request.last → AreHeard input (requests ++ request ∷ []) (to_come heard left)
one_more None now left heard requests request all next more = tt
one_more (Some bytes) None left heard requests request all next more = absurd all
one_more (Some bytes) (Some rest) None heard requests request all next more = absurd next
one_more (Some bytes) (Some rest) (Some behind) heard requests request all next more =
    goes_on_by_one bytes requests rest request (heard ++ behind) all next more

-- the list of all requests, where these come behind those that were heard
abbrev pub AreAll : Option (List ℕ) → ℕ → List Request → Ending → Type 0
AreAll input n requests ending = IfSome input (λ bytes. (left : List ℕ) × AreRequests n bytes requests ending left)

counted : (n m : ℕ) (bytes : List ℕ) (requests : List Request) (ending : Ending) (left : List ℕ) → n ≡ m → AreRequests n bytes requests ending left → AreRequests m bytes requests ending left
counted n m bytes requests ending left same are = subst (λ k. AreRequests k bytes requests ending left) same are

pub last_heard : (input now left : Option (List ℕ)) (heard : List ℕ) (n m : ℕ) (requests : List Request) (request : Request) → length requests + suc n ≡ m → 0 < n → AreHeard input requests now
    → IsNext now left heard request → IsTrue request.last → AreAll input m (requests ++ request ∷ []) Ended
last_heard None now left heard n m requests request count some all next last = tt
last_heard (Some bytes) None left heard n m requests request count some all next last = absurd all
last_heard (Some bytes) (Some rest) None heard n m requests request count some all next last = absurd next
last_heard (Some bytes) (Some rest) (Some behind) heard n m requests request count some all next last = (
  heard ++ behind,
  counted (length requests + suc n) m bytes (requests ++ request ∷ []) Ended (heard ++ behind) count
      (goes_on bytes requests rest (suc n) (request ∷ []) Ended (heard ++ behind) all (heard ++ behind, next, inr (last, some, refl, refl, refl))),
)

pub most_heard : (input now left : Option (List ℕ)) (heard : List ℕ) (m : ℕ) (requests : List Request) (request : Request) → length requests + 1 ≡ m → AreHeard input requests now
    → IsNext now left heard request → AreAll input m (requests ++ request ∷ []) Served
most_heard None now left heard m requests request count all next = tt
most_heard (Some bytes) None left heard m requests request count all next = absurd all
most_heard (Some bytes) (Some rest) None heard m requests request count all next = absurd next
most_heard (Some bytes) (Some rest) (Some behind) heard m requests request count all next = (
  heard ++ behind,
  counted (length requests + suc 0) m bytes (requests ++ request ∷ []) Served (heard ++ behind) count
      (goes_on bytes requests rest (suc 0) (request ∷ []) Served (heard ++ behind) all (heard ++ behind, next, inl (inr refl, refl))),
)

pub end_heard : (input now : Option (List ℕ)) (n m : ℕ) (requests : List Request) → length requests + suc n ≡ m → AreHeard input requests now
    → IfSome now (λ bytes. bytes ≡ []) → AreAll input m requests Ended
end_heard None now n m requests count all none = tt
end_heard (Some bytes) None n m requests count all none = absurd all
end_heard (Some bytes) (Some rest) n m requests count all none = (
  [],
  subst (λ rs. AreRequests m bytes rs Ended []) (append-nil requests)
      (counted (length requests + suc n) m bytes (requests ++ []) Ended [] count (goes_on bytes requests rest (suc n) [] Ended [] all (none, refl))),
)

pub refusal_heard : (input now : Option (List ℕ)) (n m : ℕ) (requests : List Request) (reason : Refusal) → length requests + suc n ≡ m → AreHeard input requests now
    → IfSome now (λ bytes. Refuses bytes reason) → AreAll input m requests (RefusedFor reason)
refusal_heard None now n m requests reason count all refused = tt
refusal_heard (Some bytes) None n m requests reason count all refused = absurd all
refusal_heard (Some bytes) (Some rest) n m requests reason count all refused = (
  rest,
  subst (λ rs. AreRequests m bytes rs (RefusedFor reason) rest) (append-nil requests)
      (counted (length requests + suc n) m bytes (requests ++ []) (RefusedFor reason) rest count (goes_on bytes requests rest (suc n) [] (RefusedFor reason) rest all (refused, refl))),
)

-- the requests so far, and the next one
pub next_heard : (input now left : Option (List ℕ)) (heard : List ℕ) (requests : List Request) (request : Request) → AreHeard input requests now → IsNext now left heard request
    → IfSome input (λ bytes. (rest : List ℕ) × (behind : List ℕ) × BeginsWithAll bytes requests rest × BeginsWith rest request behind)
next_heard None now left heard requests request all next = tt
next_heard (Some bytes) None left heard requests request all next = absurd all
next_heard (Some bytes) (Some rest) None heard requests request all next = absurd next
next_heard (Some bytes) (Some rest) (Some behind) heard requests request all next = (rest, heard ++ behind, all, next)

-- the requests so far, and a refusal
pub refused_behind : (input now : Option (List ℕ)) (requests : List Request) (reason : Refusal) → AreHeard input requests now → IfSome now (λ bytes. Refuses bytes reason)
    → IfSome input (λ bytes. (rest : List ℕ) × BeginsWithAll bytes requests rest × Refuses rest reason)
refused_behind None now requests reason all refused = tt
refused_behind (Some bytes) None requests reason all refused = absurd all
refused_behind (Some bytes) (Some rest) requests reason all refused = (rest, all, refused)

-- the requests so far, and bytes that hold no whole one
pub broken_behind : (input now left : Option (List ℕ)) (requests : List Request) → AreHeard input requests now → IsBrokenOff now left
    → IfSome input (λ bytes. (rest : List ℕ) × BeginsWithAll bytes requests rest × IsBrokenOff (Some rest) left)
broken_behind None now left requests all broken = tt
broken_behind (Some bytes) None left requests all broken = absurd all
broken_behind (Some bytes) (Some rest) left requests all broken = (rest, all, broken)
