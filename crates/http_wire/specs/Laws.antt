-- What the definitions of requests and refusals have to fulfil.
use Rattle.std.specs.Prelude.{◌≡◌, ◌+◌, ◌++◌, ◌⊎◌, ℕ, IsFalse, List, [], ◌∷◌, length}
use Rattle.http_wire.specs.Requests.{Request, BeginsWith, Refuses}
use Rattle.http_wire.specs.Connection.{Ending, AreRequests, BeginsWithAll}
use Rattle.http_wire.specs.declared.refusals.Refusal.{Refusal}
use Rattle.http_wire.specs.declared.refusals.Refusal.TheVariants.{BadHead, HeadTooLong}

-- an input begins with one request at most
abbrev pub BeginsWithOne : Type 0
BeginsWithOne = (input : List ℕ) (request other : Request) (left rest : List ℕ)
    → BeginsWith input request left → BeginsWith input other rest → (request ≡ other) × (left ≡ rest)

-- what is refused begins with no request
abbrev pub RefusedOrNot : Type 0
RefusedOrNot = (input : List ℕ) (reason : Refusal) (request : Request) (left : List ℕ)
    → Refuses input reason → ¬ (BeginsWith input request left)

-- a refusal of the head alone
abbrev pub OfHead : Refusal → Type 0
OfHead reason = (reason ≡ BadHead) ⊎ (reason ≡ HeadTooLong)

-- an input is refused for one reason, but for those two
abbrev pub RefusedForOne : Type 0
RefusedForOne = (input : List ℕ) (reason other : Refusal) → Refuses input reason → Refuses input other
    → (reason ≡ other) ⊎ (OfHead reason × OfHead other)

-- nothing begins at the end of the input, and nothing is refused there
abbrev pub NothingAtTheEnd : Type 0
NothingAtTheEnd = ((request : Request) (left : List ℕ) → ¬ (BeginsWith [] request left))
    × ((reason : Refusal) → ¬ (Refuses [] reason))

-- what is behind a request does not matter to it
abbrev pub BeginsAlike : Type 0
BeginsAlike = (front more : List ℕ) (request : Request) (left : List ℕ)
    → BeginsWith front request left → BeginsWith (front ++ more) request (left ++ more)

-- an input has one list of requests, and one part is left behind them
abbrev pub HasOneList : Type 0
HasOneList = (n : ℕ) (input : List ℕ) (requests others : List Request) (ending other : Ending) (left rest : List ℕ)
    → AreRequests n input requests ending left → AreRequests n input others other rest
    → (requests ≡ others) × (left ≡ rest)

-- requests that were heard one after another continue by one more
abbrev pub GoesOnByOne : Type 0
GoesOnByOne = (input : List ℕ) (requests : List Request) (now : List ℕ) (request : Request) (left : List ℕ)
    → BeginsWithAll input requests now → BeginsWith now request left → IsFalse request.last
    → BeginsWithAll input (requests ++ request ∷ []) left

-- the requests of an input are those at its front and then those of what is left
abbrev pub GoesOn : Type 0
GoesOn = (input : List ℕ) (requests : List Request) (now : List ℕ)
    → (n : ℕ) (more : List Request) (ending : Ending) (left : List ℕ)
    → BeginsWithAll input requests now → AreRequests n now more ending left
    → AreRequests (length requests + n) input (requests ++ more) ending left
