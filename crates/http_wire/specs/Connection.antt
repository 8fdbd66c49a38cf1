-- The requests of a connection, one after another.
use Rattle.std.specs.Prelude.{◌≡◌, ◌<◌, ◌⊎◌, ℕ, zero, suc, IsTrue, IsFalse, List, [], ◌∷◌}
use Rattle.http_wire.specs.Requests.{Request, BeginsWith, Refuses}
use Rattle.http_wire.specs.declared.refusals.Refusal.{Refusal}

-- how the requests of a connection end
pub data Ending : Type 0 where
  -- the input ended between requests, or the last request was heard
  Ended : Ending
  -- a head or a body was refused
  RefusedFor : Refusal → Ending
  -- as many requests were heard as a connection may have
  Served : Ending

-- the requests of an input that may have at most so many, how they end, and what of the input is left behind them
abbrev pub AreRequests : ℕ → List ℕ → List Request → Ending → List ℕ → Type 0
AreRequests zero input [] Served left = input ≡ left
AreRequests zero input [] Ended left = ⊥
AreRequests zero input [] (RefusedFor reason) left = ⊥
AreRequests zero input (request ∷ more) ending left = ⊥
AreRequests (suc n) input [] Ended left = (input ≡ []) × (left ≡ [])
AreRequests (suc n) input [] (RefusedFor reason) left = Refuses input reason × (left ≡ input)
AreRequests (suc n) input [] Served left = ⊥
AreRequests (suc n) input (request ∷ more) ending left =
    (rest : List ℕ) × BeginsWith input request rest
    -- the last request that a connection may have ends it as served, even if it is a last one
    × (((IsFalse request.last ⊎ (n ≡ 0)) × AreRequests n rest more ending left)
    ⊎ (IsTrue request.last × (0 < n) × (more ≡ []) × (ending ≡ Ended) × (left ≡ rest)))

-- the input begins with these requests, none of them a last one, and left is behind them
abbrev pub BeginsWithAll : List ℕ → List Request → List ℕ → Type 0
BeginsWithAll input [] left = input ≡ left
BeginsWithAll input (request ∷ more) left =
    (rest : List ℕ) × BeginsWith input request rest × IsFalse request.last × BeginsWithAll rest more left
