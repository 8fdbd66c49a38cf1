-- the next request of a link, and what it asks
use Rattle.std.specs.Prelude.{◌≡◌, ℕ, List, Option}
use Rattle.http_wire.specs.Hearing.{IsNext}
use Rattle.http_wire.specs.Requests.{Request}
use Rattle.desk_service.specs.Exchanges.{IsRead}
use Rattle.desk_http.specs.declared.receiving.Received.{Received}

-- this was received: the next request of the input, with exactly the rest still to come
pub record IsReceived (input left : Option (List ℕ)) (heard : List ℕ) (it : Received) : Type 0 where
  pub request : Request
  pub next : IsNext input left heard request
  pub read : IsRead request it.asked
  pub last : request.last ≡ it.last
