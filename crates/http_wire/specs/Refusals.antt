-- What is answered to a refused request.
use Rattle.std.specs.Prelude.{ℕ, List, codes}
use Rattle.http_wire.specs.declared.refusals.Refusal.{Refusal}
use Rattle.http_wire.specs.declared.refusals.Refusal.TheVariants.{BadHead, HeadTooLong, TransferCoding, BadLength, BodyTooLong, BodyCut}

-- the status of a refusal
abbrev pub status_of : Refusal → ℕ
status_of BadHead = 400
status_of HeadTooLong = 431
status_of TransferCoding = 501
status_of BadLength = 400
status_of BodyTooLong = 413
status_of BodyCut = 400

-- the body that is answered to a refusal
abbrev pub body_of : Refusal → List ℕ
body_of BadHead = codes "{\"error\":\"head\"}"
body_of HeadTooLong = codes "{\"error\":\"head too long\"}"
body_of TransferCoding = codes "{\"error\":\"transfer coding\"}"
body_of BadLength = codes "{\"error\":\"length\"}"
body_of BodyTooLong = codes "{\"error\":\"too long\"}"
body_of BodyCut = codes "{\"error\":\"cut\"}"
