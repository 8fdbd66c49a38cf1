-- Requests and their refusals, as parts of the whole input of a connection.
use Rattle.std.specs.Prelude.{◌≡◌, ◌==◌, ◌+◌, ◌<◌, ◌≤◌, ◌⊎◌, ◌++◌, ◌||◌, ℕ, Bool, IsTrue, IsFalse, List, length, take, map, filter, Some, None}
use Rattle.httparse.specs.Ascii.{line_feed}
use Rattle.httparse.specs.Grammar.{RequestHead, ReadsRequest, HasNoRequest, print_request}
use Rattle.httparse.specs.Spans.{name_and_value}
use Rattle.http_wire.specs.Fields.{NamedValue, is_coded, is_closing, body_length}
use Rattle.http_wire.specs.declared.refusals.Refusal.{Refusal}
use Rattle.http_wire.specs.declared.refusals.Refusal.TheVariants.{BadHead, HeadTooLong, TransferCoding, BadLength, BodyTooLong, BodyCut}

-- the most bytes that a head has
abbrev pub most_head : ℕ
most_head = 8192

-- the most fields that a head has
abbrev pub most_fields : ℕ
most_fields = 64

-- the most bytes that a body has
abbrev pub most_body : ℕ
most_body = 16384

-- a request
pub record Request : Type 0 where
  pub method : List ℕ
  pub target : List ℕ
  pub body : List ℕ
  -- no other request follows on its connection
  pub last : Bool

-- the names and values of a head's fields, in order
abbrev pub fields_of : RequestHead → List NamedValue
fields_of head = map name_and_value head.fields

-- a request with this head is the last of its connection: it asks for that, or its version is 1.0
abbrev pub is_last : RequestHead → Bool
is_last head = is_closing (fields_of head) || (head.minor == 0)

-- the input begins with this head, which keeps the limits, and rest is behind it
pub record BeginsWithHead (input : List ℕ) (head : RequestHead) (rest : List ℕ) : Type 0 where
  pub reads : ReadsRequest input head rest
  pub few : length head.fields ≤ most_fields
  pub short : length (print_request head) ≤ most_head

-- the head states a body of n bytes, within the limit and without a transfer coding
pub record StatesBody (head : RequestHead) (n : ℕ) : Type 0 where
  pub plain : IsFalse (is_coded (fields_of head))
  pub stated : body_length (fields_of head) ≡ Some n
  pub short : n ≤ most_body

-- the input begins with this request, whose head is this one; rest is behind the head, and left behind the body
pub record HasHead
    (input : List ℕ) (request : Request) (left : List ℕ) (head : RequestHead) (rest : List ℕ) : Type 0 where
  pub begins : BeginsWithHead input head rest
  pub body : StatesBody head (length request.body)
  pub whole : rest ≡ request.body ++ left
  pub method : request.method ≡ head.method
  pub target : request.target ≡ head.target
  pub last : request.last ≡ is_last head

-- the input begins with this request, and left is behind it
abbrev pub BeginsWith : List ℕ → Request → List ℕ → Type 0
BeginsWith input request left = (head : RequestHead) × (rest : List ℕ) × HasHead input request left head rest

-- the input begins with a head that breaks a limit
abbrev pub HasLargeHead : List ℕ → Type 0
HasLargeHead input = (head : RequestHead) × (rest : List ℕ) × ReadsRequest input head rest
    × ((most_fields < length head.fields) ⊎ (most_head < length (print_request head)))

-- the first bytes, as many as a head has at most, hold no whole head
abbrev pub HasNoHeadInTime : List ℕ → Type 0
HasNoHeadInTime input = (most_head ≤ length input) × HasNoRequest (take most_head input)

-- how many of the bytes are line feeds
abbrev pub line_feeds : List ℕ → ℕ
line_feeds bytes = length (filter (λ byte. byte == line_feed) bytes)

-- there are more lines than a head has at most, and no head with few fields is at the front
abbrev pub HasManyLines : List ℕ → Type 0
HasManyLines input = (most_fields + 2 ≤ line_feeds input)
    × ((head : RequestHead) (rest : List ℕ) → ReadsRequest input head rest → most_fields < length head.fields)

-- the input is refused for this reason; a reason stands only where none before it does, but for the two kinds of
-- input without a head that may also be refused as having one that is too long
abbrev pub Refuses : List ℕ → Refusal → Type 0
Refuses input BadHead = (0 < length input) × HasNoRequest input
Refuses input HeadTooLong = HasLargeHead input ⊎ HasNoHeadInTime input ⊎ HasManyLines input
Refuses input TransferCoding = (head : RequestHead) × (rest : List ℕ) × BeginsWithHead input head rest
    × IsTrue (is_coded (fields_of head))
Refuses input BadLength = (head : RequestHead) × (rest : List ℕ) × BeginsWithHead input head rest
    × IsFalse (is_coded (fields_of head)) × (body_length (fields_of head) ≡ None)
Refuses input BodyTooLong = (head : RequestHead) × (rest : List ℕ) × BeginsWithHead input head rest
    × IsFalse (is_coded (fields_of head)) × (n : ℕ) × (body_length (fields_of head) ≡ Some n) × (most_body < n)
Refuses input BodyCut = (head : RequestHead) × (rest : List ℕ) × BeginsWithHead input head rest
    × (n : ℕ) × StatesBody head n × (length rest < n)
