-- Where the parts of a request are in the bytes that were heard.
use Rattle.std.specs.Prelude.{◌≡◌, ◌==◌, ◌+◌, ◌≤◌, ◌<◌, ◌++◌, ◌||◌, ℕ, IsTrue, IsFalse, List, length, map, take, drop, Option, Some, None, Result, Ok, Err}
use Rattle.httparse.specs.declared.spans.HeaderSpan.{HeaderSpan}
use Rattle.httparse.specs.Grammar.{RequestHead, IsRequestHead, HasNoRequest, print_request}
use Rattle.httparse.specs.Spans.{span_bytes, header_bytes, IsWithin}
use Rattle.http_wire.specs.Fields.{NamedValue, is_coded, is_closing, body_length}
use Rattle.http_wire.specs.Requests.{Request, BeginsWith, Refuses, StatesBody, is_last, most_body, most_fields, most_head}
use Rattle.http_wire.specs.Hearing.{Hears, to_come}
use Rattle.http_wire.specs.declared.framing.Framing.{Framing}
use Rattle.http_wire.specs.declared.heads.HeadSearch.{HeadSearch}
use Rattle.http_wire.specs.declared.heads.HeadSearch.TheVariants.{Whole, Unfinished, Refused}
use Rattle.http_wire.specs.declared.heads.RequestPlaces.{RequestPlaces}
use Rattle.http_wire.specs.declared.refusals.Refusal.{Refusal}
use Rattle.http_wire.specs.declared.refusals.WireFault.{WireFault}
use Rattle.http_wire.specs.declared.refusals.Refusal.TheVariants.{BadHead, HeadTooLong, TransferCoding, BadLength, BodyTooLong, BodyCut}

-- the names and values that the headers cover
abbrev pub fields_at : List ℕ → List HeaderSpan → List NamedValue
fields_at heard headers = map (header_bytes heard) headers

-- the body comes without a coding and in this length, within the limit
pub record IsFraming (fields : List NamedValue) (version : ℕ) (framing : Framing) : Type 0 where
  pub plain : IsFalse (is_coded fields)
  pub stated : body_length fields ≡ Some framing.length
  pub short : framing.length ≤ most_body
  pub last : framing.last ≡ (is_closing fields || (version == 0))

-- how the body comes, or why it is refused
abbrev pub Frames : List NamedValue → ℕ → Result Framing Refusal → Type 0
Frames fields version (Ok framing) = IsFraming fields version framing
Frames fields version (Err TransferCoding) = IsTrue (is_coded fields)
Frames fields version (Err BadLength) = IsFalse (is_coded fields) × (body_length fields ≡ None)
Frames fields version (Err BodyTooLong) =
    IsFalse (is_coded fields) × (n : ℕ) × (body_length fields ≡ Some n) × (most_body < n)
Frames fields version (Err BadHead) = ⊥
Frames fields version (Err HeadTooLong) = ⊥
Frames fields version (Err BodyCut) = ⊥

-- the head was heard whole, keeps the limits and states the body, and the places are those of its request
pub record HasHeadAt (heard : List ℕ) (places : RequestPlaces) (head : RequestHead) : Type 0 where
  pub is : IsRequestHead head
  pub bytes : take places.body.start heard ≡ print_request head
  pub size : places.body.start ≡ length (print_request head)
  pub inside : places.body.start ≤ length heard
  pub short : places.body.start ≤ most_head
  pub few : length head.fields ≤ most_fields
  pub method_inside : IsWithin places.body.start places.method
  pub target_inside : IsWithin places.body.start places.target
  pub method : span_bytes heard places.method ≡ head.method
  pub target : span_bytes heard places.target ≡ head.target
  pub body : (n : ℕ) × (places.body.end ≡ places.body.start + n) × StatesBody head n
  pub last : places.last ≡ is_last head

-- a whole head was heard, and the places are those of its request, of whose body some may be still to come
abbrev pub HasWholeHead : List ℕ → RequestPlaces → Type 0
HasWholeHead heard places = (head : RequestHead) × HasHeadAt heard places head

-- what a search for a head finds, whatever follows what was heard
abbrev pub Finds : List ℕ → HeadSearch → Type 0
Finds heard (Whole places) = HasWholeHead heard places
Finds heard Unfinished = HasNoRequest heard
Finds heard (Refused reason) = (more : List ℕ) → Refuses (heard ++ more) reason

-- the parts are in the first n bytes
pub record AreWithin (n : ℕ) (places : RequestPlaces) : Type 0 where
  pub method : IsWithin n places.method
  pub target : IsWithin n places.target
  pub body : IsWithin n places.body

-- the request whose parts are at these places
abbrev pub request_at : List ℕ → RequestPlaces → Request
request_at bytes places = record {
  method = span_bytes bytes places.method;
  target = span_bytes bytes places.target;
  body = span_bytes bytes places.body;
  last = places.last;
}

-- a whole request was heard, whatever follows, and its parts are at these places
pub record HasWholeRequest (heard : List ℕ) (places : RequestPlaces) : Type 0 where
  pub inside : places.body.end ≤ length heard
  pub within : AreWithin places.body.end places
  pub begins : (more : List ℕ)
      → BeginsWith (heard ++ more) (request_at (take places.body.end heard) places) (drop places.body.end heard ++ more)

-- where a request is in what was heard, of which nothing is lost; or that the input is at its end; or its fault
abbrev pub HearsAt : (List ℕ → RequestPlaces → Type 0) → List ℕ → Option (List ℕ) → List ℕ → Option (List ℕ)
    → Result (Option RequestPlaces) WireFault → Type 0
HearsAt Has before left heard after result =
    Hears (λ places. (to_come heard after ≡ to_come before left) × Has heard places) (to_come before left) after result
