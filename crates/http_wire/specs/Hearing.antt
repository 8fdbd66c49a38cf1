-- What a wire has heard, and what a call of it says of the bytes that were to come.
use Rattle.std.specs.Prelude.{◌≡◌, ◌++◌, ℕ, Bool, true, List, [], Option, Some, None, Result, Ok, Err, IfSome, IsSomeAnd}
use Rattle.std.specs.Option.{option_map}
use Rattle.base_words.specs.Faults.{Rose}
use Rattle.http_wire.specs.Requests.{Request, BeginsWith, Refuses}
use Rattle.http_wire.specs.declared.refusals.WireFault.{WireFault}
use Rattle.http_wire.specs.declared.refusals.WireFault.TheVariants.{Refused, ReadFault}
use Rattle.http_wire.specs.declared.wire.Heard.{Heard}

-- what a wire has heard of a link
pub record Hearing : Type 0 where
  -- the bytes of the last request, which the wire lends
  pub used : List ℕ
  -- the bytes behind it that were heard too
  pub heard : List ℕ
  -- nothing more is to be heard
  pub over : Bool

-- the bytes to come: those that were heard and not used, then those that the link still has, unless it hides them
abbrev pub to_come : List ℕ → Option (List ℕ) → Option (List ℕ)
to_come heard left = option_map (λ bytes. heard ++ bytes) left

-- no whole request is at the front of these bytes
abbrev pub HasNoWholeRequest : List ℕ → Type 0
HasNoWholeRequest bytes = (request : Request) (left : List ℕ) → ¬ (BeginsWith bytes request left)

-- the input broke off: the bytes taken from it are no whole request, and nothing else of it was lost
abbrev pub IsBrokenOff : Option (List ℕ) → Option (List ℕ) → Type 0
IsBrokenOff input left = (heard : List ℕ) × (to_come heard left ≡ input) × HasNoWholeRequest heard

-- the input has this fault: it is refused, or it broke off
abbrev pub HasFault : Option (List ℕ) → Option (List ℕ) → WireFault → Type 0
HasFault input left (Refused reason) = IfSome input (λ bytes. Refuses bytes reason)
HasFault input left ReadFault = IsBrokenOff input left

-- what an answer says of the input: what was found in it, or that it is at its end, or its fault
abbrev pub Hears : {A : Type 0} → (A → Type 0) → Option (List ℕ) → Option (List ℕ)
    → Result (Option A) WireFault → Type 0
Hears Found input left (Ok (Some it)) = Found it
Hears Found input left (Ok None) = IfSome input (λ bytes. bytes ≡ [])
Hears Found input left (Err fault) = HasFault input left fault

-- the count of failed reads rose with a read fault alone
abbrev pub Counts : {A : Type 0} → Result A WireFault → ℕ → ℕ → Type 0
Counts (Ok it) before now = now ≡ before
Counts (Err (Refused reason)) before now = now ≡ before
Counts (Err ReadFault) before now = Rose before now

-- the request that was heard
abbrev pub request_of : Heard → Request
request_of heard = record {
  method = heard.method.now;
  target = heard.target.now;
  body = heard.body.now;
  last = heard.last;
}

-- this is the next request of the input, and exactly what is behind it is still to come
abbrev pub IsNext : Option (List ℕ) → Option (List ℕ) → List ℕ → Request → Type 0
IsNext input left heard request = IfSome input (λ bytes. IsSomeAnd (to_come heard left) (BeginsWith bytes request))

-- nothing more is to be heard after the end, a fault or a last request
abbrev pub over_after : {A : Type 0} → (A → Bool) → Result (Option A) WireFault → Bool
over_after is_last (Ok (Some it)) = is_last it
over_after is_last (Ok None) = true
over_after is_last (Err fault) = true

-- what a call of a wire says: the next request with exactly the rest still to come, or why there is none, and whether
-- anything more is to be heard
abbrev pub HearsNext : {A : Type 0} → (A → Request) → Option (List ℕ) → Option (List ℕ)
    → Result (Option A) WireFault → Hearing → Type 0
HearsNext request input left result new =
    Hears (λ it. IsNext input left new.heard (request it)) input left result
    × (new.over ≡ over_after (λ it. (request it).last) result)
