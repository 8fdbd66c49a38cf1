-- What a door does to the links that are still to come and to those that were handed back, unless they are hidden.
use Rattle.std.specs.Prelude.{◌≡◌, ℕ, List, [], ◌∷◌, ◌++◌, Option, None, Some, MatchOption, IfSome}
use Rattle.load_io.specs.Calls.{Calls}

module _ {L : Type 0} where
  -- the first link to come came in; hidden ones stay hidden
  abbrev pub Brings : Option (List L) → Option (List L) → L → Type 0
  Brings old new link = MatchOption old (new ≡ None) (λ coming. (rest : List L) × (coming ≡ link ∷ rest) × (new ≡ Some rest))

  -- no link is to come
  abbrev pub NoneComes : Option (List L) → Type 0
  NoneComes coming = IfSome coming (λ links. links ≡ [])

  -- the link was handed back, behind those before it; hidden ones stay hidden
  abbrev pub HandsBack : Option (List L) → Option (List L) → L → Type 0
  HandsBack old new link = MatchOption old (new ≡ None) (λ back. new ≡ Some (back ++ link ∷ []))

-- the links of a door in memory: those to come, those handed back, and how many are between
pub record Queue (L : Type 0) : Type 0 where
  pub coming : List L
  pub back : List L
  pub lent : ℕ

-- a door in memory
pub record Doorway (L : Type 0) : Type 0 where
  pub links : Queue L
  pub calls : Calls

-- no link has come yet
abbrev pub queue_of : {L : Type 0} → List L → Queue L
queue_of links = record { coming = links; back = []; lent = 0 }
