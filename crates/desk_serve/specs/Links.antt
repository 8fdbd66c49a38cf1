-- what a door does to its links, many at once, unless they are hidden
use Rattle.std.specs.Prelude.{◌≡◌, List, ◌++◌, Option, None, Some, MatchOption}

module _ {L : Type 0} where
  -- the links to come began with these, which came in; hidden ones stay hidden
  abbrev pub BringsAll : Option (List L) → Option (List L) → List L → Type 0
  BringsAll old new links = MatchOption old (new ≡ None) (λ coming. (rest : List L) × (coming ≡ links ++ rest) × (new ≡ Some rest))

  -- these links were handed back, behind those before them; hidden ones stay hidden
  abbrev pub HandsAllBack : Option (List L) → Option (List L) → List L → Type 0
  HandsAllBack old new links = MatchOption old (new ≡ None) (λ back. new ≡ Some (back ++ links))
