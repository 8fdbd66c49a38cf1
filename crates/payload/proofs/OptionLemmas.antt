-- `map` over what a search found, where both are known by the values that references point to
use Rattle.std.proofs.Common.{◌≡◌, Option, Some, None, option_map, MatchOption, IsSomeAnd, ap, ◌∙◌}

-- what `map` made of a search's answer is what the found value gives
pub option_map-from_map : {A B C : Type 0} (Post : A → C → Type 0) (v : A → B) (g : B → C) (r : Option A) (m : Option C) (found : Option B)
    → option_map v r ≡ found → MatchOption r (m ≡ None) (λ x. IsSomeAnd m (Post x))
    → ((x : A) (y : C) → Post x y → y ≡ g (v x)) → m ≡ option_map g found
option_map-from_map Post v g None m found e h says = h ∙ ap (option_map g) e
option_map-from_map Post v g (Some x) None found e h says = absurd h
option_map-from_map Post v g (Some x) (Some y) found e h says = ap Some (says x y h) ∙ ap (option_map g) e
