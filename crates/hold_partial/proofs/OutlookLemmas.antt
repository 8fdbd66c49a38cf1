-- what follows of the next container on an open position
use Rattle.std.proofs.Common.{◌≡◌, ℕ, true, false, refl, sym, Option, List, [], ◌∷◌, ◌++◌, length, Some, None}
use Rattle.std.proofs.lemmas.Bool.{false≢true}
use Rattle.std.specs.Prelude.{is_some, slice_get}
use Rattle.hold_parts.specs.declared.parts.Item.{Item}
use Rattle.hold_limits.specs.BranchOrder.{ordered}
use Rattle.hold_limits.specs.Placement.{IsSound}
use Rattle.hold_limits.specs.Problem.{Problem}
use Rattle.hold_limits.specs.Twins.{IsRising}
use Rattle.hold_reach.specs.Reach.{is_open, IsViable}
use Rattle.hold_reach.specs.Rules.{limit_broken}
use Rattle.hold_reach.proofs.ChoiceLemmas.{falls-not, is_open-Decides}
use Rattle.hold_reach.proofs.RuleLemmas.{IsSound-last, IsSound-push, limit_broken-none}
use Rattle.hold_reach.proofs.ViableLemmas.{IsRising-last, IsRising-next}

pub sound-where_open : (t : Problem) (prefix : List ℕ) (item : Item) (q : ℕ) → slice_get (ordered t.items) (length prefix) ≡ Some item → IsSound t prefix → is_open t prefix item q ≡ true
    → limit_broken t (prefix ++ q ∷ []) ≡ None → IsSound t (prefix ++ q ∷ [])
sound-where_open t prefix item q next sound open_now none =
    let is = (is_open-Decides t prefix item q).0 open_now in
    IsSound-push t prefix item q next sound record {
      accepted = is.free.accepted;
      unused = is.free.unused;
      compatible = is.free.compatible;
      limits = (limit_broken-none t (prefix ++ q ∷ [])).0 none;
    }

pub rising-where_open : (t : Problem) (prefix : List ℕ) (item : Item) (q : ℕ) → slice_get (ordered t.items) (length prefix) ≡ Some item → IsRising t prefix → is_open t prefix item q ≡ true
    → IsRising t (prefix ++ q ∷ [])
rising-where_open t prefix item q next rising open_now =
    let is = (is_open-Decides t prefix item q).0 open_now in
    (IsRising-next t prefix item q rising next).0 ((falls-not t prefix item q).1 is.above_twins)

pub open-where_viable : (t : Problem) (prefix : List ℕ) (item : Item) (q : ℕ) → slice_get (ordered t.items) (length prefix) ≡ Some item → IsViable t (prefix ++ q ∷ []) → is_open t prefix item q ≡ true
open-where_viable t prefix item q next viable =
    let more = IsSound-last t prefix item q next viable.sound in
    (is_open-Decides t prefix item q).1 record {
      free = record { accepted = more.accepted; unused = more.unused; compatible = more.compatible };
      above_twins = IsRising-last t prefix item q next viable.rising;
    }

pub unbroken-where_sound : (t : Problem) (prefix : List ℕ) (item : Item) (q : ℕ) → slice_get (ordered t.items) (length prefix) ≡ Some item → IsSound t (prefix ++ q ∷ []) → limit_broken t (prefix ++ q ∷ []) ≡ None
unbroken-where_sound t prefix item q next sound = (limit_broken-none t (prefix ++ q ∷ [])).1 (IsSound-last t prefix item q next sound).limits

pub none-where_not_some : {X : Type 0} (o : Option X) → is_some o ≡ false → o ≡ None
none-where_not_some None is = refl
none-where_not_some (Some x) is = absurd (false≢true (sym is))
