-- The least machine: it keeps what it was asked, and by whom.
use Rattle.std.specs.Prelude.{◌≡◌, ◌+◌, ℕ, List, length}
use Rattle.std.proofs.Common.{refl, ◌∙◌}
use Rattle.desk_lock.specs.declared.tally.Tally.{Tally}
use Rattle.desk_lock.specs.declared.tally.TallyEntry.{TallyEntry}

abbrev pub entries : Tally → List TallyEntry
entries t = t.entries.items

-- how many more entries there is room for
abbrev pub room : Tally → ℕ
room t = t.room

-- what it has beside its entries is less by as many as were added
abbrev pub IsLater : Tally → Tally → Type 0
IsLater old new = length (entries new) + room new ≡ length (entries old) + room old

pub is_later_itself : (tally : Tally) → IsLater tally tally
is_later_itself tally = refl

pub is_later_on : (first next last : Tally) → IsLater first next → IsLater next last → IsLater first last
is_later_on first next last early late = late ∙ early

-- the entry is the desk's request, and the reply is its place, counted from 1
abbrev pub IsCounted : Unit {0} → List TallyEntry → ℕ → ℕ → TallyEntry → ℕ → Type 0
IsCounted setting before desk request entry reply =
    (entry.desk ≡ desk) × (entry.request ≡ request) × (reply ≡ length before + 1)
