-- Histories: lists of entries, each entry made by one desk. Desks have numbers from 1.
use Rattle.std.specs.Prelude.{◌≡◌, ◌≢◌, ◌==◌, ◌<◌, ◌≤◌, ℕ, List, [], ◌∷◌, ◌++◌, All}
use Rattle.std.specs.List.{filter}

module _ {E : Type 0} (desk_of : E → ℕ) where
  -- the entries of the desk n
  abbrev pub own : ℕ → List E → List E
  own n entries = filter (λ e. desk_of e == n) entries

  -- each entry is that of one of n desks
  abbrev pub AreOfDesks : ℕ → List E → Type 0
  AreOfDesks n entries = All (λ e. (0 < desk_of e) × (desk_of e ≤ n)) entries

  -- the history is what the desk n has seen, and then entries of other desks alone
  pub record Continues (n : ℕ) (seen history : List E) : Type 0 where
    pub rest : List E
    pub is : history ≡ seen ++ rest
    pub others : All (λ e. desk_of e ≢ n) rest

module _ {E G Q R : Type 0} (desk_of : E → ℕ) (fits : G → List E → ℕ → Q → E → R → Type 0) where
  -- a turn of the desk n: one entry is appended, which is the desk's own; and request, entry and reply fit the
  -- history before
  pub record IsTurn (setting : G) (before after : List E) (n : ℕ) (request : Q) (reply : R) : Type 0 where
    pub entry : E
    pub appended : after ≡ before ++ entry ∷ []
    pub by : desk_of entry ≡ n
    pub fit : fits setting before n request entry reply
