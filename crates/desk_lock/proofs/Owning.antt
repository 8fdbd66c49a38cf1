-- A desk's own entries, in what it has seen and in the history that continues it.
use Rattle.std.proofs.Common.{◌≡◌, ◌≢◌, ◌==◌, ℕ, List, [], ◌∷◌, ◌++◌, true, false, refl, ap, ap₂, ◌∙◌, subst, arith, append-nil}
use Rattle.std.specs.List.{All}
use Rattle.std.proofs.lemmas.Bool.Decides.{nat_tests}
use Rattle.std.proofs.lemmas.List.Elements.{All-head, All-tail, filter-append}
use Rattle.desk_lock.specs.Histories.{own, Continues, IsTurn}
use Rattle.desk_lock.specs.Desks.{IsAnswered}

module _ {E : Type 0} (desk_of : E → ℕ) (n : ℕ) where
  -- other desks' entries are not its own
  pub own-others : (xs : List E) → All (λ e. desk_of e ≢ n) xs → own desk_of n xs ≡ []
  own-others [] others = refl
  own-others (x ∷ xs) others =
      let other = All-head (λ e. desk_of e ≢ n) x xs others in
      let not_own : (desk_of x == n) ≡ false = grind (arith, nat_tests) in
      rw not_own (own-others xs (All-tail (λ e. desk_of e ≢ n) x xs others))

  -- with other desks' entries behind, its own are the same
  own-before_others : (seen rest : List E) → All (λ e. desk_of e ≢ n) rest → own desk_of n (seen ++ rest) ≡ own desk_of n seen
  own-before_others seen rest others =
      filter-append (λ e. desk_of e == n) seen rest
      ∙ (ap (λ xs. own desk_of n seen ++ xs) (own-others rest others) ∙ append-nil (own desk_of n seen))

  -- the history that continues what the desk has seen has the desk's own entries alone
  pub own-Continues : (seen history : List E) → Continues desk_of n seen history → own desk_of n history ≡ own desk_of n seen
  own-Continues seen history c = ap (own desk_of n) c.is ∙ own-before_others seen c.rest c.others

  own-one : (e : E) → desk_of e ≡ n → own desk_of n (e ∷ []) ≡ e ∷ []
  own-one e by = let is_own : (desk_of e == n) ≡ true = grind (arith, nat_tests) in rw is_own refl

module _ {E G Q R : Type 0} (desk_of : E → ℕ) (fits : G → List E → ℕ → Q → E → R → Type 0) where
  -- a turn after what the desk had seen and other desks' entries is an answered call
  pub answered : (setting : G) (n : ℕ) (request : Q) (reply : R) (seen before after : List E)
      → Continues desk_of n seen before → IsTurn desk_of fits setting before after n request reply
      → IsAnswered desk_of fits setting n request reply seen after
  answered setting n request reply seen before after c turn = record {
    between = c.rest;
    others = c.others;
    turn = record {
      entry = turn.entry;
      appended = turn.appended ∙ ap (λ xs. xs ++ turn.entry ∷ []) c.is;
      by = turn.by;
      fit = subst (λ b. fits setting b n request turn.entry reply) c.is turn.fit;
    };
    grown =
        ap (own desk_of n) turn.appended
        ∙ (filter-append (λ e. desk_of e == n) before (turn.entry ∷ [])
        ∙ ap₂ (λ xs ys. xs ++ ys) (own-Continues desk_of n seen before c) (own-one desk_of n turn.entry turn.by));
  }
