-- What the arguments name that is made before a run.
use Rattle.std.proofs.Common.{◌≡◌, ◌≢◌, ℕ, List, Option, refl, sym, ap, ◌∙◌, subst, arith}
use Rattle.std.specs.Prelude.{None, Some, IfSome, IfNone, IsSomeAnd, codes, ◌∷◌}
use Rattle.std.specs.List.{slice_get}
use Rattle.plan_commands.specs.Arguments.{Job, IsCommand}
use Rattle.loadctl.specs.Serve.{AskForNoServe, KeepIn}
use Rattle.loadctl.specs.Serve.KeepIn.{one_desk, several}
use Rattle.loadctl.specs.Asked.{AskForDeskOver, AskForServeOver}
use Rattle.loadctl.specs.Needs.{AskForNothing, AreNeeded}
use Rattle.loadctl.proofs.AskedLemmas.{command-no_desk, command-no_serve, desk-no_serve, one-store, one-store-served}
use Rattle.loadctl.proofs.ServeLemmas.{one_serve}

second : (xs : List (List ℕ)) (a b : List ℕ) (rest : List (List ℕ)) (P : List ℕ → Type 0) → xs ≡ a ∷ b ∷ rest → P b → IsSomeAnd (slice_get xs 1) P
second xs a b rest P e held = subst (λ ys. IsSomeAnd (slice_get ys 1) P) (sym e) held

fourth : (xs : List (List ℕ)) (a b c d : List ℕ) (rest : List (List ℕ)) (P : List ℕ → Type 0) → xs ≡ a ∷ b ∷ c ∷ d ∷ rest → P d → IsSomeAnd (slice_get xs 3) P
fourth xs a b c d rest P e held = subst (λ ys. IsSomeAnd (slice_get ys 3) P) (sym e) held

module _ (arguments : List (List ℕ)) where
  -- what arguments need that ask for no door
  without_doors : (store : Option ℕ) → AskForNoServe arguments → IfSome store (λ place. IsSomeAnd (slice_get arguments place) (KeepIn arguments))
      → IfNone store ((file : List ℕ) → KeepIn arguments file → ⊥) → AreNeeded arguments 0 0 store
  without_doors store unasked some none =
      record {
        desks = λ n p names asked. absurd (unasked n p names asked);
        no_desks = λ _. (refl, refl);
        last = omega arith;
        some = some;
        none = none;
      }

  nothing-kept : AskForNothing arguments → (file : List ℕ) → KeepIn arguments file → ⊥
  nothing-kept nothing file (one_desk asked) = nothing.no_desk asked.names asked.desk
  nothing-kept nothing file (several n p names asked same other) = nothing.no_desks n p names asked

  -- arguments that ask for nothing need nothing
  pub needed-nothing : AskForNothing arguments → AreNeeded arguments 0 0 None
  needed-nothing nothing = without_doors None nothing.no_desks tt (nothing-kept nothing)

  task-kept : (job : Job) → IsCommand arguments job → (file : List ℕ) → KeepIn arguments file → ⊥
  task-kept job command file (one_desk asked) = command-no_desk arguments job command asked.names asked.desk
  task-kept job command file (several n p names asked same other) = command-no_serve arguments job command n p names asked

  -- nor do those of a command about one task
  pub needed-task : (job : Job) → IsCommand arguments job → AreNeeded arguments 0 0 None
  needed-task job command = without_doors None (command-no_serve arguments job command) tt (task-kept job command)

  desk-kept : (name : List ℕ) (names : List (List ℕ)) → AskForDeskOver arguments name names → name ≡ codes ":memory:" → (file : List ℕ) → KeepIn arguments file → ⊥
  desk-kept name names is in_memory file (one_desk asked) =
      asked.not_in_memory (sym asked.same ∙ one-store arguments asked.names names asked.desk is.desk ∙ is.same ∙ in_memory)
  desk-kept name names is in_memory file (several n p others asked same other) = desk-no_serve arguments names is.desk n p others asked

  -- one desk needs the file of its store, if that is one
  pub needed-desk : (name : List ℕ) (names : List (List ℕ)) → AskForDeskOver arguments name names → (store : Option ℕ)
      → IfSome store (λ place. (place ≡ 1) × (name ≢ codes ":memory:")) → IfNone store (name ≡ codes ":memory:") → AreNeeded arguments 0 0 store
  needed-desk name names is None some none = without_doors None (desk-no_serve arguments names is.desk) tt (desk-kept name names is none)
  needed-desk name names is (Some place) some none =
      let kept : KeepIn arguments name = one_desk record { names = names; desk = is.desk; same = is.same; not_in_memory = some.1 } in
      let form = is.desk.form ∙ ap (λ s. codes "desk" ∷ s ∷ names) is.same in
      let held : IsSomeAnd (slice_get arguments 1) (KeepIn arguments) = second arguments _ name names (KeepIn arguments) form kept in
      without_doors (Some place) (desk-no_serve arguments names is.desk) (subst (λ at. IsSomeAnd (slice_get arguments at) (KeepIn arguments)) (sym some.0) held) tt

  serve-kept : (n p : ℕ) (name : List ℕ) (names : List (List ℕ)) → AskForServeOver arguments n p name names → name ≡ codes ":memory:" → (file : List ℕ)
      → KeepIn arguments file → ⊥
  serve-kept n p name names is in_memory file (one_desk asked) = desk-no_serve arguments asked.names asked.desk n p names is.serve
  serve-kept n p name names is in_memory file (several m q others asked same other) =
      other (sym same ∙ one-store-served arguments m q n p others names asked is.serve ∙ is.same ∙ in_memory)

  serve-place : (n p : ℕ) (name : List ℕ) (names : List (List ℕ)) → AskForServeOver arguments n p name names → (store : Option ℕ)
      → IfSome store (λ place. (place ≡ 3) × (name ≢ codes ":memory:")) → IfSome store (λ place. IsSomeAnd (slice_get arguments place) (KeepIn arguments))
  serve-place n p name names is None said = tt
  serve-place n p name names is (Some place) said =
      let kept : KeepIn arguments is.serve.store = several n p names is.serve refl (λ e. said.1 (sym is.same ∙ e)) in
      let held : IsSomeAnd (slice_get arguments 3) (KeepIn arguments) = fourth arguments _ _ _ is.serve.store names (KeepIn arguments) is.serve.form kept in
      subst (λ at. IsSomeAnd (slice_get arguments at) (KeepIn arguments)) (sym said.0) held

  serve-nowhere : (n p : ℕ) (name : List ℕ) (names : List (List ℕ)) → AskForServeOver arguments n p name names → (store : Option ℕ)
      → IfNone store (name ≡ codes ":memory:") → IfNone store ((file : List ℕ) → KeepIn arguments file → ⊥)
  serve-nowhere n p name names is None said = serve-kept n p name names is said
  serve-nowhere n p name names is (Some place) said = tt

  -- several desks need their doors too
  pub needed-serve : (n p : ℕ) (name : List ℕ) (names : List (List ℕ)) → AskForServeOver arguments n p name names → (store : Option ℕ)
      → IfSome store (λ place. (place ≡ 3) × (name ≢ codes ":memory:")) → IfNone store (name ≡ codes ":memory:") → AreNeeded arguments n p store
  needed-serve n p name names is store some none =
      record {
        desks = λ m q others other. one_serve arguments n m p q names others is.serve other;
        no_desks = λ unasked. absurd (unasked n p names is.serve);
        last = is.serve.last;
        some = serve-place n p name names is store some;
        none = serve-nowhere n p name names is store none;
      }
