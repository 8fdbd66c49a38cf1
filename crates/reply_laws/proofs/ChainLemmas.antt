-- tests in a row, of which the first that fails is found
use Rattle.std.proofs.Common.{◌≡◌, Option, None, Some}
use Rattle.std.specs.Prelude.{IfSome, IsSomeAnd}

-- at most one value
abbrev pub IsOnce : {V : Type 0} → (V → Type 0) → Type 0
IsOnce {V} R = (v w : V) → R v → R w → v ≡ w

-- what is there is one value
pub same-some : {X : Type 0} (o : Option X) (x y : X) → o ≡ Some x → o ≡ Some y → x ≡ y
same-some o x y one other = cc

-- a test fails and finds a value, or it is passed and what comes after it finds one
pub data Then {V : Type 0} (Fails : V → Type 0) (Passed : Type 0) (Later : V → Type 0) (v : V) : Type 0 where
  found : Fails v → Then Fails Passed Later v
  passed : Passed → Later v → Then Fails Passed Later v

pub then-once : {V : Type 0} (Fails : V → Type 0) (Passed : Type 0) (Later : V → Type 0) → IsOnce Fails → ((v : V) → Fails v → Passed → ⊥) → IsOnce Later → IsOnce (Then Fails Passed Later)
then-once Fails Passed Later one apart later v w (found h) (found g) = one v w h g
then-once Fails Passed Later one apart later v w (found h) (passed p g) = absurd (apart v h p)
then-once Fails Passed Later one apart later v w (passed p h) (found g) = absurd (apart w g p)
then-once Fails Passed Later one apart later v w (passed p h) (passed q g) = later v w h g

-- what is said of the value that is there, where something else is known of it
pub some-once : {X V : Type 0} (Known : X → Type 0) (R : X → V → Type 0) → ((x : X) → Known x → IsOnce (R x)) → (o : Option X) → IfSome o Known → IsOnce (λ (v : V). IsSomeAnd o (λ x. R x v))
some-once Known R one None known v w h g = absurd h
some-once Known R one (Some x) known v w h g = one x known v w h g
