-- what is read as a key is the text itself
use Rattle.std.proofs.Common.{◌≡◌, ℕ, List, Bool, true, false, Option, Some, None, refl}
use Rattle.std.specs.Prelude.{if◌then◌else◌, IfSome}

pub read-text : (spelled : Bool) (text : List ℕ) (read : Option (List ℕ)) → read ≡ (if spelled then Some text else None) → IfSome read (λ key. key ≡ text)
read-text true text read e = rw e refl
read-text false text read e = rw e tt

pub read-spelled : (spelled : Bool) (text : List ℕ) (read : Option (List ℕ)) → read ≡ (if spelled then Some text else None) → IfSome read (λ _. spelled ≡ true)
read-spelled true text read e = rw e refl
read-spelled false text read e = rw e tt
