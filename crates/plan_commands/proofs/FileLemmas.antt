-- What is read from files.
use Rattle.std.proofs.Common.{◌≡◌, ℕ, ◌<◌, List, length, Option, Some, None, Result, Ok, Err, sym, subst}
use Rattle.std.specs.Option.{IsSomeAnd}
use Rattle.std.specs.Result.{IfErr, IsErrAnd}
use Rattle.plan_commands.specs.declared.ending.Halt.{Halt}
use Rattle.plan_commands.specs.declared.ending.Halt.TheVariants.{BadInput, ReadFault, NoMemory}
use Rattle.plan_commands.specs.Halts.{IfBadInput}
use Rattle.std.specs.Prelude.{IfSome}
use Rattle.load_io.specs.Shelf.{Files, HasMoreThan}
use Rattle.hold_limits.specs.Problem.{Problem}
use Rattle.plan_answers.specs.ReplyText.{long_text}
use Rattle.plan_answers.specs.Limits.{longest_task, longest_certificate, longest_priced}
use Rattle.plan_commands.specs.Reply.{IsRefusal, Holds}
use Rattle.plan_answers.specs.NearReply.{IsCertificateRefusal}
use Rattle.plan_answers.specs.PricedReply.{IsPricedRefusal}
use Rattle.plan_answers.specs.PricedReply.IsPricedRefusal.{too_long as prices_too_long}
use Rattle.plan_answers.specs.StopReply.{IsStopRefusal}
use Rattle.plan_answers.specs.StopReply.IsStopRefusal.{too_long as stops_too_long}
use Rattle.plan_answers.specs.TreeReply.{IsTreeRefusal}
use Rattle.plan_answers.specs.Kinds.{BeginsWithCuts}
use Rattle.plan_answers.specs.AnyReply.{IsAnyRefusal}
use Rattle.plan_answers.specs.AnyReply.IsAnyRefusal.{too_long as any_too_long, no_cuts, no_trees}
use Rattle.plan_commands.specs.Reply.IsRefusal.{too_long as task_too_long}
use Rattle.plan_answers.specs.NearReply.IsCertificateRefusal.{too_long as certificate_too_long}

longer : (file : Option (List ℕ)) (most : ℕ) (P : List ℕ → Type 0) → IsSomeAnd file (λ bytes. most < length bytes)
    → ((bytes : List ℕ) → most < length bytes → P bytes) → IsSomeAnd file P
longer None most P long each = absurd long
longer (Some bytes) most P long each = each bytes long

-- what holds of every list of bytes that is too long holds of the file
pub Holds-from_long : (exposed : Option Files) (name : List ℕ) (most : ℕ) (P : List ℕ → Type 0) → HasMoreThan exposed name most
    → ((bytes : List ℕ) → most < length bytes → P bytes) → IfSome exposed (λ files. Holds files name P)
Holds-from_long None name most P long each = tt
Holds-from_long (Some files) name most P long each = longer (files name) most P long each

pub long-refused : (line bytes : List ℕ) → line ≡ long_text → longest_task < length bytes → IsRefusal bytes line
long-refused line bytes is long = subst (IsRefusal bytes) (sym is) (task_too_long long)

pub long-certificate-refused : (t : Problem) (line bytes : List ℕ) → line ≡ long_text → longest_certificate < length bytes → IsCertificateRefusal t bytes line
long-certificate-refused t line bytes is long = subst (IsCertificateRefusal t bytes) (sym is) (certificate_too_long long)

pub long-any-refused : (t : Problem) (line bytes : List ℕ) → line ≡ long_text → longest_certificate < length bytes → IsAnyRefusal t bytes line
long-any-refused t line bytes is long = subst (IsAnyRefusal t bytes) (sym is) (any_too_long long)

pub long-prices-refused : (t : Problem) (line bytes : List ℕ) → line ≡ long_text → longest_priced < length bytes → IsPricedRefusal t bytes line
long-prices-refused t line bytes is long = subst (IsPricedRefusal t bytes) (sym is) (prices_too_long long)

pub long-stops-refused : (line bytes : List ℕ) → line ≡ long_text → longest_task < length bytes → IsStopRefusal bytes line
long-stops-refused line bytes is long = subst (IsStopRefusal bytes) (sym is) (stops_too_long long)

-- what holds of the error that `?` returns
pub IfErr-from_residual : {X E : Type 0} (r : Result X E) (e : E) (P : E → Type 0) → IsErrAnd r (λ x. x ≡ e) → P e → IfErr r P
IfErr-from_residual (Ok x) e P is holds = tt
IfErr-from_residual (Err x) e P is holds = subst P (sym is) holds

pub IfErr-weaker : {X E : Type 0} (r : Result X E) (P Q : E → Type 0) → ((e : E) → P e → Q e) → IfErr r P → IfErr r Q
IfErr-weaker (Ok x) P Q then holds = tt
IfErr-weaker (Err e) P Q then holds = then e holds

-- the refusal of a file that is too long
pub long-halt : (halt : Halt) (exposed : Option Files) (name : List ℕ) (most : ℕ) (P : List ℕ → List ℕ → Type 0) → IfBadInput halt (λ _. HasMoreThan exposed name most)
    → IfBadInput halt (λ line. line ≡ long_text) → ((line bytes : List ℕ) → line ≡ long_text → most < length bytes → P line bytes)
    → IfBadInput halt (λ line. IfSome exposed (λ files. Holds files name (P line)))
long-halt (BadInput text) exposed name most P long is each = Holds-from_long exposed name most (P text.items) long (λ bytes more. each text.items bytes is more)
long-halt ReadFault exposed name most P long is each = tt
long-halt NoMemory exposed name most P long is each = tt

-- Certificates of either kind -------------------------------------------------------------------

pub cuts-halt : (t : Problem) (bytes : List ℕ) (halt : Halt) → BeginsWithCuts bytes → IfBadInput halt (IsCertificateRefusal t bytes) → IfBadInput halt (IsAnyRefusal t bytes)
cuts-halt t bytes (BadInput line) begins refusal = no_cuts line.items begins refusal
cuts-halt t bytes ReadFault begins refusal = tt
cuts-halt t bytes NoMemory begins refusal = tt

pub trees-halt : (t : Problem) (bytes : List ℕ) (halt : Halt) → (BeginsWithCuts bytes → ⊥) → IfBadInput halt (IsTreeRefusal t bytes) → IfBadInput halt (IsAnyRefusal t bytes)
trees-halt t bytes (BadInput line) none refusal = no_trees line.items none refusal
trees-halt t bytes ReadFault none refusal = tt
trees-halt t bytes NoMemory none refusal = tt
