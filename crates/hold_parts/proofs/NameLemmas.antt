-- the table of names, one position further
use Rattle.std.proofs.Common.{◌≡◌, ℕ, ◌+◌, ◌<◌, ◌≤◌, true, false, List, [], ◌∷◌, ◌++◌, length, take, get_or, Option, Some, None, Bool, not, is_some, cond, refl, sym, ap, ◌∙◌, arith}
use Rattle.std.specs.Prelude.{position, bytes_eq}
use Rattle.std.specs.List.{position_or_len}
use Rattle.std.specs.Option.{option_or}
use Rattle.std.proofs.lemmas.Bool.{true≢false}
use Rattle.std.proofs.lemmas.Grind.{common_steps}
use Rattle.std.proofs.lemmas.List.{length-append, length-take-le, take_more}
use Rattle.std.proofs.lemmas.List.Folds.{position_or_len_push}
use Rattle.std.proofs.lemmas.List.Sums.{prefix_len-le-length}
use Rattle.std.proofs.lemmas.Slice.Eq.{bytes_eq-Decides}
use Rattle.hold_parts.specs.declared.parts.Position.{Position}
use Rattle.hold_parts.specs.Names.{number_named}

position-push : (p : Position → Bool) (xs : List Position) (y : Position) (i : ℕ) → length xs ≡ i → position_or_len p xs ≤ length xs → position p (xs ++ y ∷ []) ≡ option_or (position p xs) (cond (p y) (Some i) None)
position-push p xs y i long few = grind (arith, common_steps, position_or_len_push, length-append, few)

number_named-more : (ps : List Position) (i : ℕ) (d : Position) (name : List ℕ) → i < length ps → number_named (take (i + 1) ps) name ≡ option_or (number_named (take i ps) name) (cond (bytes_eq (get_or ps i d).name name) (Some i) None)
unfolding number_named
number_named-more ps i d name within =
    let p : Position → Bool = λ (p : Position). bytes_eq p.name name in
    let long : length (take i ps) ≡ i = length-take-le i ps (omega arith) in
    let few : position_or_len p (take i ps) ≤ length (take i ps) = prefix_len-le-length (λ x. not (p x)) (take i ps) in
    rw (take_more ps i d within) (position-push p (take i ps) (get_or ps i d) i long few)

same_true : (a b : List ℕ) → bytes_eq a b ≡ true → a ≡ b
same_true a b h = (bytes_eq-Decides a b).0 h

put_new : (found : Option ℕ) (same : Bool) (i : ℕ) → (same ≡ true → found ≡ None) → cond same (Some i) found ≡ option_or found (cond same (Some i) None)
put_new found true i none = rw (none refl) refl
put_new None false i none = refl
put_new (Some q) false i none = refl

kept_old : (found : Option ℕ) (same : Bool) (i : ℕ) → (same ≡ true → is_some found ≡ true) → found ≡ option_or found (cond same (Some i) None)
kept_old None true i some = absurd (true≢false (sym (some refl)))
kept_old (Some q) true i some = refl
kept_old None false i some = refl
kept_old (Some q) false i some = refl

none_from : (o : Option ℕ) → is_some o ≡ false → o ≡ None
none_from None e = refl
none_from (Some q) e = absurd (true≢false e)

-- the name is new
pub table-more : (ps : List Position) (i : ℕ) (d : Position) (bs name : List ℕ) (known m : Option ℕ) → i < length ps → bs ≡ (get_or ps i d).name → known ≡ number_named (take i ps) bs → is_some known ≡ false → m ≡ number_named (take i ps) name → cond (bytes_eq bs name) (Some i) m ≡ number_named (take (i + 1) ps) name
table-more ps i d bs name known m within here old none e =
    let absent : number_named (take i ps) bs ≡ None = sym old ∙ none_from known none in
    let step = put_new (number_named (take i ps) name) (bytes_eq bs name) i (λ same. ap (number_named (take i ps)) (sym (same_true bs name same)) ∙ absent) in
    ap (λ o. cond (bytes_eq bs name) (Some i) o) e ∙ step ∙ ap (λ n. option_or (number_named (take i ps) name) (cond (bytes_eq n name) (Some i) None)) here ∙ sym (number_named-more ps i d name within)

-- an earlier position has it
pub table-same : (ps : List Position) (i : ℕ) (d : Position) (bs name : List ℕ) (known m : Option ℕ) → i < length ps → bs ≡ (get_or ps i d).name → known ≡ number_named (take i ps) bs → is_some known ≡ true → m ≡ number_named (take i ps) name → m ≡ number_named (take (i + 1) ps) name
table-same ps i d bs name known m within here old some e =
    let there : is_some (number_named (take i ps) bs) ≡ true = ap is_some (sym old) ∙ some in
    let step = kept_old (number_named (take i ps) name) (bytes_eq bs name) i (λ same. ap (λ n. is_some (number_named (take i ps) n)) (sym (same_true bs name same)) ∙ there) in
    e ∙ step ∙ ap (λ n. option_or (number_named (take i ps) name) (cond (bytes_eq n name) (Some i) None)) here ∙ sym (number_named-more ps i d name within)
