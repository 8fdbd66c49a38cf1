-- a name means the first position that has it
use Rattle.std.proofs.Common.{◌≡◌, ◌≢◌, ℕ, ◌<◌, true, false, List, [], ◌∷◌, length, take, get_or, Option, Some, None, IfSome, IfNone, Bool, not, option_map, refl, sym, ap, ◌∙◌, arith}
use Rattle.std.specs.Prelude.{bytes_eq}
use Rattle.std.proofs.lemmas.Bool.{true≢false}
use Rattle.std.proofs.lemmas.List.{get_or-take, length-take-le}
use Rattle.std.proofs.lemmas.List.Quantifiers.{position-Some}
use Rattle.std.proofs.lemmas.Option.{slice_get-get_or, same_Some, none-some}
use Rattle.std.proofs.lemmas.Slice.Eq.{bytes_eq-Decides}
use Rattle.hold_parts.specs.declared.parts.Position.{Position}
use Rattle.hold_limits.proofs.FaultLemmas.{position-none}
use Rattle.text_lines.specs.Names.{IsNamed}
use Rattle.hold_limits.specs.Layout.{name_at}
use Rattle.text_lines.specs.Names.{byte_of}
pub use Rattle.text_lines.specs.SpelledWords.{some_position, name_at-is, name_at-avoids}
use Rattle.hold_parts.specs.Names.{number_named}

-- an earlier position has another name
earlier_differs : (ps : List Position) (p q : ℕ) → p < q → IsNamed ps q → name_at ps p ≢ name_at ps q
earlier_differs ps p q less named e =
    let within : p < length ps = omega (arith, named.known) in
    let short : p < length (take q ps) = rw (length-take-le q ps (omega (arith, named.known))) less in
    let there : (get_or (take q ps) p some_position).name ≡ name_at ps p = ap (λ (x : Position). x.name) (get_or-take q ps p some_position less) ∙ sym (name_at-is ps p some_position within) in
    named.first p some_position short (there ∙ e)

pub named_once : (ps : List Position) (p q : ℕ) → IsNamed ps p → IsNamed ps q → name_at ps p ≡ name_at ps q → p ≡ q
named_once ps p q s t e =
    let up : p < q → ⊥ = λ less. earlier_differs ps p q less t e in
    let down : q < p → ⊥ = λ less. earlier_differs ps q p less s (sym e) in
    omega (arith, up, down)

-- the default for a missing element does not matter where there is an element
same_default : (ps : List Position) (k : ℕ) (d : Position) → k < length ps → get_or ps k d ≡ get_or ps k some_position
same_default ps k d within = same_Some _ _ (sym (slice_get-get_or ps k d within) ∙ slice_get-get_or ps k some_position within)

same_true : (a b : List ℕ) → bytes_eq a b ≡ true → a ≡ b
same_true a b h = (bytes_eq-Decides a b).0 h

pub differ : (a b : List ℕ) (unequal : Bool) → unequal ≡ true → unequal ≡ not (bytes_eq a b) → a ≢ b
differ a b unequal holds is e = true≢false (sym holds ∙ is ∙ ap not ((bytes_eq-Decides a b).1 e))

pub number_named-found : (ps : List Position) (name : List ℕ) (q : ℕ) → number_named ps name ≡ Some q → IsNamed ps q × (name ≡ name_at ps q)
unfolding number_named
number_named-found ps name q e =
    let p = λ (p : Position). bytes_eq p.name name in
    let at = position-Some p ps q some_position e in
    let here : (get_or ps q some_position).name ≡ name = same_true _ _ at.1 in
    let is : name_at ps q ≡ name = name_at-is ps q some_position at.0 ∙ here in (
      record {
        known = at.0;
        first = λ k d l.
            let less : k < q = omega (arith, l, length-take-le q ps (omega (arith, at.0))) in
            let kept = ap (λ (x : Position). x.name) (get_or-take q ps k d less ∙ same_default ps k d (omega (arith, at.0))) in
            λ same. true≢false (sym ((bytes_eq-Decides (get_or ps k some_position).name name).1 (sym kept ∙ same ∙ is)) ∙ at.2 k less);
      },
      sym is,
    )

pub number_named-none : (ps : List Position) (name : List ℕ) → number_named ps name ≡ None → (q : ℕ) → IsNamed ps q → name ≢ name_at ps q
unfolding number_named
number_named-none ps name e q named same =
    let p = λ (p : Position). bytes_eq p.name name in
    let no : bytes_eq (get_or ps q some_position).name name ≡ false = position-none p ps e q some_position named.known in
    true≢false (sym ((bytes_eq-Decides (get_or ps q some_position).name name).1 (sym (name_at-is ps q some_position named.known) ∙ sym same)) ∙ no)

pub none_if : {X : Type 0} (r : Option X) (P : Type 0) → P → IfNone r P
none_if None P h = h
none_if (Some x) P h = tt

-- where each value that may be meant would have been found, None says that there is none
pub none_unless : {X : Type 0} {P Q : X → Type 0} (r : Option X) → ((x : X) → P x → Q x → r ≡ Some x) → IfNone r ((x : X) → P x → Q x → ⊥)
none_unless None f = λ x p q. none-some x (f x p q)
none_unless (Some y) f = tt

pub none_then : {X P Q : Type 0} (r : Option X) → (P → Q) → IfNone r P → IfNone r Q
none_then None f none = f none
none_then (Some x) f none = tt

pub length-zero : {X : Type 0} (xs : List X) → length xs ≡ 0 → xs ≡ []
length-zero [] e = refl
length-zero (x ∷ xs) e = absurd (omega arith)

-- what the table returns, from what it contains
number_found : (ps : List Position) (name : List ℕ) (r o : Option ℕ) → number_named ps name ≡ o → r ≡ option_map byte_of o → IfSome r (λ q. (number : ℕ) × IsNamed ps number × (name ≡ name_at ps number) × (q ≡ byte_of number))
number_found ps name r None e h = rw h tt
number_found ps name r (Some q) e h = let there = number_named-found ps name q e in rw h (q, there.0, there.1, refl)

pub table-found : (ps : List Position) (name : List ℕ) (r : Option ℕ) → r ≡ option_map byte_of (number_named ps name) → IfSome r (λ q. (number : ℕ) × IsNamed ps number × (name ≡ name_at ps number) × (q ≡ byte_of number))
table-found ps name r h = number_found ps name r (number_named ps name) refl h

number_none : (ps : List Position) (name : List ℕ) (r o : Option ℕ) → number_named ps name ≡ o → r ≡ option_map byte_of o → IfNone r ((number : ℕ) → IsNamed ps number → name ≢ name_at ps number)
number_none ps name r None e h = rw h (number_named-none ps name e)
number_none ps name r (Some q) e h = rw h tt

pub table-none : (ps : List Position) (name : List ℕ) (r : Option ℕ) → r ≡ option_map byte_of (number_named ps name) → IfNone r ((number : ℕ) → IsNamed ps number → name ≢ name_at ps number)
table-none ps name r h = number_none ps name r (number_named ps name) refl h
