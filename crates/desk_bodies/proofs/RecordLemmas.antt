-- the fields of a record, and records of containers
use Rattle.std.proofs.Common.{◌≡◌, ◌∙◌, ℕ, List, [], ◌∷◌, ◌++◌, map, Some, None, refl, sym, ap, append_assoc, All}
use Rattle.std.proofs.lemmas.List.{map-append}
use Rattle.std.proofs.lemmas.Option.{same_Some}
use Rattle.std.proofs.lemmas.List.Elements.{All-head, All-tail}
use Rattle.csv.specs.Records.{field_at}

-- a list with these two fields and no third
pub two_fields : (fields : List (List ℕ)) (a b : List ℕ) → Some a ≡ field_at fields 0 → Some b ≡ field_at fields 1 → None ≡ field_at fields 2 → fields ≡ a ∷ b ∷ []
unfolding field_at
two_fields [] a b first second third = absurd (cc first)
two_fields (x ∷ []) a b first second third = absurd (cc second)
two_fields (x ∷ y ∷ []) a b first second third = rw (same_Some a x first, same_Some b y second) refl
two_fields (x ∷ y ∷ z ∷ more) a b first second third = absurd (cc third)

pub no_first : (fields : List (List ℕ)) (a b : List ℕ) → None ≡ field_at fields 0 → fields ≡ a ∷ b ∷ [] → ⊥
unfolding field_at
no_first fields a b none is = cc (none ∙ ap (λ fs. field_at fs 0) is)

pub no_second : (fields : List (List ℕ)) (a b : List ℕ) → None ≡ field_at fields 1 → fields ≡ a ∷ b ∷ [] → ⊥
unfolding field_at
no_second fields a b none is = cc (none ∙ ap (λ fs. field_at fs 1) is)

pub third : (fields : List (List ℕ)) (a b c : List ℕ) → Some c ≡ field_at fields 2 → fields ≡ a ∷ b ∷ [] → ⊥
unfolding field_at
third fields a b c some is = cc (some ∙ ap (λ fs. field_at fs 2) is)

-- an element of a list that is the image of another is the image of one of its elements
pub image_of : {A B : Type 0} (P : A → Type 0) (f : A → B) (before after : List B) (b : B) (items : List A) → before ++ b ∷ after ≡ map f items → All P items
    → (item : A) × (b ≡ f item) × P item
image_of P f [] after b [] is all = absurd (cc is)
image_of P f [] after b (item ∷ items) is all = (item, cc is, All-head P item items all)
image_of P f (x ∷ before) after b [] is all = absurd (cc is)
image_of P f (x ∷ before) after b (item ∷ items) is all = image_of P f before after b items (cc is) (All-tail P item items all)

-- one record more is that of one container more
pub one_more : {A B C : Type 0} (f : A → C) (g : B → C) (all rest after : List A) (old new : List B) (a : A) (b : B) → map f all ≡ map g old ++ map f rest
    → rest ≡ a ∷ after → f a ≡ g b → new ≡ old ++ b ∷ [] → map f all ≡ map g new ++ map f after
one_more f g all rest after old new a b so is same grew =
    so ∙ ap (λ t. map g old ++ map f t) is ∙ ap (λ x. map g old ++ x ∷ map f after) same
    ∙ sym (append_assoc (map g old) (g b ∷ []) (map f after))
    ∙ ap (λ t. t ++ map f after) (sym (ap (map g) grew ∙ map-append g old (b ∷ [])))
