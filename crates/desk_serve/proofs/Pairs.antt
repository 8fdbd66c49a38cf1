-- doors and desks that are put side by side, last first, and apart again
use Rattle.std.proofs.Common.{◌≡◌, List, [], ◌∷◌, ◌++◌, map, reverse, sym, ap, ◌∙◌, append_assoc, subst}
use Rattle.std.proofs.lemmas.List.{reverse-append}

module _ {A B : Type 0} (f : B → A) where
  turned : (bays bays' : List B) (b : B) → bays' ≡ bays ++ b ∷ [] → map f (reverse bays') ≡ f b ∷ map f (reverse bays)
  turned bays bays' b e = ap (λ xs. map f (reverse xs)) e ∙ ap (map f) (reverse-append bays (b ∷ []))

  pub joined : (all old rest : List A) (d : A) (bays bays' : List B) (b : B) → all ≡ old ++ map f (reverse bays) → old ≡ rest ++ d ∷ [] → bays' ≡ bays ++ b ∷ [] → f b ≡ d → all ≡ rest ++ map f (reverse bays')
  joined all old rest d bays bays' b h e g same =
      h ∙ (ap (λ xs. xs ++ map f (reverse bays)) e ∙ (append_assoc rest (d ∷ []) (map f (reverse bays)) ∙ ap (λ xs. rest ++ xs) (ap (λ x. x ∷ map f (reverse bays)) (sym same) ∙ sym (turned bays bays' b g))))

  pub parted : (whole old new : List A) (bays rest : List B) (b : B) → whole ≡ old ++ map f (reverse bays) → bays ≡ rest ++ b ∷ [] → new ≡ old ++ f b ∷ [] → whole ≡ new ++ map f (reverse rest)
  parted whole old new bays rest b h e g =
      h ∙ (ap (λ xs. old ++ xs) (turned rest bays b e) ∙ (sym (append_assoc old (f b ∷ []) (map f (reverse rest))) ∙ ap (λ xs. xs ++ map f (reverse rest)) (sym g)))

pub between : {B : Type 0} (R : B → B → Type 0) (x y a b : B) → a ≡ x → b ≡ y → R a b → R x y
between R x y a b e f r = subst (λ b'. R x b') f (subst (λ a'. R a' b) e r)
