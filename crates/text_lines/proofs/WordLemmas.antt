-- words and texts without a byte
use Rattle.std.proofs.Common.{◌≡◌, ℕ, ◌<◌, Bool, true, false, ◌||◌, refl, eqb, List, [], ◌∷◌, ◌++◌, arith}
use Rattle.std.specs.Prelude.{nat_le}
use Rattle.std.specs.List.{list_all, list_any}
use Rattle.std.proofs.lemmas.Bool.{and_parts, leb-true, ne_eqb}
use Rattle.std.proofs.lemmas.List.Elements.{All-append, All-nil, All-cons}
use Rattle.text_lines.specs.Cuts.{Avoids}

pub avoids-append : (k : ℕ) (xs ys : List ℕ) → Avoids k xs → Avoids k ys → Avoids k (xs ++ ys)
avoids-append k xs ys p q = All-append (λ b. eqb b k ≡ false) xs ys p q

-- two texts with a space between them
pub avoids-spaced : (k : ℕ) (xs ys : List ℕ) → eqb 32 k ≡ false → Avoids k xs → Avoids k ys → Avoids k (xs ++ 32 ∷ ys)
avoids-spaced k xs ys s p q = avoids-append k xs (32 ∷ ys) p (All-cons (λ b. eqb b k ≡ false) 32 ys s q)

or_false : (a b : Bool) → (a || b) ≡ false → (a ≡ false) × (b ≡ false)
or_false false b e = (refl, e)
or_false true b e = absurd (cc)

-- a word that is written out: the test computes
pub plain_word : (k : ℕ) (word : List ℕ) → list_any (λ b. eqb b k) word ≡ false → Avoids k word
plain_word k [] e = All-nil (λ b. eqb b k ≡ false)
plain_word k (b ∷ word) e =
    let parts = or_false (eqb b k) (list_any (λ c. eqb c k) word) e in
    All-cons (λ b. eqb b k ≡ false) b word parts.0 (plain_word k word parts.1)

-- the same of a word of letters, which has no byte before the minus
pub letters_avoid : (k : ℕ) (word : List ℕ) → k < 45 → list_all (nat_le 45) word ≡ true → Avoids k word
letters_avoid k [] low e = All-nil (λ b. eqb b k ≡ false)
letters_avoid k (c ∷ word) low e =
    let parts = and_parts (nat_le 45 c) (list_all (nat_le 45) word) e in
    let high = leb-true 45 c parts.0 in
    All-cons (λ b. eqb b k ≡ false) c word (ne_eqb c k (λ same. omega arith)) (letters_avoid k word low parts.1)
