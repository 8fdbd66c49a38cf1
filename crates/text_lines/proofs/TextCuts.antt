-- Each text is its lines, and a rest that no line feed ends, in one way alone.
use Rattle.std.proofs.Common.{◌≡◌, ◌⊎◌, ⊎_elim, ℕ, eqb, false, ◌++◌, ◌∷◌, List, [], refl, sym, ◌∙◌, ap, subst, inl, inr, All}
use Rattle.std.proofs.lemmas.Bool.{cases_Bool, eqb-true}
use Rattle.std.proofs.lemmas.List.{append_assoc}
use Rattle.std.proofs.lemmas.List.Elements.{All-head, All-tail, All-nil, All-cons}
use Rattle.text_lines.specs.Cuts.{Avoids}
use Rattle.text_lines.specs.Lines.{text_of}
use Rattle.text_lines.proofs.CutLemmas.{split_once_again}

abbrev pub AreLines : List (List ℕ) → Type 0
AreLines lines = All (Avoids 10) lines

pub record IsCut (text : List ℕ) : Type 0 where
  pub lines : List (List ℕ)
  pub rest : List ℕ
  pub is : text ≡ text_of lines ++ rest
  pub clear : AreLines lines
  pub end : Avoids 10 rest

abbrev IsOther : ℕ → Type 0
IsOther b = eqb b 10 ≡ false

cut-byte : (b : ℕ) (text : List ℕ) (lines : List (List ℕ)) (rest : List ℕ) → IsOther b → text ≡ text_of lines ++ rest → AreLines lines → Avoids 10 rest → IsCut (b ∷ text)
cut-byte b text [] rest other e clear end = record {
  lines = [];
  rest = b ∷ rest;
  is = ap (λ t. b ∷ t) e;
  clear = All-nil (Avoids 10);
  end = All-cons IsOther b rest other end;
}
cut-byte b text (line ∷ lines) rest other e clear end = record {
  lines = (b ∷ line) ∷ lines;
  rest = rest;
  is = ap (λ t. b ∷ t) e;
  clear = All-cons (Avoids 10) (b ∷ line) lines (All-cons IsOther b line other (All-head (Avoids 10) line lines clear)) (All-tail (Avoids 10) line lines clear);
  end = end;
}

cut-feed : (text : List ℕ) → IsCut text → IsCut (10 ∷ text)
cut-feed text cut = record {
  lines = [] ∷ cut.lines;
  rest = cut.rest;
  is = ap (λ t. 10 ∷ t) cut.is;
  clear = All-cons (Avoids 10) [] cut.lines (All-nil IsOther) cut.clear;
  end = cut.end;
}

pub cut_text : (text : List ℕ) → IsCut text
cut_text [] = record { lines = []; rest = []; is = refl; clear = All-nil (Avoids 10); end = All-nil IsOther }
cut_text (b ∷ text) =
    let cut = cut_text text in
    elim (cases_Bool (eqb b 10)) [
      | inl feed ↦ subst (λ (c : ℕ). IsCut (c ∷ text)) (sym (eqb-true b 10 feed)) (cut-feed text cut)
      | inr other ↦ cut-byte b text cut.lines cut.rest other cut.is cut.clear cut.end
    ]

-- One way -----------------------------------------------------------------------------------------

-- of two cuts of a text into first lines and a rest, one goes on where the other stops
pub compare : (xs ys : List (List ℕ)) (rest other : List ℕ) → AreLines xs → AreLines ys → text_of xs ++ rest ≡ text_of ys ++ other
    → ((zs : List (List ℕ)) × (ys ≡ xs ++ zs) × (rest ≡ text_of zs ++ other)) ⊎ ((zs : List (List ℕ)) × (xs ≡ ys ++ zs) × (other ≡ text_of zs ++ rest))
compare [] ys rest other p q e = inl (ys, refl, e)
compare (x ∷ xs) [] rest other p q e = inr (x ∷ xs, refl, sym e)
compare (x ∷ xs) (y ∷ ys) rest other p q e =
    let whole = sym (append_assoc x (10 ∷ text_of xs) rest) ∙ e ∙ append_assoc y (10 ∷ text_of ys) other in
    let cut = split_once_again 10 x (text_of xs ++ rest) y (text_of ys ++ other) (All-head (Avoids 10) x xs p) (All-head (Avoids 10) y ys q) whole in
    ⊎_elim
    (λ (h : (zs : List (List ℕ)) × (ys ≡ xs ++ zs) × (rest ≡ text_of zs ++ other)). inl (h.0, (λ i. sym cut.0 i ∷ h.1 i), h.2))
    (λ (h : (zs : List (List ℕ)) × (xs ≡ ys ++ zs) × (other ≡ text_of zs ++ rest)). inr (h.0, (λ i. cut.0 i ∷ h.1 i), h.2))
    (compare xs ys rest other (All-tail (Avoids 10) x xs p) (All-tail (Avoids 10) y ys q) cut.1)

-- one more line at the end
pub joined : (xs : List (List ℕ)) (x rest : List ℕ) → text_of (xs ++ x ∷ []) ++ rest ≡ text_of xs ++ (x ++ 10 ∷ rest)
joined [] x rest = append_assoc x (10 ∷ []) rest
joined (y ∷ xs) x rest = append_assoc y (10 ∷ text_of (xs ++ x ∷ [])) rest ∙ ap (λ t. y ++ 10 ∷ t) (joined xs x rest) ∙ sym (append_assoc y (10 ∷ text_of xs) (x ++ 10 ∷ rest))
