-- a text has one first line that is the start of a certificate, or none
use Rattle.std.proofs.Common.{◌≡◌, ℕ, eqb, false, ◌++◌, ◌∷◌, List, [], refl, sym, ◌∙◌, ap, All}
use Rattle.std.proofs.lemmas.List.{append_assoc}
use Rattle.std.proofs.lemmas.List.Elements.{All-head, All-tail, All-same}
use Rattle.text_lines.specs.Cuts.{Avoids}
use Rattle.text_lines.specs.Lines.{text_of}
use Rattle.text_lines.proofs.CutLemmas.{split_once_again, has_mark}
use Rattle.certificate.specs.Starts.{IsEarlier, StartsAfter, HasNoStart}

module _ (start : List ℕ) (plain : Avoids 10 start) where
  -- the texts from a point on, one of which begins with the start of a certificate
  here : (before : List (List ℕ)) (text rest : List ℕ) (line more : List ℕ) → IsEarlier start line → StartsAfter start before text rest → text ≡ line ++ 10 ∷ more → (others : List (List ℕ)) × (before ≡ line ∷ others) × StartsAfter start others more rest
  here [] text rest line more earlier s e =
      let same = split_once_again 10 start rest line more plain earlier.whole (sym s.is ∙ e) in
      absurd (earlier.other (sym same.0))
  here (x ∷ before) text rest line more earlier s e =
      let one = All-head (IsEarlier start) x before s.earlier in
      let same = split_once_again 10 x (text_of before ++ (start ++ 10 ∷ rest)) line more one.whole earlier.whole (sym (append_assoc x (10 ∷ text_of before) (start ++ 10 ∷ rest)) ∙ sym s.is ∙ e) in
      (before, (λ i. same.0 i ∷ before), record { earlier = All-tail (IsEarlier start) x before s.earlier; is = sym same.1 })

  pub starts_once : (xs ys : List (List ℕ)) (text rest other : List ℕ) → StartsAfter start xs text rest → StartsAfter start ys text other → (xs ≡ ys) × (rest ≡ other)
  starts_once [] [] text rest other s t = (refl, (split_once_again 10 start rest start other plain plain (sym s.is ∙ t.is)).1)
  starts_once [] (y ∷ ys) text rest other s t =
      let more = here [] text rest y (text_of ys ++ (start ++ 10 ∷ other)) (All-head (IsEarlier start) y ys t.earlier) s (t.is ∙ append_assoc y (10 ∷ text_of ys) (start ++ 10 ∷ other)) in
      absurd (cc (more.1))
  starts_once (x ∷ xs) ys text rest other s t =
      let more = here ys text other x (text_of xs ++ (start ++ 10 ∷ rest)) (All-head (IsEarlier start) x xs s.earlier) t (s.is ∙ append_assoc x (10 ∷ text_of xs) (start ++ 10 ∷ rest)) in
      let again = starts_once xs more.0 (text_of xs ++ (start ++ 10 ∷ rest)) rest other (record { earlier = All-tail (IsEarlier start) x xs s.earlier; is = refl }) more.2 in
      (ap (λ zs. x ∷ zs) again.0 ∙ sym more.1, again.1)

  none_here : (before : List (List ℕ)) (text rest : List ℕ) → Avoids 10 text → StartsAfter start before text rest → ⊥
  none_here [] text rest end s = has_mark 10 start rest (All-same (λ b. eqb b 10 ≡ false) _ _ (sym s.is) end)
  none_here (x ∷ before) text rest end s =
      has_mark 10 x (text_of before ++ (start ++ 10 ∷ rest)) (All-same (λ b. eqb b 10 ≡ false) _ _ (sym (s.is ∙ append_assoc x (10 ∷ text_of before) (start ++ 10 ∷ rest))) end)

  none_after : (lines before : List (List ℕ)) (text end rest : List ℕ) → All (IsEarlier start) lines → Avoids 10 end → text ≡ text_of lines ++ end → StartsAfter start before text rest → ⊥
  none_after [] before text end rest earlier clear e s = none_here before text rest (All-same (λ b. eqb b 10 ≡ false) _ _ e clear) s
  none_after (x ∷ lines) before text end rest earlier clear e s =
      let more = here before text rest x (text_of lines ++ end) (All-head (IsEarlier start) x lines earlier) s (e ∙ append_assoc x (10 ∷ text_of lines) end) in
      none_after lines more.0 (text_of lines ++ end) end rest (All-tail (IsEarlier start) x lines earlier) clear refl more.2

  pub no_start_starts : (text : List ℕ) (before : List (List ℕ)) (rest : List ℕ) → HasNoStart start text → StartsAfter start before text rest → ⊥
  no_start_starts text before rest none s = none_after none.lines before text none.rest rest none.earlier none.end none.is s
