-- the line `END` stands at the end of a task alone
use Rattle.std.proofs.Common.{◌≡◌, ◌≢◌, ⊎_elim, ℕ, ◌++◌, ◌∷◌, Bool, true, false, List, [], map, get_or, refl, sym, ◌∙◌, ap, arith, All, Option, Some, None, codes, eqb}
use Rattle.std.proofs.lemmas.List.{append_assoc, append-nil}
use Rattle.std.proofs.lemmas.List.Elements.{All-nil, All-cons, All-append, All-map, All-same, All-head, All-tail}
use Rattle.hold_parts.specs.declared.parts.Position.{Position}
use Rattle.hold_parts.specs.declared.parts.Lateral.{Lateral}
use Rattle.hold_limits.specs.Problem.{Problem}
use Rattle.text_lines.specs.Cuts.{Avoids}
use Rattle.text_lines.specs.Lines.{text_of}
use Rattle.text_lines.proofs.CutLemmas.{has_mark}
use Rattle.text_lines.proofs.WordLemmas.{plain_word}
use Rattle.text_lines.proofs.TextCuts.{AreLines, compare}
use Rattle.problem_text.specs.TaskText.{task_lines, position_word, position_line, exclude_line, combined_line, cumulative_line, side_line, lateral_line, header_line, lateral_lines, item_line, loose_line, base_line, window_line, ideal_line, IsSpelled}
use Rattle.problem_text.proofs.TaskParts.{is_read_once}
use Rattle.stop_text.specs.Reading.{AreInside}

abbrev Lines : Type 0
Lines = List (List ℕ)

abbrev pub end : List ℕ
end = codes "END"

abbrev IsOther : List ℕ → Type 0
IsOther line = line ≢ codes "END"

-- the lines of a task before its last one

by_first : (line : List ℕ) (b : ℕ) → get_or line 0 0 ≡ b → (b ≡ 69 → ⊥) → IsOther line
by_first line b first other e = other (sym first ∙ ap (λ l. get_or l 0 0) e)

others : {X : Type 0} (line : X → List ℕ) (b : ℕ) → ((x : X) → get_or (line x) 0 0 ≡ b) → (b ≡ 69 → ⊥) → (xs : List X) → All IsOther (map line xs)
others line b first other xs = All-map IsOther line xs (λ k d within. by_first (line (get_or xs k d)) b (first (get_or xs k d)) other)

position_other : (q : Position) → IsOther (position_line q)
position_other q = of q.bulk _
  where
    of : (bulk : Bool) (rest : List ℕ) → IsOther (position_word bulk ++ 32 ∷ rest)
    of true rest = by_first (position_word true ++ 32 ∷ rest) 98 refl (λ e. absurd (omega (arith, e)))
    of false rest = by_first (position_word false ++ 32 ∷ rest) 112 refl (λ e. absurd (omega (arith, e)))

header_other : (lateral : Option Lateral) → IsOther (header_line lateral)
header_other None = by_first (codes "TASK 1") 84 refl (λ e. absurd (omega (arith, e)))
header_other (Some l) = by_first (codes "TASK 2") 84 refl (λ e. absurd (omega (arith, e)))

lateral_other : (ps : List Position) (lateral : Option Lateral) → All IsOther (lateral_lines ps lateral)
lateral_other ps None = All-nil IsOther
lateral_other ps (Some l) =
    All-append IsOther (map (side_line ps) l.sides) (lateral_line l.most.0 ∷ []) (others (side_line ps) 115 (λ x. refl) (λ e. absurd (omega (arith, e))) l.sides)
    (All-cons IsOther (lateral_line l.most.0) [] (by_first (lateral_line l.most.0) 108 refl (λ e. absurd (omega (arith, e)))) (All-nil IsOther))

last_other : (t : Problem) → All IsOther (base_line t.base ∷ window_line t.low t.high ∷ ideal_line t.ideal_low t.ideal_high ∷ [])
last_other t =
    let base = base_line t.base in
    let window = window_line t.low t.high in
    let ideal = ideal_line t.ideal_low t.ideal_high in
    All-cons IsOther base (window ∷ ideal ∷ []) (by_first base 98 refl (λ e. absurd (omega (arith, e))))
    (All-cons IsOther window (ideal ∷ []) (by_first window 119 refl (λ e. absurd (omega (arith, e))))
    (All-cons IsOther ideal [] (by_first ideal 105 refl (λ e. absurd (omega (arith, e)))) (All-nil IsOther)))

abbrev pub before_end : Problem → Lines
before_end t =
    (header_line t.hold.lateral ∷ [])
    ++ (map position_line t.hold.positions
    ++ (map (exclude_line t.hold.positions) t.hold.excludes
    ++ (map (combined_line t.hold.positions) t.hold.combined
    ++ (map (cumulative_line t.hold.positions) t.hold.cumulative
    ++ (lateral_lines t.hold.positions t.hold.lateral
    ++ (map item_line t.items
    ++ (map (loose_line t.hold.positions) t.loose
    ++ (base_line t.base ∷ window_line t.low t.high ∷ ideal_line t.ideal_low t.ideal_high ∷ []))))))))

pub lines-ended : (t : Problem) → task_lines t ≡ before_end t ++ end ∷ []
lines-ended t = simp append_assoc

others_before : (t : Problem) → All IsOther (before_end t)
others_before t =
    let ps = t.hold.positions in
    let last = base_line t.base ∷ window_line t.low t.high ∷ ideal_line t.ideal_low t.ideal_high ∷ [] in
    All-append IsOther (header_line t.hold.lateral ∷ []) _ (All-cons IsOther (header_line t.hold.lateral) [] (header_other t.hold.lateral) (All-nil IsOther))
    (All-append IsOther (map position_line ps) _ (All-map IsOther position_line ps (λ k d within. position_other (get_or ps k d)))
    (All-append IsOther (map (exclude_line ps) t.hold.excludes) _ (others (exclude_line ps) 101 (λ x. refl) (λ e. absurd (omega (arith, e))) t.hold.excludes)
    (All-append IsOther (map (combined_line ps) t.hold.combined) _ (others (combined_line ps) 99 (λ x. refl) (λ e. absurd (omega (arith, e))) t.hold.combined)
    (All-append IsOther (map (cumulative_line ps) t.hold.cumulative) _ (others (cumulative_line ps) 99 (λ x. refl) (λ e. absurd (omega (arith, e))) t.hold.cumulative)
    (All-append IsOther (lateral_lines ps t.hold.lateral) _ (lateral_other ps t.hold.lateral)
    (All-append IsOther (map item_line t.items) _ (others item_line 105 (λ x. refl) (λ e. absurd (omega (arith, e))) t.items)
    (All-append IsOther (map (loose_line ps) t.loose) last (others (loose_line ps) 108 (λ x. refl) (λ e. absurd (omega (arith, e))) t.loose) (last_other t))))))))

-- The first line `END` of lines ------------------------------------------------------------------

end_first : (a b c d : Lines) → All IsOther a → All IsOther b → a ++ end ∷ c ≡ b ++ end ∷ d → (a ≡ b) × (c ≡ d)
end_first [] [] c d p q e = (refl, let tails : c ≡ d = cc in tails)
end_first [] (y ∷ b) c d p q e = let same : y ≡ end = cc in absurd (All-head IsOther y b q same)
end_first (x ∷ a) [] c d p q e = let same : x ≡ end = cc in absurd (All-head IsOther x a p same)
end_first (x ∷ a) (y ∷ b) c d p q e =
    let head : x ≡ y = cc in
    let tails : a ++ end ∷ c ≡ b ++ end ∷ d = cc in
    let again = end_first a b c d (All-tail IsOther x a p) (All-tail IsOther y b q) tails in
    (λ i. head i ∷ again.0 i, again.1)

none_inside : (a b c : Lines) → All IsOther a → a ≡ b ++ end ∷ c → ⊥
none_inside a b c p e = of b (All-same IsOther _ _ (sym e) p)
  where
    of : (b : Lines) → All IsOther (b ++ end ∷ c) → ⊥
    of [] p = All-head IsOther end c p refl
    of (x ∷ b) p = of b (All-tail IsOther x (b ++ end ∷ c) p)

with_more : (t : Problem) (more : Lines) → task_lines t ++ more ≡ before_end t ++ end ∷ more
with_more t more = ap (λ (xs : Lines). xs ++ more) (lines-ended t) ∙ append_assoc (before_end t) (end ∷ []) more

-- a task is read in one way only, whatever follows
pub tasks_once : (x y : Problem) (lines other : Lines) → IsSpelled x → IsSpelled y → task_lines x ++ lines ≡ task_lines y ++ other → (x ≡ y) × (lines ≡ other)
tasks_once x y lines other p q e =
    let same = end_first (before_end x) (before_end y) lines other (others_before x) (others_before y) (sym (with_more x lines) ∙ e ∙ with_more y other) in
    let whole : task_lines x ≡ task_lines y = lines-ended x ∙ ap (λ (xs : Lines). xs ++ end ∷ []) same.0 ∙ sym (lines-ended y) in
    ((is_read_once.once x y [] p q (append-nil (task_lines x) ∙ whole)).0, same.1)

-- lines that begin a task and have its last line are all of it
pub is_whole : (t : Problem) (ls zs done more : Lines) → All IsOther ls → done ≡ ls ++ end ∷ zs → done ++ more ≡ task_lines t → more ≡ []
is_whole t ls zs done more others e g =
    let all : ls ++ end ∷ (zs ++ more) ≡ before_end t ++ end ∷ [] = sym (ap (λ (xs : Lines). xs ++ more) e ∙ append_assoc ls (end ∷ zs) more) ∙ g ∙ lines-ended t in
    let none = (end_first ls (before_end t) (zs ++ more) [] others (others_before t) all).1 in
    of zs none
  where
    of : (zs : Lines) → zs ++ more ≡ [] → more ≡ []
    of [] e = e
    of (z ∷ zs) e = absurd (cc)

-- Texts up to a line `END` ------------------------------------------------------------------------

module _ (ls : Lines) (inside : AreInside ls) where
  ended_lines : AreLines (ls ++ end ∷ [])
  ended_lines = All-append (Avoids 10) ls (end ∷ []) inside.clear (All-cons (Avoids 10) end [] (plain_word 10 end refl) (All-nil (Avoids 10)))

  -- nothing follows a task in such a text
  pub ended_alone : (t : Problem) (rest : List ℕ) → IsSpelled t → text_of (ls ++ end ∷ []) ≡ text_of (task_lines t) ++ rest → (rest ≡ []) × (ls ≡ before_end t)
  ended_alone t rest s e =
      ⊎_elim
      (λ (h : (zs : Lines) × (task_lines t ≡ (ls ++ end ∷ []) ++ zs) × ([] ≡ text_of zs ++ rest)).
      let same = end_first (before_end t) ls [] h.0 (others_before t) inside.others (sym (lines-ended t) ∙ h.1 ∙ append_assoc ls (end ∷ []) h.0) in
      (sym (h.2 ∙ ap (λ (zs : Lines). text_of zs ++ rest) (sym same.1)), sym same.0))
      (λ (h : (zs : Lines) × (ls ++ end ∷ [] ≡ task_lines t ++ zs) × (rest ≡ text_of zs ++ [])).
      let same = end_first ls (before_end t) [] h.0 inside.others (others_before t) (h.1 ∙ with_more t h.0) in
      (h.2 ∙ ap (λ (zs : Lines). text_of zs ++ []) (sym same.1), same.0))
      (compare (ls ++ end ∷ []) (task_lines t) [] rest ended_lines (is_read_once.clear t s) (append-nil (text_of (ls ++ end ∷ [])) ∙ e))

  -- and no task is in a text that has no such line
  pub none_open : (t : Problem) (last rest : List ℕ) → Avoids 10 last → IsSpelled t → text_of ls ++ last ≡ text_of (task_lines t) ++ rest → ⊥
  none_open t last rest avoids s e =
      ⊎_elim
      (λ (h : (zs : Lines) × (task_lines t ≡ ls ++ zs) × (last ≡ text_of zs ++ rest)). of h.0 h.1 h.2)
      (λ (h : (zs : Lines) × (ls ≡ task_lines t ++ zs) × (rest ≡ text_of zs ++ last)). none_inside ls (before_end t) h.0 inside.others (h.1 ∙ with_more t h.0))
      (compare ls (task_lines t) last rest inside.clear (is_read_once.clear t s) e)
    where
      of : (zs : Lines) → task_lines t ≡ ls ++ zs → last ≡ text_of zs ++ rest → ⊥
      of [] e g = none_inside ls (before_end t) [] inside.others (sym (append-nil ls) ∙ sym e ∙ lines-ended t)
      of (z ∷ zs) e g = has_mark 10 z (text_of zs ++ rest) (All-same (λ b. eqb b 10 ≡ false) _ _ (sym (g ∙ append_assoc z (10 ∷ text_of zs) rest)) avoids)

  -- lines that begin a task, and at which such a text ends, are all of it
  pub stops_whole : (t : Problem) (done more : Lines) (rest : List ℕ) → IsSpelled t → done ++ more ≡ task_lines t → Avoids 10 rest → text_of (ls ++ end ∷ []) ≡ text_of done ++ rest → more ≡ []
  stops_whole t done more rest s g avoids e =
      ⊎_elim
      (λ (h : (zs : Lines) × (done ≡ (ls ++ end ∷ []) ++ zs) × ([] ≡ text_of zs ++ rest)). is_whole t ls h.0 done more inside.others (h.1 ∙ append_assoc ls (end ∷ []) h.0) g)
      (λ (h : (zs : Lines) × (ls ++ end ∷ [] ≡ done ++ zs) × (rest ≡ text_of zs ++ [])). of h.0 h.1 h.2)
      (compare (ls ++ end ∷ []) done [] rest ended_lines (front_lines done more (All-same (Avoids 10) _ _ g (is_read_once.clear t s))) (append-nil (text_of (ls ++ end ∷ [])) ∙ e))
    where
      front_lines : (xs ys : Lines) → AreLines (xs ++ ys) → AreLines xs
      front_lines [] ys p = All-nil (Avoids 10)
      front_lines (x ∷ xs) ys p = All-cons (Avoids 10) x xs (All-head (Avoids 10) x (xs ++ ys) p) (front_lines xs ys (All-tail (Avoids 10) x (xs ++ ys) p))

      of : (zs : Lines) → ls ++ end ∷ [] ≡ done ++ zs → rest ≡ text_of zs ++ [] → more ≡ []
      of [] e k = is_whole t ls [] done more inside.others (sym (append-nil done) ∙ sym e) g
      of (z ∷ zs) e k = absurd (has_mark 10 z (text_of zs ++ []) (All-same (λ b. eqb b 10 ≡ false) _ _ (sym (k ∙ append_assoc z (10 ∷ text_of zs) [])) avoids))
