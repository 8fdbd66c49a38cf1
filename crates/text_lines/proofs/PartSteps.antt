-- a run of lines that is read line by line, and where it ends
use Rattle.std.proofs.Common.{◌≡◌, ℕ, ◌+◌, ◌≤◌, ◌∷◌, ◌++◌, List, [], length, map, refl, sym, ◌∙◌, ap, subst, arith, All}
use Rattle.std.proofs.lemmas.List.{length-append}
use Rattle.std.proofs.lemmas.List.Elements.{All-nil, All-push}
use Rattle.text_lines.specs.Cuts.{Avoids}
use Rattle.text_lines.specs.Lines.{text_of}
use Rattle.text_lines.specs.Sections.{Says, HasNoneAhead, IsSection, ArePart}
use Rattle.text_lines.specs.declared.lines.Lines.{Lines as Point}
use Rattle.text_lines.proofs.CutLemmas.{split_once_again, has_mark}
use Rattle.text_lines.proofs.SectionLemmas.{text_of-push, map-push}

-- what a line of the kind says, of which the reader keeps all
pub kept_whole : {X : Type 0} (line : X → List ℕ) (P : X → Type 0) (keep : X → X) (text : List ℕ) (got : X) → ((x : X) → keep x ≡ x) → Says line P keep text got → P got × (text ≡ line got)
kept_whole line P keep text got whole says =
    let same = says.kept ∙ whole says.said in
    (subst P (sym same) says.right, says.is ∙ ap line (sym same))

module _ {X : Type 0} (line : X → List ℕ) (P : X → Type 0) where
  -- these entries were read between two points
  pub record AreRead (here there : Point) (got : List X) : Type 0 where
    pub right : All P got
    pub read : here.rest.now ≡ text_of (map line got) ++ there.rest.now
    pub counted : there.number ≡ here.number + length got

  pub none_read : (here : Point) → AreRead here here []
  none_read here = record { right = All-nil P; read = refl; counted = omega arith }

  pub one_more : (start here there : Point) (text : List ℕ) (got new : List X) (x : X) → AreRead start here got → P x → text ≡ line x → here.rest.now ≡ text ++ 10 ∷ there.rest.now → there.number ≡ here.number + 1 → new ≡ got ++ x ∷ [] → AreRead start there new
  one_more start here there text got new x so right is e counted grew =
      let long = length-append got (x ∷ []) in
      let old = so.counted in
      let more : AreRead start there (got ++ x ∷ []) = record {
        right = All-push P got x so.right right;
        read = so.read ∙ ap (λ t. text_of (map line got) ++ t) (e ∙ ap (λ t. t ++ 10 ∷ there.rest.now) is) ∙ sym (text_of-push line got x there.rest.now);
        counted = omega (arith, long, old, counted);
      } in
      subst (AreRead start there) (sym grew) more

  -- the same where an entry is the value of what is kept of it
  pub one_more_value : {Y : Type 0} (value : Y → X) (start here there : Point) (text : List ℕ) (got new : List Y) (y : Y)
      → AreRead start here (map value got) → P (value y) → text ≡ line (value y) → here.rest.now ≡ text ++ 10 ∷ there.rest.now → there.number ≡ here.number + 1 → new ≡ got ++ y ∷ [] → AreRead start there (map value new)
  one_more_value value start here there text got new y so right is e counted grew = one_more start here there text (map value got) (map value new) (value y) so right is e counted (ap (map value) grew ∙ map-push value got y)

  -- Where the reader stops: there is no line, it is of another kind, or there are as many entries as there may be ------

  pub none_at_line : (here : Point) (front after : List ℕ) → here.rest.now ≡ front ++ 10 ∷ after → Avoids 10 front → ((x : X) → P x → front ≡ line x → ⊥) → HasNoneAhead line P here.rest.now
  none_at_line here front after e clear none other behind f plain x right is = none x right ((split_once_again 10 front after other behind clear plain (sym e ∙ f)).0 ∙ is)

  pub none_at_end : (here : Point) → Avoids 10 here.rest.now → HasNoneAhead line P here.rest.now
  none_at_end here clear other behind f plain x right is = has_mark 10 other behind (subst (Avoids 10) f clear)

  pub ends_section : (here there : Point) (got : List X) → AreRead here there got → HasNoneAhead line P there.rest.now → IsSection line P (λ x. x) here.rest.now there.rest.now here.number there.number got
  ends_section here there got so none = record { said = got; kept = same got; right = so.right; read = so.read; stops = none; counted = so.counted }
    where
      same : (xs : List X) → xs ≡ map (λ x. x) xs
      same [] = refl
      same (x ∷ xs) = ap (λ ys. x ∷ ys) (same xs)

  module _ (Fit : List X → Type 0) where
    abbrev pub PartBetween : Point → Point → List X → Type 0
    PartBetween here there = ArePart line P Fit here.rest.now there.rest.now here.number there.number

    pub ends_part : (here there : Point) (got : List X) → AreRead here there got → Fit got → HasNoneAhead line P there.rest.now → PartBetween here there got
    ends_part here there got so fit none = record { right = so.right; allowed = fit; read = so.read; counted = so.counted; stops = λ x rest right avoids fits e. none (line x) rest e avoids x right refl }

    -- no entry on the next line would be allowed
    pub other_line : (here there : Point) (got : List X) (text rest : List ℕ) → AreRead here there got → Fit got → there.rest.now ≡ text ++ 10 ∷ rest → Avoids 10 text → ((x : X) → P x → Fit (got ++ x ∷ []) → text ≡ line x → ⊥) → PartBetween here there got
    other_line here there got text rest so fit is clear none = record {
      right = so.right;
      allowed = fit;
      read = so.read;
      counted = so.counted;
      stops = λ x other right avoids fits e. none x right fits (split_once_again 10 text rest (line x) other clear avoids (sym is ∙ e)).0;
    }

    pub all_read : (here there : Point) (got : List X) → AreRead here there got → Fit got → ((x : X) → Fit (got ++ x ∷ []) → ⊥) → PartBetween here there got
    all_read here there got so fit full = record { right = so.right; allowed = fit; read = so.read; counted = so.counted; stops = λ x rest right avoids fits e. full x fits }

pub too_long : {X : Type 0} (most : ℕ) (got : List X) → most ≤ length got → (x : X) → length (got ++ x ∷ []) ≤ most → ⊥
too_long most got full x few = let long = length-append got (x ∷ []) in absurd (omega (arith, long, full, few))

pub front_few : {X : Type 0} (most : ℕ) (xs ys : List X) → length (xs ++ ys) ≤ most → length xs ≤ most
front_few most xs ys few = let long = length-append xs ys in omega (arith, long, few)

-- Sections ----------------------------------------------------------------------------------------

-- any entries are allowed together
abbrev pub IsAny : {X : Type 0} → List X → Type 0
IsAny xs = Unit {0}

-- what a section states is a part of which any entries are allowed
pub section_part : {X : Type 0} (line : X → List ℕ) (P : X → Type 0) (keep : X → X) (before after : List ℕ) (number next : ℕ) (got : List X) → (s : IsSection line P keep before after number next got) → ArePart line P IsAny before after number next s.said
section_part line P keep before after number next got s = record { right = s.right; allowed = tt; read = s.read; counted = s.counted; stops = λ x rest right avoids fits e. s.stops (line x) rest e avoids x right refl }

-- the same of a section of which all is kept
pub whole_part : {X : Type 0} (line : X → List ℕ) (P : X → Type 0) (before after : List ℕ) (number next : ℕ) (got : List X) → IsSection line P (λ x. x) before after number next got → ArePart line P IsAny before after number next got
whole_part {X} line P before after number next got s = subst (ArePart line P IsAny before after number next) (sym (s.kept ∙ same s.said)) (section_part line P (λ x. x) before after number next got s)
  where
    same : (xs : List X) → map (λ x. x) xs ≡ xs
    same [] = refl
    same (x ∷ xs) = ap (λ ys. x ∷ ys) (same xs)
