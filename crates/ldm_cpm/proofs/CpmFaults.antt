-- Which lines may begin a container message.
use Rattle.std.proofs.Common.{◌≡◌, ℕ, suc, ◌+◌, ◌≤◌, List, [], ◌∷◌, ◌++◌, length, get_or, None, inr, refl, sym, ap, subst, arith, append_assoc}
use Rattle.std.specs.Prelude.{◌≢◌, codes}
use Rattle.std.proofs.lemmas.List.{append-nil}
use Rattle.std.proofs.lemmas.List.Elements.{All-nil, All-cons}
use Rattle.base_words.specs.Letters.{IsCapitalOrDigit}
use Rattle.telex.specs.Elements.{line_text}
use Rattle.text_lines.specs.Grammar.{Begins}
use Rattle.ldm_cpm.specs.Messages.{Heading, IsSpelledHeading, Placing, heading_elements, place_lines, IsSpelledPlacing, AreSpelledPlacings}
use Rattle.ldm_cpm.specs.Reading.{AreCpmLines}
use Rattle.ldm_cpm.proofs.LdmFaults.{some_heading, spelled-some_heading}

-- positions with their title and heading, where there is one at least, are a message
pub whole : (h : Heading) (places : List Placing) → IsSpelledHeading h → AreSpelledPlacings places → 1 ≤ length places
    → AreCpmLines (codes "CPM" ∷ line_text (heading_elements h) ∷ place_lines places)
whole h places spelled good some = record {
  said = record { heading = h; places = places };
  spelled = record { heading = spelled; places = good; some = some };
  are = refl;
}

abbrev empty_position : Placing
empty_position = record { name = codes "1"; id = None; destination = None; mass = record { 0 = 0 } }

spelled-empty : IsSpelledPlacing empty_position
spelled-empty = record { name = record { some = omega arith; few = omega arith; letters = All-cons IsCapitalOrDigit 49 [] (inr (omega arith, omega arith)) (All-nil IsCapitalOrDigit) }; content = refl }

pub begins-places : (h : Heading) (places : List Placing) → IsSpelledHeading h → AreSpelledPlacings places
    → Begins AreCpmLines (codes "CPM" ∷ line_text (heading_elements h) ∷ place_lines places)
begins-places h [] spelled good = record {
  more = place_lines (empty_position ∷ []);
  kind = whole h (empty_position ∷ []) spelled (record { spelled = All-cons IsSpelledPlacing empty_position [] spelled-empty (All-nil IsSpelledPlacing); differ = λ i j d less within. absurd (omega (arith, less, within)); few = omega arith }) (omega arith);
}
begins-places h (p ∷ places) spelled good = record {
  more = [];
  kind = subst AreCpmLines (sym (append-nil (codes "CPM" ∷ line_text (heading_elements h) ∷ place_lines (p ∷ places)))) (whole h (p ∷ places) spelled good (omega arith));
}

begins-front : (done more : List (List ℕ)) → Begins AreCpmLines (done ++ more) → Begins AreCpmLines done
begins-front done more b = record { more = more ++ b.more; kind = subst AreCpmLines (append_assoc done more b.more) b.kind }

pub none-yet : AreSpelledPlacings []
none-yet = record { spelled = All-nil IsSpelledPlacing; differ = λ i j d less within. absurd (omega (arith, within)); few = omega arith }

pub begins-nothing : Begins AreCpmLines []
begins-nothing = begins-front [] (codes "CPM" ∷ line_text (heading_elements some_heading) ∷ []) (begins-places some_heading [] spelled-some_heading none-yet)

pub begins-title : Begins AreCpmLines (codes "CPM" ∷ [])
begins-title = begins-front (codes "CPM" ∷ []) (line_text (heading_elements some_heading) ∷ []) (begins-places some_heading [] spelled-some_heading none-yet)

-- fewer lines than three are no message
pub too-few : (lines : List (List ℕ)) → length lines ≤ 2 → AreCpmLines lines → ⊥
too-few lines few are = omega (arith, few, ap length are.are, are.spelled.some, length-places are.said.places)
  where
    length-places : (places : List Placing) → length (place_lines places) ≡ length places
    length-places [] = refl
    length-places (p ∷ places) = ap (λ n. suc n) (length-places places)

pub wrong-title : (line : List ℕ) → line ≢ codes "CPM" → Begins AreCpmLines (line ∷ []) → ⊥
wrong-title line other b = other (ap (λ (ls : List (List ℕ)). get_or ls 0 []) b.kind.are)

pub wrong-heading : (title line : List ℕ) → ((h : Heading) → IsSpelledHeading h → line ≡ line_text (heading_elements h) → ⊥)
    → Begins AreCpmLines (title ∷ line ∷ []) → ⊥
wrong-heading title line other b = other b.kind.said.heading b.kind.spelled.heading (ap (λ (ls : List (List ℕ)). get_or ls 1 []) b.kind.are)
