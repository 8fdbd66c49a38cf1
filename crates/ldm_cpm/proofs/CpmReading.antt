-- Reading a container message line by line.
use Rattle.std.proofs.Common.{◌≡◌, ℕ, ◌+◌, ◌≤◌, List, [], ◌∷◌, ◌++◌, length, map, get_or, drop, refl, sym, ap, ap₂, subst, ◌∙◌, arith, append_assoc}
use Rattle.std.specs.Prelude.{◌≢◌, codes}
use Rattle.std.proofs.lemmas.List.{append-nil, map-append, length-map}
use Rattle.telex.specs.Elements.{line_text}
use Rattle.telex.specs.Lines.{PlacedLine}
use Rattle.text_lines.specs.Grammar.{Begins}
use Rattle.ldm_cpm.specs.Messages.{Heading, IsSpelledHeading, Placing, HoldMessage, heading_elements, place_elements, place_lines, cpm_lines, AreSpelledPlacings, IsSpelledCpm}
use Rattle.ldm_cpm.specs.Reading.{FailsAt, AreCpmLines, IsFaultOf, texts, placing_said, PlaceStands, PlacesStand}
use Rattle.ldm_cpm.specs.Reading.FailsAt.{wrong_line, missing_line}
use Rattle.ldm_cpm.specs.declared.fault.MsgFault.{MsgFault}
use Rattle.ldm_cpm.specs.declared.messages.CpmPlace.{CpmPlace}
use Rattle.ldm_cpm.proofs.LineFaults.{fails-next}
use Rattle.ldm_cpm.proofs.LdmFaults.{some_heading, spelled-some_heading}
use Rattle.ldm_cpm.proofs.LdmReading.{never-fails}
use Rattle.ldm_cpm.proofs.CpmFaults.{whole, begins-places, none-yet, begins-nothing, begins-title, too-few, wrong-title, wrong-heading}
use Rattle.ldm_cpm.proofs.PlacingLemmas.{same-places, next-place}

pub fails-title : (lines : List PlacedLine) → ((line : PlacedLine) (more : List PlacedLine) → lines ≡ line ∷ more → line.text ≢ codes "CPM")
    → FailsAt AreCpmLines (texts lines) 1
fails-title lines other =
    fails-next AreCpmLines [] (texts lines) lines refl begins-nothing (too-few [] (omega arith)) (λ line more is b. wrong-title line.text (other line more is) b)

pub fails-heading : (lines : List PlacedLine) (title : PlacedLine) (rest : List PlacedLine) → lines ≡ title ∷ rest → title.text ≡ codes "CPM"
    → ((line : PlacedLine) (more : List PlacedLine) → rest ≡ line ∷ more → (h : Heading) → IsSpelledHeading h → line.text ≡ line_text (heading_elements h) → ⊥)
    → FailsAt AreCpmLines (texts lines) 2
fails-heading lines title rest is named none =
    fails-next AreCpmLines (codes "CPM" ∷ []) (texts lines) rest (ap texts is ∙ ap (λ t. t ∷ texts rest) named) begins-title (too-few (codes "CPM" ∷ []) (omega arith))
    (λ line more first b. wrong-heading (codes "CPM") line.text (none line more first) b)

-- ---- positions

abbrev pub with_head : Heading → List (List ℕ) → List (List ℕ)
with_head h lines = codes "CPM" ∷ line_text (heading_elements h) ∷ lines

wrong-place : (h : Heading) (places : List Placing) (line : List ℕ) → AreSpelledPlacings places
    → ((p : Placing) → line ≡ line_text (place_elements p) → AreSpelledPlacings (places ++ p ∷ []) → ⊥)
    → Begins AreCpmLines (with_head h (place_lines places) ++ line ∷ []) → ⊥
wrong-place h places line good none b =
    let m = b.kind.said in
    let behind = ap (λ (ls : List (List ℕ)). drop 2 ls) b.kind.are in
    let found = next-place places m.places line b.more good.spelled b.kind.spelled.places (sym behind ∙ append_assoc (place_lines places) (line ∷ []) b.more) in
    none found.0 found.1 found.2

fails-place : (h : Heading) (lines : List (List ℕ)) (places : List Placing) (line : List ℕ) (after : List (List ℕ)) (n : ℕ) → IsSpelledHeading h → AreSpelledPlacings places
    → lines ≡ place_lines places ++ (line ∷ after) → n ≡ length places
    → ((p : Placing) → line ≡ line_text (place_elements p) → AreSpelledPlacings (places ++ p ∷ []) → ⊥)
    → FailsAt AreCpmLines (with_head h lines) (n + 3)
fails-place h lines places line after n spelled good are count none =
    let done = with_head h (place_lines places) in
    let number : length done + 1 ≡ n + 3 = omega (arith, count, length-map places (λ (p : Placing). line_text (place_elements p))) in
    subst (λ k. FailsAt AreCpmLines (with_head h lines) k) number
    (wrong_line done line after (ap (with_head h) are) (begins-places h places spelled good) (λ b. wrong-place h places line good none b))

-- a message without positions lacks its third line
pub fails-empty : (h : Heading) → IsSpelledHeading h → FailsAt AreCpmLines (with_head h []) 3
fails-empty h spelled = missing_line (begins-places h [] spelled none-yet) (too-few (with_head h []) (omega arith))

-- the positions that the first of these lines spell, with the lines that are left
pub record ArePlaces (lines rest : List PlacedLine) (places : List CpmPlace) : Type 0 where
  pub done : List PlacedLine
  pub are : lines ≡ done ++ rest
  pub spelled : AreSpelledPlacings (map placing_said places)
  pub said : texts done ≡ place_lines (map placing_said places)
  pub stands : PlacesStand done places

pub start-places : (lines : List PlacedLine) → ArePlaces lines lines []
start-places lines = record { done = []; are = refl; spelled = none-yet; said = refl; stands = tt }

stands-push : (lines : List PlacedLine) (places : List CpmPlace) (line : PlacedLine) (place : CpmPlace) → PlacesStand lines places → PlaceStands line place
    → PlacesStand (lines ++ line ∷ []) (places ++ place ∷ [])
stands-push [] [] line place all one = (one, tt)
stands-push (l ∷ lines) (p ∷ places) line place all one = (all.0, stands-push lines places line place all.1 one)
stands-push [] (p ∷ places) line place all one = absurd all
stands-push (l ∷ lines) [] line place all one = absurd all

texts-append : (a b : List PlacedLine) → texts (a ++ b) ≡ texts a ++ texts b
texts-append a b = map-append (λ (line : PlacedLine). line.text) a b

pub said-push : (places : List CpmPlace) (place : CpmPlace) → map placing_said (places ++ place ∷ []) ≡ map placing_said places ++ placing_said place ∷ []
said-push places place = map-append placing_said places (place ∷ [])

lines-push : (places : List Placing) (p : Placing) → place_lines (places ++ p ∷ []) ≡ place_lines places ++ line_text (place_elements p) ∷ []
lines-push places p = map-append (λ (p : Placing). line_text (place_elements p)) places (p ∷ [])

-- one more line with its position
pub more-places : (lines rest : List PlacedLine) (places : List CpmPlace) (line : PlacedLine) (place : CpmPlace) → ArePlaces lines (line ∷ rest) places
    → AreSpelledPlacings (map placing_said (places ++ place ∷ [])) → line.text ≡ line_text (place_elements (placing_said place)) → PlaceStands line place
    → ArePlaces lines rest (places ++ place ∷ [])
more-places lines rest places line place so spelled says stands = record {
  done = so.done ++ line ∷ [];
  are = so.are ∙ sym (append_assoc so.done (line ∷ []) rest);
  spelled = spelled;
  said = texts-append so.done (line ∷ []) ∙ ap₂ (λ (a b : List (List ℕ)). a ++ b) so.said (ap (λ t. t ∷ []) says)
      ∙ sym (lines-push (map placing_said places) (placing_said place)) ∙ ap place_lines (sym (said-push places place));
  stands = stands-push so.done places line place so.stands stands;
}

-- the next line is that of no position that may follow these
pub fails-line : (h : Heading) (lines rest : List PlacedLine) (places : List CpmPlace) (line : PlacedLine) (n : ℕ) → n ≡ length places → IsSpelledHeading h
    → ArePlaces lines (line ∷ rest) places
    → ((p : Placing) → line.text ≡ line_text (place_elements p) → AreSpelledPlacings (map placing_said places ++ p ∷ []) → ⊥)
    → FailsAt AreCpmLines (with_head h (texts lines)) (n + 3)
fails-line h lines rest places line n count spelled so none =
    fails-place h (texts lines) (map placing_said places) line.text (texts rest) n spelled so.spelled
    (ap texts so.are ∙ texts-append so.done (line ∷ rest) ∙ ap (λ ls. ls ++ (line.text ∷ texts rest)) so.said)
    (count ∙ sym (length-map places placing_said)) none

-- no line is left
pub all-said : (lines : List PlacedLine) (places : List CpmPlace) → ArePlaces lines [] places → texts lines ≡ place_lines (map placing_said places)
all-said lines places so = ap texts (so.are ∙ append-nil so.done) ∙ so.said

pub all-stand : (lines : List PlacedLine) (places : List CpmPlace) → ArePlaces lines [] places → PlacesStand lines places
all-stand lines places so = subst (λ ls. PlacesStand ls places) (sym (so.are ∙ append-nil so.done)) so.stands

-- lines that spell positions do not fail
pub places-pass : (lines : List PlacedLine) (ps : List Placing) (n : ℕ) → AreSpelledPlacings ps → 1 ≤ length ps → texts lines ≡ place_lines ps
    → ((h : Heading) → IsSpelledHeading h → FailsAt AreCpmLines (with_head h (texts lines)) n) → ⊥
places-pass lines ps n good some are fails =
    never-fails AreCpmLines (with_head some_heading (texts lines)) n
    (subst AreCpmLines (ap (with_head some_heading) (sym are)) (whole some_heading ps spelled-some_heading good some))
    (fails some_heading spelled-some_heading)

pub same-read : (lines : List PlacedLine) (places : List CpmPlace) (ps : List Placing) → ArePlaces lines [] places → AreSpelledPlacings ps → texts lines ≡ place_lines ps
    → map placing_said places ≡ ps
same-read lines places ps so good are = same-places (map placing_said places) ps so.spelled.spelled good.spelled (sym (all-said lines places so) ∙ are)

-- ---- the whole message

pub texts-head : (lines : List PlacedLine) (title second : PlacedLine) (rest : List PlacedLine) (h : Heading) → lines ≡ title ∷ second ∷ rest → title.text ≡ codes "CPM"
    → second.text ≡ line_text (heading_elements h) → texts lines ≡ with_head h (texts rest)
texts-head lines title second rest h are named says =
    ap texts are ∙ ap (λ t. t ∷ second.text ∷ texts rest) named ∙ ap (λ t. codes "CPM" ∷ t ∷ texts rest) says

pub same-hold : (h : Heading) (places : List Placing) (m : HoldMessage) → h ≡ m.heading → places ≡ m.places → record { heading = h; places = places } ≡ m
same-hold h places m e f = rw (e, f) refl

-- lines that are a message do not fail
pub passes : (lines : List PlacedLine) (n : ℕ) (m : HoldMessage) → FailsAt AreCpmLines (texts lines) n → IsSpelledCpm m → texts lines ≡ cpm_lines m → ⊥
passes lines n m fails spelled are = never-fails AreCpmLines (texts lines) n (record { said = m; spelled = spelled; are = are }) fails

-- what the lines say is what was read
pub back-cpm : (l0 l1 l2 : List PlacedLine) (title second : PlacedLine) (h : Heading) (places : List Placing) (m : HoldMessage)
    → l0 ≡ title ∷ l1 → l1 ≡ second ∷ l2
    → ((line : PlacedLine) (more : List PlacedLine) → l1 ≡ line ∷ more → (g : Heading) → IsSpelledHeading g → line.text ≡ line_text (heading_elements g) → h ≡ g)
    → ((ps : List Placing) → AreSpelledPlacings ps → 1 ≤ length ps → texts l2 ≡ place_lines ps → places ≡ ps)
    → IsSpelledCpm m → texts l0 ≡ cpm_lines m → record { heading = h; places = places } ≡ m
back-cpm l0 l1 l2 title second h places m e1 e2 head rest s are =
    let all : texts l0 ≡ title.text ∷ second.text ∷ texts l2 = ap texts (e1 ∙ ap (λ ls. title ∷ ls) e2) in
    same-hold h places m
    (head second l2 e2 m.heading s.heading (ap (λ (ls : List (List ℕ)). get_or ls 1 []) (sym all ∙ are)))
    (rest m.places s.places s.some (ap (λ (ls : List (List ℕ)). drop 2 ls) (sym all ∙ are)))

-- a fault behind the head is one of the whole
pub fault-behind : (l0 l1 l2 : List PlacedLine) (title second : PlacedLine) (h : Heading) (fault : MsgFault) → l0 ≡ title ∷ l1 → title.text ≡ codes "CPM" → l1 ≡ second ∷ l2
    → second.text ≡ line_text (heading_elements h) → IsFaultOf AreCpmLines (with_head h (texts l2)) fault → IsFaultOf AreCpmLines (texts l0) fault
fault-behind l0 l1 l2 title second h fault e1 named e2 says bad =
    subst (λ ls. IsFaultOf AreCpmLines ls fault) (sym (texts-head l0 title second l2 h (e1 ∙ ap (λ ls. title ∷ ls) e2) named says)) bad

-- no position was read, so no line is there
pub no-lines : (lines : List PlacedLine) (places : List CpmPlace) → ArePlaces lines [] places → length places ≡ 0 → texts lines ≡ []
no-lines lines [] so none = all-said lines [] so
no-lines lines (p ∷ places) so none = absurd (omega (arith, none))

pub fails-without : (h : Heading) (lines : List PlacedLine) (places : List CpmPlace) → IsSpelledHeading h → ArePlaces lines [] places → length places ≡ 0
    → FailsAt AreCpmLines (with_head h (texts lines)) 3
fails-without h lines places spelled so none =
    subst (λ ls. FailsAt AreCpmLines (with_head h ls) 3) (sym (no-lines lines places so none)) (fails-empty h spelled)

-- the lines of the positions of a message
pub behind-head : (l0 l1 l2 : List PlacedLine) (title second : PlacedLine) (m : HoldMessage) → l0 ≡ title ∷ l1 → l1 ≡ second ∷ l2 → texts l0 ≡ cpm_lines m
    → texts l2 ≡ place_lines m.places
behind-head l0 l1 l2 title second m e1 e2 are =
    ap (λ (ls : List (List ℕ)). drop 2 ls) (sym (ap texts (e1 ∙ ap (λ ls. title ∷ ls) e2)) ∙ are)
