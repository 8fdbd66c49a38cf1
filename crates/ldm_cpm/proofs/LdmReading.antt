-- Reading a load message line by line.
use Rattle.std.proofs.Common.{◌≡◌, ℕ, ◌≤◌, List, [], ◌∷◌, ◌++◌, get_or, refl, sym, ap, subst, ◌∙◌, arith, append_assoc}
use Rattle.std.specs.Prelude.{◌≢◌, codes}
use Rattle.telex.specs.Elements.{line_text}
use Rattle.telex.specs.Lines.{PlacedLine}
use Rattle.ldm_cpm.specs.Messages.{Heading, IsSpelledHeading, OnBoard, LoadMessage, crew_elements, board_elements, ldm_lines, IsSpelledBoard, IsSpelledLdm}
use Rattle.ldm_cpm.specs.Reading.{FailsAt, AreLdmLines, texts}
use Rattle.ldm_cpm.specs.Reading.FailsAt.{wrong_line, missing_line}
use Rattle.ldm_cpm.proofs.LineFaults.{fails-next}
use Rattle.ldm_cpm.proofs.LdmFaults.{begins-nothing, begins-title, begins-crew, begins-whole, too-few, wrong-title, wrong-crew, wrong-board, one-more}

-- the lines of a message do not fail
pub never-fails : (IsKind : List (List ℕ) → Type 0) (lines : List (List ℕ)) (n : ℕ) → IsKind lines → FailsAt IsKind lines n → ⊥
never-fails IsKind lines n kind (wrong_line done line after is begins not) =
    not (record { more = after; kind = subst IsKind (is ∙ sym (append_assoc done (line ∷ []) after)) kind })
never-fails IsKind lines n kind (missing_line begins none) = none kind

pub fails-title : (lines : List PlacedLine) → ((line : PlacedLine) (more : List PlacedLine) → lines ≡ line ∷ more → line.text ≢ codes "LDM")
    → FailsAt AreLdmLines (texts lines) 1
fails-title lines other =
    fails-next AreLdmLines [] (texts lines) lines refl begins-nothing (too-few [] (omega arith)) (λ line more is b. wrong-title line.text (other line more is) b)

pub fails-crew : (lines : List PlacedLine) (title : PlacedLine) (rest : List PlacedLine) → lines ≡ title ∷ rest → title.text ≡ codes "LDM"
    → ((line : PlacedLine) (more : List PlacedLine) → rest ≡ line ∷ more → (h : Heading) (cockpit cabin : ℕ) → IsSpelledHeading h → cockpit ≤ 99 → cabin ≤ 99 → line.text ≡ line_text (crew_elements h cockpit cabin) → ⊥)
    → FailsAt AreLdmLines (texts lines) 2
fails-crew lines title rest is named none =
    fails-next AreLdmLines (codes "LDM" ∷ []) (texts lines) rest (ap texts is ∙ ap (λ t. t ∷ texts rest) named) begins-title (too-few (codes "LDM" ∷ []) (omega arith))
    (λ line more first b. wrong-crew (codes "LDM") line.text (none line more first) b)

-- what was read of the first two lines
pub record HasCrew (lines : List PlacedLine) (rest : List PlacedLine) (h : Heading) (cockpit cabin : ℕ) : Type 0 where
  pub title : PlacedLine
  pub second : PlacedLine
  pub are : lines ≡ title ∷ second ∷ rest
  pub named : title.text ≡ codes "LDM"
  pub says : second.text ≡ line_text (crew_elements h cockpit cabin)
  pub spelled : IsSpelledHeading h
  pub few : cockpit ≤ 99
  pub seldom : cabin ≤ 99

texts-crew : (lines rest : List PlacedLine) (h : Heading) (cockpit cabin : ℕ) → (read : HasCrew lines rest h cockpit cabin)
    → texts lines ≡ codes "LDM" ∷ line_text (crew_elements h cockpit cabin) ∷ texts rest
texts-crew lines rest h cockpit cabin read =
    ap texts read.are ∙ ap (λ t. t ∷ read.second.text ∷ texts rest) read.named ∙ ap (λ t. codes "LDM" ∷ t ∷ texts rest) read.says

pub fails-board : (lines rest : List PlacedLine) (h : Heading) (cockpit cabin : ℕ) → HasCrew lines rest h cockpit cabin
    → ((line : PlacedLine) (more : List PlacedLine) → rest ≡ line ∷ more → (m : OnBoard) → IsSpelledBoard m → line.text ≡ line_text (board_elements m) → ⊥)
    → FailsAt AreLdmLines (texts lines) 3
fails-board lines rest h cockpit cabin read none =
    let done = codes "LDM" ∷ line_text (crew_elements h cockpit cabin) ∷ [] in
    fails-next AreLdmLines done (texts lines) rest (texts-crew lines rest h cockpit cabin read) (begins-crew h cockpit cabin read.spelled read.few read.seldom) (too-few done (omega arith))
    (λ line more first b. wrong-board (codes "LDM") (line_text (crew_elements h cockpit cabin)) line.text (none line more first) b)

pub texts-whole : (lines rest : List PlacedLine) (m : LoadMessage) (third : PlacedLine) (more : List PlacedLine) → HasCrew lines rest m.heading m.cockpit m.cabin → rest ≡ third ∷ more → third.text ≡ line_text (board_elements m.board)
    → texts lines ≡ ldm_lines m ++ texts more
texts-whole lines rest m third more read is says =
    texts-crew lines rest m.heading m.cockpit m.cabin read
    ∙ ap (λ ls. codes "LDM" ∷ line_text (crew_elements m.heading m.cockpit m.cabin) ∷ texts ls) is
    ∙ ap (λ t. codes "LDM" ∷ line_text (crew_elements m.heading m.cockpit m.cabin) ∷ t ∷ texts more) says

pub fails-more : (lines rest : List PlacedLine) (m : LoadMessage) (third line : PlacedLine) (more after : List PlacedLine) → IsSpelledLdm m → HasCrew lines rest m.heading m.cockpit m.cabin → rest ≡ third ∷ more → third.text ≡ line_text (board_elements m.board)
    → more ≡ line ∷ after → FailsAt AreLdmLines (texts lines) 4
fails-more lines rest m third line more after spelled read is says next =
    wrong_line (ldm_lines m) line.text (texts after) (texts-whole lines rest m third more read is says ∙ ap (λ ls. ldm_lines m ++ texts ls) next)
    (begins-whole (ldm_lines m) (record { said = m; spelled = spelled; are = refl }))
    (one-more (codes "LDM") (line_text (crew_elements m.heading m.cockpit m.cabin)) (line_text (board_elements m.board)) line.text)

pub same-message : (h : Heading) (crew : ℕ × ℕ) (board : OnBoard) (m : LoadMessage) → h ≡ m.heading → crew ≡ (m.cockpit, m.cabin) → board ≡ m.board
    → record { heading = h; cockpit = crew.0; cabin = crew.1; board = board } ≡ m
same-message h crew board m e f g = rw (e, f, g) refl

-- lines that are a message do not fail
pub passes : (lines : List PlacedLine) (n : ℕ) (m : LoadMessage) → FailsAt AreLdmLines (texts lines) n → IsSpelledLdm m → texts lines ≡ ldm_lines m → ⊥
passes lines n m fails spelled are = never-fails AreLdmLines (texts lines) n (record { said = m; spelled = spelled; are = are }) fails

-- the three lines that were read are those of a message
pub read-ldm : (l0 l1 l2 l3 : List PlacedLine) (title second third : PlacedLine) (m : LoadMessage) → l0 ≡ title ∷ l1 → title.text ≡ codes "LDM" → l1 ≡ second ∷ l2
    → second.text ≡ line_text (crew_elements m.heading m.cockpit m.cabin) → l2 ≡ third ∷ l3 → third.text ≡ line_text (board_elements m.board) → l3 ≡ []
    → texts l0 ≡ ldm_lines m
read-ldm l0 l1 l2 l3 title second third m e1 named e2 crew e3 board last =
    ap texts (e1 ∙ ap (λ ls. title ∷ ls) (e2 ∙ ap (λ ls. second ∷ ls) (e3 ∙ ap (λ ls. third ∷ ls) last)))
    ∙ ap (λ t. t ∷ second.text ∷ third.text ∷ []) named ∙ ap (λ t. codes "LDM" ∷ t ∷ third.text ∷ []) crew
    ∙ ap (λ t. codes "LDM" ∷ line_text (crew_elements m.heading m.cockpit m.cabin) ∷ t ∷ []) board

-- what the lines say is what was read
pub back-ldm : (l0 l1 l2 l3 : List PlacedLine) (title second third : PlacedLine) (h : Heading) (crew : ℕ × ℕ) (board : OnBoard) (m : LoadMessage)
    → l0 ≡ title ∷ l1 → l1 ≡ second ∷ l2 → l2 ≡ third ∷ l3
    → ((line : PlacedLine) (more : List PlacedLine) → l1 ≡ line ∷ more → (g : Heading) (x y : ℕ) → IsSpelledHeading g → x ≤ 99 → y ≤ 99
    → line.text ≡ line_text (crew_elements g x y) → (h ≡ g) × (crew ≡ (x, y)))
    → ((line : PlacedLine) (more : List PlacedLine) → l2 ≡ line ∷ more → (b : OnBoard) → IsSpelledBoard b → line.text ≡ line_text (board_elements b) → board ≡ b)
    → IsSpelledLdm m → texts l0 ≡ ldm_lines m → record { heading = h; cockpit = crew.0; cabin = crew.1; board = board } ≡ m
back-ldm l0 l1 l2 l3 title second third h crew board m e1 e2 e3 head rest s are =
    let all : texts l0 ≡ title.text ∷ second.text ∷ third.text ∷ texts l3 = ap texts (e1 ∙ ap (λ ls. title ∷ ls) (e2 ∙ ap (λ ls. second ∷ ls) e3)) in
    let first = head second l2 e2 m.heading m.cockpit m.cabin s.heading s.cockpit s.cabin (ap (λ (ls : List (List ℕ)). get_or ls 1 []) (sym all ∙ are)) in
    let other = rest third l3 e3 m.board s.board (ap (λ (ls : List (List ℕ)). get_or ls 2 []) (sym all ∙ are)) in
    same-message h crew board m first.0 first.1 other
