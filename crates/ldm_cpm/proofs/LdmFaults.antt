-- Which lines may begin a load message.
use Rattle.std.proofs.Common.{◌≡◌, ℕ, ◌+◌, ◌≤◌, List, [], ◌∷◌, ◌++◌, length, get_or, refl, sym, ap, subst, arith, length-append, append_assoc}
use Rattle.std.specs.Prelude.{◌≢◌, codes}
use Rattle.std.proofs.lemmas.List.{append-nil}
use Rattle.telex.specs.Elements.{line_text}
use Rattle.text_lines.specs.Grammar.{Begins}
use Rattle.ldm_cpm.specs.Messages.{Heading, IsSpelledHeading, OnBoard, crew_elements, board_elements, IsSpelledBoard}
use Rattle.ldm_cpm.specs.Reading.{AreLdmLines}

abbrev nothing : OnBoard
nothing = record { destination = codes "AAA"; adults = 0; children = 0; infants = 0; loads = [] }

spelled-nothing : IsSpelledBoard nothing
spelled-nothing = record {
  destination = refl;
  adults = omega arith;
  children = omega arith;
  infants = omega arith;
  loads = tt;
  total = omega arith;
  seats = omega arith;
}

abbrev pub some_heading : Heading
some_heading = record { flight = codes "AA1"; day = codes "01"; registration = codes "AA"; version = codes "A" }

pub spelled-some_heading : IsSpelledHeading some_heading
spelled-some_heading = record { flight = refl; day = refl; registration = refl; version = refl }

-- the second line may follow the first
pub begins-crew : (h : Heading) (cockpit cabin : ℕ) → IsSpelledHeading h → cockpit ≤ 99 → cabin ≤ 99
    → Begins AreLdmLines (codes "LDM" ∷ line_text (crew_elements h cockpit cabin) ∷ [])
begins-crew h cockpit cabin spelled few seldom = record {
  more = line_text (board_elements nothing) ∷ [];
  kind = record {
    said = record { heading = h; cockpit = cockpit; cabin = cabin; board = nothing };
    spelled = record { heading = spelled; cockpit = few; cabin = seldom; board = spelled-nothing };
    are = refl;
  };
}

begins-front : (done more : List (List ℕ)) → Begins AreLdmLines (done ++ more) → Begins AreLdmLines done
begins-front done more b = record { more = more ++ b.more; kind = subst AreLdmLines (append_assoc done more b.more) b.kind }

begins-some : Begins AreLdmLines (codes "LDM" ∷ line_text (crew_elements some_heading 0 0) ∷ [])
begins-some = begins-crew some_heading 0 0 spelled-some_heading (omega arith) (omega arith)

pub begins-nothing : Begins AreLdmLines []
begins-nothing = begins-front [] (codes "LDM" ∷ line_text (crew_elements some_heading 0 0) ∷ []) begins-some

pub begins-title : Begins AreLdmLines (codes "LDM" ∷ [])
begins-title = begins-front (codes "LDM" ∷ []) (line_text (crew_elements some_heading 0 0) ∷ []) begins-some

pub begins-whole : (lines : List (List ℕ)) → AreLdmLines lines → Begins AreLdmLines lines
begins-whole lines are = record { more = []; kind = subst AreLdmLines (sym (append-nil lines)) are }

-- fewer lines than three are no message
pub too-few : (lines : List (List ℕ)) → length lines ≤ 2 → AreLdmLines lines → ⊥
too-few lines few are = omega (arith, few, ap length are.are)

-- each line is what its place wants
pub wrong-title : (line : List ℕ) → line ≢ codes "LDM" → Begins AreLdmLines (line ∷ []) → ⊥
wrong-title line other b = other (ap (λ (ls : List (List ℕ)). get_or ls 0 []) b.kind.are)

pub wrong-crew : (title line : List ℕ)
    → ((h : Heading) (cockpit cabin : ℕ) → IsSpelledHeading h → cockpit ≤ 99 → cabin ≤ 99 → line ≡ line_text (crew_elements h cockpit cabin) → ⊥)
    → Begins AreLdmLines (title ∷ line ∷ []) → ⊥
wrong-crew title line other b =
    let m = b.kind.said in
    other m.heading m.cockpit m.cabin b.kind.spelled.heading b.kind.spelled.cockpit b.kind.spelled.cabin (ap (λ (ls : List (List ℕ)). get_or ls 1 []) b.kind.are)

pub wrong-board : (title crew line : List ℕ) → ((m : OnBoard) → IsSpelledBoard m → line ≡ line_text (board_elements m) → ⊥)
    → Begins AreLdmLines (title ∷ crew ∷ line ∷ []) → ⊥
wrong-board title crew line other b = other b.kind.said.board b.kind.spelled.board (ap (λ (ls : List (List ℕ)). get_or ls 2 []) b.kind.are)

pub one-more : (title crew board line : List ℕ) → Begins AreLdmLines (title ∷ crew ∷ board ∷ line ∷ []) → ⊥
one-more title crew board line b = omega (arith, ap length b.kind.are, length-append (title ∷ crew ∷ board ∷ line ∷ []) b.more)
