-- What is said of a position can be spelled.
use Rattle.std.proofs.Common.{◌≡◌, ℕ, ◌<◌, ◌≤◌, true, List, map, Option, Some, option_map, sym, ap, ◌∙◌, arith}
use Rattle.std.proofs.lemmas.Bool.Decides.{nat_tests}
use Rattle.std.specs.Prelude.{All, find, bytes_eq}
use Rattle.hold_parts.specs.Spellings.{IsName}
use Rattle.hold_parts.specs.declared.parts.Loose.{Loose}
use Rattle.hold_parts.specs.declared.parts.Position.{Position}
use Rattle.hold_limits.proofs.LawfulBounds.{lawful-bounds}
use Rattle.hold_limits.specs.Faults.{IsLawful}
use Rattle.hold_limits.specs.Problem.{Problem}
use Rattle.flight_state.specs.Spellings.{is_station}
use Rattle.ldm_cpm.specs.Messages.{IsSpelledPlacing}
use Rattle.ldm_cpm.specs.Reading.{placing_said}
use Rattle.ldm_cpm.specs.declared.messages.CpmPlace.{CpmPlace}
use Rattle.transit_messages.specs.Onward.{load_for, weighs_on, is_named}
use Rattle.transit_messages.proofs.Finding.{found-is, find-map, All-of_map}

weighs-more : (n : ℕ) (l : Loose) → weighs_on n l ≡ true → 0 < l.mass.0
weighs-more n l is = grind (arith, nat_tests)

pub spelled-load : (t : Problem) (n : ℕ) (next : List ℕ) (q : Position) (load : Loose) → IsLawful t → is_station next ≡ true → IsName q.name → Some load ≡ find (weighs_on n) t.loose
    → IsSpelledPlacing (load_for next q load)
spelled-load t n next q load lawful station named is =
    let found = rw (sym is) at (found-is (weighs_on n) (λ (l : Loose). l.mass.0 ≤ 20000) t.loose (lawful-bounds t lawful).loose_masses) in
    record { name = named; content = (station, weighs-more n load found.0, omega (arith, found.1)) }

-- what stays is found by its name, as a part of a message or as what it says
pub staying-said : (stay : List CpmPlace) (name : List ℕ) (found : Option CpmPlace) → found ≡ find (λ (p : CpmPlace). bytes_eq p.name.text.now name) stay
    → find (is_named name) (map placing_said stay) ≡ option_map placing_said found
staying-said stay name found is = find-map placing_said (is_named name) stay ∙ ap (option_map placing_said) (sym is)

pub spelled-staying : (stay : List CpmPlace) (name : List ℕ) (place : CpmPlace) → All IsSpelledPlacing (map placing_said stay) → Some place ≡ find (λ (p : CpmPlace). bytes_eq p.name.text.now name) stay
    → IsSpelledPlacing (placing_said place)
spelled-staying stay name place spelled is =
    let found = rw (sym is) at (found-is (λ (p : CpmPlace). bytes_eq p.name.text.now name) (λ (p : CpmPlace). IsSpelledPlacing (placing_said p)) stay (All-of_map IsSpelledPlacing placing_said stay spelled)) in
    found.1
