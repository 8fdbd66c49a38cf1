-- a lawful task whose names and identities are spelled is in its spelling
use Rattle.std.proofs.Common.{ℕ, ◌<◌, ◌≤◌, ◌^◌, ℤ, Bool, true, false, List, [], length, get_or, Option, Some, None, IfSome, arith, unsigned_abs}
use Rattle.std.proofs.lemmas.List.Elements.{All-weaker}
use Rattle.std.specs.Option.{option_map_or}
use Rattle.std.specs.Prelude.{All}
use Rattle.mass_units.specs.Spelling.{IsNumber, IsSignedNumber, IsIndex}
use Rattle.hold_parts.specs.declared.lists.Fit.{Fit}
use Rattle.hold_parts.specs.declared.parts.Position.{Position}
use Rattle.hold_parts.specs.declared.parts.Lateral.{Lateral}
use Rattle.hold_parts.specs.declared.parts.Item.{Item}
use Rattle.hold_limits.specs.Problem.{Problem}
use Rattle.hold_parts.specs.Spellings.{IsName, IsUldId}
use Rattle.hold_limits.specs.Faults.{IsLawful}
use Rattle.hold_limits.specs.Bounds.{HasUpTo16Kinds, IsContainerMass}
use Rattle.hold_limits.proofs.LawfulBounds.{hold-bounds, lawful-bounds}
use Rattle.problem_text.specs.TaskText.{NamesKindsUnlessBulk, IsSpelledLateral, IsSpelled}
use Rattle.text_lines.specs.Names.{IsNamed}
use Rattle.text_lines.proofs.NameRuns.{first_named}

nine_digits : (n : ℕ) → n ≤ 999999999 → n < 10 ^ 9
nine_digits n most = omega arith

number-small : (n : ℕ) → n ≤ 20000 → IsNumber n
number-small n most = omega arith

signed-small : (z : ℤ) → unsigned_abs z ≤ 100000 → IsSignedNumber z
signed-small z most = omega arith

index-right : (z : ℤ) → unsigned_abs z ≤ 1000000000 → IsIndex z
index-right z most = omega arith

kinds-right : (bulk : Bool) (fits : List Fit) → HasUpTo16Kinds bulk fits → NamesKindsUnlessBulk bulk fits
kinds-right true fits right = right
kinds-right false fits right = right.0

lateral-spelled : (t : Problem) (lateral : Option Lateral) → ((q : ℕ) → q < length t.hold.positions → IsNamed t.hold.positions q) → All (λ (side : ℕ × Bool). side.0 < length t.hold.positions) (option_map_or (λ (l : Lateral). l.sides) lateral []) → IfSome lateral (λ (l : Lateral). l.most.0 ≤ 999999999) → IfSome lateral (IsSpelledLateral t.hold.positions)
lateral-spelled t None named known most = tt
lateral-spelled t (Some l) named known most = record {
  sides = λ k d within. named (get_or l.sides k d).0 (known k d within);
  most = nine_digits l.most.0 most;
}

pub lawful-spelled : (t : Problem) → IsLawful t → All (λ (q : Position). IsName q.name) t.hold.positions → All (λ (item : Item). IsUldId item.id) t.items → IsSpelled t
lawful-spelled t lawful names ids =
    let of_hold = hold-bounds t.hold lawful.hold in
    let of_task = lawful-bounds t lawful in
    let spelled = lawful.hold.spelled in
    let ps = t.hold.positions in
    let named : (q : ℕ) → q < length ps → IsNamed ps q = first_named ps of_hold.names in
    record {
      positions = λ k d within. record {
        name = names k d within;
        compartment = spelled.compartments k d within;
        influence = signed-small (get_or ps k d).influence (of_hold.influences k d within);
        some = kinds-right _ _ (of_hold.kinds k d within);
        kinds = spelled.kinds k d within;
        masses = All-weaker IsContainerMass (λ (fit : Fit). IsNumber fit.most.0) (λ fit right. number-small fit.most.0 right.1) (get_or ps k d).fits (of_hold.masses k d within);
      };
      excludes = λ k d within. let known = of_hold.excludes k d within in (named _ known.0, named _ known.1);
      combined = λ k d within. let limit = of_hold.combined k d within in record {
        some = limit.0;
        places = All-weaker (λ q. q < length ps) (IsNamed ps) named (get_or t.hold.combined k d).places limit.1;
        most = nine_digits _ (spelled.combined k d within);
      };
      cumulative = λ k d within. record {
        place = named _ (of_hold.cumulative k d within);
        most = nine_digits _ (spelled.cumulative k d within);
      };
      lateral = lateral-spelled t t.hold.lateral named of_hold.sides spelled.lateral;
      items = λ k d within. record { id = ids k d within; mass = number-small _ (of_task.item_masses k d within) };
      loose = λ k d within. record { position = named _ (of_task.loose_known k d within); mass = number-small _ (of_task.loose_masses k d within) };
      base = index-right t.base of_task.base;
      low = index-right t.low of_task.low;
      high = index-right t.high of_task.high;
      ideal_low = index-right t.ideal_low of_task.ideal_low;
      ideal_high = index-right t.ideal_high of_task.ideal_high;
    }
