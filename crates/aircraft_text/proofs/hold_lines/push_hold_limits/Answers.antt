use Rattle.std.proofs.Common.{◌++◌, map, ◌∙◌, ap, ℕ, List}
use Rattle.std.proofs.lemmas.Result.{on_ok_weaker}
use Rattle.hold_parts.specs.declared.parts.Combined.{Combined}
use Rattle.hold_parts.specs.declared.parts.Cumulative.{Cumulative}
use Rattle.text_lines.specs.Lines.{text_of}
use Rattle.aircraft_text.specs.AircraftText.{exclude_line, combined_line, cumulative_line}
use Rattle.aircraft_text.proofs.LineLemmas.{lines_of_3}
use Rattle.aircraft_text.proofs.hold_lines.push_hold_limits.Goals as goal

pub returns : goal.returns
returns c =
    let hold = c.args.hold.now in
    let ps = hold.positions in
    let one = c.write_lines.new.out in
    let two = c.write_lines-2.new.out in
    on_ok_weaker c.write_lines-3.result
    (λ last. lines_of_3 c.args.out.now (map (exclude_line ps) hold.excludes) (map (combined_line ps) hold.combined) (map (cumulative_line ps) hold.cumulative)
    one two c.write_lines-3.new.out
    (c.in_ok-write_lines.ensures.added ∙ ap (λ (pairs : List (ℕ × ℕ)). c.args.out.now ++ text_of (map (exclude_line ps) pairs)) c.excludes.ensures.value)
    (c.in_ok-write_lines-2.ensures.added ∙ ap (λ (limits : List Combined). one ++ text_of (map (combined_line ps) limits)) c.combined.ensures.value)
    (last ∙ ap (λ (limits : List Cumulative). two ++ text_of (map (cumulative_line ps) limits)) c.cumulative.ensures.value))
    c.write_lines-3.ensures.added
