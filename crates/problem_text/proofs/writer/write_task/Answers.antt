use Rattle.std.proofs.Common.{rules, ◌≡◌, ◌++◌, ◌∷◌, [], List, ℕ, map, codes, ap, ◌∙◌}
use Rattle.std.proofs.lemmas.List.{append_assoc}
use Rattle.problem_text.specs.TaskText.{position_line, exclude_line, combined_line, cumulative_line, header_line, lateral_lines, item_line, loose_line, base_line, window_line, ideal_line}
use Rattle.text_lines.specs.Lines.{text_of}
use Rattle.hold_limits.specs.Layout.{Layout}
use Rattle.problem_text.proofs.WriterLemmas.{more_lines}
use Rattle.problem_text.proofs.SpelledTask.{lawful-spelled}
use Rattle.problem_text.proofs.writer.write_task.Goals as goal

pub returns : goal.returns
returns c =
    let t = c.args.task.now in
    let ps = t.hold.positions in
    let start : List (List ℕ) = header_line t.hold.lateral ∷ [] in
    let positions : List (List ℕ) = map position_line ps in
    let excludes : List (List ℕ) = map (exclude_line ps) t.hold.excludes in
    let combined : List (List ℕ) = map (combined_line ps) t.hold.combined in
    let cumulative : List (List ℕ) = map (cumulative_line ps) t.hold.cumulative in
    let lateral : List (List ℕ) = lateral_lines ps t.hold.lateral in
    let items : List (List ℕ) = map item_line t.items in
    let loose : List (List ℕ) = map (loose_line ps) t.loose in
    let indices : List (List ℕ) = base_line t.base ∷ window_line t.low t.high ∷ ideal_line t.ideal_low t.ideal_high ∷ [] in
    let last : List (List ℕ) = codes "END" ∷ [] in
    let e0 : c.text.new.self ≡ text_of start = c.in_ok-text.ensures.added ∙ ap (λ t. t ++ c.header.result.now) c.new-out.ensures ∙ c.header.ensures ∙ ap (λ (h : Layout). header_line h.lateral ++ 10 ∷ []) c.hold-hold.ensures.value in
    let e1 = more_lines start positions _ c.write_lines.new.out e0 (search rules) in
    let e2 = more_lines (start ++ positions) excludes _ c.write_lines-2.new.out e1 (rw (c.excludes.ensures.value, c.hold-hold.ensures.value) at c.in_ok-write_lines-2.ensures.added) in
    let e3 = more_lines (start ++ positions ++ excludes) combined _ c.write_lines-3.new.out e2 (rw (c.combined.ensures.value, c.hold-hold.ensures.value) at c.in_ok-write_lines-3.ensures.added) in
    let e4 = more_lines (start ++ positions ++ excludes ++ combined) cumulative _ c.write_lines-4.new.out e3 (rw (c.cumulative.ensures.value, c.hold-hold.ensures.value) at c.in_ok-write_lines-4.ensures.added) in
    let e5 = more_lines (start ++ positions ++ excludes ++ combined ++ cumulative) lateral _ c.push_lateral.new.out e4 (search rules) in
    let limits = start ++ positions ++ excludes ++ combined ++ cumulative ++ lateral in
    let e6 = more_lines limits items _ c.write_lines-5.new.out e5 (search rules) in
    let e7 = more_lines (limits ++ items) loose _ c.write_lines-6.new.out e6 (rw (c.loose.ensures.value, c.hold-hold.ensures.value) at c.in_ok-write_lines-6.ensures.added) in
    let before = limits ++ items ++ loose in
    let e8 = more_lines before indices _ c.push_indices.new.out e7 c.in_ok-push_indices.ensures in
    let e9 = more_lines (before ++ indices) last _ c.text-2.new.self e8 c.in_ok-text-2.ensures.added in
    record { is = c.finish.ensures ∙ e9 ∙ ap text_of (append_assoc before indices last); spelled = lawful-spelled t c.hold-hold.ensures.lawful (search rules) (search rules) }
