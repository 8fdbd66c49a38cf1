use Rattle.std.proofs.Common.{◌≡◌, ◌++◌, ◌∷◌, [], ◌∙◌, List, All, map, ap, subst}
use Rattle.hold_parts.specs.Spellings.{IsName}
use Rattle.hold_parts.specs.declared.parts.Position.{Position}
use Rattle.hold_limits.specs.Layout.{Layout}
use Rattle.text_lines.specs.Lines.{text_of}
use Rattle.flight_state.specs.declared.change.Lmc.{Lmc}
use Rattle.flight_row.specs.declared.row.Version.TheVariants.{Two}
use Rattle.flight_row.specs.RowText.{version_line, leg_line, edition_line, stage_line, releases_line, plan_lines, change_line}
use Rattle.flight_row.specs.Spelled.{IsNamedChange}
use Rattle.flight_row.specs.Loading.{row_of, plan_names}
use Rattle.flight_row.proofs.RowWriterLemmas.{row_written}
use Rattle.flight_row.proofs.WrittenLemmas.{read_back}
use Rattle.flight_row.proofs.writer.write_row.Goals as goal

pub returns-clause-written : goal.returns-clause-written
returns-clause-written c =
    let a = c.args.a.now in
    let s = c.args.s.now in
    let row = row_of a s in
    let t1 = c.push_head.new.text in
    let t2 = c.push_base.new.text in
    let t3 = c.push_plan.new.text in
    let t4 = c.write_lines.new.out in
    let H = version_line Two ∷ leg_line s.leg ∷ edition_line s.edition ∷ stage_line s.stage ∷ releases_line s.releases ∷ [] in
    let e1 : t1 ≡ text_of H = c.in_ok-push_head.ensures.lines ∙ ap (λ t. t ++ text_of H) c.in_ok-text.ensures in
    let e3 : t3 ≡ t2 ++ text_of (plan_lines row.plan) = c.in_ok-push_plan.ensures.lines ∙ ap (λ (h : Layout). t2 ++ text_of (plan_lines (plan_names h.positions s))) c.hold-hold.ensures.value in
    let e4 : t4 ≡ t3 ++ text_of (map change_line row.lmcs) = c.in_ok-write_lines.ensures.added ∙ ap (λ (xs : List Lmc). t3 ++ text_of (map change_line xs)) c.as_slice.ensures.value in
    c.finish.ensures ∙ row_written row t1 t2 t3 t4 c.text-5.new.self c.end_line.new.self e1 c.in_ok-push_base.ensures.lines e3 e4 c.in_ok-text-2.ensures.added c.in_ok-end_line.ensures.added

pub returns-clause-read_back : goal.returns-clause-read_back
returns-clause-read_back c =
    let where_are = c.named_positions-positions.ensures.value ∙ ap (λ (h : Layout). h.positions) c.hold-hold.ensures.value in
    let named = subst (All (λ (q : Position). IsName q.name)) where_are c.named_positions-positions.ensures.named in
    let changes = subst (All IsNamedChange) c.as_slice.ensures.value c.in_ok-write_lines.ensures.spelled in
    λ fleet found keeps. read_back fleet c.args.a.now c.args.s.now c.finish.result.items c.requires c.hold-hold.ensures.lawful (returns-clause-written c) c.in_ok-push_head.ensures.spelled
    c.in_ok-push_base.ensures.identified c.in_ok-push_base.ensures.named named c.in_ok-push_plan.ensures.few changes c.as_slice.ensures.few found keeps
