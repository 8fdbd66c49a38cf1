use Rattle.std.proofs.Common.{◌++◌, ◌∷◌, [], List, length, map, ap, ap₂, subst, ◌∙◌, arith}
use Rattle.std.specs.List.{enumerate_from}
use Rattle.std.specs.Prelude.{ℕ, All, codes}
use Rattle.hold_parts.specs.declared.parts.Position.{Position}
use Rattle.hold_limits.specs.Layout.{Layout}
use Rattle.hold_limits.specs.Placement.{placed}
use Rattle.hold_limits.proofs.LawfulBounds.{hold-bounds}
use Rattle.telex.specs.Elements.{line_text}
use Rattle.text_lines.specs.Lines.{text_of}
use Rattle.ldm_cpm.specs.Messages.{Placing, heading_elements, place_lines, IsSpelledPlacing}
use Rattle.ldm_cpm.specs.Reading.{heading_of, placing_said}
use Rattle.ldm_cpm.proofs.Texts.{cpm-built}
use Rattle.transit_messages.specs.Onward.{onward_placing}
use Rattle.transit_messages.proofs.Finding.{told-length}
use Rattle.transit_messages.proofs.Keeping.{staying-differ, places-differ, keeps}
use Rattle.transit_messages.proofs.Loading.{carries}
use Rattle.transit_messages.proofs.onward.write_onward.Goals as goal

pub push_entries-requires-clause-right : goal.push_entries-requires-clause-right
push_entries-requires-clause-right c = record {
  short = omega (arith, ap length c.as_slice.ensures.value, c.requires.sound.short);
  stay = c.requires.stay;
  next = c.requires.next;
}

pub returns-clause-written : goal.returns-clause-written
returns-clause-written c =
    let t = c.args.task.now in
    let heading = line_text (heading_elements (heading_of c.args.head.now)) in
    let lines : List ℕ → List Position → List ℕ =
    λ path positions. text_of (place_lines (map (onward_placing c.args.next.now (map placing_said c.args.stay.now) (placed t path) t.loose) (enumerate_from 0 positions))) in
    c.finish.ensures ∙ c.in_ok-push_entries.ensures.written
    ∙ ap₂ (λ t ls. t ++ ls)
    (c.in_ok-end_line.ensures.added ∙ ap (λ t. t ++ 10 ∷ []) (c.in_ok-push_heading.ensures ∙ ap (λ t. t ++ heading) (c.in_ok-text.ensures.added ∙ ap (λ t. t ++ codes "CPM\n") c.new-out.ensures)))
    (ap₂ lines c.as_slice.ensures.value (c.named_positions.ensures.value ∙ ap (λ (h : Layout). h.positions) c.hold.ensures.value))
    ∙ cpm-built heading (lines c.args.path.now.items t.hold.positions)

pub returns-clause-read_back : goal.returns-clause-read_back
returns-clause-read_back c =
    let t = c.args.task.now in
    let next = c.args.next.now in
    let stay = map placing_said c.args.stay.now in
    let path = c.args.path.now.items in
    let bounds = hold-bounds t.hold c.hold.ensures.lawful.hold in
    let long = told-length (onward_placing next stay (placed t path) t.loose) t.hold.positions in
    let says : List ℕ → List Position → List Placing = λ path positions. map (onward_placing next stay (placed t path) t.loose) (enumerate_from 0 positions) in
    record {
      spelled = record {
        heading = c.requires.heading;
        places = record {
          spelled = subst (All IsSpelledPlacing)
              (ap₂ says c.as_slice.ensures.value (c.named_positions.ensures.value ∙ ap (λ (h : Layout). h.positions) c.hold.ensures.value))
              c.in_ok-push_entries.ensures.spelled;
          differ = places-differ next stay t path bounds.names;
          few = omega (arith, long, bounds.positions);
        };
        some = omega (arith, long, bounds.some_position);
      };
      is = returns-clause-written c;
    }

pub returns-clause-kept : goal.returns-clause-kept
returns-clause-kept c =
    let t = c.args.task.now in
    let stay = map placing_said c.args.stay.now in
    keeps c.args.next.now stay t c.args.path.now.items c.requires.right (staying-differ t stay c.hold.ensures.lawful c.requires.right)

pub returns-clause-carried : goal.returns-clause-carried
returns-clause-carried c =
    carries c.args.next.now (map placing_said c.args.stay.now) c.args.task.now c.args.path.now.items c.hold.ensures.lawful c.requires.right c.requires.sound
