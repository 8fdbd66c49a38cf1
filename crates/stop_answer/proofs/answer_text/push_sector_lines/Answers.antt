use Rattle.std.proofs.Common.{◌≡◌, ◌++◌, ◌∷◌, [], ◌+◌, drop, Some, ap, sym, subst, ◌∙◌, arith}
use Rattle.std.proofs.lemmas.List.{append-nil, drop_all}
use Rattle.std.proofs.lemmas.Option.{slice_get-get_or}
use Rattle.std.specs.Prelude.{slice_get}
use Rattle.hold_limits.specs.Problem.{Problem}
use Rattle.hold_limits.specs.Placement.{IsSound, take_off_index}
use Rattle.text_lines.specs.Lines.{text_of}
use Rattle.stop_answer.specs.AnswerText.{sector_line, sector_lines}
use Rattle.stop_answer.proofs.AnswerLemmas.{sector_lines-next}
use Rattle.stop_answer.proofs.answer_text.push_sector_lines.Goals as goal

pub push_sector_line-requires : goal.push_sector_line-requires
push_sector_line-requires c =
    let sectors = c.args.sectors.now in
    let place = c.loop-place.place in
    let sector : Problem = c.index-sectors-place.result in
    let there : slice_get sectors place ≡ Some sector = slice_get-get_or sectors place _ c.loop-place-test.true ∙ ap (λ s. Some s) (sym c.index-sectors-place.is) in
    subst (IsSound sector) (sym c.part_of.ensures) (c.requires.sound place sector there)

pub loop-place-preserved : goal.loop-place-preserved
loop-place-preserved c =
    let last = c.args.last.now in
    let path = c.args.path.now in
    let sectors = c.args.sectors.now in
    let place = c.loop-place.place in
    let sector : Problem = c.index-sectors-place.result in
    let before = c.loop-place.out in
    let written = c.in_ok-push_sector_line.ensures ∙ ap (λ part. before ++ text_of (sector_line (place + 1) (take_off_index sector part) ∷ [])) c.part_of.ensures in
    ap (λ text. text ++ text_of (sector_lines last path (place + 1 + 1) (drop (place + 1) sectors))) written
    ∙ sector_lines-next before last path place sectors sector _ c.loop-place-test.true c.index-sectors-place.is
    ∙ c.loop-place.invariant

pub returns : goal.returns
returns c =
    let sectors = c.args.sectors.now in
    let none : drop c.loop-place.place sectors ≡ [] = drop_all c.loop-place.place sectors (omega arith) in
    rw (none, append-nil c.loop-place.out) at c.loop-place.invariant
