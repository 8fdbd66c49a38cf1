use Rattle.std.proofs.Common.{◌≡◌, ◌≤◌, map, length, sym, subst, ◌∙◌, arith}
use Rattle.std.proofs.lemmas.Bool.{false≢true}
use Rattle.std.proofs.lemmas.Bool.Decides.{nat_tests}
use Rattle.telex.specs.Items.{placed_line}
use Rattle.ldm_cpm.specs.Messages.{AreSpelledPlacings}
use Rattle.ldm_cpm.specs.Reading.{placing_said}
use Rattle.ldm_cpm.proofs.CpmReading.{ArePlaces, start-places, more-places, fails-line, fails-without, all-said, all-stand, places-pass, same-read}
use Rattle.ldm_cpm.proofs.cpm_reader.read_places.Goals as goal

pub loop-line-init : goal.loop-line-init
loop-line-init c = rw (c.into_iter-line-iterator.ensures.into_iter_gives, c.new-places.ensures.items) (start-places c.args.lines)

pub loop-line-preserved : goal.loop-line-preserved
loop-line-preserved c =
    let line = placed_line c.in-Some.line in
    let rest = c.next.new.self in
    let places = c.loop-line.places.items in
    let so = subst (λ ls. ArePlaces c.args.lines ls places) c.in-Some.ensures.steps c.loop-line.invariant in
    let added = rw c.if-not-branch.false at c.in_ok-push_place.ensures.added in
    let spelled = rw c.if-not-branch.false at (c.in_ok-push_place.ensures.spelled so.spelled) in
    subst (ArePlaces c.args.lines rest) (sym added.1)
    (more-places c.args.lines rest places line added.0 so (subst (λ items. AreSpelledPlacings (map placing_said items)) added.1 spelled) added.2 added.3)

pub returns-then-not-branch-clause-refused : goal.returns-then-not-branch-clause-refused
returns-then-not-branch-clause-refused c = λ h spelled.
    let line = placed_line c.in-Some.line in
    let places = c.loop-line.places.items in
    let so = subst (λ ls. ArePlaces c.args.lines ls places) c.in-Some.ensures.steps c.loop-line.invariant in
    let long : c.len-number.result ≡ length places = grind (arith, c.len-number.ensures, c.loop-line.places.ok) in
    fails-line h c.args.lines c.next.new.self places line c.len-number.result long spelled so
    (λ p is s. false≢true (sym c.if-not-branch.true ∙ (c.in_ok-push_place.ensures.read_back p is s).0))

pub returns-then-not-branch-clause-read_back : goal.returns-then-not-branch-clause-read_back
returns-then-not-branch-clause-read_back c = λ ps good some are.
    absurd (places-pass c.args.lines ps _ good some are (returns-then-not-branch-clause-refused c))

pub returns-then-is_empty-clause-refused : goal.returns-then-is_empty-clause-refused
returns-then-is_empty-clause-refused c = λ h spelled.
    let places = c.loop-line.places.items in
    let so = subst (λ ls. ArePlaces c.args.lines ls places) c.in-None.ensures.steps.0 c.loop-line.invariant in
    let none : length places ≡ 0 = grind (arith, nat_tests, c.is_empty.ensures, c.if-is_empty.true, c.loop-line.places.ok) in
    fails-without h c.args.lines places spelled so none

pub returns-then-is_empty-clause-read_back : goal.returns-then-is_empty-clause-read_back
returns-then-is_empty-clause-read_back c = λ ps good some are.
    absurd (places-pass c.args.lines ps 3 good some are (returns-then-is_empty-clause-refused c))

pub returns-clause-spelled : goal.returns-clause-spelled
returns-clause-spelled c =
    let places = c.loop-line.places.items in
    let so = subst (λ ls. ArePlaces c.args.lines ls places) c.in-None.ensures.steps.0 c.loop-line.invariant in
    let some : 1 ≤ length places = grind (arith, nat_tests, c.is_empty.ensures, c.if-is_empty.false) in
    (so.spelled, some)

pub returns-clause-said : goal.returns-clause-said
returns-clause-said c =
    let places = c.loop-line.places.items in
    all-said c.args.lines places (subst (λ ls. ArePlaces c.args.lines ls places) c.in-None.ensures.steps.0 c.loop-line.invariant)

pub returns-clause-stands : goal.returns-clause-stands
returns-clause-stands c =
    let places = c.loop-line.places.items in
    all-stand c.args.lines places (subst (λ ls. ArePlaces c.args.lines ls places) c.in-None.ensures.steps.0 c.loop-line.invariant)

pub returns-clause-read_back : goal.returns-clause-read_back
returns-clause-read_back c = λ ps good some are.
    let places = c.loop-line.places.items in
    same-read c.args.lines places ps (subst (λ ls. ArePlaces c.args.lines ls places) c.in-None.ensures.steps.0 c.loop-line.invariant) good are
