use Rattle.std.proofs.Common.{◌≡◌, ◌+◌, ◌∙◌, ℕ, List, ◌∷◌, ◌++◌, map, drop, sym, ap, subst, true, rules, All}
use Rattle.std.specs.Result.{is_ok}
use Rattle.std.proofs.lemmas.List.{drop_more}
use Rattle.std.proofs.lemmas.List.Elements.{All-push}
use Rattle.csv.specs.Records.{Row, fields_of}
use Rattle.hold_parts.specs.declared.parts.Item.{Item}
use Rattle.flight_row.specs.Spelled.{IsSpelledContainer}
use Rattle.desk_bodies.specs.Containers.{record_of}
use Rattle.desk_bodies.proofs.RecordLemmas.{image_of, one_more}
use Rattle.desk_bodies.proofs.containers.containers_in.Goals as goal

pub returns-in_default-clause-none : goal.returns-in_default-clause-none
returns-in_default-clause-none c items spelled are =
    let row : Row = c.row-item.result in
    let rows : List Row = c.args.rows.now in
    let i : ℕ = c.loop-row.row-index in
    let after : List Row = drop (i + 1) rows in
    let so = c.loop-row.invariant in
    let here : drop i rows ≡ row ∷ after = drop_more rows i row c.loop-row-test.true ∙ ap (λ r. r ∷ after) (sym c.row-item.is) in
    let whole = ap (λ t. map record_of c.loop-row.containers.items ++ map fields_of t) (sym here) ∙ sym so.done ∙ are in
    let found = image_of IsSpelledContainer record_of (map record_of c.loop-row.containers.items) (map fields_of after) (fields_of row) items whole spelled in
    c.in_default.ensures.none found.0 found.2 found.1

pub loop-row-preserved : goal.loop-row-preserved
loop-row-preserved c =
    let row : Row = c.row-item.result in
    let rows : List Row = c.args.rows.now in
    let i : ℕ = c.loop-row.row-index in
    let after : List Row = drop (i + 1) rows in
    let so = c.loop-row.invariant in
    let old : List Item = c.loop-row.containers.items in
    let container : Item = c.in-Some.container in
    let here : drop i rows ≡ row ∷ after = drop_more rows i row c.loop-row-test.true ∙ ap (λ r. r ∷ after) (sym c.row-item.is) in
    let told = c.in-Some.ensures.some in
    let good : is_ok c.push.result ≡ true = search rules in
    let grew = rw good at c.push.ensures.items in
    record {
      done = one_more fields_of record_of rows (drop i rows) after old c.push.new.self.items row container so.done here told.0 grew;
      spelled = subst (All IsSpelledContainer) (sym grew) (All-push IsSpelledContainer old container so.spelled told.1);
    }
