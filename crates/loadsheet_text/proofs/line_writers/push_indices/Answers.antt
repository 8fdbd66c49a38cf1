use Rattle.std.proofs.Common.{◌∷◌, [], codes}
use Rattle.std.proofs.lemmas.Result.{on_ok_weaker}
use Rattle.mass_units.specs.Spelling.{short_index_text}
use Rattle.loadsheet_text.proofs.SheetLemmas.{line_of_8}
use Rattle.loadsheet_text.proofs.line_writers.push_indices.Goals as goal

pub returns : goal.returns
returns c =
    on_ok_weaker c.end_line.result
    (λ last. line_of_8 c.args.out.now (codes "DOI ") (short_index_text c.args.dry.0) (codes " LIZFW ") (short_index_text c.args.zero_fuel.0)
    (codes " LITOW ") (short_index_text c.args.take_off.0) (codes " LILAW ") (short_index_text c.args.landing.0) (10 ∷ [])
    c.text.new.self c.short_index.new.self c.text-2.new.self c.short_index-2.new.self c.text-3.new.self c.short_index-3.new.self c.text-4.new.self c.short_index-4.new.self c.end_line.new.self
    c.in_ok-text.ensures.added c.in_ok-short_index.ensures.added c.in_ok-text-2.ensures.added c.in_ok-short_index-2.ensures.added
    c.in_ok-text-3.ensures.added c.in_ok-short_index-3.ensures.added c.in_ok-text-4.ensures.added c.in_ok-short_index-4.ensures.added last)
    c.end_line.ensures.added
