use Rattle.std.proofs.Common.{◌∙◌, sym}
use Rattle.flight_row.proofs.WordLemmas.{all_read}
use Rattle.flight_row.proofs.words.Words.is_done.Goals as goal

pub returns : goal.returns
returns c =
    let is = sym c.self.view_is in
    let both = all_read c.self.inside.read c.self.inside.text.now in (
      λ yes. is ∙ both.0 yes,
      λ none. both.1 (sym is ∙ none),
    )
