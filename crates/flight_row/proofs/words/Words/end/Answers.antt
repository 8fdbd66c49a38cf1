use Rattle.std.proofs.Common.{◌∙◌, sym}
use Rattle.flight_row.proofs.WordLemmas.{some_words, unread}
use Rattle.flight_row.proofs.words.Words.end.Goals as goal

pub returns-else-self-clause-none : goal.returns-else-self-clause-none
returns-else-self-clause-none c =
    λ none. some_words c.self.inside.text.now (sym (unread c.self.inside.read c.self.inside.text.now c.if-self.false) ∙ c.self.view_is ∙ none)
