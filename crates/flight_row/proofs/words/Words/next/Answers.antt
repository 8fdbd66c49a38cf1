use Rattle.std.proofs.Common.{◌∙◌, ◌∷◌, ap, sym}
use Rattle.flight_row.specs.Words.{words_left}
use Rattle.flight_row.proofs.WordLemmas.{unread, next_word, last_word}
use Rattle.flight_row.proofs.words.Words.next.Goals as goal

pub returns-in-Some-clause-found : goal.returns-in-Some-clause-found
returns-in-Some-clause-found c =
    let text = c.self.inside.text.now in
    let word = c.in-Some.word.now in
    let rest = c.in-Some.rest.now in
    sym c.self.view_is ∙ unread c.self.inside.read text c.if-self.false
    ∙ next_word text word rest c.in-Some.ensures.found.0 c.in-Some.ensures.found.1
    ∙ ap (λ b. word ∷ words_left b rest) (sym c.if-self.false)

pub returns-in-None-clause-found : goal.returns-in-None-clause-found
returns-in-None-clause-found c =
    sym c.self.view_is ∙ unread c.self.inside.read c.self.inside.text.now c.if-self.false ∙ last_word c.self.inside.text.now c.in-None.ensures.none
