use Rattle.aircraft_text.proofs.WordLemmas.{words_grow}
use Rattle.aircraft_text.proofs.words.push_words.Goals as goal

pub loop-word-preserved : goal.loop-word-preserved
loop-word-preserved c =
    words_grow c.args.keyword.now c.args.words.now c.loop-word.word-index _ c.args.out.now c.loop-word.out _ _
    c.loop-word-test.true c.loop-word.invariant c.in_ok-text-2.ensures.added c.in_ok-push_word.ensures
