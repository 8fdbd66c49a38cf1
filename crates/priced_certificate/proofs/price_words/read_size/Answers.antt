use Rattle.std.proofs.Common.{arith}
use Rattle.priced_certificate.proofs.PriceWords.{no_size}
use Rattle.priced_certificate.proofs.price_words.read_size.Goals as goal

pub returns-in_default-clause-none : goal.returns-in_default-clause-none
returns-in_default-clause-none c =
    let large = c.if-n-lt-PRICE_LIMIT.false in
    no_size c.args.text.now c.in-Some.n c.in-Some.ensures.some (omega (arith, large))
