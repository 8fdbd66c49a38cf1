use Rattle.std.proofs.Common.{◌<◌, ◌^◌, arith}
use Rattle.text_lines.proofs.NameLemmas.{none_if}
use Rattle.tree_certificate.specs.Reading.{holder_word, IsHolder, HasNoPrice}
use Rattle.tree_certificate.proofs.WordForms.{holder_avoids}
use Rattle.tree_certificate.proofs.PriceLemmas.{price_parts, price_amount, price_found}
use Rattle.tree_certificate.proofs.price_readers.next_price.Goals as goal

pub returns-in_err-of-clause-none : goal.returns-in_err-of-clause-none
returns-in_err-of-clause-none c =
    let word = holder_word c.args.holders in
    let none : HasNoPrice word (IsHolder c.args.holders) c.args.words.now = λ p rest s cut e.
    c.in_err-of.ensures.none p.of s.of (price_parts word p c.args.words.now c.in_ok-after_prefix.field-0.now c.in_ok-holder.holder.now c.in_ok-holder.after.now rest c.in_ok-after_prefix.ensures.found c.in_ok-holder.ensures.found.0 c.in_ok-holder.ensures.found.1 (holder_avoids c.args.holders p.of s.of) e).0 in
    none_if _ _ none

pub returns-in_err-price-clause-none : goal.returns-in_err-price-clause-none
returns-in_err-price-clause-none c =
    let word = holder_word c.args.holders in
    let none : HasNoPrice word (IsHolder c.args.holders) c.args.words.now = λ p rest s cut e.
    let parts = price_parts word p c.args.words.now c.in_ok-after_prefix.field-0.now c.in_ok-holder.holder.now c.in_ok-holder.after.now rest c.in_ok-after_prefix.ensures.found c.in_ok-holder.ensures.found.0 c.in_ok-holder.ensures.found.1 (holder_avoids c.args.holders p.of s.of) e in
    c.in_err-price.ensures.none p.price s.price (price_amount p c.in_ok-holder.after.now c.cut.result.0.now c.cut.result.1.now rest c.cut.ensures.whole c.cut.ensures.front c.cut.ensures.rest cut parts.1) in
    none_if _ _ none

pub returns-clause-found : goal.returns-clause-found
returns-clause-found c =
    let small : c.in_ok-price.price < 2 ^ 64 = omega arith in (
      record { of = c.in_ok-of.ensures.found.0; price = small },
      price_found (holder_word c.args.holders) c.in_ok-of.of c.in_ok-price.price c.args.words.now c.in_ok-after_prefix.field-0.now c.in_ok-holder.holder.now c.in_ok-holder.after.now c.cut.result.0.now c.cut.result.1.now
          c.in_ok-after_prefix.ensures.found c.in_ok-holder.ensures.found.0 c.cut.ensures.whole c.in_ok-of.ensures.found.1 c.in_ok-price.ensures.some,
      c.cut.ensures.rest,
    )
