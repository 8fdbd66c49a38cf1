use Rattle.std.proofs.Common.{◌≡◌, ◌++◌, ◌∷◌, [], ℤ, ◌∙◌, ap, sym, length, arith}
use Rattle.std.specs.Int.{w64}
use mir.Val.{to_z, of_z}
use Rattle.std.proofs.lemmas.Int.{ints}
use Rattle.std.proofs.lemmas.Bool.{eqb-true, eqb-false}
use Rattle.std.proofs.lemmas.List.{length-append}
use Rattle.std.proofs.lemmas.List.Elements.{All-push, All-same}
use Rattle.text_lines.proofs.RunLemmas.{run_text-push}
use Rattle.priced_certificate.specs.PricedText.{price_word, IsSpelledPrice}
use Rattle.priced_certificate.proofs.PriceRuns.{run, too_many}
use Rattle.priced_certificate.proofs.price_readers.read_prices.Goals as goal

pub returns-then-is_full-clause-none : goal.returns-then-is_full-clause-none
returns-then-is_full-clause-none g c =
    let inv = c.loop-price.invariant in
    let got = c.loop-price.prices.items in
    let next = c.in-Some.ensures.found in
    too_many g.row.N c.args.words.now got c.in-Some.price c.loop-price.rest.now c.in-Some.after.now
    (eqb-true (length got) g.row.N (sym c.is_full.ensures.value ∙ c.if-is_full.true)) inv.right.spelled inv.read next.0 next.1 next.2

pub loop-price-preserved : goal.loop-price-preserved
loop-price-preserved g c =
    let inv = c.loop-price.invariant in
    let old = c.loop-price.prices.items in
    let price = c.in-Some.price in
    let new = c.push.new.self.items in
    let next = c.in-Some.ensures.found in
    let small = next.0 in
    let same : to_z w64 (of_z w64 price) ≡ price = omega (arith, ints, small) in
    let grew : new ≡ old ++ price ∷ [] = c.push.ensures.items ∙ ap (λ (z : ℤ). old ++ z ∷ []) same in
    let after = c.in-Some.after.now in
    let room = eqb-false (length old) g.row.N (sym c.is_full.ensures.value ∙ c.if-is_full.false) in
    let most = inv.right.few in
    let long = length-append old (price ∷ []) in
    let now = ap length grew in
    record {
      right = record { few = omega (arith, room, most, long, now); spelled = All-same IsSpelledPrice new (old ++ price ∷ []) grew (All-push IsSpelledPrice old price inv.right.spelled next.0) };
      read = inv.read ∙ ap (λ t. run old ++ t) next.1 ∙ sym (run_text-push price_word old price after) ∙ ap (λ xs. run xs ++ after) (sym grew);
      cut = λ from. next.2;
    }

pub returns-clause-found : goal.returns-clause-found
returns-clause-found g c =
    let inv = c.loop-price.invariant in
    record { right = inv.right; read = inv.read; cut = inv.cut; stops = c.in_default.ensures.none }
