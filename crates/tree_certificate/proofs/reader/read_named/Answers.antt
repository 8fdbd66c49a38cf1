use Rattle.std.proofs.Common.{◌≡◌, List, ℕ, [], map, refl, subst}
use Rattle.std.proofs.lemmas.Result.{err_from_is_err_and}
use Rattle.text_lines.specs.Lines.{IsStopped}
use Rattle.text_lines.proofs.Rests.{then, fails_at, fails_at_one}
use Rattle.text_lines.proofs.RunsOfLines.{fails_at_last, read_last}
use Rattle.tree_certificate.specs.Listed.{listed_prices, listed_sibling}
use Rattle.tree_certificate.specs.TreeText.{root_line}
use Rattle.tree_certificate.proofs.TreeParts.{from_end, starts_with_claim, starts_with_root, ends, certificate_of, read_to_root, read_to_end, to_root, to_end, spelled_to_root, spelled_to_end, empty, empty_is}
use Rattle.tree_certificate.proofs.reader.read_named.Goals as goal

pub returns-in_err-claim-clause-refused : goal.returns-in_err-claim-clause-refused
returns-in_err-claim-clause-refused c =
    let ps = c.args.names.now.positions.now in
    let p = err_from_is_err_and c.from_residual.result c.from_residual.ensures.1 in
    rw (p.1, p.2) (fails_at_one (starts_with_claim ps c.requires) empty (empty_is ps) c.args.lines.now c.in_err-claim.field-0.0 c.in_err-claim.ensures.refused)

pub returns-in_err-expect_line-clause-refused : goal.returns-in_err-expect_line-clause-refused
returns-in_err-expect_line-clause-refused c =
    let ps = c.args.names.now.positions.now in
    let l0 = c.args.lines.now in
    let l1 = c.next_claim.new.lines in
    let l2 = c.read_section.new.lines in
    let l3 = c.next_price_lists.new.lines in
    let claim = c.in_ok-claim.claim in
    let cliques = c.in_ok-cliques.cliques.items in
    let prices = map listed_prices c.in_ok-prices.prices.items in
    let begun = read_to_root ps l0 l1 l2 l3 claim cliques prices c.in_ok-claim.ensures.read c.in_ok-claim.ensures.counted c.in_ok-cliques.ensures c.in_ok-prices.ensures in
    let fault = c.in_err-expect_line.field-0.0 in
    let Stopped : List ℕ → Type 0 = λ word. IsStopped l3.rest.now l3.number (λ line. line ≡ word) fault in
    let fails = fails_at (λ line. line ≡ root_line claim) (starts_with_root ps c.requires claim cliques prices) (certificate_of claim cliques prices [] []) (((spelled_to_root begun, refl), refl), refl) (λ u right. refl) l3 fault
    (subst Stopped c.root_word.ensures c.in_err-expect_line.ensures.refused) in
    let p = err_from_is_err_and c.from_residual-in_err-expect_line.result c.from_residual-in_err-expect_line.ensures.1 in
    rw (p.1, p.2) ((to_root ps c.requires l0 l1 l2 l3 begun).fails fault fails)

pub returns-in_err-expect_last-clause-refused : goal.returns-in_err-expect_last-clause-refused
returns-in_err-expect_last-clause-refused c =
    let ps = c.args.names.now.positions.now in
    let l0 = c.args.lines.now in
    let l1 = c.next_claim.new.lines in
    let l2 = c.read_section.new.lines in
    let l3 = c.next_price_lists.new.lines in
    let l4 = c.expect_line.new.lines in
    let l5 = c.read_section-2.new.lines in
    let l6 = c.next_siblings.new.lines in
    let claim = c.in_ok-claim.claim in
    let cliques = c.in_ok-cliques.cliques.items in
    let prices = map listed_prices c.in_ok-prices.prices.items in
    let root = c.in_ok-root.root.items in
    let siblings = map listed_sibling c.in_ok-siblings.siblings.items in
    let begun = read_to_root ps l0 l1 l2 l3 claim cliques prices c.in_ok-claim.ensures.read c.in_ok-claim.ensures.counted c.in_ok-cliques.ensures c.in_ok-prices.ensures in
    let ended = read_to_end ps l3 l4 l5 l6 claim root siblings (rw c.root_word.ensures at c.in_ok-expect_line.ensures.read) c.in_ok-expect_line.ensures.counted c.in_ok-root.ensures c.in_ok-siblings.ensures in
    let to_last = then (to_root ps c.requires l0 l1 l2 l3 begun) (to_end ps c.requires l3 l4 l5 l6 claim cliques prices ended) in
    let fault = c.in_err-expect_last.field-0.0 in
    let fails = fails_at_last (ends ps c.requires claim cliques prices tt root siblings) (certificate_of claim cliques prices root siblings) ((((((spelled_to_end begun ended, refl), refl), refl), refl), refl), refl) l6 fault c.in_err-expect_last.ensures.refused in
    let p = err_from_is_err_and c.from_residual-in_err-expect_last.result c.from_residual-in_err-expect_last.ensures.1 in
    rw (p.1, p.2) (to_last.fails fault fails)

pub returns-clause-read : goal.returns-clause-read
returns-clause-read c =
    let ps = c.args.names.now.positions.now in
    let l0 = c.args.lines.now in
    let l1 = c.next_claim.new.lines in
    let l2 = c.read_section.new.lines in
    let l3 = c.next_price_lists.new.lines in
    let l4 = c.expect_line.new.lines in
    let l5 = c.read_section-2.new.lines in
    let l6 = c.next_siblings.new.lines in
    let claim = c.in_ok-claim.claim in
    let cliques = c.in_ok-cliques.cliques.items in
    let prices = map listed_prices c.in_ok-prices.prices.items in
    let root = c.in_ok-root.root.items in
    let siblings = map listed_sibling c.in_ok-siblings.siblings.items in
    let begun = read_to_root ps l0 l1 l2 l3 claim cliques prices c.in_ok-claim.ensures.read c.in_ok-claim.ensures.counted c.in_ok-cliques.ensures c.in_ok-prices.ensures in
    let ended = read_to_end ps l3 l4 l5 l6 claim root siblings (rw c.root_word.ensures at c.in_ok-expect_line.ensures.read) c.in_ok-expect_line.ensures.counted c.in_ok-root.ensures c.in_ok-siblings.ensures in
    let to_last = then (to_root ps c.requires l0 l1 l2 l3 begun) (to_end ps c.requires l3 l4 l5 l6 claim cliques prices ended) in
    let got = certificate_of claim cliques prices root siblings in
    let known : (from_end ps claim cliques prices tt root siblings).Is got = ((((((spelled_to_end begun ended, refl), refl), refl), refl), refl), refl) in
    to_last.read got known (read_last (ends ps c.requires claim cliques prices tt root siblings) got known l6 c.in_ok-expect_last.ensures.read)
