use Rattle.std.proofs.Common.{◌≡◌, ◌∙◌, ◌<◌, ℕ, List, Option, length, get_or, sym, arith, Bor}
use Rattle.std.specs.Ordering.{nat_cmp}
use Rattle.std.specs.Cmp.Lexicographic.{slice_cmp}
use Rattle.std.specs.BTreeMap.{get_by}
use Rattle.std.proofs.lemmas.Map.Text.{btree_map_updates_str}
use Rattle.hold_parts.proofs.NameLemmas.{table-more, table-same}
use Rattle.hold_parts.proofs.names.PositionNames.new.Goals as goal
use Rattle.hold_parts.proofs.names.PositionNames.new.Goals.{then-not-contains_key+in_ok-insert, else-not-contains_key}

pub loop-number-preserved : goal.loop-number-preserved
loop-number-preserved c =
    λ name.
    let ps = c.args.positions.now in
    let at = c.loop-number.number in
    let bs = c.bytes-name.result.now in
    let within : at < length ps = omega arith in
    let here : bs ≡ (get_or ps at c.index-positions-number.result).name = cc in
    let old : List ℕ → Option ℕ = λ n. get_by {K = Bor (List ℕ)} (λ k. slice_cmp nat_cmp n k.now) c.loop-number.numbers in
    elim c.if-not-contains_key.branch [
      | then-not-contains_key+in_ok-insert w ↦
          let put = btree_map_updates_str bs c.loop-number.numbers w.insert.new.self _ w.in_ok-insert.ensures.updates name in
          let more = table-more ps at c.index-positions-number.result bs name (old bs) (old name) within here (c.loop-number.invariant bs) (sym c.contains_key.ensures ∙ w.if-not-contains_key.true) (c.loop-number.invariant name) in
          rw w.numbers-is (put ∙ more)
      | else-not-contains_key w ↦
          let same = table-same ps at c.index-positions-number.result bs name (old bs) (old name) within here (c.loop-number.invariant bs) (sym c.contains_key.ensures ∙ w.if-not-contains_key.false) (c.loop-number.invariant name) in
          rw w.numbers-is same
    ]
