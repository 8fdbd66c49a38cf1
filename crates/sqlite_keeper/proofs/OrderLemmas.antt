-- a row behind rows in the order of their keys
use Rattle.std.proofs.Common.{◌≡◌, suc, List, [], ◌∷◌, ◌++◌, refl, sym, subst, arith, All, Result, Ok, Err}
use Rattle.std.specs.Result.{OnOk}
use Rattle.std.proofs.lemmas.Cmp.{nat_list_cmp_total}
use Rattle.std.proofs.lemmas.List.Elements.{All-nil, All-cons, All-head}
use Rattle.std.proofs.lemmas.List.Quantifiers.{all_pairs_push}
use Rattle.base_words.proofs.PairLemmas.{AllPairs-head, AllPairs-tail}
use Rattle.keeper.specs.declared.row.KeptRow.{KeptRow}
use Rattle.keeper.specs.Tables.{IsBefore, AreInKeyOrder}
use Rattle.sqlite_keeper.specs.Table.{ComesLast}

before-trans : (a b c : KeptRow) → IsBefore a b → IsBefore b c → IsBefore a c
before-trans a b c ab bc = nat_list_cmp_total.trans a.key b.key c.key ab bc

-- what is before the last row of rows in order is before what the last row is before
all-before : (rows : List KeptRow) (row : KeptRow) → AreInKeyOrder rows → ComesLast rows row → All (λ kept. IsBefore kept row) rows
all-before [] row rising last = All-nil (λ kept. IsBefore kept row)
all-before (kept ∷ []) row rising last =
    let P : KeptRow → Type 0 = λ other. IsBefore other row in
    All-cons P kept [] (last 0 kept refl) (All-nil P)
all-before (kept ∷ next ∷ rows) row rising last =
    let P : KeptRow → Type 0 = λ other. IsBefore other row in
    let behind = all-before (next ∷ rows) row (AllPairs-tail IsBefore kept (next ∷ rows) rising) (λ k d is. last (suc k) d (omega (arith, is))) in
    let before = All-head (IsBefore kept) next rows (AllPairs-head IsBefore kept (next ∷ rows) rising) in
    All-cons P kept (next ∷ rows) (before-trans kept next row before (All-head P next rows behind)) behind

pub rising-push : (rows : List KeptRow) (row : KeptRow) → AreInKeyOrder rows → ComesLast rows row → AreInKeyOrder (rows ++ row ∷ [])
rising-push rows row rising last = all_pairs_push IsBefore rows row rising (all-before rows row rising last)

pub rising-added : {X Y : Type 0} (result : Result X Y) (rows new : List KeptRow) (row : KeptRow) → OnOk result (new ≡ rows ++ row ∷ []) → ComesLast rows row → AreInKeyOrder rows → OnOk result (AreInKeyOrder new)
rising-added (Ok x) rows new row is last rising = subst AreInKeyOrder (sym is) (rising-push rows row rising last)
rising-added (Err e) rows new row is last rising = tt
