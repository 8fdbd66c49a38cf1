use Rattle.std.proofs.Common.{List, set, Ok, Err, sym, ◌∙◌, ap, subst}
use Rattle.std.specs.List.{insert}
use Rattle.keeper.specs.Rows.{IsPlaceOf}
use Rattle.keeper.specs.Tables.{AreInKeyOrder}
use Rattle.keeper.specs.declared.row.KeptRow.{KeptRow}
use Rattle.keeper.proofs.RowLemmas.{put-found, put-new, rising-with_row}
use Rattle.keeper.proofs.rows.Rows.put.Goals as goal

pub returns-in-Ok-clause-put : goal.returns-in-Ok-clause-put
returns-in-Ok-clause-put c =
    let place = subst (λ key. IsPlaceOf key c.args.self.now (Ok c.in-Ok.at)) c.as_slice.ensures c.in-Ok.ensures.place in
    ap (λ (rows : List KeptRow). set rows c.in-Ok.at c.args.row) c.self.view_is
    ∙ put-found c.args.row c.args.self.now c.in-Ok.at c.in-Ok.ensures.rising place

pub invariant_of-self : goal.invariant_of-self
invariant_of-self c =
    let place = subst (λ key. IsPlaceOf key c.args.self.now (Ok c.in-Ok.at)) c.as_slice.ensures c.in-Ok.ensures.place in
    let put = ap (λ (rows : List KeptRow). set rows c.in-Ok.at c.args.row) c.self.view_is
    ∙ put-found c.args.row c.args.self.now c.in-Ok.at c.in-Ok.ensures.rising place in
    subst AreInKeyOrder (sym put) (rising-with_row c.args.row c.args.self.now c.in-Ok.ensures.rising)

pub returns-in_ok-insert-in-Err-clause-put : goal.returns-in_ok-insert-in-Err-clause-put
returns-in_ok-insert-in-Err-clause-put c =
    let place = subst (λ key. IsPlaceOf key c.args.self.now (Err c.in-Err.at)) c.as_slice.ensures c.in-Err.ensures.place in
    c.in_ok-insert-in-Err.ensures.items
    ∙ ap (λ (rows : List KeptRow). insert rows c.in-Err.at c.args.row) c.self.view_is
    ∙ put-new c.args.row c.args.self.now c.in-Err.at place

pub invariant_of-self-in-Continue-1 : goal.invariant_of-self-in-Continue-1
invariant_of-self-in-Continue-1 c =
    let place = subst (λ key. IsPlaceOf key c.args.self.now (Err c.in-Err.at)) c.as_slice.ensures c.in-Err.ensures.place in
    let put = c.in_ok-insert-in-Err.ensures.items
    ∙ ap (λ (rows : List KeptRow). insert rows c.in-Err.at c.args.row) c.self.view_is
    ∙ put-new c.args.row c.args.self.now c.in-Err.at place in
    subst AreInKeyOrder (sym put) (rising-with_row c.args.row c.args.self.now c.in-Err.ensures.rising)
