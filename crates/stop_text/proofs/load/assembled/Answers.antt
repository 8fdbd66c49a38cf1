use Rattle.std.proofs.lemmas.Result.{err_from_is_err_and}
use Rattle.stop_text.proofs.load.assembled.Goals as goal

pub returns-in_err-leaves-clause-refused : goal.returns-in_err-leaves-clause-refused
returns-in_err-leaves-clause-refused c =
    let p = err_from_is_err_and c.from_residual.result c.from_residual.ensures.1 in
    rw (p.1, p.2) tt

pub returns-in_err-behind-clause-refused : goal.returns-in_err-behind-clause-refused
returns-in_err-behind-clause-refused c =
    let p = err_from_is_err_and c.from_residual-in_err-behind.result c.from_residual-in_err-behind.ensures.1 in
    rw (p.1, p.2) tt

pub returns-in_err-sectors-clause-refused : goal.returns-in_err-sectors-clause-refused
returns-in_err-sectors-clause-refused c =
    let p = err_from_is_err_and c.from_residual-in_err-sectors.result c.from_residual-in_err-sectors.ensures.1 in
    rw (p.1, p.2) tt
