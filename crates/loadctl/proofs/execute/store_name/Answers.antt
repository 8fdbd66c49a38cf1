use Rattle.std.proofs.Common.{refl, sym, subst, length, ◌≡◌, Some}
use Rattle.std.proofs.lemmas.Option.{slice_get_read}
use Rattle.std.specs.Prelude.{IsSomeAnd}
use Rattle.std.specs.List.{slice_get}
use Rattle.plan_commands.specs.Arguments.{arguments_of}
use Rattle.loadctl.specs.Serve.{KeepIn}
use Rattle.loadctl.proofs.ServeLemmas.{named-at}
use Rattle.loadctl.proofs.execute.store_name.Goals as goal

pub returns-clause-some : goal.returns-clause-some
returns-clause-some c =
    let words = c.args.words.now.items in
    let place = c.in_ok-place.place in
    let name = c.in_ok-get.field-0.now in
    let read = c.in_ok-get.ensures.lookup in
    let found : slice_get words place ≡ Some name =
    subst (λ all. slice_get all place ≡ Some name) c.deref.ensures.value (slice_get_read c.deref.result.now (length c.deref.result.now) place name refl read.3.0 read.1) in
    let kept : IsSomeAnd (slice_get (arguments_of words) place) (KeepIn (arguments_of words)) = rw c.in_ok-place.was at c.requires.some in
    subst (KeepIn (arguments_of words)) (sym c.as_str.ensures.value) (named-at words place name (KeepIn (arguments_of words)) found kept)
