-- moments of an office that several desks have together follow one another
use Rattle.std.proofs.Common.{◌<◌, ◌-◌, ◌^◌, [], ◌++◌, refl, sym, ap, ◌∙◌, arith, append-nil, append_assoc, length-append}
use Rattle.desk_service.specs.Alone.{Counted}
use Rattle.desk_service.specs.AloneLaws.{failures-append}
use Rattle.desk_service.specs.Several.{IsAfter, room_for}

-- tickets can be counted
pub is_few : (moment : Counted) → room_for moment < 2 ^ 63
is_few moment = omega arith

-- nothing happened
pub is_after_itself : (moment : Counted) → IsAfter moment moment
is_after_itself moment = record {
  rest = [];
  fleet = refl;
  rows = refl;
  opening = refl;
  history = sym (append-nil moment.books.history);
  spare = omega arith;
  later = omega arith;
  counted = λ below. omega arith;
}

-- what happened between, and then after it
pub is_after_on : (first next last : Counted) → IsAfter first next → IsAfter next last → IsAfter first last
is_after_on first next last early late =
    let sums = failures-append early.rest late.rest in
    record {
      rest = early.rest ++ late.rest;
      fleet = late.fleet ∙ early.fleet;
      rows = late.rows ∙ early.rows;
      opening = late.opening ∙ early.opening;
      history = late.history ∙ (ap (λ entries. entries ++ late.rest) early.history ∙ append_assoc first.books.history early.rest late.rest);
      spare = (let long = length-append early.rest late.rest in let one = early.spare in let two = late.spare in omega (arith, long, one, two));
      later = (let one = early.later in let two = late.later in omega (arith, one, two));
      counted = λ below.
          let two = late.counted below in
          let less : next.faults < 2 ^ 64 - 1 = (let later = late.later in omega (arith, later, below)) in
          let one = early.counted less in
          omega (arith, sums, one, two);
    }
