-- moments of an office that one desk has for itself follow one another
use Rattle.std.proofs.Common.{◌≡◌, ◌+◌, ◌<◌, ◌-◌, ◌^◌, List, [], ◌++◌, cond, refl, sym, ap, ◌∙◌, arith, append-nil, append_assoc, length-append}
use Rattle.std.proofs.lemmas.List.Elements.{All-nil, All-append}
use Rattle.std.proofs.lemmas.List.Sums.{sum_by-append}
use Rattle.flight_history.specs.declared.entry.Entry.{Entry}
use Rattle.desk_service.specs.Alone.{Counted, IsLater, failures, is_failure}

-- the failures among entries are added up
pub failures-append : (xs ys : List Entry) → failures (xs ++ ys) ≡ failures xs + failures ys
failures-append xs ys = sum_by-append (λ (entry : Entry). cond (is_failure entry.outcome) 1 0) xs ys

-- nothing happened
pub is_later_itself : (moment : Counted) → IsLater moment moment
is_later_itself moment = record {
  rest = [];
  fleet = refl;
  rows = refl;
  opening = refl;
  history = sym (append-nil moment.books.history);
  spare = omega arith;
  by_desk = All-nil (λ (entry : Entry). entry.desk ≡ 1);
  later = omega arith;
  counted = λ below. omega arith;
}

-- what happened between, and then after it
pub is_later_on : (first next last : Counted) → IsLater first next → IsLater next last → IsLater first last
is_later_on first next last early late =
    let sums = failures-append early.rest late.rest in
    record {
      rest = early.rest ++ late.rest;
      fleet = late.fleet ∙ early.fleet;
      rows = late.rows ∙ early.rows;
      opening = late.opening ∙ early.opening;
      history = late.history ∙ (ap (λ entries. entries ++ late.rest) early.history ∙ append_assoc first.books.history early.rest late.rest);
      spare = (let long = length-append early.rest late.rest in let one = early.spare in let two = late.spare in omega (arith, long, one, two));
      by_desk = All-append (λ (entry : Entry). entry.desk ≡ 1) early.rest late.rest early.by_desk late.by_desk;
      later = (let one = early.later in let two = late.later in omega (arith, one, two));
      counted = λ below.
          let two = late.counted below in
          let less : next.faults < 2 ^ 64 - 1 = (let later = late.later in omega (arith, later, below)) in
          let one = early.counted less in
          omega (arith, sums, one, two);
    }
