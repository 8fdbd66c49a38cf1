-- What holds of each status that the office answers.
use Rattle.std.proofs.Common.{◌≡◌, ◌<◌, ◌≤◌, ◌==◌, ℕ, List, [], ◌∷◌, IsTrue, true, length, subst, arith, rules, ⊎_elim}
use Rattle.std.proofs.lemmas.Bool.{cases_Bool}
use Rattle.std.proofs.lemmas.Bool.Decides.{Decides-eqb}
use Rattle.std.specs.List.{list_any, AllByRecursion}
use Rattle.http_wire.specs.Answer.{answered, is_answered, phrase_of}

-- what holds of each number of a list holds of one that is on it
on_the_list : (P : ℕ → Type 0) (known : List ℕ) (n : ℕ) → AllByRecursion P known → list_any (λ k. k == n) known ≡ true → P n
on_the_list P [] n each is = search rules
on_the_list P (k ∷ known) n (first, each) is = ⊎_elim
    (λ same. subst P ((Decides-eqb k n).0 same) first)
    (λ other. on_the_list P known n each (rw other at is))
    (cases_Bool (k == n))

-- a status is a number of three digits, with a phrase of at most 31 bytes
pub record IsUsual (n : ℕ) : Type 0 where
  pub least : 100 ≤ n
  pub below : n < 1000
  pub short : length (phrase_of n) ≤ 31

-- as the bounds of a number show
usual : (n : ℕ) → 100 ≤ n → n < 1000 → length (phrase_of n) ≤ 31 → IsUsual n
usual n least below short = record { least = least; below = below; short = short }

-- each of those statuses is such a number
all_usual : AllByRecursion IsUsual answered
all_usual = (
  usual 200 (omega arith) (omega arith) (omega arith),
  (
    usual 201 (omega arith) (omega arith) (omega arith),
    (
      usual 400 (omega arith) (omega arith) (omega arith),
      (
        usual 404 (omega arith) (omega arith) (omega arith),
        (
          usual 405 (omega arith) (omega arith) (omega arith),
          (
            usual 409 (omega arith) (omega arith) (omega arith),
            (
              usual 413 (omega arith) (omega arith) (omega arith),
              (
                usual 422 (omega arith) (omega arith) (omega arith),
                (
                  usual 431 (omega arith) (omega arith) (omega arith),
                  (
                    usual 500 (omega arith) (omega arith) (omega arith),
                    (
                      usual 501 (omega arith) (omega arith) (omega arith),
                      (
                        usual 503 (omega arith) (omega arith) (omega arith),
                        (
                          usual 507 (omega arith) (omega arith) (omega arith),
                          tt,
                        ),
                      ),
                    ),
                  ),
                ),
              ),
            ),
          ),
        ),
      ),
    ),
  ),
)

-- each status that is answered is such a number
pub status_usual : (n : ℕ) → IsTrue (is_answered n) → IsUsual n
status_usual n known = on_the_list IsUsual answered n all_usual known
