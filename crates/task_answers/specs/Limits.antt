-- How long files may be, and how much a search may look at.
use Rattle.std.specs.Prelude.{ℕ}

-- a file of a task or of a load over several sectors, and one of a certificate of cuts or of trees, and one with
-- prices, has at most so many bytes
abbrev pub longest_task : ℕ
longest_task = 1048576

abbrev pub longest_certificate : ℕ
longest_certificate = 805306368

abbrev pub longest_priced : ℕ
longest_priced = 138000000

-- the budget of a search if the arguments name none, and the greatest one
abbrev pub usual_budget : ℕ
usual_budget = 20000

abbrev pub greatest_budget : ℕ
greatest_budget = 50000

-- the greatest budget of a search with prices, and its budget if the arguments name none
abbrev pub greatest_priced_budget : ℕ
greatest_priced_budget = 500

-- the answer of a desk that has its certificate has at most so many bytes
abbrev pub longest_answer : ℕ
longest_answer = 4194304
