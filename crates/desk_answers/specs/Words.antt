-- errors that are said in one word, and the JSON of answers
use Rattle.std.specs.Prelude.{ℕ, List, map, codes}
use Rattle.serde_json.specs.Data.{Data, Items, Members, object, array, string, number, unsigned, member, no_members}
use Rattle.serde_json.specs.View.{items_of}
use Rattle.serde_json.specs.Written.{compact_text}
use Rattle.trim.specs.Rules.{rule_text}
use Rattle.trim.specs.declared.rules.Rule.{Rule}
use Rattle.desk_answers.specs.declared.errors.PlainError.{PlainError}
use Rattle.desk_answers.specs.declared.errors.PlainError.TheVariants as plain

-- `{"error":"exists"}`, with more members behind
abbrev pub error_value : List ℕ → Members → Data
error_value word more = object (member (codes "error") (string word) more)

abbrev pub count : ℕ → Data
count n = number (unsigned n)

-- `{"edition":7}`, and `{"edition":1,"key":"XX210-12"}` of a new flight
abbrev pub edition_value : ℕ → Data
edition_value edition = object (member (codes "edition") (count edition) no_members)

abbrev pub opened_value : List ℕ → Data
opened_value key = object (member (codes "edition") (count 1) (member (codes "key") (string key) no_members))

-- the texts of rules
abbrev pub rule_items : List Rule → Items
rule_items rules = items_of (map (λ (rule : Rule). string (rule_text rule)) rules)

-- members behind the error: `"newest":7`, `"reason":4`, `"value":501`, `"rules":["TAKE OFF"]`
abbrev pub newest : ℕ → Members
newest edition = member (codes "newest") (count edition) no_members

abbrev pub reason : ℕ → Members → Members
reason k more = member (codes "reason") (count k) more

abbrev pub value : ℕ → Members
value n = member (codes "value") (count n) no_members

abbrev pub rules_told : List Rule → Members
rules_told rules = member (codes "rules") (array (rule_items rules)) no_members

-- the word of an error, and its status
abbrev pub word_of : PlainError → List ℕ
word_of plain.NoRoute = codes "no route"
word_of plain.Method = codes "method"
word_of plain.Edition = codes "edition"
word_of plain.Body = codes "body"
word_of plain.Full = codes "full"
word_of plain.Exists = codes "exists"
word_of plain.NoAircraft = codes "no aircraft"
word_of plain.OfficeFull = codes "office full"
word_of plain.NoFlight = codes "no flight"
word_of plain.Gone = codes "gone"
word_of plain.NotReleased = codes "not released"
word_of plain.NoPlan = codes "no plan"
word_of plain.OtherTask = codes "other task"
word_of plain.Spent = codes "spent"
word_of plain.Keeper = codes "keeper"
word_of plain.Memory = codes "memory"

abbrev pub status_of : PlainError → ℕ
status_of plain.NoRoute = 404
status_of plain.Method = 405
status_of plain.Edition = 400
status_of plain.Body = 400
status_of plain.Full = 507
status_of plain.Exists = 422
status_of plain.NoAircraft = 422
status_of plain.OfficeFull = 422
status_of plain.NoFlight = 404
status_of plain.Gone = 422
status_of plain.NotReleased = 422
status_of plain.NoPlan = 422
status_of plain.OtherTask = 422
status_of plain.Spent = 422
status_of plain.Keeper = 503
status_of plain.Memory = 500

-- the JSON of an error
abbrev pub body_of : PlainError → List ℕ
body_of error = compact_text (error_value (word_of error) no_members)
