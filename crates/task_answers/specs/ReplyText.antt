-- What is printed of a task that is placed by trees, and of a file that is too long.
use Rattle.std.specs.Prelude.{ℕ, List, [], ◌∷◌, ◌++◌, codes}
use Rattle.mass_units.specs.Spelling.{number_text}
use Rattle.hold_limits.specs.Problem.{Problem}
use Rattle.text_lines.specs.Lines.{line_of}
use Rattle.plan_text.specs.PlanText.{one_line}
use Rattle.certificate.specs.Evidence.{claimed}
use Rattle.tree_certificate.specs.Listed.{ListedTrees}
use Rattle.tree_certificate.specs.TreeText.{tree_text}
use Rattle.placer.specs.AnswerText.{claim_text}

-- a word and a number
abbrev pub number_line : List ℕ → ℕ → List ℕ
number_line word n = line_of (word ∷ number_text n ∷ [])

-- what is claimed, and then the certificate of trees for it
abbrev pub tree_evidence_text : Problem → ListedTrees → List ℕ
tree_evidence_text t c = claim_text t (claimed c.claim) ++ tree_text t.hold.positions c

abbrev pub undecided_text : ℕ → List ℕ
undecided_text looks = one_line (codes "UNDECIDED" ∷ number_text looks ∷ [])

-- the line that refuses a file of too many bytes
abbrev pub long_text : List ℕ
long_text = one_line (codes "INPUT" ∷ codes "LONG" ∷ [])
