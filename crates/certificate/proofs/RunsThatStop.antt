-- runs of words that go on with no further one are read in one way only
use Rattle.std.proofs.Common.{◌≡◌, ◌≢◌, ℕ, ◌++◌, ◌∷◌, List, [], refl, sym, ◌∙◌, All}
use Rattle.std.proofs.lemmas.List.{append_assoc, append-nil}
use Rattle.std.proofs.lemmas.List.Elements.{All-head, All-tail}
use Rattle.text_lines.specs.Cuts.{IsCutAt}
use Rattle.text_lines.specs.WordRuns.{run_text}
use Rattle.text_lines.proofs.RunLemmas.{AreRead, run_text-cut}

module _ {X : Type 0} (text : X → List ℕ) (P : X → Type 0) (words : AreRead text P) where
  -- no entry stands at the front of the words
  abbrev HasNone : List ℕ → Type 0
  HasNone rest = (x : X) (behind : List ℕ) → P x → IsCutAt 32 behind → rest ≢ text x ++ behind

  run_cut : (xs : List X) (rest : List ℕ) → IsCutAt 32 rest → IsCutAt 32 (run_text text xs ++ rest)
  run_cut xs rest cut = run_text-cut text P words xs rest cut

  -- what was read of words is what each run at their front begins with
  pub run_longer : (done xs : List X) (rest other : List ℕ) → All P done → All P xs → IsCutAt 32 rest → IsCutAt 32 other → HasNone other → run_text text done ++ rest ≡ run_text text xs ++ other
      → (more : List X) × (xs ≡ done ++ more) × All P more × (rest ≡ run_text text more ++ other)
  run_longer [] xs rest other p q cut cut' stop e = (xs, refl, q, e)
  run_longer (d ∷ done) [] rest other p q cut cut' stop e =
      absurd (stop d (run_text text done ++ rest) (All-head P d done p) (run_cut done rest cut) (sym e ∙ append_assoc (text d) (run_text text done) rest))
  run_longer (d ∷ done) (x ∷ xs) rest other p q cut cut' stop e =
      let whole : text d ++ (run_text text done ++ rest) ≡ text x ++ (run_text text xs ++ other) = sym (append_assoc (text d) (run_text text done) rest) ∙ e ∙ append_assoc (text x) (run_text text xs) other in
      let one = words.once d x (run_text text done ++ rest) (run_text text xs ++ other) (All-head P d done p) (All-head P x xs q) (run_cut done rest cut) (run_cut xs other cut') whole in
      let again = run_longer done xs rest other (All-tail P d done p) (All-tail P x xs q) cut cut' stop one.1 in
      (again.0, (λ i. sym one.0 i ∷ again.1 i), again.2, again.3)

  -- two runs that go on with no further entry are one
  pub runs_once : (xs ys : List X) (rest other : List ℕ) → All P xs → All P ys → IsCutAt 32 rest → IsCutAt 32 other → HasNone rest → HasNone other → run_text text xs ++ rest ≡ run_text text ys ++ other → (xs ≡ ys) × (rest ≡ other)
  runs_once xs ys rest other p q cut cut' stop stop' e =
      let l = run_longer xs ys rest other p q cut cut' stop' e in
      of l.0 l.1 l.2 l.3
    where
      of : (more : List X) → ys ≡ xs ++ more → All P more → rest ≡ run_text text more ++ other → (xs ≡ ys) × (rest ≡ other)
      of [] same right is = (sym (same ∙ append-nil xs), is)
      of (m ∷ more) same right is = absurd (stop m (run_text text more ++ other) (All-head P m more right) (run_cut more other cut') (is ∙ append_assoc (text m) (run_text text more) other))
