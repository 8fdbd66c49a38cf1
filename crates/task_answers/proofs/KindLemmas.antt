-- Which kind of certificate begins first in a text.
use Rattle.std.proofs.Common.{◌≡◌, ◌≢◌, ℕ, List, [], ◌∷◌, ◌++◌, get_or, refl, sym, ap, ◌∙◌, arith}
use Rattle.std.proofs.lemmas.List.{append_assoc}
use Rattle.std.proofs.lemmas.List.Elements.{All-nil, All-cons, All-head, All-tail, All-same}
use Rattle.std.specs.Prelude.{All, false, eqb}
use Rattle.text_lines.specs.Cuts.{Avoids}
use Rattle.text_lines.specs.Lines.{text_of}
use Rattle.text_lines.proofs.CutLemmas.{split_once_again, has_mark}
use Rattle.text_lines.proofs.WordLemmas.{plain_word}
use Rattle.certificate.specs.Starts.{IsEarlier, StartsAfter}
use Rattle.certificate.specs.CertificateText.{start_line as cuts_start}
use Rattle.tree_certificate.specs.TreeText.{start_line as trees_start}
use Rattle.task_answers.specs.Kinds.{BeginsWithCuts}

cuts_plain : Avoids 10 cuts_start
cuts_plain = plain_word 10 cuts_start refl

trees_plain : Avoids 10 trees_start
trees_plain = plain_word 10 trees_start refl

-- the digit of a start
digit : List ℕ → ℕ
digit line = get_or line 12 0

kinds-differ : cuts_start ≢ trees_start
unfolding digit
kinds-differ same = let e : 49 ≡ 51 = ap digit same in absurd (omega (arith, e))

abbrev IsNoTrees : List ℕ → Type 0
IsNoTrees line = line ≢ trees_start

-- a text after its first line
after : (before : List (List ℕ)) (text rest line more : List ℕ) → StartsAfter cuts_start before text rest → All IsNoTrees before → text ≡ line ++ 10 ∷ more
    → Avoids 10 line → line ≢ cuts_start → BeginsWithCuts more
after [] text rest line more s none is clear other =
    let same = split_once_again 10 cuts_start rest line more cuts_plain clear (sym s.is ∙ is) in
    absurd (other (sym same.0))
after (x ∷ before) text rest line more s none is clear other =
    let first = All-head (IsEarlier cuts_start) x before s.earlier in
    let same = split_once_again 10 x (text_of before ++ (cuts_start ++ 10 ∷ rest)) line more first.whole clear
    (sym (append_assoc x (10 ∷ text_of before) (cuts_start ++ 10 ∷ rest)) ∙ sym s.is ∙ is) in
    record {
      before = before;
      rest = rest;
      starts = record { earlier = All-tail (IsEarlier cuts_start) x before s.earlier; is = sym same.1 };
      no_trees = All-tail IsNoTrees x before none;
    }

pub BeginsWithCuts-after : (text line more : List ℕ) → text ≡ line ++ 10 ∷ more → Avoids 10 line → line ≢ cuts_start → BeginsWithCuts text → BeginsWithCuts more
BeginsWithCuts-after text line more is clear other begins = after begins.before text begins.rest line more begins.starts begins.no_trees is clear other

pub BeginsWithCuts-before : (text line more : List ℕ) → text ≡ line ++ 10 ∷ more → Avoids 10 line → line ≢ cuts_start → line ≢ trees_start
    → BeginsWithCuts more → BeginsWithCuts text
BeginsWithCuts-before text line more is clear other other_kind begins = record {
  before = line ∷ begins.before;
  rest = begins.rest;
  starts = record {
    earlier = All-cons (IsEarlier cuts_start) line begins.before (record { whole = clear; other = other }) begins.starts.earlier;
    is = is ∙ ap (λ t. line ++ 10 ∷ t) begins.starts.is ∙ sym (append_assoc line (10 ∷ text_of begins.before) (cuts_start ++ 10 ∷ begins.rest));
  };
  no_trees = All-cons IsNoTrees line begins.before other_kind begins.no_trees;
}

pub BeginsWithCuts-here : (text line more : List ℕ) → text ≡ line ++ 10 ∷ more → line ≡ cuts_start → BeginsWithCuts text
BeginsWithCuts-here text line more is same = record {
  before = [];
  rest = more;
  starts = record { earlier = All-nil (IsEarlier cuts_start); is = is ∙ ap (λ l. l ++ 10 ∷ more) same };
  no_trees = All-nil IsNoTrees;
}

trees_first : (before : List (List ℕ)) (text rest more : List ℕ) → StartsAfter cuts_start before text rest → All IsNoTrees before → text ≡ trees_start ++ 10 ∷ more → ⊥
trees_first [] text rest more s none is =
    kinds-differ (split_once_again 10 cuts_start rest trees_start more cuts_plain trees_plain (sym s.is ∙ is)).0
trees_first (x ∷ before) text rest more s none is =
    let first = All-head (IsEarlier cuts_start) x before s.earlier in
    All-head IsNoTrees x before none
    (split_once_again 10 x (text_of before ++ (cuts_start ++ 10 ∷ rest)) trees_start more first.whole trees_plain
    (sym (append_assoc x (10 ∷ text_of before) (cuts_start ++ 10 ∷ rest)) ∙ sym s.is ∙ is)).0

-- one of trees begins on the first line
pub BeginsWithCuts-trees : (text line more : List ℕ) → text ≡ line ++ 10 ∷ more → line ≡ trees_start → BeginsWithCuts text → ⊥
BeginsWithCuts-trees text line more is same begins =
    trees_first begins.before text begins.rest more begins.starts begins.no_trees (is ∙ ap (λ l. l ++ 10 ∷ more) same)

no_line : (before : List (List ℕ)) (text rest : List ℕ) → StartsAfter cuts_start before text rest → Avoids 10 text → ⊥
no_line [] text rest s clear = has_mark 10 cuts_start rest (All-same (λ b. eqb b 10 ≡ false) _ _ (sym s.is) clear)
no_line (x ∷ before) text rest s clear =
    has_mark 10 x (text_of before ++ (cuts_start ++ 10 ∷ rest))
    (All-same (λ b. eqb b 10 ≡ false) _ _ (sym (s.is ∙ append_assoc x (10 ∷ text_of before) (cuts_start ++ 10 ∷ rest))) clear)

-- there is no line
pub BeginsWithCuts-none : (text : List ℕ) → Avoids 10 text → BeginsWithCuts text → ⊥
BeginsWithCuts-none text clear begins = no_line begins.before text begins.rest begins.starts clear
