-- lines that name the positions of a set
use Rattle.std.proofs.Common.{◌≡◌, ◌≢◌, ⊎_elim, ℕ, ◌<◌, ◌≤◌, ◌^◌, true, false, ◌||◌, ◌==◌, ◌++◌, ◌∷◌, List, [], length, sym, ◌∙◌, ap, arith, All, Option, Some, None, IfSome, IfNone}
use Rattle.std.proofs.lemmas.Bool.{false≢true}
use Rattle.std.proofs.lemmas.List.{append-nil}
use Rattle.std.proofs.lemmas.List.Elements.{All-head, All-nil, All-push, All-same}
use Rattle.hold_parts.specs.declared.parts.Position.{Position}
use Rattle.text_lines.specs.Cuts.{Avoids, IsCutAt}
use Rattle.text_lines.specs.Names.{IsNamed}
use Rattle.text_lines.specs.WordRuns.{run_text, name_text}
use Rattle.text_lines.proofs.RunLemmas.{run_text-push, run_again, no_more}
use Rattle.text_lines.proofs.FieldLemmas.{name_run}
use Rattle.text_lines.proofs.Rests.{IsLineKind}
use Rattle.certificate.specs.CertificateText.{path_line}
use Rattle.certificate.proofs.PathLemmas.{AreClear, AreNames, names_are_read, names_begin, path_line-is}
use Rattle.text_lines.proofs.CutLemmas.{cut_once}
use Rattle.position_set.specs.declared.set.PositionSet.{PositionSet}
use Rattle.position_set.specs.Sets.{has, members}
use Rattle.position_set.proofs.SetLemmas.{has-above, lt-or-le}
use Rattle.position_set.proofs.MemberLemmas.{members-none}
use Rattle.position_set.proofs.OrderLemmas.{stands-has, members-ordered, members-push, members-same}
use Rattle.tree_certificate.specs.TreeText.{IsSpelledSet}

-- Lines -----------------------------------------------------------------------------------------

-- the words of a line, cut at its first space
pub set_words : (word : List ℕ) (ps : List Position) → Avoids 32 word → AreClear 32 ps → (set : PositionSet) (first words : List ℕ) → Avoids 32 first → IsCutAt 32 words → first ++ words ≡ path_line word ps (members set)
    → (first ≡ word) × (words ≡ run_text (name_text ps) (members set))
set_words word ps plain clear set first words front cut e =
    cut_once 32 first words word (run_text (name_text ps) (members set)) front plain cut (names_begin ps clear (members set)) (e ∙ path_line-is word ps (members set))

-- sets by their names
pub sets : (ps : List Position) → AreNames ps → IsLineKind (λ set. run_text (name_text ps) (members set)) (IsSpelledSet ps)
sets ps names =
    let run = name_run ps names in
    record { once = λ a b s t e. members-same a b s.fits t.fits (run.once (members a) (members b) s.named t.named e); avoids = λ set s. run.avoids (members set) s.named }

-- The reader of names ---------------------------------------------------------------------------

-- the names of a set were read, and these words are left
pub record AreNamed (ps : List Position) (words : List ℕ) (set : PositionSet) (rest : List ℕ) : Type 0 where
  pub fits : set.0 < 2 ^ 64
  pub named : All (IsNamed ps) (members set)
  pub read : words ≡ run_text (name_text ps) (members set) ++ rest
  pub cut : IsCutAt 32 rest

pub none_named : (ps : List Position) (words : List ℕ) (set : PositionSet) → set.0 < 2 ^ 64 → ((q : ℕ) → has set q ≡ false) → IsCutAt 32 words → AreNamed ps words set words
none_named ps words set fits none cut =
    let empty = members-none set none in
    record {
      fits = fits;
      named = All-same (IsNamed ps) (members set) [] empty (All-nil (IsNamed ps));
      read = ap (λ qs. run_text (name_text ps) qs ++ words) (sym empty);
      cut = cut;
    }

pub one_more_name : (ps : List Position) → length ps ≤ 64 → (words rest after : List ℕ) (set more : PositionSet) (q : ℕ) → AreNamed ps words set rest → IsNamed ps q → ((p : ℕ) → has set p ≡ true → p < q)
    → ((p : ℕ) → has more p ≡ (has set p || (p == q))) → more.0 < 2 ^ 64 → rest ≡ name_text ps q ++ after → IsCutAt 32 after → AreNamed ps words more after
one_more_name ps few words rest after set more q left named past is fits e cut =
    let known = named.known in
    let longer : members more ≡ members set ++ q ∷ [] = members-push set more q (omega (arith, known, few)) past is in
    record {
      fits = fits;
      named = All-same (IsNamed ps) (members more) _ longer (All-push (IsNamed ps) (members set) q left.named named);
      read = left.read ∙ ap (λ t. run_text (name_text ps) (members set) ++ t) e ∙ sym (run_text-push (name_text ps) (members set) q after) ∙ ap (λ qs. run_text (name_text ps) qs ++ after) (sym longer);
      cut = cut;
    }

-- a set that the words spell goes on with what is left
goes_on : (ps : List Position) → AreClear 32 ps → (words rest : List ℕ) (set other : PositionSet) → AreNamed ps words set rest → IsSpelledSet ps other → words ≡ run_text (name_text ps) (members other)
    → (more : List ℕ) × (members other ≡ members set ++ more) × (rest ≡ run_text (name_text ps) more) × All (IsNamed ps) more
goes_on ps clear words rest set other left s e =
    run_again (name_text ps) (IsNamed ps) (names_are_read ps clear) (members set) (members other) rest left.named s.named left.cut (sym left.read ∙ e)

pub no_name : (ps : List Position) → AreClear 32 ps → (words rest : List ℕ) (set : PositionSet) → AreNamed ps words set rest → (length rest ≡ 0 → ⊥) → ((q : ℕ) (r : List ℕ) → IsNamed ps q → IsCutAt 32 r → rest ≡ name_text ps q ++ r → ⊥)
    → (other : PositionSet) → IsSpelledSet ps other → words ≡ run_text (name_text ps) (members other) → ⊥
no_name ps clear words rest set left some none other s e =
    let again = goes_on ps clear words rest set other left s e in
    no_more (name_text ps) (IsNamed ps) (names_are_read ps clear) again.0 rest again.3 again.2 some none

-- the next name is that of a number which is not past the others
pub not_past : (ps : List Position) → AreClear 32 ps → length ps ≤ 64 → (words rest after : List ℕ) (set : PositionSet) (q : ℕ) → AreNamed ps words set rest → IsNamed ps q → rest ≡ name_text ps q ++ after → IsCutAt 32 after
    → (((p : ℕ) → has set p ≡ true → p < q) → ⊥) → (other : PositionSet) → IsSpelledSet ps other → words ≡ run_text (name_text ps) (members other) → ⊥
not_past ps clear few words rest after set q left named e cut wrong other s spelled =
    let again = goes_on ps clear words rest set other left s spelled in
    next again.0 again.1 again.2 again.3
  where
    next : (more : List ℕ) → members other ≡ members set ++ more → rest ≡ run_text (name_text ps) more → All (IsNamed ps) more → ⊥
    next [] is read all = absurd (cc (read, e))
    next (r ∷ more) is read all =
        let same : q ≡ r = ((names_are_read ps clear).once q r after (run_text (name_text ps) more) named (All-head (IsNamed ps) r more all) cut (names_begin ps clear more) (sym e ∙ read)).0 in
        wrong (λ p one. rw same (members-ordered other (members set) more r p is (stands-has set p (within p one) one)))
      where
        within : (p : ℕ) → has set p ≡ true → p < 64
        within p one = ⊎_elim (λ (less : p < 64). less) (λ (past : 64 ≤ p). absurd (false≢true (sym (has-above set.0 p left.fits past) ∙ one))) (lt-or-le p 64)

-- no words are left
pub all_named : (ps : List Position) (words rest : List ℕ) (set : PositionSet) → AreNamed ps words set rest → length rest ≡ 0 → IsSpelledSet ps set × (words ≡ run_text (name_text ps) (members set))
all_named ps words [] set left none = (record { fits = left.fits; named = left.named }, left.read ∙ append-nil (run_text (name_text ps) (members set)))
all_named ps words (b ∷ rest) set left none = absurd (omega (arith, none))

-- The reader of a line --------------------------------------------------------------------------

pub set_found : (word : List ℕ) (ps : List Position) (line first words : List ℕ) (r : Option PositionSet) → line ≡ first ++ words → first ≡ word → IfSome r (λ set. IsSpelledSet ps set × (words ≡ run_text (name_text ps) (members set)))
    → IfSome r (λ set. IsSpelledSet ps set × (line ≡ path_line word ps (members set)))
set_found word ps line first words None e same h = tt
set_found word ps line first words (Some set) e same h = (h.0, e ∙ (λ i. same i ++ h.1 i) ∙ sym (path_line-is word ps (members set)))

pub set_missing : (word : List ℕ) (ps : List Position) → Avoids 32 word → AreClear 32 ps → (line first words : List ℕ) (r : Option PositionSet) → line ≡ first ++ words → Avoids 32 first → IsCutAt 32 words
    → IfNone r ((set : PositionSet) → IsSpelledSet ps set → words ≢ run_text (name_text ps) (members set)) → IfNone r ((set : PositionSet) → IsSpelledSet ps set → line ≢ path_line word ps (members set))
set_missing word ps plain clear line first words (Some set) e front cut h = tt
set_missing word ps plain clear line first words None e front cut h = λ set s g. h set s (set_words word ps plain clear set first words front cut (sym e ∙ g)).1
