-- lines that name the positions of a path
use Rattle.std.proofs.Common.{◌≡◌, ◌≢◌, ℕ, ◌+◌, ◌<◌, ◌≤◌, Bool, true, false, eqb, ◌++◌, ◌∷◌, List, [], length, refl, sym, ◌∙◌, ap, subst, arith, All, Option, Some, None, IfSome, IfNone}
use Rattle.std.proofs.lemmas.Bool.{eqb-false, true≢false}
use Rattle.std.proofs.lemmas.Slice.Eq.{bytes_eq-Decides}
use Rattle.std.specs.Prelude.{bytes_eq, not, slice_get}
use Rattle.std.specs.Option.{option_map_or}
use Rattle.std.proofs.lemmas.Option.{slice_get_within}
use Rattle.std.proofs.lemmas.List.{length-append}
use Rattle.std.proofs.lemmas.List.Elements.{All-push}
use Rattle.arrayvec.specs.ArrayVec.{ArrayVec}
use Rattle.hold_parts.specs.declared.parts.Position.{Position}
use Rattle.hold_limits.specs.Layout.{name_at}
use Rattle.text_lines.specs.Cuts.{Avoids, IsCutAt}
use Rattle.text_lines.specs.WordRuns.{run_text, name_text}
use Rattle.text_lines.specs.Names.{IsNamed}
use Rattle.text_lines.proofs.CutLemmas.{cut_once}
pub use Rattle.text_lines.proofs.NameRuns.{AreClear, AreNames, clear_names, names_are_read, names_begin, line_of-names as path_line-is}
use Rattle.text_lines.proofs.RunLemmas.{run_text-push, run_again, no_more}
use Rattle.certificate.specs.CertificateText.{path_line, IsSpelledPath}

-- ---- a line of a word and names

pub path_words : (word : List ℕ) (ps : List Position) → Avoids 32 word → AreClear 32 ps → (path first words : List ℕ) → Avoids 32 first → IsCutAt 32 words → first ++ words ≡ path_line word ps path → (first ≡ word) × (words ≡ run_text (name_text ps) path)
path_words word ps plain clear path first words front cut e =
    cut_once 32 first words word (run_text (name_text ps) path) front plain cut (names_begin ps clear path) (e ∙ path_line-is word ps path)

-- ---- the reader of names

-- some names were read, and these words are left
pub record AreLeft (ps : List Position) (words path rest : List ℕ) : Type 0 where
  pub few : length path ≤ 60
  pub named : All (IsNamed ps) path
  pub read : words ≡ run_text (name_text ps) path ++ rest
  pub cut : IsCutAt 32 rest

-- a path that the words spell goes on with what is left
goes_on : (ps : List Position) → AreClear 32 ps → (words path rest other : List ℕ) → AreLeft ps words path rest → IsSpelledPath ps other → words ≡ run_text (name_text ps) other → (more : List ℕ) × (other ≡ path ++ more) × (rest ≡ run_text (name_text ps) more) × All (IsNamed ps) more
goes_on ps clear words path rest other left s e =
    run_again (name_text ps) (IsNamed ps) (names_are_read ps clear) path other rest left.named s.named left.cut (sym left.read ∙ e)

pub no_name : (ps : List Position) → AreClear 32 ps → (words path rest : List ℕ) → AreLeft ps words path rest → (length rest ≡ 0 → ⊥) → ((q : ℕ) (r : List ℕ) → IsNamed ps q → IsCutAt 32 r → rest ≡ name_text ps q ++ r → ⊥) → (other : List ℕ) → IsSpelledPath ps other → words ≡ run_text (name_text ps) other → ⊥
no_name ps clear words path rest left some none other s e =
    let again = goes_on ps clear words path rest other left s e in
    no_more (name_text ps) (IsNamed ps) (names_are_read ps clear) again.0 rest again.3 again.2 some none

some_more : (ps : List Position) (more rest : List ℕ) → (length rest ≡ 0 → ⊥) → rest ≡ run_text (name_text ps) more → 1 ≤ length more
some_more ps [] rest some e = absurd (some (ap length e))
some_more ps (q ∷ more) rest some e = omega arith

pub too_many : (ps : List Position) → AreClear 32 ps → (words path rest : List ℕ) → AreLeft ps words path rest → length path ≡ 60 → (length rest ≡ 0 → ⊥) → (other : List ℕ) → IsSpelledPath ps other → words ≡ run_text (name_text ps) other → ⊥
too_many ps clear words path rest left full some other s e =
    let again = goes_on ps clear words path rest other left s e in
    let long : length other ≡ length path + length again.0 = ap length again.1 ∙ length-append path again.0 in
    let most = s.few in
    let more = some_more ps again.0 rest some again.2 in
    absurd (omega (arith, long, most, more, full))

pub one_more : (ps : List Position) (words path rest more new : List ℕ) (q : ℕ) (full : Bool) → AreLeft ps words path rest → IsNamed ps q → rest ≡ name_text ps q ++ more → IsCutAt 32 more → full ≡ eqb (length path) 60 → full ≡ false → new ≡ path ++ q ∷ [] → AreLeft ps words new more
one_more ps words path rest more new q full left named e cut test room grew =
    let longer : AreLeft ps words (path ++ q ∷ []) more = record {
      few =
          let unlike = eqb-false (length path) 60 (sym test ∙ room) in
          let most = left.few in
          let long = length-append path (q ∷ []) in
          omega (arith, unlike, most, long);
      named = All-push (IsNamed ps) path q left.named named;
      read = left.read ∙ ap (λ t. run_text (name_text ps) path ++ t) e ∙ sym (run_text-push (name_text ps) path q more);
      cut = cut;
    } in
    subst (λ xs. AreLeft ps words xs more) (sym grew) longer

-- ---- the reader of a line

pub same_text : (a b : List ℕ) (unequal : Bool) → unequal ≡ false → unequal ≡ not (bytes_eq a b) → a ≡ b
same_text a b unequal holds is = of (bytes_eq a b) refl
  where
    of : (t : Bool) → bytes_eq a b ≡ t → a ≡ b
    of true e = (bytes_eq-Decides a b).0 e
    of false e = absurd (true≢false (sym (ap not e) ∙ sym is ∙ holds))

pub other_text : (a b : List ℕ) (equal : Bool) → equal ≡ false → equal ≡ bytes_eq a b → a ≢ b
other_text a b equal holds is e = true≢false (sym ((bytes_eq-Decides a b).1 e) ∙ sym is ∙ holds)

pub path_found : (word : List ℕ) (ps : List Position) (line first words : List ℕ) (r : Option (ArrayVec ℕ)) → line ≡ first ++ words → first ≡ word → IfSome r (λ path. IsSpelledPath ps path.items × (words ≡ run_text (name_text ps) path.items)) → IfSome r (λ path. IsSpelledPath ps path.items × (line ≡ path_line word ps path.items))
path_found word ps line first words None e same h = tt
path_found word ps line first words (Some path) e same h = (h.0, e ∙ (λ i. same i ++ h.1 i) ∙ sym (path_line-is word ps path.items))

pub path_missing : (word : List ℕ) (ps : List Position) → Avoids 32 word → AreClear 32 ps → (line first words : List ℕ) (r : Option (ArrayVec ℕ)) → line ≡ first ++ words → Avoids 32 first → IsCutAt 32 words → IfNone r ((path : List ℕ) → IsSpelledPath ps path → words ≢ run_text (name_text ps) path) → IfNone r ((path : List ℕ) → IsSpelledPath ps path → line ≢ path_line word ps path)
path_missing word ps plain clear line first words (Some path) e front cut h = tt
path_missing word ps plain clear line first words None e front cut h = λ path s g. h path s (path_words word ps plain clear path first words front cut (sym e ∙ g)).1

-- the position with this number, by its name's bytes
pub named_there : (ps : List Position) (q : ℕ) (x : Position) (bytes name : List ℕ) (equal : Bool) → slice_get ps q ≡ Some x → bytes ≡ x.name → equal ≡ bytes_eq bytes name → equal ≡ true → (q < length ps) × (name ≡ name_at ps q)
named_there ps q x bytes name equal there is test holds =
    let same : bytes ≡ name = (bytes_eq-Decides bytes name).0 (sym test ∙ holds) in
    let at : name_at ps q ≡ x.name = ap (λ o. option_map_or (λ (p : Position). p.name) o []) there in
    (slice_get_within ps q x there, sym same ∙ is ∙ sym at)
