-- lines of a keyword and of fields are read in one way only
use Rattle.std.proofs.Common.{◌≡◌, ◌≢◌, ℕ, ◌<◌, Bool, true, false, eqb, ◌++◌, ◌∷◌, List, [], refl, sym, ◌∙◌, arith, All, lit<}
use Rattle.std.specs.Prelude.{bytes_eq, nat_le}
use Rattle.std.specs.List.{list_all, list_any}
use Rattle.std.proofs.lemmas.Bool.{true≢false}
use Rattle.std.proofs.lemmas.List.{append_assoc, append_cancel_left}
use Rattle.std.proofs.lemmas.List.Elements.{All-nil, All-cons, All-head, All-tail}
use Rattle.std.proofs.lemmas.Slice.Eq.{bytes_eq-Decides}
use Rattle.mass_units.specs.declared.Kg.{Kg}
use Rattle.mass_units.specs.declared.Ticks.{Ticks}
use Rattle.mass_units.specs.Spelling.{number_text, signed_text, index_text}
use Rattle.mass_units.proofs.SpellingLemmas.{number_text-avoids, signed_text-avoids, index_text-avoids, number_text-injective, signed_text-injective, index_text-injective}
use Rattle.hold_parts.specs.Spellings.{IsName, IsKind, IsUldId}
use Rattle.hold_parts.specs.declared.parts.Position.{Position}
use Rattle.hold_limits.specs.Layout.{name_at}
use Rattle.text_lines.specs.Cuts.{Avoids}
use Rattle.text_lines.specs.Names.{IsNamed}
use Rattle.text_lines.specs.WordRuns.{run_text, name_text}
use Rattle.text_lines.proofs.CutLemmas.{cut_once, split_once_again}
use Rattle.text_lines.proofs.WordLemmas.{avoids-append, avoids-spaced, plain_word, letters_avoid}
use Rattle.text_lines.specs.SpelledWords.{name_avoids, kind_avoids, id_avoids}
use Rattle.text_lines.proofs.NameLemmas.{name_at-avoids, named_once}
use Rattle.text_lines.proofs.RunLemmas.{AreRead, run_text-begins, run_once}
use Rattle.text_lines.proofs.NameRuns.{AreNames, clear_names}
use Rattle.text_lines.proofs.Rests.{IsLineKind}

-- Words -------------------------------------------------------------------------------------------

-- a kind of word: each word has one value, and no byte before the minus
pub record IsWordKind {X : Type 0} (word : X → List ℕ) (IsRight : X → Type 0) : Type 0 where
  pub once : (x y : X) → IsRight x → IsRight y → word x ≡ word y → x ≡ y
  pub avoids : (k : ℕ) → k < 45 → (x : X) → IsRight x → Avoids k (word x)

-- any value has a word
abbrev pub HasWord : {X : Type 0} → X → Type 0
HasWord x = Unit {0}

pub numbers : IsWordKind number_text HasWord
numbers = record { once = λ m n s t. number_text-injective m n; avoids = λ k low n s. number_text-avoids k n low }

pub signed : IsWordKind signed_text HasWord
signed = record { once = λ y z s t. signed_text-injective y z; avoids = λ k low z s. signed_text-avoids k z low }

pub masses : IsWordKind (λ (m : Kg). number_text m.0) HasWord
masses = record { once = λ m n s t e i. record { 0 = number_text-injective m.0 n.0 e i }; avoids = λ k low m s. number_text-avoids k m.0 low }

pub indices : IsWordKind (λ (t : Ticks). index_text t.0) HasWord
indices = record { once = λ y z s t e i. record { 0 = index_text-injective y.0 z.0 e i }; avoids = λ k low z s. index_text-avoids k z.0 low }

pub names : IsWordKind (λ name. name) IsName
names = record { once = λ x y s t e. e; avoids = λ k low name s. name_avoids k name low s }

pub kinds : IsWordKind (λ kind. kind) IsKind
kinds = record { once = λ x y s t e. e; avoids = λ k low kind s. kind_avoids k kind low s }

pub identities : IsWordKind (λ id. id) IsUldId
identities = record { once = λ x y s t e. e; avoids = λ k low id s. id_avoids k id low s }

-- one of two words
pub two_words : (word : Bool → List ℕ) → list_all (nat_le 45) (word true) ≡ true → list_all (nat_le 45) (word false) ≡ true → bytes_eq (word true) (word false) ≡ false → IsWordKind word HasWord
two_words word is_plain other_plain differ = record { once = λ a b s t. once a b; avoids = λ k low b s. avoids k low b }
  where
    unlike : word true ≢ word false
    unlike e = true≢false (sym ((bytes_eq-Decides (word true) (word false)).1 e) ∙ differ)

    once : (a b : Bool) → word a ≡ word b → a ≡ b
    once true true e = refl
    once true false e = absurd (unlike e)
    once false true e = absurd (unlike (sym e))
    once false false e = refl

    avoids : (k : ℕ) → k < 45 → (b : Bool) → Avoids k (word b)
    avoids k low true = letters_avoid k (word true) low is_plain
    avoids k low false = letters_avoid k (word false) low other_plain

-- the names of positions
pub named : (ps : List Position) → AreNames ps → IsWordKind (name_at ps) (IsNamed ps)
named ps spelled = record { once = named_once ps; avoids = λ k low q s. name_at-avoids k ps q (clear_names k ps low spelled) s.known }

-- Fields ------------------------------------------------------------------------------------------

pub last_field : {X : Type 0} {word : X → List ℕ} {P : X → Type 0} → IsWordKind word P → IsLineKind word P
last_field kind = record { once = kind.once; avoids = kind.avoids 10 (lit< tt) }

pub and_then : {X Y : Type 0} {word : X → List ℕ} {P : X → Type 0} {text : Y → List ℕ} {Q : Y → Type 0} → IsWordKind word P → IsLineKind text Q
    → IsLineKind (λ (z : X × Y). word z.0 ++ 32 ∷ text z.1) (λ (z : X × Y). P z.0 × Q z.1)
and_then {word = word} {text = text} kind rest = record {
  once = λ x y s t e.
      let parts = split_once_again 32 (word x.0) (text x.1) (word y.0) (text y.1) (kind.avoids 32 (lit< tt) x.0 s.0) (kind.avoids 32 (lit< tt) y.0 t.0) e in
      λ i. (kind.once x.0 y.0 s.0 t.0 parts.0 i, rest.once x.1 y.1 s.1 t.1 parts.1 i);
  avoids = λ x s. avoids-spaced 10 (word x.0) (text x.1) refl (kind.avoids 10 (lit< tt) x.0 s.0) (rest.avoids x.1 s.1);
}

-- Runs --------------------------------------------------------------------------------------------

-- entries of a run, each of which begins with a space
pub record AreEntries {X : Type 0} (text : X → List ℕ) (IsRight : X → Type 0) : Type 0 where
  pub read : AreRead text IsRight
  pub plain : (x : X) → IsRight x → Avoids 10 (text x)

spaced : (text : List ℕ) → Avoids 10 text → Avoids 10 (32 ∷ text)
spaced text plain = All-cons (λ b. eqb b 10 ≡ false) 32 text refl plain

-- each entry is a word
pub word_entries : {X : Type 0} {word : X → List ℕ} {P : X → Type 0} → IsWordKind word P → AreEntries (λ x. 32 ∷ word x) P
word_entries {word = word} kind = record {
  read = record {
    some = λ x. omega arith;
    begins = λ x rest. refl;
    once = λ x y rest other s t cut cut' e.
        let tails : word x ++ rest ≡ word y ++ other = cc in
        let parts = cut_once 32 (word x) rest (word y) other (kind.avoids 32 (lit< tt) x s) (kind.avoids 32 (lit< tt) y t) cut cut' tails in
        (kind.once x y s t parts.0, parts.1);
  };
  plain = λ x s. spaced (word x) (kind.avoids 10 (lit< tt) x s);
}

-- each entry is two words
pub pair_entries : {A B : Type 0} {a : A → List ℕ} {P : A → Type 0} {b : B → List ℕ} {Q : B → Type 0} → IsWordKind a P → IsWordKind b Q
    → AreEntries (λ (z : A × B). 32 ∷ (a z.0 ++ 32 ∷ b z.1)) (λ (z : A × B). P z.0 × Q z.1)
pair_entries {a = a} {b = b} one two = record {
  read = record {
    some = λ z. omega arith;
    begins = λ z rest. refl;
    once = λ x y rest other s t cut cut' e.
        let tails : (a x.0 ++ 32 ∷ b x.1) ++ rest ≡ (a y.0 ++ 32 ∷ b y.1) ++ other = cc in
        let whole = sym (append_assoc (a x.0) (32 ∷ b x.1) rest) ∙ tails ∙ append_assoc (a y.0) (32 ∷ b y.1) other in
        let first = split_once_again 32 (a x.0) (b x.1 ++ rest) (a y.0) (b y.1 ++ other) (one.avoids 32 (lit< tt) x.0 s.0) (one.avoids 32 (lit< tt) y.0 t.0) whole in
        let second = cut_once 32 (b x.1) rest (b y.1) other (two.avoids 32 (lit< tt) x.1 s.1) (two.avoids 32 (lit< tt) y.1 t.1) cut cut' first.1 in
        (λ i. (one.once x.0 y.0 s.0 t.0 first.0 i, two.once x.1 y.1 s.1 t.1 second.0 i), second.1);
  };
  plain = λ z s. spaced (a z.0 ++ 32 ∷ b z.1) (avoids-spaced 10 (a z.0) (b z.1) refl (one.avoids 10 (lit< tt) z.0 s.0) (two.avoids 10 (lit< tt) z.1 s.1));
}

-- each entry has these parts alone
pub entry_parts : {X Y : Type 0} {text : Y → List ℕ} {Q : Y → Type 0} {P : X → Type 0} → AreEntries text Q → (parts : X → Y) → ((x y : X) → parts x ≡ parts y → x ≡ y) → ((x : X) → P x → Q (parts x)) → AreEntries (λ x. text (parts x)) P
entry_parts entries parts same right = record {
  read = record {
    some = λ x. entries.read.some (parts x);
    begins = λ x. entries.read.begins (parts x);
    once = λ x y rest other s t cut cut' e.
        let one = entries.read.once (parts x) (parts y) rest other (right x s) (right y t) cut cut' e in
        (same x y one.0, one.1);
  };
  plain = λ x s. entries.plain (parts x) (right x s);
}

pub run_kind : {X : Type 0} {text : X → List ℕ} {P : X → Type 0} → AreEntries text P → IsLineKind (run_text text) (All P)
run_kind {X} {text = text} {P = P} entries = record { once = run_once text P entries.read; avoids = avoids }
  where
    avoids : (xs : List X) → All P xs → Avoids 10 (run_text text xs)
    avoids [] s = All-nil (λ b. eqb b 10 ≡ false)
    avoids (x ∷ xs) s = avoids-append 10 (text x) (run_text text xs) (entries.plain x (All-head P x xs s)) (avoids xs (All-tail P x xs s))

-- a word before a run, whose entries begin with a space
pub then_run : {X Y : Type 0} {word : X → List ℕ} {P : X → Type 0} {text : Y → List ℕ} {Q : Y → Type 0} → IsWordKind word P → AreEntries text Q
    → IsLineKind (λ (z : X × List Y). word z.0 ++ run_text text z.1) (λ (z : X × List Y). P z.0 × All Q z.1)
then_run {word = word} {text = text} {Q = Q} kind entries =
    let run = run_kind entries in
    let begins = run_text-begins text Q entries.read in
    record {
      once = λ x y s t e.
          let parts = cut_once 32 (word x.0) (run_text text x.1) (word y.0) (run_text text y.1) (kind.avoids 32 (lit< tt) x.0 s.0) (kind.avoids 32 (lit< tt) y.0 t.0) (begins x.1) (begins y.1) e in
          λ i. (kind.once x.0 y.0 s.0 t.0 parts.0 i, run.once x.1 y.1 s.1 t.1 parts.1 i);
      avoids = λ x s. avoids-append 10 (word x.0) (run_text text x.1) (kind.avoids 10 (lit< tt) x.0 s.0) (run.avoids x.1 s.1);
    }

pub name_run : (ps : List Position) → AreNames ps → IsLineKind (run_text (name_text ps)) (All (IsNamed ps))
name_run ps spelled = run_kind (word_entries (named ps spelled))

-- Lines -------------------------------------------------------------------------------------------

-- behind a keyword
pub behind_word : {X : Type 0} {text : X → List ℕ} {P : X → Type 0} (keyword : List ℕ) → list_any (λ b. eqb b 10) keyword ≡ false → IsLineKind text P → IsLineKind (λ x. keyword ++ text x) P
behind_word {text = text} keyword plain kind = record {
  once = λ x y s t e. kind.once x y s t (append_cancel_left keyword (text x) (text y) e);
  avoids = λ x s. avoids-append 10 keyword (text x) (plain_word 10 keyword plain) (kind.avoids x s);
}

-- of an entry that has these parts alone
pub of_parts : {X Y : Type 0} {text : Y → List ℕ} {Q : Y → Type 0} {P : X → Type 0} → IsLineKind text Q → (parts : X → Y) → ((x y : X) → parts x ≡ parts y → x ≡ y) → ((x : X) → P x → Q (parts x)) → IsLineKind (λ x. text (parts x)) P
of_parts kind parts same right = record {
  once = λ x y s t e. same x y (kind.once (parts x) (parts y) (right x s) (right y t) e);
  avoids = λ x s. kind.avoids (parts x) (right x s);
}

-- where more is asked of an entry
pub of_spelled : {X : Type 0} {text : X → List ℕ} {Q P : X → Type 0} → IsLineKind text Q → ((x : X) → P x → Q x) → IsLineKind text P
of_spelled kind right = record { once = λ x y s t. kind.once x y (right x s) (right y t); avoids = λ x s. kind.avoids x (right x s) }

-- that are written in another way
pub written_as : {X : Type 0} {text line : X → List ℕ} {P : X → Type 0} → IsLineKind text P → ((x : X) → line x ≡ text x) → IsLineKind line P
written_as {P = P} kind same = record {
  once = λ x y s t e. kind.once x y s t (sym (same x) ∙ e ∙ same y);
  avoids = λ x s. rw (same x) (kind.avoids x s);
}
