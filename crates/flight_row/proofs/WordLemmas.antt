-- lines and their words
use Rattle.std.proofs.Common.{◌≡◌, ◌≢◌, ℕ, Bool, true, false, ◌∷◌, ◌++◌, List, [], length, refl, sym, ◌∙◌, ap, arith, All, eqb, IsTrue}
use Rattle.std.proofs.lemmas.Bool.{false≢true}
use Rattle.std.proofs.lemmas.List.Elements.{All-head, All-tail, All-append, All-cons}
use Rattle.std.proofs.lemmas.List.Splits.{slice_split_none, slice_split_at, length-slice_split, join_with_byte-slice_split}
use Rattle.text_lines.specs.Cuts.{Avoids}
use Rattle.text_lines.specs.Lines.{line_of}
use Rattle.flight_row.specs.Words.{is_space, words_in, words_left}

-- a line is its words
pub line_of-words : (line : List ℕ) → line_of (words_in line) ≡ line
line_of-words line = join_with_byte-slice_split 32 line

-- words without a space are the words of their line
pub words-line_of : (w : List ℕ) (ws : List (List ℕ)) → All (Avoids 32) (w ∷ ws) → words_in (line_of (w ∷ ws)) ≡ w ∷ ws
words-line_of w [] clear = slice_split_none is_space w (All-head (Avoids 32) w [] clear)
words-line_of w (v ∷ ws) clear =
    slice_split_at is_space w 32 (line_of (v ∷ ws)) (All-head (Avoids 32) w (v ∷ ws) clear) refl
    ∙ ap (λ (t : List (List ℕ)). w ∷ t) (words-line_of v ws (All-tail (Avoids 32) w (v ∷ ws) clear))

-- a line of words without the end of a line has none
pub line-avoids : (w : List ℕ) (ws : List (List ℕ)) → All (Avoids 10) (w ∷ ws) → Avoids 10 (line_of (w ∷ ws))
line-avoids w [] clear = All-head (Avoids 10) w [] clear
line-avoids w (v ∷ ws) clear =
    All-append (λ b. eqb b 10 ≡ false) w (32 ∷ line_of (v ∷ ws)) (All-head (Avoids 10) w (v ∷ ws) clear)
    (All-cons (λ b. eqb b 10 ≡ false) 32 (line_of (v ∷ ws)) refl (line-avoids v ws (All-tail (Avoids 10) w (v ∷ ws) clear)))

-- a line has a first word
pub some_words : (line : List ℕ) → words_in line ≢ []
some_words line e = let long = length-slice_split is_space line in absurd (omega (arith, long, ap length e))

-- up to the first space, and from behind it on
pub next_word : (line word rest : List ℕ) → line ≡ word ++ 32 ∷ rest → Avoids 32 word → words_in line ≡ word ∷ words_in rest
next_word line word rest e clear = ap words_in e ∙ slice_split_at is_space word 32 rest clear refl

pub last_word : (line : List ℕ) → Avoids 32 line → words_in line ≡ line ∷ []
last_word line clear = slice_split_none is_space line clear

-- what is left of a line that is not read to its end
pub unread : (read : Bool) (text : List ℕ) → read ≡ false → words_left read text ≡ words_in text
unread read text e = ap (λ b. words_left b text) e

pub all_read : (read : Bool) (text : List ℕ) → (IsTrue read → words_left read text ≡ []) × (words_left read text ≡ [] → IsTrue read)
all_read true text = (λ yes. refl, λ e. refl)
all_read false text = (λ no. absurd (false≢true no), λ e. absurd (some_words text e))

-- words that were read one by one --------------------------------------------------------------------

pub next_is : {w v : List ℕ} {old new ws : List (List ℕ)} → old ≡ w ∷ new → old ≡ v ∷ ws → (w ≡ v) × (new ≡ ws)
next_is {w} {v} {old} {new} {ws} e g =
    let both : w ∷ new ≡ v ∷ ws = sym e ∙ g in
    (cc (both), cc (both))

pub no_word : {v : List ℕ} {old ws : List (List ℕ)} → old ≡ [] → old ≡ v ∷ ws → ⊥
no_word {v} {old} {ws} none e = absurd (cc (none, e))
