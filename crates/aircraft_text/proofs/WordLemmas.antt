-- lines that grow word by word
use Rattle.std.proofs.Common.{◌≡◌, ℕ, ◌+◌, ◌<◌, List, [], ◌∷◌, ◌++◌, length, map, take, slice_index_or, refl, ap, sym, ◌∙◌}
use Rattle.std.proofs.lemmas.List.{append_assoc, take_more, map-append}
use Rattle.text_lines.specs.Lines.{line_of}
use Rattle.aircraft_text.specs.declared.words.Word.{Word}
use Rattle.aircraft_text.specs.Words.{word_text}

-- a line with one more word at its end
line-more : (keyword : List ℕ) (words : List (List ℕ)) (word : List ℕ) → line_of (keyword ∷ (words ++ word ∷ [])) ≡ line_of (keyword ∷ words) ++ 32 ∷ word
line-more keyword [] word = refl
line-more keyword (w ∷ words) word = ap (λ t. keyword ++ 32 ∷ t) (line-more w words word) ∙ sym (append_assoc keyword (32 ∷ line_of (w ∷ words)) (32 ∷ word))

-- a line that had the words before this one, and then grew by a space and it
pub words_grow : (keyword : List ℕ) (words : List Word) (i : ℕ) (d : Word) (start old spaced new : List ℕ) → i < length words
    → old ≡ start ++ line_of (keyword ∷ map word_text (take i words)) → spaced ≡ old ++ 32 ∷ [] → new ≡ spaced ++ word_text (slice_index_or words i d)
    → new ≡ start ++ line_of (keyword ∷ map word_text (take (i + 1) words))
words_grow keyword words i d start old spaced new within was space grew =
    let before = map word_text (take i words) in
    let word = slice_index_or words i d in
    let more : map word_text (take (i + 1) words) ≡ before ++ word_text word ∷ [] = ap (map word_text) (take_more words i d within) ∙ map-append word_text (take i words) (word ∷ []) in
    let after : start ++ (line_of (keyword ∷ before) ++ 32 ∷ word_text word) ≡ start ++ line_of (keyword ∷ map word_text (take (i + 1) words)) =
    ap (λ t. start ++ t) (sym (line-more keyword before (word_text word)) ∙ ap (λ ws. line_of (keyword ∷ ws)) (sym more)) in
    grew ∙ ap (λ t. t ++ word_text word) space ∙ append_assoc old (32 ∷ []) (word_text word)
    ∙ ap (λ t. t ++ 32 ∷ word_text word) was ∙ append_assoc start (line_of (keyword ∷ before)) (32 ∷ word_text word) ∙ after
