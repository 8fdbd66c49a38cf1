-- what is spelled contains neither a space nor the end of a line
use Rattle.std.proofs.Common.{◌≡◌, ℕ, ◌-◌, ◌+◌, ◌<◌, ◌≤◌, false, pos, eqb, List, [], ◌++◌, length, take, drop, get_or, sym, ◌∙◌, ap, arith, slice_range, ⊎_elim, All}
use Rattle.std.specs.Option.{option_map_or}
use Rattle.std.proofs.lemmas.Bool.{ne_eqb}
use Rattle.std.proofs.lemmas.List.{take-append-drop, drop-drop}
use Rattle.std.proofs.lemmas.List.Elements.{All-weaker, All-append, All-same}
use Rattle.std.proofs.lemmas.Option.{slice_get-get_or}
use Rattle.hold_limits.specs.Layout.{name_at}
use Rattle.hold_parts.specs.declared.parts.Position.{Position}
use Rattle.base_words.specs.Letters.{IsCapital, IsDigit, IsCapitalOrDigit}
use Rattle.hold_parts.specs.Spellings.{IsName, IsKind, IsUldId}
use Rattle.text_lines.specs.Cuts.{Avoids}

pub capital_avoids : (k c : ℕ) → k < 45 → IsCapital c → eqb c k ≡ false
capital_avoids k c low h = ne_eqb c k (λ e. omega arith)

pub digit_avoids : (k c : ℕ) → k < 45 → IsDigit c → eqb c k ≡ false
digit_avoids k c low h = ne_eqb c k (λ e. omega arith)

pub letter_avoids : (k c : ℕ) → k < 45 → IsCapitalOrDigit c → eqb c k ≡ false
letter_avoids k c low h = ⊎_elim (λ (a : IsCapital c). capital_avoids k c low a) (λ (b : IsDigit c). digit_avoids k c low b) h

pub name_avoids : (k : ℕ) (name : List ℕ) → k < 45 → IsName name → Avoids k name
name_avoids k name low h = All-weaker IsCapitalOrDigit (λ b. eqb b k ≡ false) (λ c g. letter_avoids k c low g) name h.letters

pub kind_avoids : (k : ℕ) (kind : List ℕ) → k < 45 → IsKind kind → Avoids k kind
kind_avoids k kind low h = All-weaker IsCapital (λ b. eqb b k ≡ false) (λ c g. capital_avoids k c low g) kind h.letters

-- a text in three parts
in_three : (text : List ℕ) (a b : ℕ) → a ≤ b → text ≡ take a text ++ (slice_range text a b ++ drop b text)
in_three text a b le =
    let back : drop b text ≡ drop (b - a) (drop a text) = let at : a + (b - a) ≡ b = omega arith in sym (drop-drop (b - a) a text ∙ ap (λ n. drop n text) at) in
    let rest : slice_range text a b ++ drop b text ≡ drop a text = rw back (take-append-drop (b - a) (drop a text)) in
    sym (ap (λ xs. take a text ++ xs) rest ∙ take-append-drop a text)

pub id_avoids : (k : ℕ) (id : List ℕ) → k < 45 → IsUldId id → Avoids k id
id_avoids k id low h =
    let P : ℕ → Type 0 = λ b. eqb b k ≡ false in
    let kind = All-weaker IsCapital P (λ c g. capital_avoids k c low g) (take 3 id) h.kind in
    let serial = All-weaker IsDigit P (λ c g. digit_avoids k c low g) (slice_range id 3 (length id - 2)) h.serial in
    let owner = All-weaker IsCapitalOrDigit P (λ c g. letter_avoids k c low g) (drop (length id - 2) id) h.owner in
    let short : 9 ≤ length id = h.short in
    All-same P id (take 3 id ++ (slice_range id 3 (length id - 2) ++ drop (length id - 2) id)) (in_three id 3 (length id - 2) (omega arith)) (All-append P (take 3 id) (slice_range id 3 (length id - 2) ++ drop (length id - 2) id) kind (All-append P (slice_range id 3 (length id - 2)) (drop (length id - 2) id) serial owner))

-- The names of positions --------------------------------------------------------------------------

-- what no answer depends on
pub some_position : Position
some_position = record { name = []; compartment = 0; influence = pos 0; bulk = false; fits = [] }

pub name_at-is : (ps : List Position) (q : ℕ) (d : Position) → q < length ps → name_at ps q ≡ (get_or ps q d).name
name_at-is ps q d within = ap (λ o. option_map_or (λ (p : Position). p.name) o []) (slice_get-get_or ps q d within)

pub name_at-avoids : (k : ℕ) (ps : List Position) (q : ℕ) → All (λ (p : Position). Avoids k p.name) ps → q < length ps → Avoids k (name_at ps q)
name_at-avoids k ps q clear within = rw (name_at-is ps q some_position within) (clear q some_position within)
