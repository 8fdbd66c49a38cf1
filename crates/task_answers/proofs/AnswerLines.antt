-- The lines of an answer before its certificate: none of them begins a certificate.
use Rattle.std.proofs.Common.{◌≡◌, ◌≢◌, ℕ, ◌<◌, List, [], ◌∷◌, ◌++◌, length, get_or, map, pos, Option, Some, None, refl, ap, subst, ◌∙◌, arith}
use Rattle.std.proofs.lemmas.List.Elements.{All-nil, All-cons, All-head, All-tail, All-append, All-map, All-weaker}
use Rattle.std.proofs.lemmas.Option.{slice_get_within, get_or_from_slice_get}
use Rattle.std.specs.Prelude.{All, codes, slice_get, zip}
use Rattle.std.specs.Option.{option_map_or}
use Rattle.mass_units.specs.Spelling.{signed_text, index_text}
use Rattle.mass_units.proofs.SpellingLemmas.{signed_text-avoids, index_text-avoids}
use Rattle.hold_parts.specs.Spellings.{IsUldId}
use Rattle.hold_parts.specs.declared.parts.Item.{Item}
use Rattle.hold_parts.specs.declared.parts.Lateral.{Lateral}
use Rattle.hold_limits.specs.Layout.{Layout, name_at}
use Rattle.hold_limits.specs.Problem.{Problem}
use Rattle.hold_limits.specs.BranchOrder.{Offered, branch_order, ordered}
use Rattle.hold_limits.specs.Placement.{IsSound, placed, take_off_index, distance, lateral_difference}
use Rattle.hold_limits.proofs.BranchOrderLemmas.{entries-offered}
use Rattle.hold_limits.proofs.SoundLemmas.{IsSound-within}
use Rattle.text_lines.specs.Cuts.{Avoids}
use Rattle.text_lines.specs.Lines.{line_of, text_of}
use Rattle.text_lines.proofs.NameLemmas.{name_at-avoids}
use Rattle.text_lines.proofs.WordLemmas.{avoids-spaced, plain_word}
use Rattle.plan_text.specs.PlanText.{place_line, place_lines, balance_lines, difference_lines, plan_lines}
use Rattle.text_lines.specs.SpelledWords.{id_avoids}
use Rattle.certificate.specs.Starts.{IsEarlier}
use Rattle.certificate.proofs.PathLemmas.{clear_names}
use Rattle.placer.specs.AnswerText.{claim_text}
use Rattle.task_answers.specs.Names.{IsNamedTask}

-- a whole line that does not begin with the letter C
pub record IsTold (line : List ℕ) : Type 0 where
  pub whole : Avoids 10 line
  pub letter : get_or line 0 0 ≢ 67

pub told-earlier : (start line : List ℕ) → get_or start 0 0 ≡ 67 → IsTold line → IsEarlier start line
told-earlier start line begins told = record { whole = told.whole; other = λ same. told.letter (ap (λ l. get_or l 0 0) same ∙ begins) }

-- Plans -----------------------------------------------------------------------------------------

place-told : (hold : Layout) (item : Item) (q : ℕ) → Avoids 10 item.id → Avoids 10 (name_at hold.positions q) → IsTold (place_line hold (item, q))
place-told hold item q id name = record {
  whole = avoids-spaced 10 (codes "place") (item.id ++ 32 ∷ name_at hold.positions q) refl (plain_word 10 (codes "place") refl)
      (avoids-spaced 10 item.id (name_at hold.positions q) refl id name);
  letter = λ e. let is : 112 ≡ 67 = e in absurd (omega (arith, is));
}

abbrev HasPlainId : Item → Type 0
HasPlainId item = Avoids 10 item.id

abbrev HasPlainName : Layout → ℕ → Type 0
HasPlainName hold q = Avoids 10 (name_at hold.positions q)

places-told : (hold : Layout) (items : List Item) (path : List ℕ) → All HasPlainId items → All (HasPlainName hold) path → All IsTold (map (place_line hold) (zip items path))
places-told hold [] path ids names = All-nil IsTold
places-told hold (x ∷ items) [] ids names = All-nil IsTold
places-told hold (x ∷ items) (q ∷ path) ids names =
    All-cons IsTold (place_line hold (x, q)) (map (place_line hold) (zip items path))
    (place-told hold x q (All-head HasPlainId x items ids) (All-head (HasPlainName hold) q path names))
    (places-told hold items path (All-tail HasPlainId x items ids) (All-tail (HasPlainName hold) q path names))

-- what holds of each container holds of each in branch order
pub ordered-all : (P : Item → Type 0) (items : List Item) → All P items → All P (ordered items)
ordered-all P items all =
    All-map P (λ (e : Offered). e.1) (branch_order items)
    (All-weaker (λ (e : Offered). slice_get items e.0 ≡ Some e.1) (λ (e : Offered). P e.1)
    (λ e there. subst P (get_or_from_slice_get items e.0 e.1 e.1 there) (all e.0 e.1 (slice_get_within items e.0 e.1 there)))
    (branch_order items) (entries-offered items))

-- a word and a number
number-told : (word number : List ℕ) → Avoids 10 word → get_or (word ++ 32 ∷ number) 0 0 ≢ 67 → Avoids 10 number → IsTold (line_of (word ∷ number ∷ []))
number-told word number plain letter clear = record { whole = avoids-spaced 10 word number refl plain clear; letter = letter }

balance-told : (t : Problem) (path : List ℕ) → All IsTold (balance_lines t path)
balance-told t path =
    All-cons IsTold (line_of (codes "index" ∷ index_text (take_off_index t path) ∷ [])) (line_of (codes "distance" ∷ index_text (pos (distance t path)) ∷ []) ∷ [])
    (number-told (codes "index") (index_text (take_off_index t path)) (plain_word 10 (codes "index") refl)
    (λ e. let is : 105 ≡ 67 = e in absurd (omega (arith, is))) (index_text-avoids 10 (take_off_index t path) (omega arith)))
    (All-cons IsTold (line_of (codes "distance" ∷ index_text (pos (distance t path)) ∷ [])) []
    (number-told (codes "distance") (index_text (pos (distance t path))) (plain_word 10 (codes "distance") refl)
    (λ e. let is : 100 ≡ 67 = e in absurd (omega (arith, is))) (index_text-avoids 10 (pos (distance t path)) (omega arith)))
    (All-nil IsTold))

difference-told : (t : Problem) (path : List ℕ) (lateral : Option Lateral)
    → All IsTold (option_map_or (λ (limit : Lateral). line_of (codes "lateral" ∷ signed_text (lateral_difference t path) ∷ []) ∷ []) lateral [])
difference-told t path None = All-nil IsTold
difference-told t path (Some limit) =
    All-cons IsTold (line_of (codes "lateral" ∷ signed_text (lateral_difference t path) ∷ [])) []
    (number-told (codes "lateral") (signed_text (lateral_difference t path)) (plain_word 10 (codes "lateral") refl)
    (λ e. let is : 108 ≡ 67 = e in absurd (omega (arith, is))) (signed_text-avoids 10 (lateral_difference t path) (omega arith)))
    (All-nil IsTold)

plan-told : (t : Problem) (path : List ℕ) → IsNamedTask t → IsSound t path → All IsTold (plan_lines t path)
plan-told t path named sound =
    let ps = t.hold.positions in
    let ids = ordered-all HasPlainId t.items (All-weaker (λ (item : Item). IsUldId item.id) HasPlainId (λ item id. id_avoids 10 item.id (omega arith) id) t.items named.ids) in
    let names = All-weaker (λ q. q < length ps) (HasPlainName t.hold) (λ q known. name_at-avoids 10 ps q (clear_names 10 ps (omega arith) named.names) known) path (IsSound-within t path sound) in
    let first : IsTold (codes "PLAN") = record { whole = plain_word 10 (codes "PLAN") refl; letter = λ e. let is : 80 ≡ 67 = e in absurd (omega (arith, is)) } in
    let places = All-cons IsTold (codes "PLAN") (place_lines t (placed t path)) first (places-told t.hold (ordered t.items) path ids names) in
    let balance = All-append IsTold (codes "PLAN" ∷ place_lines t (placed t path)) (balance_lines t path) places (balance-told t path) in
    All-append IsTold ((codes "PLAN" ∷ place_lines t (placed t path)) ++ balance_lines t path) (difference_lines t path) balance (difference-told t path t.hold.lateral)

-- Claims ----------------------------------------------------------------------------------------

abbrev pub claim_lines : Problem → Option (List ℕ) → List (List ℕ)
claim_lines t None = codes "NONE" ∷ []
claim_lines t (Some path) = plan_lines t path

pub claim_text-lines : (t : Problem) (claim : Option (List ℕ)) → claim_text t claim ≡ text_of (claim_lines t claim)
claim_text-lines t None = refl
claim_text-lines t (Some path) = refl

pub claim-told : (t : Problem) (claim : Option (List ℕ)) → IsNamedTask t → ((path : List ℕ) → claim ≡ Some path → IsSound t path) → All IsTold (claim_lines t claim)
claim-told t None named sound =
    All-cons IsTold (codes "NONE") [] (record { whole = plain_word 10 (codes "NONE") refl; letter = λ e. let is : 78 ≡ 67 = e in absurd (omega (arith, is)) }) (All-nil IsTold)
claim-told t (Some path) named sound = plan-told t path named (sound path refl)
