-- The text of a near certificate fits a file.
use Rattle.std.proofs.Common.{◌≡◌, ℕ, suc, ◌+◌, ◌*◌, ◌/◌, ◌<◌, ◌≤◌, ◌^◌, ℤ, pos, negsuc, List, [], ◌∷◌, ◌++◌, length, map, zip, Option, Some, None, refl, sym, subst, arith, unsigned_abs}
use Rattle.std.proofs.lemmas.Fmt.{length-decimal-le}
use Rattle.std.proofs.lemmas.List.{length-append, length-map}
use Rattle.std.proofs.lemmas.List.Elements.{All-nil, All-cons, All-head, All-tail, All-append, All-map, All-weaker}
use Rattle.std.proofs.lemmas.Option.{slice_get_within, get_or_from_slice_get}
use Rattle.std.specs.Prelude.{All, IfSome, codes, slice_get}
use Rattle.std.specs.Option.{option_map_or}
use Rattle.mass_units.specs.Spelling.{number_text, index_text, signed_text, units_text}
use Rattle.mass_units.proofs.SpellingLemmas.{number_text-decimal, length-units_text}
use Rattle.hold_parts.specs.Spellings.{IsName, IsUldId}
use Rattle.hold_parts.specs.declared.parts.Item.{Item}
use Rattle.hold_parts.specs.declared.parts.Position.{Position}
use Rattle.hold_parts.specs.declared.parts.Lateral.{Lateral}
use Rattle.hold_limits.specs.Layout.{Layout, name_at}
use Rattle.text_lines.specs.Lines.{line_of, text_of}
use Rattle.hold_limits.specs.BranchOrder.{ordered}
use Rattle.hold_limits.specs.Problem.{Problem}
use Rattle.hold_limits.specs.Placement.{IsAdmissible, placed, take_off_index, hold_index, distance, lateral_difference}
use Rattle.hold_limits.specs.Faults.{IsLawful}
use Rattle.hold_limits.proofs.DistanceLemmas.{distance_to-bounded}
use Rattle.hold_limits.proofs.LawfulBounds.{lawful-bounds}
use Rattle.hold_limits.proofs.MomentLemmas.{abs-sum}
use Rattle.hold_limits.proofs.PlacedLemmas.{length-placed}
use Rattle.hold_partial.proofs.LevelSteps.{hold_index-bound, lateral-bound}
use Rattle.plan_text.specs.PlanText.{place_line, place_lines, balance_lines, difference_lines, plan_lines}
use Rattle.certificate.specs.CertificateText.{certificate_text, evidence_lines, path_line, claim_line, cut_line, expanded_line, start_line}
use Rattle.certificate.specs.Evidence.{claimed}
use Rattle.certificate.specs.declared.parts.Claim.{Claim}
use Rattle.certificate.specs.declared.parts.Claim.TheVariants.{Best, NoneFits}
use Rattle.certificate.specs.declared.parts.Certificate.{Certificate}
use Rattle.placer.specs.AnswerText.{evidence_text}
use Rattle.task_answers.specs.Names.{IsNamedTask}
use Rattle.task_answers.specs.Limits.{longest_certificate}
use Rattle.task_answers.proofs.AnswerLines.{claim_lines, claim_text-lines, ordered-all}

-- Lines -----------------------------------------------------------------------------------------

-- a line of at most 244 bytes: the longest names 60 positions by three letters each
pub record IsShort (line : List ℕ) : Type 0 where
  pub short : length line ≤ 244

-- words behind another one, each with the space before it
spread : List (List ℕ) → ℕ
spread [] = 0
spread (w ∷ words) = suc (length w) + spread words

length-line : (w : List ℕ) (words : List (List ℕ)) → length (line_of (w ∷ words)) ≡ length w + spread words
unfolding spread
length-line w [] = omega arith
length-line w (x ∷ words) = omega (arith, length-append w (32 ∷ line_of (x ∷ words)), length-line x words)

pub text-short : (lines : List (List ℕ)) → All IsShort lines → length (text_of lines) ≤ 245 * length lines
text-short [] all = omega arith
text-short (line ∷ lines) all =
    let first = (All-head IsShort line lines all).short in
    omega (arith, length-append line (10 ∷ text_of lines), first, text-short lines (All-tail IsShort line lines all))

-- Paths -----------------------------------------------------------------------------------------

abbrev HasShortName : Position → Type 0
HasShortName position = IsName position.name

name-found : (o : Option Position) → IfSome o HasShortName → length (option_map_or (λ (position : Position). position.name) o []) ≤ 3
name-found None named = omega arith
name-found (Some position) named = named.few

name-short : (ps : List Position) → All HasShortName ps → (q : ℕ) → length (name_at ps q) ≤ 3
name-short ps names q = name-found (slice_get ps q) (found (slice_get ps q) refl) where
  found : (o : Option Position) → slice_get ps q ≡ o → IfSome o HasShortName
  found None is = tt
  found (Some p) is = subst HasShortName (get_or_from_slice_get ps q p p is) (names q p (slice_get_within ps q p is))

spread-names : (ps : List Position) → All HasShortName ps → (path : List ℕ) → spread (map (name_at ps) path) ≤ 4 * length path
unfolding spread
spread-names ps names [] = omega arith
spread-names ps names (q ∷ path) = omega (arith, name-short ps names q, spread-names ps names path)

pub path-short : (word : List ℕ) (ps : List Position) (path : List ℕ) → All HasShortName ps → length word ≤ 4 → length path ≤ 60 → IsShort (path_line word ps path)
path-short word ps path names small few = record { short = omega (arith, length-line word (map (name_at ps) path), spread-names ps names path, small, few) }

-- Numbers ---------------------------------------------------------------------------------------

pub number-short : (n : ℕ) → n < 2 ^ 63 → length (number_text n) ≤ 20
number-short n small = subst (λ text. length text ≤ 20) (sym (number_text-decimal n (omega (arith, small)))) (length-decimal-le 20 n (omega arith) (omega (arith, small)) (omega (arith, small)))

signed-short : (z : ℤ) → unsigned_abs z < 2 ^ 63 → length (signed_text z) ≤ 21
unfolding signed_text
signed-short (pos n) small = omega (arith, number-short n small)
signed-short (negsuc n) small = omega (arith, number-short (suc n) small)

units-short : (n : ℕ) → n < 2 ^ 63 → length (units_text n) ≤ 26
units-short n small = omega (arith, length-units_text n, number-short (n / 100000) (omega (arith, small)))

index-short : (z : ℤ) → unsigned_abs z < 2 ^ 63 → length (index_text z) ≤ 27
unfolding index_text
index-short (pos n) small = omega (arith, units-short n small)
index-short (negsuc n) small = omega (arith, units-short (suc n) small)

-- a short word and a short one behind it
pub pair-short : (word other : List ℕ) → length word ≤ 20 → length other ≤ 100 → IsShort (line_of (word ∷ other ∷ []))
unfolding spread
pair-short word other small short = record { short = omega (arith, length-line word (other ∷ []), small, short) }

-- Certificates ----------------------------------------------------------------------------------

pub claim-short : (ps : List Position) (claim : Claim) → All HasShortName ps → IfSome (claimed claim) (λ path. length path ≤ 60) → IsShort (claim_line ps claim)
claim-short ps (Best path) names few = path-short (codes "best") ps path.items names (omega arith) few
claim-short ps NoneFits names few = record { short = omega arith }

abbrev pub IsFew : List ℕ → Type 0
IsFew cut = length cut ≤ 60

cuts-short : (ps : List Position) (cuts : List (List ℕ)) → All HasShortName ps → All IsFew cuts → All IsShort (map (cut_line ps) cuts)
cuts-short ps cuts names few = All-map IsShort (cut_line ps) cuts
    (All-weaker IsFew (λ cut. IsShort (cut_line ps cut)) (λ cut short. path-short (codes "cut") ps cut names (omega arith) short) cuts few)

lines-short : (ps : List Position) (c : Certificate) → All HasShortName ps → IfSome (claimed c.claim) (λ path. length path ≤ 60) → All IsFew c.cuts → c.expanded ≤ 50000
    → All IsShort (start_line ∷ evidence_lines ps c)
lines-short ps c names claim few expanded =
    let number = number-short c.expanded (omega (arith, expanded)) in
    All-cons IsShort start_line (evidence_lines ps c) (record { short = omega arith })
    (All-cons IsShort (claim_line ps c.claim) _ (claim-short ps c.claim names claim)
    (All-append IsShort (map (cut_line ps) c.cuts) (expanded_line c.expanded ∷ codes "END" ∷ []) (cuts-short ps c.cuts names few)
    (All-cons IsShort (expanded_line c.expanded) (codes "END" ∷ []) (pair-short (codes "expanded") (number_text c.expanded) (omega arith) (omega (arith, number)))
    (All-cons IsShort (codes "END") [] (record { short = omega arith }) (All-nil IsShort)))))

-- the text of a certificate takes at most 245 bytes for each cut and for four lines more
pub certificate-short : (ps : List Position) (c : Certificate) → All HasShortName ps → IfSome (claimed c.claim) (λ path. length path ≤ 60) → All IsFew c.cuts → c.expanded ≤ 50000
    → length (certificate_text ps c) ≤ 245 * (4 + length c.cuts)
certificate-short ps c names claim few expanded =
    let all = text-short (start_line ∷ evidence_lines ps c) (lines-short ps c names claim few expanded) in
    let last : List (List ℕ) = expanded_line c.expanded ∷ codes "END" ∷ [] in
    omega (arith, all, length-append (map (cut_line ps) c.cuts) last, length-map c.cuts (cut_line ps))

-- Plans -----------------------------------------------------------------------------------------

abbrev HasShortId : Item → Type 0
HasShortId item = length item.id ≤ 10

place-short : (hold : Layout) (item : Item) (q : ℕ) → HasShortId item → All HasShortName hold.positions → IsShort (place_line hold (item, q))
unfolding spread
place-short hold item q id names = record { short = omega (arith, length-line (codes "place") (item.id ∷ name_at hold.positions q ∷ []), id, name-short hold.positions names q) }

places-short : (hold : Layout) (items : List Item) (path : List ℕ) → All HasShortId items → All HasShortName hold.positions → All IsShort (map (place_line hold) (zip items path))
places-short hold [] path ids names = All-nil IsShort
places-short hold (x ∷ items) [] ids names = All-nil IsShort
places-short hold (x ∷ items) (q ∷ path) ids names =
    All-cons IsShort (place_line hold (x, q)) (map (place_line hold) (zip items path))
    (place-short hold x q (All-head HasShortId x items ids) names)
    (places-short hold items path (All-tail HasShortId x items ids) names)

index-small : (t : Problem) (path : List ℕ) → IsLawful t → length path ≤ length t.items → unsigned_abs (take_off_index t path) ≤ 249000000000
index-small t path lawful short =
    abs-sum t.base (hold_index t path) 1000000000 248000000000 (lawful-bounds t lawful).base (hold_index-bound t lawful path short)

distance-small : (t : Problem) (path : List ℕ) → IsLawful t → length path ≤ length t.items → distance t path ≤ 250000000000
distance-small t path lawful short =
    let bounds = lawful-bounds t lawful in
    omega (arith, distance_to-bounded t.ideal_low t.ideal_high (take_off_index t path) bounds.ideal_low bounds.ideal_high, index-small t path lawful short)

balance-short : (t : Problem) (path : List ℕ) → IsLawful t → length path ≤ length t.items → All IsShort (balance_lines t path)
balance-short t path lawful short =
    let index = index-short (take_off_index t path) (omega (arith, index-small t path lawful short)) in
    let far = index-short (pos (distance t path)) (omega (arith, distance-small t path lawful short)) in
    All-cons IsShort (line_of (codes "index" ∷ index_text (take_off_index t path) ∷ [])) (line_of (codes "distance" ∷ index_text (pos (distance t path)) ∷ []) ∷ [])
    (pair-short (codes "index") (index_text (take_off_index t path)) (omega arith) (omega (arith, index)))
    (All-cons IsShort (line_of (codes "distance" ∷ index_text (pos (distance t path)) ∷ [])) []
    (pair-short (codes "distance") (index_text (pos (distance t path))) (omega arith) (omega (arith, far)))
    (All-nil IsShort))

abbrev difference-lines : Problem → List ℕ → Option Lateral → List (List ℕ)
difference-lines t path lateral = option_map_or (λ (limit : Lateral). line_of (codes "lateral" ∷ signed_text (lateral_difference t path) ∷ []) ∷ []) lateral []

record AreOneShort (lines : List (List ℕ)) : Type 0 where
  all : All IsShort lines
  one : length lines ≤ 1

difference-short : (t : Problem) (path : List ℕ) → IsLawful t → length path ≤ length t.items → (lateral : Option Lateral) → AreOneShort (difference-lines t path lateral)
difference-short t path lawful short None = record { all = All-nil IsShort; one = omega arith }
difference-short t path lawful short (Some limit) =
    let text = signed-short (lateral_difference t path) (omega (arith, lateral-bound t lawful path short)) in
    record {
      all = All-cons IsShort _ [] (pair-short (codes "lateral") (signed_text (lateral_difference t path)) (omega arith) (omega (arith, text))) (All-nil IsShort);
      one = omega arith;
    }

-- at most 64 short lines
pub record AreFewShort (lines : List (List ℕ)) : Type 0 where
  pub all : All IsShort lines
  pub few : length lines ≤ 64

pub plan-short : (t : Problem) (path : List ℕ) → IsLawful t → All HasShortName t.hold.positions → All HasShortId t.items → length path ≤ length t.items → AreFewShort (plan_lines t path)
plan-short t path lawful names ids short =
    let bounds = lawful-bounds t lawful in
    let places = place_lines t (placed t path) in
    let plan : List (List ℕ) = codes "PLAN" ∷ places in
    let last = difference-short t path lawful short t.hold.lateral in
    record {
      all = All-append IsShort (plan ++ balance_lines t path) (difference_lines t path)
          (All-append IsShort plan (balance_lines t path)
          (All-cons IsShort (codes "PLAN") places (record { short = omega arith })
          (places-short t.hold (ordered t.items) path (ordered-all HasShortId t.items ids) names))
          (balance-short t path lawful short))
          last.all;
      few = omega (
        arith,
        length-append (plan ++ balance_lines t path) (difference_lines t path),
        length-append plan (balance_lines t path),
        length-map (placed t path) (place_line t.hold),
        length-placed t path short,
        last.one,
        short,
        bounds.items,
      );
    }

-- Answers ---------------------------------------------------------------------------------------

pub claimed-short : (t : Problem) (claim : Option (List ℕ)) → IsLawful t → IsNamedTask t → IfSome claim (IsAdmissible t) → AreFewShort (claim_lines t claim)
claimed-short t None lawful named admissible = record {
  all = All-cons IsShort (codes "NONE") [] (record { short = omega arith }) (All-nil IsShort);
  few = omega arith;
}
claimed-short t (Some path) lawful named admissible =
    plan-short t path lawful named.names (All-weaker (λ (item : Item). IsUldId item.id) HasShortId (λ item id. id.long) t.items named.ids) admissible.sound.short

-- the text of an answer fits a file, where its certificate is one of a search within the greatest budget
pub evidence-short : (t : Problem) (c : Certificate) → IsLawful t → IsNamedTask t → IfSome (claimed c.claim) (IsAdmissible t) → IfSome (claimed c.claim) IsFew
    → All IsFew c.cuts → c.expanded ≤ 50000 → length c.cuts ≤ 3200000 → length (evidence_text t c) ≤ longest_certificate
evidence-short t c lawful named admissible path cuts expanded few =
    let told = claimed-short t (claimed c.claim) lawful named admissible in
    let front = text-short (claim_lines t (claimed c.claim)) told.all in
    let back = certificate-short t.hold.positions c named.names path cuts expanded in
    let whole = length-append (text_of (claim_lines t (claimed c.claim))) (certificate_text t.hold.positions c) in
    rw (claim_text-lines t (claimed c.claim)) (omega (arith, told.few, front, back, whole, few))
