-- the lines of a certificate of trees after its first, part by part
use Rattle.std.proofs.Common.{◌≡◌, ℕ, ◌+◌, ◌++◌, ◌∷◌, List, [], map, refl, sym, ◌∙◌, ap, All, codes}
use Rattle.std.proofs.lemmas.List.{append_assoc}
use Rattle.std.proofs.lemmas.List.Elements.{All-nil, All-append}
use Rattle.hold_parts.specs.declared.parts.Position.{Position}
use Rattle.text_lines.specs.Cuts.{Avoids}
use Rattle.text_lines.specs.Sections.{HasNoneAhead, IsSection}
use Rattle.text_lines.specs.declared.lines.Lines.{Lines as Point}
use Rattle.text_lines.proofs.WordLemmas.{plain_word}
use Rattle.text_lines.proofs.RunOfLines.{Stops}
use Rattle.text_lines.proofs.GrammarLemmas.{stops_from}
use Rattle.text_lines.proofs.PartSteps.{IsAny, PartBetween, whole_part}
use Rattle.text_lines.proofs.Rests.{Rest, behind, Leads, then, past, StartsWithOne, SaysOne, past_one}
use Rattle.text_lines.proofs.RunsOfLines.{StartsWithRun, past_run, IsLast}
use Rattle.text_lines.proofs.OneReading.{IsReadOnce, one_then, run_then, last_then}
use Rattle.certificate.specs.CertificateText.{claim_line, IsSpelledClaim}
use Rattle.certificate.specs.declared.parts.Claim.{Claim}
use Rattle.certificate.specs.declared.parts.Claim.TheVariants.{Best, NoneFits}
use Rattle.certificate.proofs.PathLemmas.{AreNames}
use Rattle.certificate.proofs.LineLemmas.{claims}
use Rattle.position_set.specs.declared.set.PositionSet.{PositionSet}
use Rattle.tree_certificate.specs.declared.parts.Operation.{Operation}
use Rattle.tree_certificate.specs.Listed.{ListedPrices, ListedSibling, ListedTrees}
use Rattle.tree_certificate.specs.TreeText.{clique_line, price_line, operation_line, root_line, least_line, sibling_lines, tree_lines, IsSpelledSet, IsSpelledPriceList, IsSpelledOperation, IsSpelledLeast, IsSpelledSibling, IsSpelled}
use Rattle.tree_certificate.specs.Reading.{AreSiblings}
use Rattle.tree_certificate.proofs.PriceLemmas.{price_lines}
use Rattle.tree_certificate.proofs.LineLemmas as kind
use Rattle.tree_certificate.proofs.LineLemmas.{cliques_end, prices_end, operations_end, end_stops_operations, end_stops_siblings, siblings_once, siblings_are}

abbrev Lines : Type 0
Lines = List (List ℕ)

-- What is still to come ---------------------------------------------------------------------------

abbrev last_lines : ListedTrees → Lines
last_lines c = codes "END" ∷ []

abbrev sibling_part : List Position → ListedTrees → Lines
sibling_part ps c = sibling_lines ps c.siblings ++ last_lines c

abbrev root_part : List Position → ListedTrees → Lines
root_part ps c = map (operation_line ps) c.root ++ sibling_part ps c

abbrev price_part : List Position → ListedTrees → Lines
price_part ps c = map (price_line ps) c.prices ++ (root_line c.claim ∷ root_part ps c)

abbrev pub trees : List Position → Rest ListedTrees
trees ps = record { Is = IsSpelled ps; lines = tree_lines ps }

abbrev pub from_cliques : List Position → Claim → Rest ListedTrees
from_cliques ps claim = behind (trees ps) (λ c. c.claim) claim (λ c. map (clique_line ps) c.cliques ++ price_part ps c)

abbrev pub from_prices : List Position → Claim → List PositionSet → Rest ListedTrees
from_prices ps claim cliques = behind (from_cliques ps claim) (λ c. c.cliques) cliques (price_part ps)

abbrev pub from_root : List Position → Claim → List PositionSet → List ListedPrices → Rest ListedTrees
from_root ps claim cliques prices = behind (from_prices ps claim cliques) (λ c. c.prices) prices (λ c. root_line c.claim ∷ root_part ps c)

-- nothing but itself is said by the line before the first tree
abbrev pub from_operations : List Position → Claim → List PositionSet → List ListedPrices → Unit {0} → Rest ListedTrees
from_operations ps claim cliques prices u = behind (from_root ps claim cliques prices) (λ c. tt) u (root_part ps)

abbrev pub from_siblings : List Position → Claim → List PositionSet → List ListedPrices → Unit {0} → List Operation → Rest ListedTrees
from_siblings ps claim cliques prices u root = behind (from_operations ps claim cliques prices u) (λ c. c.root) root (sibling_part ps)

abbrev pub from_end : List Position → Claim → List PositionSet → List ListedPrices → Unit {0} → List Operation → List ListedSibling → Rest ListedTrees
from_end ps claim cliques prices u root siblings = behind (from_siblings ps claim cliques prices u root) (λ c. c.siblings) siblings last_lines

-- The parts ---------------------------------------------------------------------------------------

root_feeds : (claim : Claim) → Avoids 10 (root_line claim)
root_feeds (Best path) = plain_word 10 (codes "nearer") refl
root_feeds NoneFits = plain_word 10 (codes "any") refl

module _ (ps : List Position) (names : AreNames ps) where
  pub starts_with_claim : StartsWithOne (trees ps) (claim_line ps) (IsSpelledClaim ps) (λ c. c.claim) (λ c. map (clique_line ps) c.cliques ++ price_part ps c)
  starts_with_claim = record { kind = claims ps names; right = λ c s. s.claim; are = λ c s. refl }

  module _ (claim : Claim) where
    pub starts_with_cliques : StartsWithRun (from_cliques ps claim) (clique_line ps) (IsSpelledSet ps) IsAny (λ c. c.cliques) (price_part ps)
    starts_with_cliques = record {
      kind = kind.cliques ps names;
      front = λ xs ys any. tt;
      right = λ c s. s.0.cliques;
      allowed = λ c s. tt;
      are = λ c s. refl;
      other = λ c s. cliques_end ps c.prices c.claim (root_part ps c);
    }

    module _ (cliques : List PositionSet) where
      pub starts_with_prices : StartsWithRun (from_prices ps claim cliques) (price_line ps) (IsSpelledPriceList ps) IsAny (λ c. c.prices) (λ c. root_line c.claim ∷ root_part ps c)
      starts_with_prices = record {
        kind = price_lines ps names;
        front = λ xs ys any. tt;
        right = λ c s. s.0.0.prices;
        allowed = λ c s. tt;
        are = λ c s. refl;
        other = λ c s. prices_end ps c.claim (root_part ps c);
      }

      module _ (prices : List ListedPrices) where
        pub starts_with_root : StartsWithOne (from_root ps claim cliques prices) (λ (u : Unit {0}). root_line claim) (λ (u : Unit {0}). Unit {0}) (λ c. tt) (root_part ps)
        starts_with_root = record {
          kind = record { once = λ u v right right' e. refl; avoids = λ u right. root_feeds claim };
          right = λ c s. tt;
          are = λ c s. ap (λ (said : Claim). root_line said ∷ root_part ps c) s.0.0.1;
        }

        module _ (u : Unit {0}) where
          pub starts_with_operations : StartsWithRun (from_operations ps claim cliques prices u) (operation_line ps) (IsSpelledOperation ps) IsAny (λ c. c.root) (sibling_part ps)
          starts_with_operations = record {
            kind = kind.operations ps names;
            front = λ xs ys any. tt;
            right = λ c s. s.0.0.0.0.root;
            allowed = λ c s. tt;
            are = λ c s. refl;
            other = λ c s. operations_end ps c.siblings [];
          }

          module _ (root : List Operation) where
            -- two runs of siblings, behind which neither a sibling nor an operation comes
            siblings_again : (xs ys : List ListedSibling) (more other : Lines) → All (IsSpelledSibling ps) xs → All (IsSpelledSibling ps) ys → Stops (least_line ps) (IsSpelledLeast ps) more → Stops (operation_line ps) (IsSpelledOperation ps) more
                → sibling_lines ps xs ++ more ≡ sibling_lines ps ys ++ codes "END" ∷ other → (xs ≡ ys) × (more ≡ codes "END" ∷ other)
            siblings_again xs ys more other p q least operation e =
                siblings_once ps names xs ys more (codes "END" ∷ other) p q least (end_stops_siblings ps other) operation (end_stops_operations ps other) e

            pub past_siblings : (here there : Point) (got : List ListedSibling) → HasNoneAhead (operation_line ps) (IsSpelledOperation ps) here.rest.now → AreSiblings ps here.rest.now there.rest.now here.number there.number got
                → Leads (from_siblings ps claim cliques prices u root) here (from_end ps claim cliques prices u root got) there
            past_siblings here there got idle are =
                past (from_siblings ps claim cliques prices u root) (from_end ps claim cliques prices u root got) here there (sibling_lines ps got) are.read are.counted
                (λ c s. (s.0, ap (λ (xs : List ListedSibling). sibling_lines ps xs ++ codes "END" ∷ []) s.1))
                (λ c more first s e.
                let least = stops_from (least_line ps) (IsSpelledLeast ps) (kind.leasts ps names).avoids there.rest.now more are.stops first in
                let operation = stops_from (operation_line ps) (IsSpelledOperation ps) (kind.operations ps names).avoids there.rest.now more (are.idle idle) first in
                let same = siblings_again got c.siblings more [] are.right s.0.0.0.0.0.siblings least operation (sym e) in
                ((s, sym same.0), same.1))

            pub ends : (siblings : List ListedSibling) → IsLast (from_end ps claim cliques prices u root siblings) (codes "END")
            ends siblings = record {
              plain = plain_word 10 (codes "END") refl;
              known = λ c d s t i. record {
                claim = (s.0.0.0.0.0.1 ∙ sym t.0.0.0.0.0.1) i;
                cliques = (s.0.0.0.0.1 ∙ sym t.0.0.0.0.1) i;
                prices = (s.0.0.0.1 ∙ sym t.0.0.0.1) i;
                root = (s.0.1 ∙ sym t.0.1) i;
                siblings = (s.1 ∙ sym t.1) i;
              };
              are = λ c s. refl;
            }

            siblings_then : IsReadOnce (from_siblings ps claim cliques prices u root)
            siblings_then = record {
              once = λ c d more s t e.
                  let whole : sibling_lines ps c.siblings ++ (codes "END" ∷ more) ≡ sibling_lines ps d.siblings ++ codes "END" ∷ [] = sym (append_assoc (sibling_lines ps c.siblings) (codes "END" ∷ []) more) ∙ e in
                  let same = siblings_again c.siblings d.siblings (codes "END" ∷ more) [] s.0.0.0.0.0.siblings t.0.0.0.0.0.siblings (end_stops_siblings ps more) (end_stops_operations ps more) whole in
                  (last_then (ends d.siblings)).once c d more (s, same.0) (t, refl) same.1;
              clear = λ c s. All-append (Avoids 10) (sibling_lines ps c.siblings) (codes "END" ∷ []) (siblings_are ps names c.siblings s.0.0.0.0.0.siblings) ((last_then (ends c.siblings)).clear c (s, refl));
            }

  pub is_read_once : IsReadOnce (trees ps)
  is_read_once = one_then starts_with_claim (λ claim. run_then (starts_with_cliques claim) (λ cliques. run_then (starts_with_prices claim cliques) (λ prices.
      one_then (starts_with_root claim cliques prices) (λ u. run_then (starts_with_operations claim cliques prices u) (siblings_then claim cliques prices u)))))

-- What was read -----------------------------------------------------------------------------------

abbrev pub certificate_of : Claim → List PositionSet → List ListedPrices → List Operation → List ListedSibling → ListedTrees
certificate_of claim cliques prices root siblings = record { claim = claim; cliques = cliques; prices = prices; root = root; siblings = siblings }

-- what was read up to the first tree
pub record ReadToRoot (ps : List Position) (l0 l1 l2 l3 : Point) (claim : Claim) (cliques : List PositionSet) (prices : List ListedPrices) : Type 0 where
  pub claim_is : SaysOne (claim_line ps) (IsSpelledClaim ps) l0 l1 claim
  pub cliques_are : PartBetween (clique_line ps) (IsSpelledSet ps) IsAny l1 l2 cliques
  pub prices_are : PartBetween (price_line ps) (IsSpelledPriceList ps) IsAny l2 l3 prices

-- and from there up to the last line
pub record ReadToEnd (ps : List Position) (l3 l4 l5 l6 : Point) (claim : Claim) (root : List Operation) (siblings : List ListedSibling) : Type 0 where
  pub root_is : SaysOne (λ (u : Unit {0}). root_line claim) (λ (u : Unit {0}). Unit {0}) l3 l4 tt
  pub root_are : PartBetween (operation_line ps) (IsSpelledOperation ps) IsAny l4 l5 root
  pub idle : HasNoneAhead (operation_line ps) (IsSpelledOperation ps) l5.rest.now
  pub siblings_are : AreSiblings ps l5.rest.now l6.rest.now l5.number l6.number siblings

pub read_to_root : (ps : List Position) (l0 l1 l2 l3 : Point) (claim : Claim) (cliques : List PositionSet) (prices : List ListedPrices) → IsSpelledClaim ps claim × (l0.rest.now ≡ claim_line ps claim ++ 10 ∷ l1.rest.now) → l1.number ≡ l0.number + 1
    → IsSection (clique_line ps) (IsSpelledSet ps) (λ x. x) l1.rest.now l2.rest.now l1.number l2.number cliques → IsSection (price_line ps) (IsSpelledPriceList ps) (λ x. x) l2.rest.now l3.rest.now l2.number l3.number prices
    → ReadToRoot ps l0 l1 l2 l3 claim cliques prices
read_to_root ps l0 l1 l2 l3 claim cliques prices read counted a b = record {
  claim_is = record { right = read.0; read = read.1; counted = counted };
  cliques_are = whole_part (clique_line ps) (IsSpelledSet ps) l1.rest.now l2.rest.now l1.number l2.number cliques a;
  prices_are = whole_part (price_line ps) (IsSpelledPriceList ps) l2.rest.now l3.rest.now l2.number l3.number prices b;
}

pub read_to_end : (ps : List Position) (l3 l4 l5 l6 : Point) (claim : Claim) (root : List Operation) (siblings : List ListedSibling) → l3.rest.now ≡ root_line claim ++ 10 ∷ l4.rest.now → l4.number ≡ l3.number + 1
    → IsSection (operation_line ps) (IsSpelledOperation ps) (λ x. x) l4.rest.now l5.rest.now l4.number l5.number root → AreSiblings ps l5.rest.now l6.rest.now l5.number l6.number siblings → ReadToEnd ps l3 l4 l5 l6 claim root siblings
read_to_end ps l3 l4 l5 l6 claim root siblings read counted a b = record {
  root_is = record { right = tt; read = read; counted = counted };
  root_are = whole_part (operation_line ps) (IsSpelledOperation ps) l4.rest.now l5.rest.now l4.number l5.number root a;
  idle = a.stops;
  siblings_are = b;
}

pub to_root : (ps : List Position) → AreNames ps → (l0 l1 l2 l3 : Point) {claim : Claim} {cliques : List PositionSet} {prices : List ListedPrices} → ReadToRoot ps l0 l1 l2 l3 claim cliques prices → Leads (trees ps) l0 (from_root ps claim cliques prices) l3
to_root ps names l0 l1 l2 l3 {claim = claim} {cliques = cliques} r =
    then (past_one (starts_with_claim ps names) r.claim_is) (then (past_run (starts_with_cliques ps names claim) l1 l2 r.cliques_are) (past_run (starts_with_prices ps names claim cliques) l2 l3 r.prices_are))

pub to_end : (ps : List Position) → AreNames ps → (l3 l4 l5 l6 : Point) (claim : Claim) (cliques : List PositionSet) (prices : List ListedPrices) {root : List Operation} {siblings : List ListedSibling} → ReadToEnd ps l3 l4 l5 l6 claim root siblings
    → Leads (from_root ps claim cliques prices) l3 (from_end ps claim cliques prices tt root siblings) l6
to_end ps names l3 l4 l5 l6 claim cliques prices {root = root} {siblings = siblings} r =
    then (past_one (starts_with_root ps names claim cliques prices) r.root_is)
    (then (past_run (starts_with_operations ps names claim cliques prices tt) l4 l5 r.root_are) (past_siblings ps names claim cliques prices tt root l5 l6 siblings r.idle r.siblings_are))

pub spelled_to_root : {ps : List Position} {l0 l1 l2 l3 : Point} {claim : Claim} {cliques : List PositionSet} {prices : List ListedPrices} → ReadToRoot ps l0 l1 l2 l3 claim cliques prices → IsSpelled ps (certificate_of claim cliques prices [] [])
spelled_to_root {ps = ps} r = record { claim = r.claim_is.right; cliques = r.cliques_are.right; prices = r.prices_are.right; root = All-nil (IsSpelledOperation ps); siblings = All-nil (IsSpelledSibling ps) }

pub spelled_to_end : {ps : List Position} {l0 l1 l2 l3 l4 l5 l6 : Point} {claim : Claim} {cliques : List PositionSet} {prices : List ListedPrices} {root : List Operation} {siblings : List ListedSibling}
    → ReadToRoot ps l0 l1 l2 l3 claim cliques prices → ReadToEnd ps l3 l4 l5 l6 claim root siblings → IsSpelled ps (certificate_of claim cliques prices root siblings)
spelled_to_end r s = record { claim = r.claim_is.right; cliques = r.cliques_are.right; prices = r.prices_are.right; root = s.root_are.right; siblings = s.siblings_are.right }

pub empty : ListedTrees
empty = certificate_of NoneFits [] [] [] []

pub empty_is : (ps : List Position) → IsSpelled ps empty
unfolding empty
empty_is ps = record { claim = tt; cliques = All-nil (IsSpelledSet ps); prices = All-nil (IsSpelledPriceList ps); root = All-nil (IsSpelledOperation ps); siblings = All-nil (IsSpelledSibling ps) }
