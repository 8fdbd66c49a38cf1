-- What `place` and `best` print is the text of its certificate.
use Rattle.std.proofs.Common.{◌≡◌, ◌≢◌, ℕ, ◌<◌, ◌≤◌, List, [], ◌∷◌, ◌++◌, length, Option, Some, refl, sym, ap, subst, ◌∙◌, arith}
use Rattle.std.proofs.lemmas.List.{append_assoc}
use Rattle.std.proofs.lemmas.List.Elements.{All-head, All-tail, All-weaker}
use Rattle.std.proofs.lemmas.Option.{IfSome_then}
use Rattle.std.specs.Prelude.{All, IfSome}
use Rattle.hold_limits.specs.Problem.{Problem}
use Rattle.hold_limits.specs.Faults.{IsLawful}
use Rattle.hold_limits.specs.Placement.{IsSound, IsAdmissible}
use Rattle.hold_limits.proofs.LawfulBounds.{hold-bounds, lawful-bounds}
use Rattle.hold_limits.proofs.SoundLemmas.{IsSound-within}
use Rattle.hold_reach.specs.Reach.{IsViable}
use Rattle.text_lines.specs.Lines.{text_of}
use Rattle.certificate.specs.Evidence.{claimed}
use Rattle.certificate.specs.Good.{AreAtMost}
use Rattle.certificate.specs.Starts.{IsEarlier}
use Rattle.certificate.specs.CertificateText.{certificate_text, evidence_lines, IsSpelledClaim, Spells, start_line as cuts_start}
use Rattle.certificate.specs.declared.parts.Certificate.{Certificate}
use Rattle.certificate.specs.declared.parts.Claim.{Claim}
use Rattle.certificate.proofs.WriterLemmas.{first_named, written_spells}
use Rattle.cert_checker.specs.Claims.{IsGoodFor}
use Rattle.tree_certificate.specs.Listed.{ListedTrees}
use Rattle.tree_certificate.specs.TreeText.{tree_text, tree_lines, IsSpelled as AreSpelledTrees, Spells as SpellsTrees, start_line as trees_start}
use Rattle.tree_certificate.proofs.WriterSteps.{written_spells as written_trees}
use Rattle.tree_checker.specs.GoodTrees.{IsGoodTrees}
use Rattle.placer.specs.Near.{IsNear, IsNearCertificate}
use Rattle.placer.specs.AnswerText.{evidence_text}
use Rattle.task_answers.specs.ReplyText.{tree_evidence_text}
use Rattle.task_answers.specs.Limits.{longest_certificate}
use Rattle.task_answers.specs.Kinds.{BeginsWithCuts}
use Rattle.task_answers.specs.Names.{IsNamedTask}
use Rattle.task_answers.specs.NearReply.{IsReadBack}
use Rattle.task_answers.specs.TreeReply.{AreReadBack}
use Rattle.task_answers.proofs.AnswerLines.{IsTold, told-earlier, claim_lines, claim_text-lines, claim-told}
use Rattle.task_answers.proofs.KindLemmas.{BeginsWithCuts-after, BeginsWithCuts-trees}
use Rattle.task_answers.proofs.CutCounts.{near-few_cuts, near-few_expanded}
use Rattle.task_answers.proofs.ShortText.{IsFew, evidence-short}

-- Kinds -----------------------------------------------------------------------------------------

earlier-cuts : (lines : List (List ℕ)) → All IsTold lines → All (IsEarlier cuts_start) lines
earlier-cuts lines told = All-weaker IsTold (IsEarlier cuts_start) (λ line t. told-earlier cuts_start line refl t) lines told

earlier-trees : (lines : List (List ℕ)) → All IsTold lines → All (IsEarlier trees_start) lines
earlier-trees lines told = All-weaker IsTold (IsEarlier trees_start) (λ line t. told-earlier trees_start line refl t) lines told

no_trees : (lines : List (List ℕ)) → All IsTold lines → All (λ line. line ≢ trees_start) lines
no_trees lines told = All-weaker (IsEarlier trees_start) (λ line. line ≢ trees_start) (λ line is. is.other) lines (earlier-trees lines told)

begins-with_trees : (lines : List (List ℕ)) (text rest : List ℕ) → All IsTold lines → text ≡ text_of lines ++ (trees_start ++ 10 ∷ rest) → BeginsWithCuts text → ⊥
begins-with_trees [] text rest told is begins = BeginsWithCuts-trees text trees_start rest is refl begins
begins-with_trees (x ∷ lines) text rest told is begins =
    let more = text_of lines ++ (trees_start ++ 10 ∷ rest) in
    let first = told-earlier cuts_start x refl (All-head IsTold x lines told) in
    begins-with_trees lines more rest (All-tail IsTold x lines told) refl
    (BeginsWithCuts-after text x more (is ∙ append_assoc x (10 ∷ text_of lines) (trees_start ++ 10 ∷ rest)) first.whole first.other begins)

-- Of cuts ---------------------------------------------------------------------------------------

pub claimed_sound : (t : Problem) (claim : Option (List ℕ)) → IfSome claim (IsAdmissible t) → (path : List ℕ) → claim ≡ Some path → IsSound t path
claimed_sound t claim admissible path is = (subst (λ o. IfSome o (IsAdmissible t)) is admissible).sound

pub cuts-read_back : (t : Problem) (budget : ℕ) (c : Certificate) → IsLawful t → IsNamedTask t → IsNearCertificate t c → IsGoodFor t c → AreAtMost (IsNear t) budget
    → budget ≤ 50000 → IsReadBack t c
cuts-read_back t budget c lawful named near good enough low =
    let ps = t.hold.positions in
    let bounds = lawful-bounds t lawful in
    let differ = (hold-bounds t.hold lawful.hold).names in
    let lines = claim_lines t (claimed c.claim) in
    let told = claim-told t (claimed c.claim) named (claimed_sound t (claimed c.claim) good.covers.admissible) in
    let number = near-few_expanded t budget c near enough in
    let same : evidence_text t c ≡ text_of lines ++ certificate_text ps c = ap (λ text. text ++ certificate_text ps c) (claim_text-lines t (claimed c.claim)) in
    let path : IfSome (claimed c.claim) IsFew = IfSome_then (claimed c.claim) good.covers.admissible (λ path is. let short = is.sound.short in omega (arith, short, bounds.items)) in
    let cuts : All IsFew c.cuts = All-weaker (IsViable t) IsFew (λ cut is. let short = is.sound.short in omega (arith, short, bounds.items)) c.cuts good.covers.viable in
    let expanded : c.expanded ≤ 50000 = omega (arith, number, low) in
    let few : length c.cuts ≤ 3200000 = omega (arith, number, low, near-few_cuts t c lawful near) in
    record {
      spelled = record {
        short = evidence-short t c lawful named good.covers.admissible path cuts expanded few;
        spelled = subst (λ text. Spells ps text c) (sym same)
            (written_spells ps differ c
            (IfSome_then (claimed c.claim) good.covers.admissible (λ path is. IsSound-within t path is.sound))
            (All-weaker (IsViable t) (All (λ q. q < length ps)) (λ cut is. IsSound-within t cut is.sound) c.cuts good.covers.viable)
            path cuts expanded few
            (certificate_text ps c) refl lines (earlier-cuts lines told));
      };
      kind = record {
        before = lines;
        rest = text_of (evidence_lines ps c);
        starts = record { earlier = earlier-cuts lines told; is = same };
        no_trees = no_trees lines told;
      };
    }

-- Of trees --------------------------------------------------------------------------------------

pub claim-spelled : (t : Problem) (claim : Claim) → IsLawful t → IfSome (claimed claim) (IsAdmissible t) → IsSpelledClaim t.hold.positions claim
claim-spelled t claim lawful admissible =
    let ps = t.hold.positions in
    let differ = (hold-bounds t.hold lawful.hold).names in
    let bounds = lawful-bounds t lawful in
    IfSome_then (claimed claim) admissible (λ path is.
    let short = is.sound.short in
    record {
      few = omega (arith, short, bounds.items);
      named = All-weaker (λ q. q < length ps) _ (first_named ps differ) path (IsSound-within t path is.sound);
    })

pub trees-read_back : (t : Problem) (c : ListedTrees) → IsNamedTask t → IsGoodTrees t c → AreSpelledTrees t.hold.positions c
    → length (tree_evidence_text t c) ≤ longest_certificate → AreReadBack t c
trees-read_back t c named good spelled short =
    let ps = t.hold.positions in
    let lines = claim_lines t (claimed c.claim) in
    let told = claim-told t (claimed c.claim) named (claimed_sound t (claimed c.claim) good.admissible) in
    let same : tree_evidence_text t c ≡ text_of lines ++ tree_text ps c = ap (λ text. text ++ tree_text ps c) (claim_text-lines t (claimed c.claim)) in
    record {
      spelled = record {
        short = short;
        spelled = subst (λ text. SpellsTrees ps text c) (sym same) (written_trees ps c spelled (tree_text ps c) refl lines (earlier-trees lines told));
      };
      kind = begins-with_trees lines (tree_evidence_text t c) (text_of (tree_lines ps c)) told same;
    }
