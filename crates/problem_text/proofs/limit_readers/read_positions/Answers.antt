use Rattle.std.proofs.lemmas.Bool.{false≢true}
use Rattle.std.proofs.Common.{◌∙◌, eq-eqb, ◌++◌, ◌∷◌, [], ap, sym, length}
use Rattle.std.proofs.lemmas.List.Elements.{All-push}
use Rattle.text_lines.specs.Names.{IsNamed}
use Rattle.text_lines.specs.Names.{byte_of}
use Rattle.text_lines.specs.WordRuns.{run_text, name_text}
use Rattle.text_lines.proofs.RunLemmas.{run_again, run_text-push, no_more}
use Rattle.text_lines.proofs.SectionLemmas.{map-push}
use Rattle.text_lines.proofs.NameRuns.{names_are_read}
use Rattle.problem_text.proofs.limit_readers.read_positions.Goals as goal

pub returns-in_default-clause-none : goal.returns-in_default-clause-none
returns-in_default-clause-none c =
    λ places named e.
    let inv = c.loop-rest.invariant in
    let ps = c.args.names.now.positions.now in
    let read = names_are_read ps c.args.names.now.clear in
    let again = run_again (name_text ps) (IsNamed ps) read inv.said places c.loop-rest.rest.now inv.named named inv.cut (sym inv.read ∙ e) in
    no_more (name_text ps) (IsNamed ps) read again.0 c.loop-rest.rest.now again.3 again.2 (λ none. false≢true (sym c.loop-rest-test.true ∙ c.is_empty.ensures ∙ eq-eqb (length c.loop-rest.rest.now) 0 none)) c.in_default.ensures.none

pub loop-rest-preserved : goal.loop-rest-preserved
loop-rest-preserved c =
    let inv = c.loop-rest.invariant in
    let ps = c.args.names.now.positions.now in
    let found = c.in-Some.ensures.found in
    record {
      said = inv.said ++ found.0 ∷ [];
      kept = c.in_ok-push.ensures.items ∙ (λ i. inv.kept i ++ found.1 i ∷ []) ∙ sym (map-push byte_of inv.said found.0);
      named = All-push (IsNamed ps) inv.said found.0 inv.named found.2;
      read = inv.read ∙ ap (λ t. run_text (name_text ps) inv.said ++ t) found.3 ∙ sym (run_text-push (name_text ps) inv.said found.0 c.in-Some.more.now);
      cut = c.in-Some.ensures.rest;
    }
