use Rattle.std.specs.Bool.{◌==◌}
use Rattle.std.proofs.lemmas.Bool.{false≢true}
use Rattle.std.proofs.lemmas.Bool.Decides.{nat_tests}
use Rattle.std.proofs.Common.{◌≡◌, ◌∙◌, true, eq-eqb, ◌++◌, ◌∷◌, [], ap, sym, arith, length}
use Rattle.std.proofs.lemmas.List.Elements.{All-push, All-same}
use Rattle.problem_text.specs.WordRuns.{fit_text, IsSpelledFit}
use Rattle.text_lines.specs.WordRuns.{run_text}
use Rattle.text_lines.proofs.RunLemmas.{run_again, run_text-push, no_more, all_read}
use Rattle.problem_text.proofs.PositionLemmas.{fits_are_read}
use Rattle.problem_text.proofs.position_reader.read_fits.Goals as goal

pub returns-in_default-clause-read_back : goal.returns-in_default-clause-read_back
returns-in_default-clause-read_back c =
    λ fits spelled e. let again = run_again fit_text IsSpelledFit fits_are_read c.loop-rest.fits.items fits c.loop-rest.rest.now c.loop-rest.invariant.spelled spelled c.loop-rest.invariant.cut (sym c.loop-rest.invariant.read ∙ e) in
    no_more fit_text IsSpelledFit fits_are_read again.0 c.loop-rest.rest.now again.3 again.2 (λ none. false≢true (sym c.loop-rest-test.true ∙ c.is_empty.ensures ∙ eq-eqb (length c.loop-rest.rest.now) 0 none)) c.in_default.ensures.read_back

pub loop-rest-preserved : goal.loop-rest-preserved
loop-rest-preserved c = record {
  read = c.loop-rest.invariant.read ∙ ap (λ t. run_text fit_text c.loop-rest.fits.items ++ t) c.in-Some.ensures.found.0 ∙ sym (run_text-push fit_text c.loop-rest.fits.items c.in-Some.fit c.in-Some.more.now) ∙ ap (λ t. run_text fit_text t ++ c.in-Some.more.now) (sym c.in_ok-push.ensures.items);
  spelled = All-same IsSpelledFit c.push.new.self.items (c.loop-rest.fits.items ++ c.in-Some.fit ∷ []) c.in_ok-push.ensures.items (All-push IsSpelledFit c.loop-rest.fits.items c.in-Some.fit c.loop-rest.invariant.spelled c.in-Some.ensures.found.1);
  cut = c.in-Some.ensures.found.2;
}

pub returns-clause-read_back : goal.returns-clause-read_back
returns-clause-read_back c =
    λ fits spelled e. let again = run_again fit_text IsSpelledFit fits_are_read c.loop-rest.fits.items fits c.loop-rest.rest.now c.loop-rest.invariant.spelled spelled c.loop-rest.invariant.cut (sym c.loop-rest.invariant.read ∙ e) in
    all_read fit_text IsSpelledFit fits_are_read c.loop-rest.fits.items fits again.0 c.loop-rest.rest.now again.1 again.2 (let t : (length c.loop-rest.rest.now == 0) ≡ true = sym c.is_empty.ensures ∙ c.loop-rest-test.false in grind (arith, nat_tests))
