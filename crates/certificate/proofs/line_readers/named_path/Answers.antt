use Rattle.std.proofs.Common.{◌∙◌, eq-eqb, sym, length}
use Rattle.std.proofs.lemmas.Bool.{false≢true, eqb-true}
use Rattle.certificate.proofs.PathLemmas.{no_name, too_many, one_more}
use Rattle.certificate.proofs.line_readers.named_path.Goals as goal

pub returns-in_default-clause-none : goal.returns-in_default-clause-none
returns-in_default-clause-none c =
    no_name c.args.names.now.positions.now c.args.names.now.clear c.args.words.now c.loop-rest.path.items c.loop-rest.rest.now c.loop-rest.invariant
    (λ none. false≢true (sym c.loop-rest-test.true ∙ c.is_empty.ensures ∙ eq-eqb (length c.loop-rest.rest.now) 0 none)) c.in_default.ensures.none

pub returns-then-is_full-clause-none : goal.returns-then-is_full-clause-none
returns-then-is_full-clause-none c =
    too_many c.args.names.now.positions.now c.args.names.now.clear c.args.words.now c.loop-rest.path.items c.loop-rest.rest.now c.loop-rest.invariant
    (eqb-true (length c.loop-rest.path.items) 60 (sym c.is_full.ensures.value ∙ c.if-is_full.true))
    (λ none. false≢true (sym c.loop-rest-test.true ∙ c.is_empty.ensures ∙ eq-eqb (length c.loop-rest.rest.now) 0 none))

pub loop-rest-preserved : goal.loop-rest-preserved
loop-rest-preserved c =
    one_more c.args.names.now.positions.now c.args.words.now c.loop-rest.path.items c.loop-rest.rest.now c.in-Some.more.now c.push.new.self.items c.in-Some.number c.is_full.result
    c.loop-rest.invariant c.in-Some.ensures.found.0 c.in-Some.ensures.found.1 c.in-Some.ensures.rest c.is_full.ensures.value c.if-is_full.false c.push.ensures.items
