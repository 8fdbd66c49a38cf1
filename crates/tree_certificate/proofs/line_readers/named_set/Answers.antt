use Rattle.std.proofs.Common.{◌∙◌, eq-eqb, sym, length, arith}
use Rattle.std.proofs.lemmas.Bool.{false≢true, eqb-true}
use Rattle.tree_certificate.proofs.SetWords.{none_named, one_more_name, no_name, not_past, all_named}
use Rattle.tree_certificate.proofs.line_readers.named_set.Goals as goal

pub loop-rest-init : goal.loop-rest-init
loop-rest-init c = none_named c.args.names.now.positions.now c.args.words.now c.empty-set.result (omega arith) c.empty-set.ensures c.requires.words

pub returns-in_default-clause-none : goal.returns-in_default-clause-none
returns-in_default-clause-none c =
    no_name c.args.names.now.positions.now c.args.names.now.clear c.args.words.now c.loop-rest.rest.now c.loop-rest.set c.loop-rest.invariant
    (λ none. false≢true (sym c.loop-rest-test.true ∙ c.is_empty.ensures ∙ eq-eqb (length c.loop-rest.rest.now) 0 none)) c.in_default.ensures.none

pub returns-then-not-is_past-clause-none : goal.returns-then-not-is_past-clause-none
returns-then-not-is_past-clause-none c =
    not_past c.args.names.now.positions.now c.args.names.now.clear c.args.names.now.few c.args.words.now c.loop-rest.rest.now c.in-Some.more.now c.loop-rest.set c.in-Some.number c.loop-rest.invariant
    c.in-Some.ensures.found.0 c.in-Some.ensures.found.1 c.in-Some.ensures.rest (λ past. false≢true (sym c.if-not-is_past.true ∙ c.is_past.ensures.1 past))

pub loop-rest-preserved : goal.loop-rest-preserved
loop-rest-preserved c =
    one_more_name c.args.names.now.positions.now c.args.names.now.few c.args.words.now c.loop-rest.rest.now c.in-Some.more.now c.loop-rest.set c.with-set.result c.in-Some.number c.loop-rest.invariant
    c.in-Some.ensures.found.0 (c.is_past.ensures.0 c.if-not-is_past.false) c.with-set.ensures (omega arith) c.in-Some.ensures.found.1 c.in-Some.ensures.rest

pub returns-clause-found : goal.returns-clause-found
returns-clause-found c =
    all_named c.args.names.now.positions.now c.args.words.now c.loop-rest.rest.now c.loop-rest.set c.loop-rest.invariant (eqb-true (length c.loop-rest.rest.now) 0 (sym c.is_empty.ensures ∙ c.loop-rest-test.false))
