use Rattle.std.proofs.Common.{◌≡◌, ◌≤◌, ◌+◌, ◌==◌, ◌∙◌, ℕ, List, Some, None, true, false, arith, refl, ap, sym, subst}
use Rattle.http_wire.specs.Hearing.{Hearing}
use Rattle.std.proofs.lemmas.Bool.Decides.{nat_tests}
use Rattle.desk_http.proofs.Talks.{Talk, in_setting, talk_begins, talk_more, stays_open, ended, most_served}
use Rattle.desk_http.proofs.connection.serve_connection.Goals as goal

-- the loop ends behind 999 requests
last_turn : (n : ℕ) → 999 ≤ n → n ≤ 999 → n ≡ 999
last_turn n over within = omega (arith, over, within)

pub loop-init : goal.loop-init
loop-init g c =
    let C = g.C.Counter in
    let L = g.L.Link in
    record {
      setting = refl;
      desk = refl;
      full = λ f. f;
      follows = g.met.C.Counter.follows_itself _;
      same_references = refl;
      more = ap (λ (w : Hearing). w.over) c.restart.ensures;
      talk = subst (λ (heard : List ℕ). Talk L.left L.content L.read_faults L.write_faults (C.setting c.args.counter.now) (C.desk c.args.counter.now) (C.seen c.args.counter.now) c.args.link.now
          (C.full c.args.counter.now) (C.full c.args.counter.now) (C.seen c.args.counter.now) c.args.link.now heard 0) (sym (ap (λ (w : Hearing). w.heard) c.restart.ensures))
          (talk_begins L.left L.content L.read_faults L.write_faults (C.setting c.args.counter.now) (C.desk c.args.counter.now) (C.seen c.args.counter.now) c.args.link.now (C.full c.args.counter.now));
    }

pub serve_next-requires : goal.serve_next-requires
serve_next-requires g c = record { «open» = c.loop.invariant.more }

pub loop-preserved : goal.loop-preserved
loop-preserved g c =
    let i = c.loop.invariant in
    let e = c.in-None.ensures in
    let n = c.loop.counter2 in
    let below = c.loop-test.true in
    let final : false ≡ (n + 1 == 1000) = grind (arith, nat_tests) in
    let steps = (in_setting _ _ _ _ _ _ _ _ _ _ _ _ _ _ _ _ _ _ None i.setting i.desk e.steps) in
    record {
      setting = e.setting ∙ i.setting;
      desk = e.desk ∙ i.desk;
      full = λ f. e.full (i.full f);
      follows = g.met.C.Counter.follows_on _ _ _ i.follows e.follows;
      same_references = e.same_references ∙ i.same_references;
      more = stays_open _ _ _ _ _ _ _ _ _ _ _ _ _ _ _ _ _ _ _ n i.talk e.full final (omega arith) steps refl;
      talk = talk_more _ _ _ _ _ _ _ _ _ _ _ _ _ _ _ _ _ _ _ n i.talk e.full final (omega arith) steps refl;
    }

pub serve_next-requires-2 : goal.serve_next-requires-2
serve_next-requires-2 g c = record { «open» = c.loop.invariant.more }

pub returns-in-Some-clause-served : goal.returns-in-Some-clause-served
returns-in-Some-clause-served g c =
    let i = c.loop.invariant in
    let e = c.in-Some.ensures in
    let n = c.loop.counter2 in
    let below = c.loop-test.true in
    let final : false ≡ (n + 1 == 1000) = grind (arith, nat_tests) in
    ended _ _ _ _ _ _ _ _ _ _ _ _ _ _ _ _ _ _ _ n i.talk e.full final (omega arith) c.in-Some.end (in_setting _ _ _ _ _ _ _ _ _ _ _ _ _ _ _ _ _ _ (Some c.in-Some.end) i.setting i.desk e.steps)

pub returns-in-Some-clause-setting : goal.returns-in-Some-clause-setting
returns-in-Some-clause-setting g c = c.serve_next.ensures.setting ∙ c.loop.invariant.setting

pub returns-in-Some-clause-desk : goal.returns-in-Some-clause-desk
returns-in-Some-clause-desk g c = c.serve_next.ensures.desk ∙ c.loop.invariant.desk

pub returns-in-Some-clause-full : goal.returns-in-Some-clause-full
returns-in-Some-clause-full g c = λ f. c.serve_next.ensures.full (c.loop.invariant.full f)

pub returns-in-Some-clause-follows : goal.returns-in-Some-clause-follows
returns-in-Some-clause-follows g c = g.met.C.Counter.follows_on _ _ _ c.loop.invariant.follows c.serve_next.ensures.follows

pub returns-in-Some-clause-same_references : goal.returns-in-Some-clause-same_references
returns-in-Some-clause-same_references g c = c.serve_next.ensures.same_references ∙ c.loop.invariant.same_references

pub returns-in-Some-serve_next-clause-served : goal.returns-in-Some-serve_next-clause-served
returns-in-Some-serve_next-clause-served g c =
    let i = c.loop.invariant in
    let e = c.in-Some-serve_next.ensures in
    let n = c.loop.counter2 in
    let all = last_turn n c.loop-test.false c.loop.auto.counter2-end in
    let final : true ≡ (n + 1 == 1000) = grind (arith, nat_tests) in
    ended _ _ _ _ _ _ _ _ _ _ _ _ _ _ _ _ _ _ _ n i.talk e.full final (omega arith) c.in-Some-serve_next.end (in_setting _ _ _ _ _ _ _ _ _ _ _ _ _ _ _ _ _ _ (Some c.in-Some-serve_next.end) i.setting i.desk e.steps)

pub returns-in-Some-serve_next-clause-setting : goal.returns-in-Some-serve_next-clause-setting
returns-in-Some-serve_next-clause-setting g c = c.serve_next-2.ensures.setting ∙ c.loop.invariant.setting

pub returns-in-Some-serve_next-clause-desk : goal.returns-in-Some-serve_next-clause-desk
returns-in-Some-serve_next-clause-desk g c = c.serve_next-2.ensures.desk ∙ c.loop.invariant.desk

pub returns-in-Some-serve_next-clause-full : goal.returns-in-Some-serve_next-clause-full
returns-in-Some-serve_next-clause-full g c = λ f. c.serve_next-2.ensures.full (c.loop.invariant.full f)

pub returns-in-Some-serve_next-clause-follows : goal.returns-in-Some-serve_next-clause-follows
returns-in-Some-serve_next-clause-follows g c = g.met.C.Counter.follows_on _ _ _ c.loop.invariant.follows c.serve_next-2.ensures.follows

pub returns-in-Some-serve_next-clause-same_references : goal.returns-in-Some-serve_next-clause-same_references
returns-in-Some-serve_next-clause-same_references g c = c.serve_next-2.ensures.same_references ∙ c.loop.invariant.same_references

pub returns-in-None-serve_next-clause-served : goal.returns-in-None-serve_next-clause-served
returns-in-None-serve_next-clause-served g c =
    let i = c.loop.invariant in
    let e = c.in-None-serve_next.ensures in
    let n = c.loop.counter2 in
    let all = last_turn n c.loop-test.false c.loop.auto.counter2-end in
    let final : true ≡ (n + 1 == 1000) = grind (arith, nat_tests) in
    most_served _ _ _ _ _ _ _ _ _ _ _ _ _ _ _ _ _ _ _ n i.talk e.full final (omega arith) (in_setting _ _ _ _ _ _ _ _ _ _ _ _ _ _ _ _ _ _ None i.setting i.desk e.steps) all

pub returns-in-None-serve_next-clause-setting : goal.returns-in-None-serve_next-clause-setting
returns-in-None-serve_next-clause-setting g c = c.serve_next-2.ensures.setting ∙ c.loop.invariant.setting

pub returns-in-None-serve_next-clause-desk : goal.returns-in-None-serve_next-clause-desk
returns-in-None-serve_next-clause-desk g c = c.serve_next-2.ensures.desk ∙ c.loop.invariant.desk

pub returns-in-None-serve_next-clause-full : goal.returns-in-None-serve_next-clause-full
returns-in-None-serve_next-clause-full g c = λ f. c.serve_next-2.ensures.full (c.loop.invariant.full f)

pub returns-in-None-serve_next-clause-follows : goal.returns-in-None-serve_next-clause-follows
returns-in-None-serve_next-clause-follows g c = g.met.C.Counter.follows_on _ _ _ c.loop.invariant.follows c.serve_next-2.ensures.follows

pub returns-in-None-serve_next-clause-same_references : goal.returns-in-None-serve_next-clause-same_references
returns-in-None-serve_next-clause-same_references g c = c.serve_next-2.ensures.same_references ∙ c.loop.invariant.same_references
