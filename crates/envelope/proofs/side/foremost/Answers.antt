use Rattle.std.proofs.Common.{List, rules, sym, ◌∙◌, ◌≡◌, ◌≤ℤ◌}
use Rattle.std.proofs.lemmas.List.{map-id}
use Rattle.std.proofs.lemmas.Iterator.Consumers.{YieldsList-from_first, YieldsList-end}
use Rattle.mass_units.specs.declared.line.Line.{Line}
use Rattle.mass_units.specs.Line.{Spans, IsOnOrAft}
use Rattle.envelope.specs.Edges.{edges, IsOnOrAftOf}
use Rattle.envelope.proofs.SideLemmas.{IsBound-skip, IsBound-take, IsBound-some, IsBound-none}
use Rattle.envelope.proofs.side.foremost.Goals as goal

pub loop-edge-preserved-then-spans : goal.loop-edge-preserved-then-spans
loop-edge-preserved-then-spans c =
    let mass = c.args.mass.0 in
    let spans : Spans c.in-Some.edge mass = search rules in
    IsBound-take (λ t z. t ≤ℤ z) (λ e. Spans e mass) (λ e z. IsOnOrAft e mass z) c.loop-edge.yielded c.in-Some.edge c.loop-edge.foremost c.ceil_at.result c.greater_index.result c.loop-edge.invariant spans c.ceil_at.ensures c.greater_index.ensures

pub loop-edge-preserved : goal.loop-edge-preserved
loop-edge-preserved c =
    let mass = c.args.mass.0 in
    let apart : ¬ (Spans c.in-Some.edge mass) = search rules in
    IsBound-skip (λ t z. t ≤ℤ z) (λ e. Spans e mass) (λ e z. IsOnOrAft e mass z) c.loop-edge.yielded c.in-Some.edge c.loop-edge.foremost c.loop-edge.invariant apart

pub returns-clause-some : goal.returns-clause-some
unfolding IsOnOrAftOf
returns-clause-some c =
    let mass = c.args.mass.0 in
    let run = YieldsList-end (YieldsList-from_first (λ (edge : Line). edge) (λ (left : List Line). left) (edges c.args.corners.now) cc) c.loop-edge.yielded c.loop-edge.edge-iterator c.loop-edge.yielded_by c.next.result c.next.new.self c.in-None.is c.next.ensures.steps in
    let whole : c.loop-edge.yielded ≡ edges c.args.corners.now = sym (map-id c.loop-edge.yielded) ∙ run.0 in
    IsBound-some (λ t z. t ≤ℤ z) (λ e. Spans e mass) (λ e z. IsOnOrAft e mass z) (edges c.args.corners.now) c.loop-edge.foremost (rw whole at c.loop-edge.invariant)

pub returns-clause-none : goal.returns-clause-none
unfolding IsOnOrAftOf
returns-clause-none c =
    let mass = c.args.mass.0 in
    let run = YieldsList-end (YieldsList-from_first (λ (edge : Line). edge) (λ (left : List Line). left) (edges c.args.corners.now) cc) c.loop-edge.yielded c.loop-edge.edge-iterator c.loop-edge.yielded_by c.next.result c.next.new.self c.in-None.is c.next.ensures.steps in
    let whole : c.loop-edge.yielded ≡ edges c.args.corners.now = sym (map-id c.loop-edge.yielded) ∙ run.0 in
    IsBound-none (λ t z. t ≤ℤ z) (λ e. Spans e mass) (λ e z. IsOnOrAft e mass z) (edges c.args.corners.now) c.loop-edge.foremost (rw whole at c.loop-edge.invariant)
