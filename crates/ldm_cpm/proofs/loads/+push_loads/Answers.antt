use Rattle.std.proofs.Common.{◌∷◌, [], ℕ, refl, sym, ◌∙◌}
use Rattle.std.specs.Prelude.{codes, ◌≢◌}
use Rattle.std.proofs.lemmas.Bool.{false≢true}
use Rattle.std.proofs.lemmas.List.{append-nil}
use Rattle.std.proofs.lemmas.Option.{IfSome_then, none-some}
use Rattle.std.proofs.lemmas.Slice.Eq.{bytes_eq-Decides}
use Rattle.ldm_cpm.proofs.FrontLemmas.{two-up}
use Rattle.ldm_cpm.proofs.LoadLemmas.{seats-said, seats-back, load-said, behind-one}
use Rattle.ldm_cpm.proofs.loads.+push_loads.Goals as goal

pub returns-then-eq-clause-some : goal.returns-then-eq-clause-some
returns-then-eq-clause-some t c =
    let one = c.first-item.result in
    let two = c.second-item.result in
    let parts = two-up c.args.parts.now one two one two c.in-len2-up.len_at_least c.first-item.is c.second-item.is in
    let pax = (bytes_eq-Decides one.text.now (codes "PAX")).0 (sym c.if-eq.ensures) in
    IfSome_then c.seats_in.result c.seats_in.ensures.some
    (λ got h. ([], sym (append-nil c.args.loads.now.items), tt, seats-said c.args.parts.now _ one two got parts h.0 pax h.1 h.2 h.3))

pub returns-then-eq-clause-read_back : goal.returns-then-eq-clause-read_back
returns-then-eq-clause-read_back t c = λ loads seats are is.
    let one = c.first-item.result in
    let two = c.second-item.result in
    let parts = two-up c.args.parts.now one two one two c.in-len2-up.len_at_least c.first-item.is c.second-item.is in
    let pax = (bytes_eq-Decides one.text.now (codes "PAX")).0 (sym c.if-eq.ensures) in
    seats-back c.seats_in.result c.args.parts.now _ one two c.args.least c.args.loads.now.items _ loads seats parts pax refl c.seats_in.ensures.some c.seats_in.ensures.none are is

pub returns-in_default-read_load-clause-read_back : goal.returns-in_default-read_load-clause-read_back
returns-in_default-read_load-clause-read_back t c = λ loads seats are is.
    let one = c.first-item.result in
    let two = c.second-item.result in
    let parts = two-up c.args.parts.now one two one two c.in-len2-up.len_at_least c.first-item.is c.second-item.is in
    let other : one.text.now ≢ codes "PAX" = λ e. false≢true (c.if-eq.ensures ∙ (bytes_eq-Decides one.text.now (codes "PAX")).1 e) in
    let s = load-said c.args.parts.now _ one two c.args.least loads seats parts other are is in
    none-some s.load (c.in_default-read_load.ensures.read_back s.load s.right s.elements)

pub returns-clause-read_back : goal.returns-clause-read_back
returns-clause-read_back t c =
    let one = c.first-item.result in
    let two = c.second-item.result in
    let parts = two-up c.args.parts.now one two one two c.in-len2-up.len_at_least c.first-item.is c.second-item.is in
    let other : one.text.now ≢ codes "PAX" = λ e. false≢true (c.if-eq.ensures ∙ (bytes_eq-Decides one.text.now (codes "PAX")).1 e) in
    behind-one c.push_loads.result c.args.least c.args.parts.now _ one two c.in-Some.load c.args.loads.now.items c.push.new.self.items _ parts other c.in-Some.ensures.read_back c.in_ok-push.ensures.items c.push_loads.ensures.read_back
