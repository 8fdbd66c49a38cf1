use Rattle.std.proofs.Common.{ap, arith}
use Rattle.std.proofs.lemmas.Option.{IfSome_then}
use Rattle.ldm_cpm.specs.declared.messages.CpmPlace.{CpmPlace}
use Rattle.ldm_cpm.proofs.FrontLemmas.{two-of, three-of, four-of}
use Rattle.ldm_cpm.proofs.PlaceLemmas.{empty-stands, bulk-stands, container-stands, bulk-back, container-back}
use Rattle.ldm_cpm.proofs.places.read_place.Goals as goal

pub returns-in_ok-read_name-in-len2-clause-stands : goal.returns-in_ok-read_name-in-len2-clause-stands
returns-in_ok-read_name-in-len2-clause-stands c =
    let a = c.name-item.result in let n = c.nothing-item.result in
    let parts = two-of c.args.parts.now a n a n (omega arith) c.name-item.is c.nothing-item.is in
    let s = c.in_ok-read_name-in-len2.ensures.some in
    IfSome_then c.read_empty.result c.read_empty.ensures.some (λ place h.
    empty-stands c.args.parts.now a n c.in_ok-read_name-in-len2.field-0 place parts (record { mark = s.0; text = s.1; before = s.3; at = s.4 })
    (ap (λ (p : CpmPlace). p.name) h.0) (ap (λ (p : CpmPlace). p.id) h.0) (ap (λ (p : CpmPlace). p.destination) h.0))

pub returns-in_ok-read_name-in-len3-clause-stands : goal.returns-in_ok-read_name-in-len3-clause-stands
returns-in_ok-read_name-in-len3-clause-stands c =
    let a = c.name-item-then-parts-lt4.result in let to = c.destination-item.result in let m = c.mass-item.result in
    let parts = three-of c.args.parts.now a to m a to m (omega arith) c.name-item-then-parts-lt4.is c.destination-item.is c.mass-item.is in
    let s = c.in_ok-read_name-in-len3.ensures.some in
    IfSome_then c.read_bulk.result c.read_bulk.ensures.some (λ place h.
    bulk-stands c.args.parts.now a to m c.in_ok-read_name-in-len3.field-0 place parts (record { mark = s.0; text = s.1; before = s.3; at = s.4 }) h.0 h.1 h.2)

pub returns-in_ok-read_name-in-len3-clause-read_back : goal.returns-in_ok-read_name-in-len3-clause-read_back
returns-in_ok-read_name-in-len3-clause-read_back c = λ p spelled is.
    let a = c.name-item-then-parts-lt4.result in let to = c.destination-item.result in let m = c.mass-item.result in
    let parts = three-of c.args.parts.now a to m a to m (omega arith) c.name-item-then-parts-lt4.is c.destination-item.is c.mass-item.is in
    let s = c.in_ok-read_name-in-len3.ensures.some in
    bulk-back c.read_bulk.result c.args.parts.now a to m c.in_ok-read_name-in-len3.field-0 p parts (record { mark = s.0; text = s.1; before = s.3; at = s.4 }) c.read_bulk.ensures.read_back spelled is

pub returns-in_ok-read_name-in-len4-clause-stands : goal.returns-in_ok-read_name-in-len4-clause-stands
returns-in_ok-read_name-in-len4-clause-stands c =
    let a = c.name-item-then-parts-lt5.result in let id = c.id-item.result in let to = c.destination-item-then-parts-lt5.result in let m = c.mass-item-then-parts-lt5.result in
    let parts = four-of c.args.parts.now a id to m a id to m (omega arith) c.name-item-then-parts-lt5.is c.id-item.is c.destination-item-then-parts-lt5.is c.mass-item-then-parts-lt5.is in
    let s = c.in_ok-read_name-in-len4.ensures.some in
    IfSome_then c.read_container.result c.read_container.ensures.some (λ place h.
    container-stands c.args.parts.now a id to m c.in_ok-read_name-in-len4.field-0 place parts (record { mark = s.0; text = s.1; before = s.3; at = s.4 }) h.0 h.1 h.2)

pub returns-in_ok-read_name-in-len4-clause-read_back : goal.returns-in_ok-read_name-in-len4-clause-read_back
returns-in_ok-read_name-in-len4-clause-read_back c = λ p spelled is.
    let a = c.name-item-then-parts-lt5.result in let id = c.id-item.result in let to = c.destination-item-then-parts-lt5.result in let m = c.mass-item-then-parts-lt5.result in
    let parts = four-of c.args.parts.now a id to m a id to m (omega arith) c.name-item-then-parts-lt5.is c.id-item.is c.destination-item-then-parts-lt5.is c.mass-item-then-parts-lt5.is in
    let s = c.in_ok-read_name-in-len4.ensures.some in
    container-back c.read_container.result c.args.parts.now a id to m c.in_ok-read_name-in-len4.field-0 p parts (record { mark = s.0; text = s.1; before = s.3; at = s.4 }) c.read_container.ensures.read_back spelled is
