use Rattle.std.proofs.Common.{◌≡◌, ◌&&◌, true, false, Some, None, ap₂, sym, ◌∙◌, refl}
use Rattle.hold_limits.specs.Enumeration.{is_accepted}
use Rattle.hold_reach.specs.Rules.{is_used, has_kind_at, excluding}
use Rattle.hold_partial.proofs.KeptLemmas.{level-is, entry-is, excluding-first, excluding-not, at-front}
use Rattle.hold_partial.proofs.board.Board.rule_against.Goals as goal

pub returns-then-not-contains : goal.returns-then-not-contains
returns-then-not-contains c =
    let b = c.args.self.now in
    let t = b.task.now in
    let prefix = b.prefix.items in
    let q = c.args.position in
    λ item there.
    let at = at-front b c.requires.kept q c.len.result c.len-rank.result _ c.deref.result.now _ item c.len.ensures.value c.if-position-len.false c.len-rank.ensures.value c.deref.ensures.0 there in
    let unused : is_used prefix q ≡ false = sym (c.contains.ensures ∙ at.2) ∙ c.if-contains.false in
    let no_kind : has_kind_at t.hold item q ≡ false = sym (c.contains-2.ensures ∙ at.3) ∙ c.if-not-contains.true in
    rw (at.1, unused, no_kind) refl

pub returns-then-not-contains-2 : goal.returns-then-not-contains-2
returns-then-not-contains-2 c =
    let b = c.args.self.now in
    let t = b.task.now in
    let prefix = b.prefix.items in
    let q = c.args.position in
    λ item there.
    let at = at-front b c.requires.kept q c.len.result c.len-rank.result _ c.deref.result.now _ item c.len.ensures.value c.if-position-len.false c.len-rank.ensures.value c.deref.ensures.0 there in
    let unused : is_used prefix q ≡ false = sym (c.contains.ensures ∙ at.2) ∙ c.if-contains.false in
    let of_kind : has_kind_at t.hold item q ≡ true = sym (c.contains-2.ensures ∙ at.3) ∙ c.if-not-contains.false in
    let not_accepting : is_accepted t.hold (item, q) ≡ false = sym (c.contains-3.ensures ∙ at.4) ∙ c.if-not-contains-2.true in
    rw (at.1, unused, of_kind, not_accepting) refl

pub returns-in-Some : goal.returns-in-Some
returns-in-Some c =
    let b = c.args.self.now in
    let t = b.task.now in
    let prefix = b.prefix.items in
    let q = c.args.position in
    λ item there.
    let at = at-front b c.requires.kept q c.len.result c.len-rank.result _ c.deref.result.now _ item c.len.ensures.value c.if-position-len.false c.len-rank.ensures.value c.deref.ensures.0 there in
    let unused : is_used prefix q ≡ false = sym (c.contains.ensures ∙ at.2) ∙ c.if-contains.false in
    let of_kind : has_kind_at t.hold item q ≡ true = sym (c.contains-2.ensures ∙ at.3) ∙ c.if-not-contains.false in
    let accepting : is_accepted t.hold (item, q) ≡ true = sym (c.contains-3.ensures ∙ at.4) ∙ c.if-not-contains-2.false in
    let level = level-is b c.requires.kept c.len-rank.result _ c.len-rank.ensures.value in
    let place = entry-is t b.tables c.requires.kept.prepared c.deref-2.result.now q _ c.deref-2.ensures.0 at.0 in
    let excludes : excluding t.hold prefix q ≡ Some c.in-Some.other = excluding-first t.hold prefix q c.intersection.result
    (λ a. c.intersection.ensures a ∙ ap₂ ◌&&◌ (place.excluding a) (level.used a)) c.in-Some.other c.in-Some.ensures.1 c.in-Some.ensures.2 in
    rw (at.1, unused, of_kind, accepting, excludes) refl

pub returns : goal.returns
returns c =
    let b = c.args.self.now in
    let t = b.task.now in
    let prefix = b.prefix.items in
    let q = c.args.position in
    λ item there.
    let at = at-front b c.requires.kept q c.len.result c.len-rank.result _ c.deref.result.now _ item c.len.ensures.value c.if-position-len.false c.len-rank.ensures.value c.deref.ensures.0 there in
    let unused : is_used prefix q ≡ false = sym (c.contains.ensures ∙ at.2) ∙ c.if-contains.false in
    let of_kind : has_kind_at t.hold item q ≡ true = sym (c.contains-2.ensures ∙ at.3) ∙ c.if-not-contains.false in
    let accepting : is_accepted t.hold (item, q) ≡ true = sym (c.contains-3.ensures ∙ at.4) ∙ c.if-not-contains-2.false in
    let level = level-is b c.requires.kept c.len-rank.result _ c.len-rank.ensures.value in
    let place = entry-is t b.tables c.requires.kept.prepared c.deref-2.result.now q _ c.deref-2.ensures.0 at.0 in
    let excludes : excluding t.hold prefix q ≡ None = excluding-not t.hold prefix q c.intersection.result
    (λ a. c.intersection.ensures a ∙ ap₂ ◌&&◌ (place.excluding a) (level.used a)) c.in_default.ensures in
    rw (at.1, unused, of_kind, accepting, excludes) c.limit_against.ensures
