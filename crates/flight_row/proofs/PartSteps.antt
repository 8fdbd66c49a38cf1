-- late changes, line by line
use Rattle.std.proofs.Common.{◌≡◌, ℕ, ◌<◌, ◌≤◌, true, false, ◌&&◌, ◌∷◌, ◌++◌, List, [], length, refl, sym, ◌∙◌, ap, subst, arith, All, lit≤}
use Rattle.std.proofs.lemmas.Bool.{true≢false, and_parts, and_from}
use Rattle.std.proofs.lemmas.List.{length-append}
use Rattle.std.proofs.lemmas.List.Elements.{All-nil, All-cons, All-head, All-tail}
use Rattle.trim.specs.declared.figures.Figures.{Figures}
use Rattle.flight_state.specs.Effective.{can_add, can_add_all, with_change, with_changes}
use Rattle.flight_state.specs.declared.change.Lmc.{Lmc}
use Rattle.flight_state.specs.declared.state.Stage.{Stage}
use Rattle.flight_state.specs.declared.state.Stage.TheVariants.{Working, Planned, Released, Departed}
use Rattle.flight_row.specs.RowText.{change_line}
use Rattle.flight_row.specs.Spelled.{IsSpelledChange, AreSpelledChanges, HasChangesFor}
use Rattle.flight_row.proofs.ChangeLineLemmas.{changes as change_lines}

pub with_changes-push : (f : Figures) (xs : List Lmc) (x : Lmc) → with_changes f (xs ++ x ∷ []) ≡ with_change (with_changes f xs) x
with_changes-push f [] x = refl
with_changes-push f (y ∷ xs) x = with_changes-push (with_change f y) xs x

last_added : (f : Figures) (xs : List Lmc) (x : Lmc) → can_add_all f (xs ++ x ∷ []) ≡ true → can_add (with_changes f xs) x ≡ true
last_added f [] x e = (and_parts (can_add f x) true e).0
last_added f (y ∷ xs) x e = last_added (with_change f y) xs x (and_parts (can_add f y) (can_add_all (with_change f y) (xs ++ x ∷ [])) e).1

can_add_all-push : (f : Figures) (xs : List Lmc) (x : Lmc) → can_add_all f xs ≡ true → can_add (with_changes f xs) x ≡ true → can_add_all f (xs ++ x ∷ []) ≡ true
can_add_all-push f [] x e g = and_from (can_add f x) true g refl
can_add_all-push f (y ∷ xs) x e g =
    let parts = and_parts (can_add f y) (can_add_all (with_change f y) xs) e in
    and_from (can_add f y) (can_add_all (with_change f y) (xs ++ x ∷ [])) parts.0 (can_add_all-push (with_change f y) xs x parts.1 g)

-- these changes can be made, and these are the figures with them
pub record AreMade (f : Figures) (figures : Figures) (changes : List Lmc) : Type 0 where
  pub figures_are : figures ≡ with_changes f changes
  pub can_be_made : can_add_all f changes ≡ true
  pub few : length changes ≤ 10

pub one_made : (f figures next : Figures) (changes new : List Lmc) (change : Lmc) → AreMade f figures changes → length changes < 10 → can_add figures change ≡ true → next ≡ with_change figures change → new ≡ changes ++ change ∷ [] → AreMade f next new
one_made f figures next changes new change so room can is grew =
    let long = length-append changes (change ∷ []) in
    let now : AreMade f next (changes ++ change ∷ []) = record {
      figures_are = is ∙ ap (λ (g : Figures). with_change g change) so.figures_are ∙ sym (with_changes-push f changes change);
      can_be_made = can_add_all-push f changes change so.can_be_made (ap (λ (g : Figures). can_add g change) (sym so.figures_are) ∙ can);
      few = omega (arith, long, room);
    } in
    subst (AreMade f next) (sym grew) now

pub made_spelled : (f figures : Figures) (changes : List Lmc) → AreMade f figures changes → All IsSpelledChange changes → AreSpelledChanges f Released changes
made_spelled f figures changes so each = record { few = so.few; each = each; can_be_made = so.can_be_made; for_stage = tt }

-- a change that cannot be added does not come next
pub cannot_add : (f figures : Figures) (changes : List Lmc) (change : Lmc) (text : List ℕ) → AreMade f figures changes → IsSpelledChange change → text ≡ change_line change → can_add figures change ≡ false
    → (x : Lmc) → IsSpelledChange x → AreSpelledChanges f Released (changes ++ x ∷ []) → text ≡ change_line x → ⊥
cannot_add f figures changes change text so right is cannot x right' s e =
    let same = change_lines.once x change right' right (sym e ∙ is) in
    let can = ap (λ (g : Figures). can_add g x) so.figures_are ∙ last_added f changes x s.can_be_made in
    true≢false (sym can ∙ ap (λ (y : Lmc). can_add figures y) same ∙ cannot)

-- no changes, and changes that are allowed as far as all are -------------------------------------

none_for : (stage : Stage) → HasChangesFor stage []
none_for Working = refl
none_for Planned = refl
none_for Released = tt
none_for Departed = tt

pub no_changes : (f : Figures) (stage : Stage) → AreSpelledChanges f stage []
no_changes f stage = record { few = lit≤ tt; each = All-nil IsSpelledChange; can_be_made = refl; for_stage = none_for stage }

front_made : (f : Figures) (xs ys : List Lmc) → can_add_all f (xs ++ ys) ≡ true → can_add_all f xs ≡ true
front_made f [] ys e = refl
front_made f (x ∷ xs) ys e =
    let parts = and_parts (can_add f x) (can_add_all (with_change f x) (xs ++ ys)) e in
    ap (λ b. b && can_add_all (with_change f x) xs) parts.0 ∙ front_made (with_change f x) xs ys parts.1

front_for : (stage : Stage) (xs ys : List Lmc) → HasChangesFor stage (xs ++ ys) → HasChangesFor stage xs
front_for Working [] ys e = refl
front_for Working (x ∷ xs) ys e = absurd (cc (e))
front_for Planned [] ys e = refl
front_for Planned (x ∷ xs) ys e = absurd (cc (e))
front_for Released xs ys e = tt
front_for Departed xs ys e = tt

front_each : {X : Type 0} (P : X → Type 0) (xs ys : List X) → All P (xs ++ ys) → All P xs
front_each P [] ys all = All-nil P
front_each P (x ∷ xs) ys all = All-cons P x xs (All-head P x (xs ++ ys) all) (front_each P xs ys (All-tail P x (xs ++ ys) all))

pub front_changes : (f : Figures) (stage : Stage) (xs ys : List Lmc) → AreSpelledChanges f stage (xs ++ ys) → AreSpelledChanges f stage xs
front_changes f stage xs ys s = record {
  few = omega (arith, s.few, length-append xs ys);
  each = front_each IsSpelledChange xs ys s.each;
  can_be_made = front_made f xs ys s.can_be_made;
  for_stage = front_for stage xs ys s.for_stage;
}
