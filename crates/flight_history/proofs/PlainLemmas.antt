-- the entries of a plain pass over accepted acts, one entry on
use Rattle.std.proofs.Common.{refl, ◌≡◌, ℕ, ◌+◌, ◌<◌, ◌≤◌, Bool, true, false, ◌&&◌, List, [], ◌∷◌, ◌++◌, Option, None, Some, cond, arith, ◌∙◌, sym, ap, subst, length, take, drop, get_or, unwrap_or, append_assoc}
use Rattle.std.specs.Prelude.{option_map}
use Rattle.std.specs.List.{list_any}
use Rattle.std.specs.Option.{option_or}
use Rattle.std.proofs.lemmas.List.{map-append, take_more, take_all, drop_all, length-append, length-take-le, take-append-le, drop-append-le}
use Rattle.flight_state.specs.declared.change.Lmc.{Lmc}
use Rattle.flight_state.specs.declared.state.FlightState.{FlightState}
use Rattle.flight_history.specs.declared.entry.Act.{Act}
use Rattle.flight_history.specs.declared.entry.Entry.{Entry}
use Rattle.flight_history.specs.LastOnes.{last_told, since, up_to}
use Rattle.flight_history.specs.Plain.{acts_in, IsLastFold}
use Rattle.flight_history.specs.Standing.{folds_lates, late_by, is_release, is_planned, stage_after, lates_in, releases_among}
use Rattle.flight_history.proofs.LastOneLemmas.{last_told-push, list_any-push, since-push, up_to-push}
use Rattle.flight_history.proofs.StandingLemmas.{lates_in-push, releases_among-push}

-- the acts, one entry on
pub acts-more : (entries : List Entry) (i : ℕ) (entry : Entry) → i < length entries → entry ≡ get_or entries i entry → acts_in (take (i + 1) entries) ≡ acts_in (take i entries) ++ entry.act ∷ []
acts-more entries i entry within is =
    ap acts_in (take_more entries i entry within ∙ ap (λ (e : Entry). take i entries ++ e ∷ []) (sym is))
    ∙ map-append (λ (e : Entry). e.act) (take i entries) (entry ∷ [])

pub acts-all : (entries : List Entry) (i : ℕ) → length entries ≤ i → acts_in (take i entries) ≡ acts_in entries
acts-all entries i past = ap acts_in (take_all i entries past)

unwrap-both : {B : Type 0} (a b : Option B) (first : B) → unwrap_or a (unwrap_or b first) ≡ unwrap_or (option_or a b) first
unwrap-both None b first = refl
unwrap-both (Some x) b first = refl

-- the last thing told
pub told-more : {B : Type 0} (tells : Act → Option B) (first now : B) (entries : List Entry) (i : ℕ) (entry : Entry) → i < length entries → entry ≡ get_or entries i entry → now ≡ unwrap_or (last_told tells (acts_in (take i entries))) first
    → unwrap_or (tells entry.act) now ≡ unwrap_or (last_told tells (acts_in (take (i + 1) entries))) first
told-more tells first now entries i entry within is so_far =
    ap (unwrap_or (tells entry.act)) so_far ∙ unwrap-both (tells entry.act) (last_told tells (acts_in (take i entries))) first
    ∙ sym (ap (λ (acts : List Act). unwrap_or (last_told tells acts) first) (acts-more entries i entry within is)
    ∙ ap (λ o. unwrap_or o first) (last_told-push tells (acts_in (take i entries)) entry.act))

-- where late changes are folded in -------------------------------------------------------------------

acts-push : (xs : List Entry) (y : Entry) → acts_in (xs ++ y ∷ []) ≡ acts_in xs ++ y.act ∷ []
acts-push xs y = map-append (λ (e : Entry). e.act) xs (y ∷ [])

one_longer : (xs : List Entry) (y : Entry) → length (xs ++ y ∷ []) ≡ length xs + 1
one_longer xs y = length-append xs (y ∷ [])

-- an entry that folds them in is the last one so far
fold-yes : (xs : List Entry) (y : Entry) → folds_lates y.act ≡ true → IsLastFold (xs ++ y ∷ []) (length xs + 1)
fold-yes xs y folds = let long = one_longer xs y in record {
  within = omega (arith, long);
  folded = ap acts_in (take_all (length xs + 1) (xs ++ y ∷ []) (omega (arith, long))) ∙ acts-push xs y
      ∙ sym (ap (up_to folds_lates) (acts-push xs y) ∙ up_to-push folds_lates (acts_in xs) y.act ∙ ap (λ (b : Bool). cond b (acts_in xs ++ y.act ∷ []) (up_to folds_lates (acts_in xs))) folds);
  later = ap acts_in (drop_all (length xs + 1) (xs ++ y ∷ []) (omega (arith, long)))
      ∙ sym (ap (since folds_lates) (acts-push xs y) ∙ since-push folds_lates (acts_in xs) y.act ∙ ap (λ (b : Bool). cond b [] (since folds_lates (acts_in xs) ++ y.act ∷ [])) folds);
  some = (λ _. omega arith, λ _. ap (list_any folds_lates) (acts-push xs y) ∙ list_any-push folds_lates (acts_in xs) y.act ∙ ap (λ (b : Bool). cond b true (list_any folds_lates (acts_in xs))) folds);
}

-- an entry that does not, leaves the last one where it is
fold-no : (xs : List Entry) (y : Entry) (place : ℕ) → folds_lates y.act ≡ false → IsLastFold xs place → IsLastFold (xs ++ y ∷ []) place
fold-no xs y place folds last =
    let long = one_longer xs y in
    let within = last.within in
    let any : list_any folds_lates (acts_in (xs ++ y ∷ [])) ≡ list_any folds_lates (acts_in xs) =
    ap (list_any folds_lates) (acts-push xs y) ∙ list_any-push folds_lates (acts_in xs) y.act ∙ ap (λ (b : Bool). cond b true (list_any folds_lates (acts_in xs))) folds in
    record {
      within = omega (arith, long, within);
      folded = ap acts_in (take-append-le place xs (y ∷ []) within) ∙ last.folded
          ∙ sym (ap (up_to folds_lates) (acts-push xs y) ∙ up_to-push folds_lates (acts_in xs) y.act ∙ ap (λ (b : Bool). cond b (acts_in xs ++ y.act ∷ []) (up_to folds_lates (acts_in xs))) folds);
      later = ap acts_in (drop-append-le place xs (y ∷ []) within) ∙ acts-push (drop place xs) y ∙ ap (λ (acts : List Act). acts ++ y.act ∷ []) last.later
          ∙ sym (ap (since folds_lates) (acts-push xs y) ∙ since-push folds_lates (acts_in xs) y.act ∙ ap (λ (b : Bool). cond b [] (since folds_lates (acts_in xs) ++ y.act ∷ [])) folds);
      some = (λ yes. last.some.0 (sym any ∙ yes), λ more. any ∙ last.some.1 more);
    }

entry-more : (entries : List Entry) (i : ℕ) (entry : Entry) → i < length entries → entry ≡ get_or entries i entry → take i entries ++ entry ∷ [] ≡ take (i + 1) entries
entry-more entries i entry within is = sym (take_more entries i entry within ∙ ap (λ (e : Entry). take i entries ++ e ∷ []) (sym is))

pub fold-here : (entries : List Entry) (i : ℕ) (entry : Entry) → i < length entries → entry ≡ get_or entries i entry → folds_lates entry.act ≡ true → IsLastFold (take (i + 1) entries) (i + 1)
fold-here entries i entry within is folds =
    subst (λ (xs : List Entry). IsLastFold xs (i + 1)) (entry-more entries i entry within is)
    (subst (λ (n : ℕ). IsLastFold (take i entries ++ entry ∷ []) (n + 1)) (length-take-le i entries (omega (arith, within))) (fold-yes (take i entries) entry folds))

pub fold-past : (entries : List Entry) (i place : ℕ) (entry : Entry) → i < length entries → entry ≡ get_or entries i entry → folds_lates entry.act ≡ false → IsLastFold (take i entries) place → IsLastFold (take (i + 1) entries) place
fold-past entries i place entry within is folds last =
    subst (λ (xs : List Entry). IsLastFold xs place) (entry-more entries i entry within is) (fold-no (take i entries) entry place folds last)

pub fold-none : IsLastFold [] 0
fold-none = record { within = omega arith; folded = refl; later = refl; some = (λ yes. absurd (cc (yes)), λ more. absurd (omega (arith, more))) }

pub fold-all : (entries : List Entry) (i place : ℕ) → length entries ≤ i → IsLastFold (take i entries) place → IsLastFold entries place
fold-all entries i place past last = subst (λ (xs : List Entry). IsLastFold xs place) (take_all i entries past) last

-- Late changes ----------------------------------------------------------------

late-then : (first so_far : List Lmc) (o : Option Lmc) → unwrap_or (option_map (λ (l : Lmc). (first ++ so_far) ++ l ∷ []) o) (first ++ so_far) ≡ first ++ unwrap_or (option_map (λ (l : Lmc). so_far ++ l ∷ []) o) so_far
late-then first so_far None = refl
late-then first so_far (Some l) = append_assoc first so_far (l ∷ [])

-- the late changes, one entry on
pub lates-more : (first lates : List Lmc) (entries : List Entry) (i : ℕ) (entry : Entry) → i < length entries → entry ≡ get_or entries i entry → lates ≡ first ++ lates_in (acts_in (take i entries))
    → unwrap_or (option_map (λ (l : Lmc). lates ++ l ∷ []) (late_by entry.act)) lates ≡ first ++ lates_in (acts_in (take (i + 1) entries))
lates-more first lates entries i entry within is so_far =
    ap (λ (ls : List Lmc). unwrap_or (option_map (λ (l : Lmc). ls ++ l ∷ []) (late_by entry.act)) ls) so_far
    ∙ late-then first (lates_in (acts_in (take i entries))) (late_by entry.act)
    ∙ ap (λ (ls : List Lmc). first ++ ls) (sym (ap lates_in (acts-more entries i entry within is) ∙ lates_in-push (acts_in (take i entries)) entry.act))

-- Releases ----------------------------------------------------------------------------------------------

pub releases-more : (o : FlightState) (entries : List Entry) (i n : ℕ) (entry : Entry) → i < length entries → entry ≡ get_or entries i entry → n ≡ releases_among o [] (acts_in (take i entries))
    → cond (is_release entry.act && is_planned (stage_after o (acts_in (take i entries)))) (n + 1) n ≡ releases_among o [] (acts_in (take (i + 1) entries))
releases-more o entries i n entry within is so_far =
    sym (ap (releases_among o []) (acts-more entries i entry within is) ∙ releases_among-push o [] (acts_in (take i entries)) entry.act
    ∙ plus_cond (releases_among o [] (acts_in (take i entries))) (is_release entry.act && is_planned (stage_after o (acts_in (take i entries))))
    ∙ ap (λ (k : ℕ). cond (is_release entry.act && is_planned (stage_after o (acts_in (take i entries)))) (k + 1) k) (sym so_far))
  where
    plus_cond : (n : ℕ) (b : Bool) → n + cond b 1 0 ≡ cond b (n + 1) n
    plus_cond n true = refl
    plus_cond n false = omega arith
