-- prices stay sound when one of them moves, and when the first candidate leaves
use Rattle.std.proofs.Common.{◌≡◌, ⊎_elim, ℕ, suc, ◌+◌, ◌<◌, ◌≤◌, List, [], length, get_or, set, drop, refl, ◌∙◌, arith, length-drop}
use Rattle.std.specs.Prelude.{ℤ, pos, ◌+ℤ◌, ◌≤ℤ◌, All}
use Rattle.std.proofs.Math.ListN.{length-set}
use Rattle.std.proofs.lemmas.Int.{ints}
use Rattle.std.proofs.lemmas.Bool.{cases_eq}
use Rattle.std.proofs.lemmas.List.{get_or-set_same, get_or-set_other, get_or-drop, get_or_default}
use Rattle.assignment.specs.declared.candidate.Candidate.{Candidate}
use Rattle.assignment.specs.declared.costs.CostTable.{CostTable}
use Rattle.assignment.specs.Costs.{MayStand, IsOrdinary}
use Rattle.assignment.specs.Prices.{price_at}
use Rattle.assignment.specs.Tables.{nobody, IsWithin, MayTake, cost_at}
use Rattle.assignment.specs.Standings.{greatest_cost}
use Rattle.assignment.proofs.Bounds.{may-known}
use Rattle.assignment.proofs.Starts.{settled-start}
use Rattle.assignment_draft.specs.declared.prices.Prices.{Prices}
use Rattle.assignment_draft.specs.Drafts.{AreAfterFirst, AreMoved, AreSound, item_span, place_span, table}

-- what holds of one price, and of each other one, holds of all where that one was written
at-set : (P : ℕ → ℤ → Type 0) (prices : List ℤ) (k : ℕ) (price : ℤ) → k < length prices → P k price → ((n : ℕ) → P n (price_at prices n))
    → (n : ℕ) → P n (price_at (set prices k price) n)
at-set P prices k price known here others n = ⊎_elim
    (λ (same : n ≡ k). rw (same, get_or-set_same prices k price (pos 0) known) here)
    (λ (other : n ≡ k → ⊥). rw (get_or-set_other prices k n price (pos 0) other) (others n))
    (cases_eq n k)

-- One price --------------------------------------------------------------------------------------

-- a candidate has another price that its open positions allow
pub moved-item : (prices : Prices) (number : ℕ) (price : ℤ) → AreSound prices → number < length prices.candidates.items → IsWithin item_span price
    → ((position : ℕ) → MayTake (table prices.candidates.items prices.influences.items) number position
    → (price +ℤ price_at prices.places.items position) ≤ℤ cost_at (table prices.candidates.items prices.influences.items) number position)
    → AreMoved prices (record prices { items = record { items = set prices.items.items number price } })
moved-item prices number price sound known near bound =
    let costs = table prices.candidates.items prices.influences.items in
    let within : number < length prices.items.items = omega (arith, known, sound.lower.item_count) in
    record {
      candidates = refl;
      influences = refl;
      sound = record {
        ordinary = sound.ordinary;
        lower = record {
          item_count = length-set prices.items.items number price ∙ sound.lower.item_count;
          place_count = sound.lower.place_count;
          signs = sound.lower.signs;
          lower = at-set (λ n v. (q : ℕ) → MayTake costs n q → (v +ℤ price_at prices.places.items q) ≤ℤ cost_at costs n q) prices.items.items number price within
              bound sound.lower.lower;
        };
        items = at-set (λ n v. IsWithin item_span v) prices.items.items number price within near sound.items;
        places = sound.places;
      };
    }

-- a position has another price that the candidates allow for which it is open
pub moved-place : (prices : Prices) (position : ℕ) (price : ℤ) → AreSound prices → position < length prices.influences.items → price ≤ℤ pos 0 → IsWithin place_span price
    → ((number : ℕ) → MayTake (table prices.candidates.items prices.influences.items) number position
    → (price_at prices.items.items number +ℤ price) ≤ℤ cost_at (table prices.candidates.items prices.influences.items) number position)
    → AreMoved prices (record prices { places = record { items = set prices.places.items position price } })
moved-place prices position price sound known sign near bound =
    let costs = table prices.candidates.items prices.influences.items in
    let within : position < length prices.places.items = omega (arith, known, sound.lower.place_count) in
    record {
      candidates = refl;
      influences = refl;
      sound = record {
        ordinary = sound.ordinary;
        lower = record {
          item_count = sound.lower.item_count;
          place_count = length-set prices.places.items position price ∙ sound.lower.place_count;
          signs = at-set (λ q v. v ≤ℤ pos 0) prices.places.items position price within sign sound.lower.signs;
          lower = λ n. at-set (λ q v. MayTake costs n q → (price_at prices.items.items n +ℤ v) ≤ℤ cost_at costs n q) prices.places.items position price within
              (bound n) (sound.lower.lower n);
        };
        items = sound.items;
        places = at-set (λ q v. IsWithin place_span v) prices.places.items position price within near sound.places;
      };
    }

pub moved-again : (old between new : Prices) → AreMoved old between → AreMoved between new → AreMoved old new
moved-again old between new first second = record {
  candidates = second.candidates ∙ first.candidates;
  influences = second.influences ∙ first.influences;
  sound = second.sound;
}

-- The start --------------------------------------------------------------------------------------

pub sound-start : (prices : Prices) (least : ℤ) → IsOrdinary prices.candidates.items prices.influences.items
    → length prices.items.items ≡ length prices.candidates.items → length prices.places.items ≡ length prices.influences.items
    → All (λ entry. entry ≡ least) prices.items.items → All (λ entry. entry ≡ pos 0) prices.places.items → least +ℤ pos greatest_cost ≡ pos 0
    → AreSound prices
sound-start prices least ordinary item_count place_count all_least all_none least_is =
    let settled = settled-start (table prices.candidates.items prices.influences.items) prices.items.items prices.places.items [] least ordinary item_count place_count all_least all_none refl least_is in
    record {
      ordinary = ordinary;
      lower = settled.standing.prices;
      items = λ number. let waits = settled.waiting number (omega arith) in record { above = omega (arith, ints, waits.above); below = omega (arith, ints, waits.below) };
      places = λ position. record { above = omega (arith, ints, settled.low position); below = omega (arith, ints, settled.standing.prices.signs position) };
    }

-- The first candidate leaves -----------------------------------------------------------------------

module _ (prices : Prices) (candidates : List Candidate) (sound : AreSound prices) (after : AreAfterFirst prices.candidates.items candidates) where
  abbrev costs : CostTable
  costs = table candidates prices.influences.items

  at-nobody : (number : ℕ) (d : Candidate) → number < length candidates → get_or candidates number d ≡ get_or candidates number nobody
  at-nobody number d known = get_or_default candidates number d nobody known

  light-after : All (λ (c : Candidate). c.mass ≤ 20000) candidates
  light-after number d known =
      let old = sound.ordinary.light (suc number) nobody (omega (arith, known, after.count)) in
      rw (at-nobody number d known, after.same_mass number known) old

  known-after : All (λ (c : Candidate). (q : ℕ) → MayStand c q → q < length prices.influences.items) candidates
  known-after number d known q may =
      sound.ordinary.known (suc number) nobody (omega (arith, known, after.count)) q (after.narrower number q known (rw (at-nobody number d known) at may))

  one-more : (number : ℕ) → 1 + number ≡ suc number
  one-more number = omega arith

  ordinary-after : IsOrdinary candidates prices.influences.items
  ordinary-after = record {
    few_candidates = omega (arith, sound.ordinary.few_candidates, after.count);
    few_positions = sound.ordinary.few_positions;
    light = light-after;
    near = sound.ordinary.near;
    known = known-after;
  }

  lower-after : (number position : ℕ) → MayTake costs number position
      → (price_at (drop 1 prices.items.items) number +ℤ price_at prices.places.items position) ≤ℤ cost_at costs number position
  unfolding MayTake cost_at
  lower-after number position may =
      let known : number < length candidates = (may-known costs ordinary-after number position may).0 in
      rw (get_or-drop 1 prices.items.items number (pos 0), after.same_mass number known, one-more number) (sound.lower.lower (suc number) position (after.narrower number position known may))

  pub sound-after : (next : Prices) → next.candidates.items ≡ candidates → next.influences.items ≡ prices.influences.items → next.items.items ≡ drop 1 prices.items.items
      → next.places.items ≡ prices.places.items → AreSound next
  sound-after next is_candidates is_influences is_items is_places = rw (is_candidates, is_influences, is_items, is_places) record {
    ordinary = ordinary-after;
    lower = record {
      item_count = omega (arith, length-drop 1 prices.items.items, sound.lower.item_count, after.count);
      place_count = sound.lower.place_count;
      signs = sound.lower.signs;
      lower = lower-after;
    };
    items = λ number. rw (get_or-drop 1 prices.items.items number (pos 0)) (sound.items (1 + number));
    places = sound.places;
  }
