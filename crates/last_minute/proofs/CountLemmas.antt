-- the index of the first zones of a cabin: their sum, and how far it reaches
use Rattle.std.proofs.Common.{◌≡◌, ℕ, ◌+◌, ◌*◌, ◌<◌, ◌≤◌, ℤ, ◌+ℤ◌, unsigned_abs, List, length, take, take_all, get_or, min, arith, ap, ap₂, sym, ◌∙◌}
use Rattle.std.proofs.lemmas.Int.{ints}
use Rattle.std.proofs.lemmas.Slice.Zip.{length-zip, get_or-zip}
use Rattle.std.specs.List.{zip}
use Rattle.base_words.specs.Lists.{int_sum_by}
use Rattle.base_words.proofs.SignedSums.{int_sum_by-more}
use Rattle.payload.specs.Load.{cabin_index, zone_index}
use Rattle.payload.specs.declared.figures.Averages.{Averages}
use Rattle.payload.specs.declared.figures.Zone.{Zone}
use Rattle.payload.specs.declared.figures.ZoneCount.{ZoneCount}

-- a sum of whole numbers with one more of them
pub sum-more : {X : Type 0} (f : X → ℤ) (xs : List X) (i : ℕ) (d : X) (sum more : ℤ) (most : ℕ) → i < length xs → sum ≡ int_sum_by f (take i xs) → unsigned_abs sum ≤ most * i → more ≡ f (get_or xs i d) → unsigned_abs more ≤ most
    → (int_sum_by f (take (i + 1) xs) ≡ sum +ℤ more) × (unsigned_abs (sum +ℤ more) ≤ most * (i + 1))
sum-more f xs i d sum more most within is bound here one =
    let wider : most * (i + 1) ≡ most * i + most = omega arith in
    (int_sum_by-more f xs i d within ∙ ap₂ (λ x y. x +ℤ y) (sym is) (sym here), omega (arith, ints))

pub record IndexSoFar (averages : Averages) (counts : List ZoneCount) (zones : List Zone) (n : ℕ) (index : ℤ) : Type 0 where
  pub sum : index ≡ int_sum_by (zone_index averages) (take n (zip counts zones))
  pub bound : unsigned_abs index ≤ 89910000000 * n

pub index-next : (averages : Averages) (counts : List ZoneCount) (zones : List Zone) (n : ℕ) (index more : ℤ) (count : ZoneCount) (zone : Zone) → IndexSoFar averages counts zones n index
    → (n < length counts) × (n < length zones) × ((d : ZoneCount) → count ≡ get_or counts n d) × ((d : Zone) → zone ≡ get_or zones n d)
    → more ≡ zone_index averages (count, zone) → unsigned_abs more ≤ 89910000000 → IndexSoFar averages counts zones (n + 1) (index +ℤ more)
index-next averages counts zones n index more count zone so_far turn is near =
    let within : n < length (zip counts zones) = rw length-zip (omega arith) in
    let pair : get_or (zip counts zones) n (count, zone) ≡ (count, zone) =
    get_or-zip counts zones n (count, zone) turn.0 turn.1 ∙ (λ i. (sym (turn.2 count) i, sym (turn.3 zone) i)) in
    let both = sum-more (zone_index averages) (zip counts zones) n (count, zone) index more 89910000000 within so_far.sum so_far.bound (is ∙ sym (ap (zone_index averages) pair)) near in
    record { sum = sym both.0; bound = both.1 }

pub index-whole : (averages : Averages) (counts : List ZoneCount) (zones : List Zone) (n : ℕ) (index : ℤ) → IndexSoFar averages counts zones n index → n ≡ min (length counts) (length zones) → index ≡ cabin_index averages zones counts
index-whole averages counts zones n index so_far all =
    let long : length (zip counts zones) ≤ n = rw length-zip (omega arith) in
    so_far.sum ∙ ap (int_sum_by (zone_index averages)) (take_all n (zip counts zones) long)
