-- How large the index of a zone is.
use Rattle.std.proofs.Common.{◌≡◌, ℕ, ◌+◌, ◌*◌, ◌^◌, ◌<◌, ◌≤◌, ℤ, pos, ◌+ℤ◌, ◌*ℤ◌, FitsSigned, w32, w64, to_z, of_z, unsigned_abs, List, length, take, take_all, get_or, min, arith, ap, sym, ◌∙◌, mul-le-mul_left}
use Rattle.std.proofs.lemmas.Int.{ints, unsigned_abs-mul, fits_signed_from_abs, to_z-of_z, to_z_pos}
use Rattle.std.proofs.lemmas.List.Sums.{sum_by_more, sum_by-take-le}
use Rattle.std.proofs.lemmas.Slice.Zip.{length-zip, get_or-zip}
use Rattle.std.specs.List.{zip}
use Rattle.base_words.specs.Lists.{int_sum_by}
use Rattle.base_words.proofs.SignedSums.{int_sum_by-more}
use Rattle.payload.specs.Load.{cabin_index, cabin_mass, zone_index, zone_mass}
use Rattle.payload.specs.declared.figures.Averages.{Averages}
use Rattle.payload.specs.declared.figures.Zone.{Zone}
use Rattle.payload.specs.declared.figures.ZoneCount.{ZoneCount}

-- an influence is at most 2 ^ 31 either way
pub unsigned_abs-le : (z : ℤ) → FitsSigned w32 z → unsigned_abs z ≤ 2 ^ 31
unsigned_abs-le z fits = omega (arith, ints)

-- so an index is at most that for each kilogram
pub unsigned_abs-product : (m : ℕ) (z : ℤ) → FitsSigned w32 z → unsigned_abs (pos m *ℤ z) ≤ 2 ^ 31 * m
unsigned_abs-product m z fits =
    let part : m * unsigned_abs z ≤ m * 2 ^ 31 = mul-le-mul_left m (unsigned_abs-le z fits) in
    rw unsigned_abs-mul (omega arith)

-- and for a mass of 32 bits it is a number of 64
pub product_fits : (m : ℕ) (z : ℤ) → m < 2 ^ 32 → FitsSigned w32 z → FitsSigned w64 (pos m *ℤ z)
product_fits m z small fits =
    let bound : unsigned_abs (pos m *ℤ z) ≤ 2 ^ 31 * m = unsigned_abs-product m z fits in
    fits_signed_from_abs w64 (pos m *ℤ z) (omega arith)

-- the product as it is computed, in 64 bits
pub product_is : (n m : ℕ) (z w : ℤ) → n ≡ m → m < 2 ^ 32 → FitsSigned w32 z → w ≡ to_z w32 (of_z w32 z)
    → to_z w64 n *ℤ to_z w64 (of_z w64 w) ≡ pos m *ℤ z
product_is n m z w e small fits is =
    let wide : FitsSigned w64 z = omega (arith, ints) in
    let left : to_z w64 n ≡ pos m = to_z_pos w64 n (omega arith) ∙ ap pos e in
    let same : w ≡ z = is ∙ to_z-of_z w32 z fits in
    let right : to_z w64 (of_z w64 w) ≡ z = ap (λ y. to_z w64 (of_z w64 y)) same ∙ to_z-of_z w64 z wide in
    λ i. left i *ℤ right i

-- the index of the first n zones of a cabin: their sum, and no more than their mass at the greatest influence
pub record IndexSoFar (average : Averages) (counts : List ZoneCount) (zones : List Zone) (n : ℕ) (index : ℤ) : Type 0 where
  pub sum : index ≡ int_sum_by (zone_index average) (take n (zip counts zones))
  pub bound : unsigned_abs index ≤ 2 ^ 31 * cabin_mass average (take n counts)

module _ (average : Averages) (counts : List ZoneCount) (zones : List Zone) (n : ℕ) (index : ℤ) (so_far : IndexSoFar average counts zones n index) where
  -- it is a number of 64 bits, where the cabin's mass is one of 32
  pub IndexSoFar-fits : cabin_mass average counts < 2 ^ 32 → FitsSigned w64 index
  IndexSoFar-fits small =
      let part : cabin_mass average (take n counts) ≤ cabin_mass average counts = sum_by-take-le (zone_mass average) counts n in
      let bound : unsigned_abs index ≤ 2 ^ 31 * cabin_mass average (take n counts) = so_far.bound in
      fits_signed_from_abs w64 index (omega arith)

  -- once there are no more zones it is the cabin's index
  pub IndexSoFar-end : n ≡ min (length counts) (length zones) → index ≡ cabin_index average zones counts
  IndexSoFar-end all =
      let long : length (zip counts zones) ≤ n = rw length-zip (omega arith) in
      so_far.sum ∙ ap (int_sum_by (zone_index average)) (take_all n (zip counts zones) long)

  -- one more zone
  pub IndexSoFar-push : (count : ZoneCount) (zone : Zone) (more : ℤ)
      → (n < length counts) × (n < length zones) × ((d : ZoneCount) → count ≡ get_or counts n d) × ((d : Zone) → zone ≡ get_or zones n d)
      → more ≡ zone_index average (count, zone) → unsigned_abs more ≤ 2 ^ 31 * zone_mass average count
      → IndexSoFar average counts zones (n + 1) (index +ℤ more)
  IndexSoFar-push count zone more turn is bound = record {
    sum =
        let within : n < length (zip counts zones) = rw length-zip (omega arith) in
        let pair : get_or (zip counts zones) n (count, zone) ≡ (count, zone) =
        get_or-zip counts zones n (count, zone) turn.0 turn.1 ∙ (λ i. (sym (turn.2 count) i, sym (turn.3 zone) i)) in
        (λ i. so_far.sum i +ℤ is i) ∙ sym (int_sum_by-more (zone_index average) (zip counts zones) n (count, zone) within
        ∙ ap (λ p. int_sum_by (zone_index average) (take n (zip counts zones)) +ℤ zone_index average p) pair);
    bound =
        let mass : cabin_mass average (take (n + 1) counts) ≡ cabin_mass average (take n counts) + zone_mass average count =
        sum_by_more (zone_mass average) counts n count turn.0 ∙ ap (λ x. cabin_mass average (take n counts) + zone_mass average x) (sym (turn.2 count)) in
        let before : unsigned_abs index ≤ 2 ^ 31 * cabin_mass average (take n counts) = so_far.bound in
        omega (arith, ints);
  }
