-- a short text with zeros behind it
use Rattle.std.specs.Prelude.{◌≡◌, ℕ, ◌-◌, List, ◌++◌, length, take, drop, replicate}
use Rattle.std.proofs.lemmas.List.{drop-replicate}
use Rattle.std.proofs.Math.Seq.{take-append_seam, drop-append_seam}

pub zeros_behind : (m n : ℕ) → drop {A = ℕ} m (replicate n 0) ≡ replicate (n - m) 0
zeros_behind m n = drop-replicate m n 0

pub text_before : (text rest : List ℕ) → take (length text) (text ++ rest) ≡ text
text_before text rest = take-append_seam text rest

pub zeros_after : (text rest : List ℕ) → drop (length text) (text ++ rest) ≡ rest
zeros_after text rest = drop-append_seam text rest
