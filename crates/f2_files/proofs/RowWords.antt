-- Lists of what a function gives for the numbers below a limit.
use Rattle.std.proofs.Common.{◌≡◌, ℕ, ◌<◌, length, get_or, map, arith}
use Rattle.std.proofs.lemmas.List.FromFn.{length-map-range_with_len, get_or-map-range_with_len}
use Rattle.f2_bytes.specs.Bytes.{numbers_below}

pub length-mapped : (f : ℕ → ℕ) (n : ℕ) → length (map f (numbers_below n)) ≡ n
unfolding numbers_below
length-mapped f n = length-map-range_with_len f 0 n

pub get_or-mapped : (f : ℕ → ℕ) (n j d : ℕ) → j < n → get_or (map f (numbers_below n)) j d ≡ f j
unfolding numbers_below
get_or-mapped f n j d low = get_or-map-range_with_len f 0 n j j d low (omega arith)
