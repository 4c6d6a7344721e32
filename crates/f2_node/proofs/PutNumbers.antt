-- The bytes of a number that stand before others.
use Rattle.std.proofs.Common.{◌≡◌, ℕ, ◌+◌, List, ◌++◌, length, take, drop, ap, ◌∙◌}
use Rattle.std.proofs.lemmas.List.{take_at}
use Rattle.byteorder.specs.Endian.{little_bytes}
use Rattle.byteorder.specs.Numbers.{length-bytes_low_first}
use Rattle.f2_bytes.specs.Bytes.{with_number, with_bytes}

-- of bytes that begin with a number, those of the number are put
pub with_front : (b bytes rest : List ℕ) (at n v : ℕ) → bytes ≡ little_bytes n v ++ rest → with_bytes b at (take n bytes) ≡ with_number b at n v
unfolding with_number
with_front b bytes rest at n v is =
    let size : length (little_bytes n v) ≡ n = length-bytes_low_first 0 n v in
    let first : take n bytes ≡ little_bytes n v = ap (take n) is ∙ take_at (little_bytes n v) rest n size in
    ap (with_bytes b at) first ∙ λ i. take at b ++ little_bytes n v ++ drop (at + size i) b
