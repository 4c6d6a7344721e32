-- What a seal keeps of a block, and the blocks of a written pack.
use Rattle.std.proofs.Common.{◌≡◌, ℕ, suc, ◌+◌, ◌-◌, ◌*◌, ◌/◌, ◌%◌, ◌<◌, ◌≤◌, List, [], ◌∷◌, ◌++◌, map, length, take, drop, sym, ap, ◌∙◌, arith, get_or-drop}
use Rattle.std.specs.Prelude.{slice_index}
use Rattle.std.specs.List.{range_with_len}
use Rattle.std.proofs.lemmas.List.{length-take-le, length-append, drop_at, get_or-take, get_or_append_left, take-take, length-drop}
use Rattle.f2_bytes.specs.Bits.{bit_msb}
use Rattle.f2_bytes.specs.Bytes.{Block, block_at, bytes_at, number_at, with_number, has_bit}
use Rattle.f2_bytes.specs.Checksum.{with_seal, crc, magic_number}
use Rattle.f2_bytes.specs.Journal.{nat_records, sit_records, journal_count, nat_record_at, sit_record_at}
use Rattle.f2_bytes.proofs.Numbers.{number_at-front, number_at-drop, number_at-byte, take-with_number, length-with_number}
use Rattle.f2_change.specs.Change.{summary_end}

-- what stands behind the place of the checksum stays
placed_behind : (b : List ℕ) → 168 ≤ length b → drop 168 (with_number b 164 4 4092) ≡ drop 168 b
unfolding with_number
placed_behind b inside =
    let four : length (take 164 b ++ 252 ∷ 15 ∷ 0 ∷ 0 ∷ []) ≡ length (take 164 b) + 4 = length-append (take 164 b) (252 ∷ 15 ∷ 0 ∷ 0 ∷ []) in
    drop_at (take 164 b ++ 252 ∷ 15 ∷ 0 ∷ 0 ∷ []) (drop 168 b) 168 (four ∙ omega (arith, length-take-le 164 b (omega (arith, inside))))

-- a seal keeps the numbers between its place and its checksum
pub sealed_behind : (b : Block) → length b ≡ 4096 → (i n : ℕ) → 168 ≤ i → i + n ≤ 4092 → number_at (with_seal b) i n ≡ number_at b i n
unfolding with_seal
sealed_behind b size i n low high =
    let placed = with_number b 164 4 4092 in
    let checksum = crc magic_number (take 4092 placed) in
    let long : length placed ≡ 4096 = length-with_number b 164 4 4092 (omega (arith, size)) ∙ size in
    let front : take 4092 (with_number placed 4092 4 checksum) ≡ take 4092 placed = take-with_number placed 4092 4092 4 checksum (omega arith) (omega (arith, long)) in
    let back : drop 168 placed ≡ drop 168 b = placed_behind b (omega (arith, size)) in
    let place : 168 + (i - 168) ≡ i = omega (arith, low) in
    number_at-front (with_number placed 4092 4 checksum) placed i n 4092 high front
    ∙ ap (λ k. number_at placed k n) (sym place)
    ∙ sym (number_at-drop placed 168 (i - 168) n)
    ∙ ap (λ (x : List ℕ). number_at x (i - 168) n) back
    ∙ number_at-drop b 168 (i - 168) n
    ∙ ap (λ k. number_at b k n) place

-- and those before its place
pub sealed_before : (b : Block) → length b ≡ 4096 → (i n : ℕ) → i + n ≤ 164 → number_at (with_seal b) i n ≡ number_at b i n
unfolding with_seal
sealed_before b size i n before =
    let placed = with_number b 164 4 4092 in
    let checksum = crc magic_number (take 4092 placed) in
    let long : length placed ≡ 4096 = length-with_number b 164 4 4092 (omega (arith, size)) ∙ size in
    let front : take 164 (with_number placed 4092 4 checksum) ≡ take 164 b =
    take-with_number placed 164 4092 4 checksum (omega arith) (omega (arith, long)) ∙ take-with_number b 164 164 4 4092 (omega arith) (omega (arith, size)) in
    number_at-front (with_number placed 4092 4 checksum) b i n 164 before front

-- a byte of a part
pub byte_in : (b : List ℕ) (at n j : ℕ) → j < n → slice_index (bytes_at b at n) j ≡ slice_index b (at + j)
byte_in b at n j below =
    get_or-take (at + n - at) (drop at b) j 0 (omega (arith, below)) ∙ get_or-drop at b j 0

pub length_part : (b : List ℕ) (at n : ℕ) → at + n ≤ length b → length (bytes_at b at n) ≡ n
length_part b at n inside = length-take-le (at + n - at) (drop at b) (omega (arith, inside, length-drop at b)) ∙ omega arith

-- the bits of such a part
pub sealed_bits : (b : Block) → length b ≡ 4096 → (at n k : ℕ) → 168 ≤ at → at + n ≤ 4092 → k < 8 * n → bit_msb (bytes_at (with_seal b) at n) k ≡ bit_msb (bytes_at b at n) k
sealed_bits b size at n k low high below =
    let j = k / 8 in
    let inside : j < n = omega (arith, below) in
    let byte : slice_index (bytes_at (with_seal b) at n) j ≡ slice_index (bytes_at b at n) j =
    byte_in (with_seal b) at n j inside
    ∙ sym (number_at-byte (with_seal b) (at + j))
    ∙ sealed_behind b size (at + j) 1 (omega (arith, low)) (omega (arith, high, inside))
    ∙ number_at-byte b (at + j)
    ∙ sym (byte_in b at n j inside) in
    ap (λ x. has_bit x (7 - k % 8)) byte

-- the summary blocks stand behind the head
pub sum_block : (h : Block) (sums : List Block) (t : ℕ) → t < length sums → block_at (h ∷ [] ++ sums ++ h ∷ []) (suc t) ≡ block_at sums t
sum_block h sums t below = get_or_append_left sums (h ∷ []) [] t below

-- an empty journal
pub count_of_end : (b : Block) (kind : ℕ) → drop 3584 b ≡ summary_end kind → journal_count (bytes_at b 3584 507) ≡ 0
unfolding number_at
count_of_end b kind end =
    let cut : take 2 (take (3584 + 507 - 3584) (drop 3584 b)) ≡ take 2 (drop 3584 b) = take-take 2 507 (drop 3584 b) (omega arith) in
    number_at-front (bytes_at b 3584 507) (drop 3584 b) 0 2 2 (omega arith) cut
    ∙ ap (λ (x : List ℕ). number_at x 0 2) end

pub no_nat_records : (b : Block) (kind : ℕ) → drop 3584 b ≡ summary_end kind → nat_records (bytes_at b 3584 507) ≡ []
no_nat_records b kind end = ap (λ n. map (λ k. nat_record_at (bytes_at b 3584 507) (2 + 13 * k)) (range_with_len 0 n)) (count_of_end b kind end)

pub no_sit_records : (b : Block) (kind : ℕ) → drop 3584 b ≡ summary_end kind → sit_records (bytes_at b 3584 507) ≡ []
no_sit_records b kind end = ap (λ n. map (λ k. sit_record_at (bytes_at b 3584 507) (2 + 78 * k)) (range_with_len 0 n)) (count_of_end b kind end)
