-- The pack that is made for a change is valid, in its normal form and without a record in its journals.
use Rattle.std.proofs.Common.{◌≡◌, ℕ, zero, suc, ◌+◌, ◌/◌, ◌%◌, ◌^◌, ◌<◌, ◌≤◌, Bool, true, false, cond, not, ◌&&◌, nat_le, List, [], ◌∷◌, ◌++◌, length, take, drop, refl, ap, ◌∙◌, arith}
use Rattle.std.specs.Prelude.{◌==◌, bit_xor}
use Rattle.std.proofs.lemmas.Bool.{eq-eqb, lt-ltb}
use Rattle.std.proofs.lemmas.Nat.{xor_lt}
use Rattle.f2_bytes.specs.declared.layout.Layout.{Layout}
use Rattle.f2_bytes.specs.Bytes.{Block, IsBlock, block_at, bytes_at, number_at, with_number, has_bit}
use Rattle.f2_bytes.specs.Checkpoint.{log, checkpoint_ver, is_pack_valid, is_log_valid, agrees_with_layout, has_room_for_summaries, pack_start_sum, sit_ver_bitmap_bytesize, nat_ver_bitmap_bytesize}
use Rattle.f2_bytes.specs.Checksum.{crc, crc_after, magic_number, is_sealed, with_seal}
use Rattle.f2_bytes.specs.Journal.{nat_journal_area, sit_journal_area, journal_count, are_journals_bounded}
use Rattle.f2_bytes.proofs.Seals.{seal-sealed}
use Rattle.f2_disk.proofs.Blocks.{AreBytes, bytes-append, bytes-take, bytes-drop}
use Rattle.f2_pack.specs.declared.checkpoint.Log.{Log}
use Rattle.f2_pack.specs.declared.writing.NewPack.{NewPack}
use Rattle.f2_pack.specs.Logs.{log_of}
use Rattle.f2_pack.specs.Valid.{is_head_valid, is_tail_of}
use Rattle.f2_pack.specs.Written.{written, IsNormal}
use Rattle.f2_pack.proofs.Writes.{NormalFacts, normal_facts, normal_sealed, written_valid, bounded_counts}
use Rattle.f2_change.specs.declared.change.Counts.{Counts}
use Rattle.f2_change.specs.Change.{given, log_at, next_rows, IsNextHead, summary_end, kind_of}
use Rattle.f2_change.proofs.CarriedSeals.{sealed_before, sealed_behind, sum_block, count_of_end}

-- ---- the seal

crc_after-lt : (n c : ℕ) → c < 2 ^ 32 → crc_after n c < 2 ^ 32
unfolding crc_after
crc_after-lt zero c low = low
crc_after-lt (suc n) c low = crc_after-lt n _ (step (c % 2 == 1))
  where
    step : (odd : Bool) → cond odd (bit_xor (c / 2) 0xEDB88320) (c / 2) < 2 ^ 32
    step true = xor_lt 32 (c / 2) 0xEDB88320 (omega (arith, low)) (omega arith)
    step false = omega (arith, low)

crc-lt : (bytes : List ℕ) (c : ℕ) → c < 2 ^ 32 → AreBytes bytes → crc c bytes < 2 ^ 32
crc-lt [] c low each = low
crc-lt (x ∷ bytes) c low each =
    let byte : x < 256 = each 0 in
    crc-lt bytes _ (crc_after-lt 8 (bit_xor c x) (xor_lt 32 c x low (omega (arith, byte)))) (λ i. each (suc i))

-- the place of the checksum, 4092
place_bytes : AreBytes (252 ∷ 15 ∷ 0 ∷ 0 ∷ [])
place_bytes zero = omega arith
place_bytes (suc zero) = omega arith
place_bytes (suc (suc zero)) = omega arith
place_bytes (suc (suc (suc zero))) = omega arith
place_bytes (suc (suc (suc (suc i)))) = omega arith

placed_bytes : (b : Block) → IsBlock b → AreBytes (with_number b 164 4 4092)
unfolding with_number
placed_bytes b is = bytes-append (take 164 b ++ 252 ∷ 15 ∷ 0 ∷ 0 ∷ []) (drop 168 b) (bytes-append (take 164 b) (252 ∷ 15 ∷ 0 ∷ 0 ∷ []) (bytes-take 164 b is.bytes) place_bytes) (bytes-drop 168 b is.bytes)

-- a block of bytes is sealed once its seal is put in
pub sealed_block : (b : Block) → IsBlock b → is_sealed (with_seal b) ≡ true
unfolding with_seal
sealed_block b is =
    let placed : List ℕ = with_number b 164 4 4092 in
    seal-sealed b placed (with_number placed 4092 4 (crc magic_number (take 4092 placed))) (crc magic_number (take 4092 placed)) is.length refl refl refl
    (crc-lt (take 4092 placed) magic_number (omega arith) (bytes-take 4092 placed (placed_bytes b is)))

-- ---- the pack

module _ (l : Layout) (old : Block) (version : ℕ) (logs : List Log) (counts : Counts) (s n : ℕ → Bool) (p : NewPack)
    (is : IsNextHead old (next_rows version logs counts) s n p.head) (six : length p.sums ≡ 6)
    (ends : (t : ℕ) → t < 6 → drop 3584 (block_at p.sums t) ≡ summary_end (kind_of t))
    (fit : (t : ℕ) → t < 6 → ((log_at logs t).segno < l.segments) × ((log_at logs t).offset < 512))
    (old_sit : sit_ver_bitmap_bytesize old ≡ l.sit_half / 8) (old_nat : nat_ver_bitmap_bytesize old ≡ l.nat_half / 8) where
  bytes : length p.head ≡ 4096
  bytes = is.block.length

  abbrev b : Block
  b = with_seal p.head

  low_row : (i k : ℕ) → i + k ≤ 164 → number_at b i k ≡ number_at p.head i k
  low_row i k before = sealed_before p.head bytes i k before

  high_row : (i k : ℕ) → 168 ≤ i → i + k ≤ 4092 → number_at b i k ≡ number_at p.head i k
  high_row i k low high = sealed_behind p.head bytes i k low high

  pub version_given : checkpoint_ver p.head ≡ version
  unfolding given
  version_given = is.rows_given 0 (omega arith)

  pub normal : IsNormal p.head
  unfolding given
  normal = record { flags = is.rows_given 38 (omega arith); total = is.rows_given 39 (omega arith) }

  start : pack_start_sum b ≡ 1
  unfolding given
  start = low_row 140 4 (omega arith) ∙ is.rows_given 40 (omega arith)

  sit_size : sit_ver_bitmap_bytesize b ≡ l.sit_half / 8
  unfolding given
  sit_size = low_row 156 4 (omega arith) ∙ is.rows_given 44 (omega arith) ∙ old_sit

  nat_size : nat_ver_bitmap_bytesize b ≡ l.nat_half / 8
  unfolding given
  nat_size = low_row 160 4 (omega arith) ∙ is.rows_given 45 (omega arith) ∙ old_nat

  logs_are : (t : ℕ) → t < 6 → log b t ≡ log_of (log_at logs t)
  unfolding given
  logs_are zero low =
      let x = low_row 84 4 (omega arith) ∙ is.rows_given 22 (omega arith) in
      let y = low_row 116 2 (omega arith) ∙ is.rows_given 30 (omega arith) in
      let z = high_row 176 1 (omega arith) (omega arith) ∙ is.rows_given 48 (omega arith) in
      λ i. record { segment = x i; offset = y i; allocation = z i }
  logs_are (suc zero) low =
      let x = low_row 88 4 (omega arith) ∙ is.rows_given 23 (omega arith) in
      let y = low_row 118 2 (omega arith) ∙ is.rows_given 31 (omega arith) in
      let z = high_row 177 1 (omega arith) (omega arith) ∙ is.rows_given 49 (omega arith) in
      λ i. record { segment = x i; offset = y i; allocation = z i }
  logs_are (suc (suc zero)) low =
      let x = low_row 92 4 (omega arith) ∙ is.rows_given 24 (omega arith) in
      let y = low_row 120 2 (omega arith) ∙ is.rows_given 32 (omega arith) in
      let z = high_row 178 1 (omega arith) (omega arith) ∙ is.rows_given 50 (omega arith) in
      λ i. record { segment = x i; offset = y i; allocation = z i }
  logs_are (suc (suc (suc zero))) low =
      let x = low_row 36 4 (omega arith) ∙ is.rows_given 6 (omega arith) in
      let y = low_row 68 2 (omega arith) ∙ is.rows_given 14 (omega arith) in
      let z = high_row 179 1 (omega arith) (omega arith) ∙ is.rows_given 51 (omega arith) in
      λ i. record { segment = x i; offset = y i; allocation = z i }
  logs_are (suc (suc (suc (suc zero)))) low =
      let x = low_row 40 4 (omega arith) ∙ is.rows_given 7 (omega arith) in
      let y = low_row 70 2 (omega arith) ∙ is.rows_given 15 (omega arith) in
      let z = high_row 180 1 (omega arith) (omega arith) ∙ is.rows_given 52 (omega arith) in
      λ i. record { segment = x i; offset = y i; allocation = z i }
  logs_are (suc (suc (suc (suc (suc zero))))) low =
      let x = low_row 44 4 (omega arith) ∙ is.rows_given 8 (omega arith) in
      let y = low_row 72 2 (omega arith) ∙ is.rows_given 16 (omega arith) in
      let z = high_row 181 1 (omega arith) (omega arith) ∙ is.rows_given 53 (omega arith) in
      λ i. record { segment = x i; offset = y i; allocation = z i }
  logs_are (suc (suc (suc (suc (suc (suc t)))))) low = absurd (omega (arith, low))

  log_valid : (t : ℕ) → t < 6 → is_log_valid l (log b t) ≡ true
  log_valid t low =
      ap (is_log_valid l) (logs_are t low)
      ∙ λ i. lt-ltb (log_at logs t).segno l.segments (fit t low).0 i && lt-ltb (log_at logs t).offset 512 (fit t low).1 i && kind (log_at logs t).reuse i
    where
      kind : (reuse : Bool) → nat_le (cond reuse 1 0) 1 ≡ true
      kind true = refl
      kind false = refl

  agrees : agrees_with_layout l b ≡ true
  unfolding agrees_with_layout
  agrees = λ i.
      eq-eqb (sit_ver_bitmap_bytesize b) (l.sit_half / 8) sit_size i
      && eq-eqb (nat_ver_bitmap_bytesize b) (l.nat_half / 8) nat_size i
      && (log_valid 0 (omega arith) i && (log_valid 1 (omega arith) i && (log_valid 2 (omega arith) i && (log_valid 3 (omega arith) i && (log_valid 4 (omega arith) i && (log_valid 5 (omega arith) i && true))))))

  sealed_normal : IsNormal b
  sealed_normal = normal_sealed p.head bytes normal

  facts : NormalFacts b
  facts = normal_facts b sealed_normal

  room : has_room_for_summaries b ≡ true
  unfolding has_room_for_summaries
  room = λ i. nat_le 1 (start i) && nat_le (start i + facts.data_blocks i + facts.node_blocks i + 1) (sealed_normal.total i)

  head_valid : is_head_valid l b ≡ true
  unfolding is_head_valid
  head_valid = λ i. sealed_block p.head is.block i && not (has_bit (sealed_normal.flags i) 10) && nat_le (sealed_normal.total i) 512 && agrees i && room i

  tail_valid : is_tail_of b b ≡ true
  tail_valid = λ i. sealed_block p.head is.block i && eq-eqb (checkpoint_ver b) (checkpoint_ver b) refl i

  pub pack_valid : is_pack_valid l (written p) ≡ true
  pack_valid = written_valid p b refl bytes six normal l ∙ λ i. head_valid i && tail_valid i

  nat_area : nat_journal_area (written p) ≡ bytes_at (block_at p.sums 0) 3584 507
  unfolding nat_journal_area
  nat_area = rw (facts.data_start, facts.compact) (ap (λ (x : Block). bytes_at x 3584 507) (sum_block b p.sums 0 (omega (arith, six))))

  sit_area : sit_journal_area (written p) ≡ bytes_at (block_at p.sums 2) 3584 507
  unfolding sit_journal_area
  sit_area = rw (facts.data_start, facts.compact) (ap (λ (x : Block). bytes_at x 3584 507) (sum_block b p.sums 2 (omega (arith, six))))

  -- both journals are empty
  pub journals_bounded : are_journals_bounded (written p) ≡ true
  journals_bounded =
      let first : journal_count (nat_journal_area (written p)) ≡ 0 = ap journal_count nat_area ∙ count_of_end (block_at p.sums 0) 0 (ends 0 (omega arith)) in
      let second : journal_count (sit_journal_area (written p)) ≡ 0 = ap journal_count sit_area ∙ count_of_end (block_at p.sums 2) 0 (ends 2 (omega arith)) in
      bounded_counts (written p) (omega (arith, first)) (omega (arith, second))
