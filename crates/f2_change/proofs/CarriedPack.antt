-- The pack of the image that a commit makes, as that of a change: its head, logs, counts, bits, journals and summaries.
use Rattle.std.proofs.Common.{◌≡◌, inl, inr, ℕ, zero, suc, ◌+◌, ◌-◌, ◌*◌, ◌≤◌, ◌<◌, true, false, cond, not, [], length, Option, Some, refl, sym, ap, ◌∙◌, arith}
use Rattle.std.proofs.lemmas.Bool.{cases_lt, lt-ltb, le-ltb}
use Rattle.std.specs.Prelude.{unwrap_or, nat_lt}
use Rattle.f2_bytes.specs.declared.layout.Layout.{Layout}
use Rattle.f2_bytes.specs.Bits.{bit_msb}
use Rattle.f2_bytes.specs.Bytes.{Block, Image, block_at, bytes_at, number_at}
use Rattle.f2_bytes.specs.Checksum.{with_seal}
use Rattle.f2_bytes.specs.Superblock.{layout, layout_of, IsInOrder}
use Rattle.f2_bytes.specs.Checkpoint.{pack_at, pack, head, log, pack_number, checkpoint_ver, checkpoint_row, user_block_count, valid_block_count, valid_node_count, valid_inode_count, rsvd_segment_count, overprov_segment_count, free_segment_count, next_free_nid, ckpt_flags, sit_bits, nat_bits, sit_ver_bitmap_bytesize, nat_ver_bitmap_bytesize, orphans}
use Rattle.f2_bytes.specs.Journal.{nat_journal_area, sit_journal_area, nat_records, sit_records}
use Rattle.f2_bytes.specs.NodeAddressTable.{nat_journal}
use Rattle.f2_bytes.specs.SegmentTable.{sit_journal}
use Rattle.f2_bytes.specs.Summary.{Summary, pack_summary, summary_entry}
use Rattle.f2_pack.specs.Held.{Held, chosen_of}
use Rattle.f2_pack.specs.Logs.{log_of}
use Rattle.f2_pack.specs.Written.{written}
use Rattle.f2_pack.proofs.Writes.{normal_facts, normal_sealed, NormalFacts}
use Rattle.f2_view.specs.Mounted.{Mounted, layout_in, HasCopies}
use Rattle.f2_change.specs.declared.change.Change.{Change}
use Rattle.f2_change.specs.Change.{given, log_at, next_summary, nat_turned, sit_turned}
use Rattle.f2_change.specs.CommitSteps.{SameBut}
use Rattle.f2_change.specs.Writes.{Prepared, writes, committed}
use Rattle.f2_change.proofs.CarriedGiven.{Given}
use Rattle.f2_change.proofs.CarriedSeals.{sealed_before, sealed_behind, sealed_bits, sum_block, no_nat_records, no_sit_records, length_part}
use Rattle.f2_change.proofs.NewImage as made
use Rattle.f2_change.proofs.OldPack.{Stands, layout_same}

module _ (image : Image) (m : Mounted) (c : Change) (r : Prepared) (g : Given image m c r) where
  abbrev pub new : Image
  new = committed r image

  abbrev pub l : Layout
  l = layout_in m

  pub own : layout image ≡ l
  unfolding layout
  own = ap layout_of (sym g.mount.sup)

  pub order : IsInOrder l
  order = g.kept.in_order

  pub stands : Stands r image (pack_number image)
  stands = made.stands_of image m r g.mount g.follows g.inside

  bytes : length r.pack.head ≡ 4096
  bytes = g.plan.new_head.block.length

  six : length r.pack.sums ≡ 6
  six = g.plan.six

  pub same : SameBut (writes r) image new
  same = made.same r g.prepared bytes six image (pack_number image) stands

  pub same_layout : layout new ≡ layout image
  same_layout = layout_same r g.prepared image (pack_number image) stands new same

  pub copies_same : HasCopies new image
  copies_same = made.new_copies r g.prepared bytes six image (pack_number image) stands

  pub new_number : pack_number new ≡ r.pack.pack
  new_number = ap (λ (k : Option ℕ). unwrap_or k 0) (made.own_counts r g.prepared bytes six image (pack_number image) stands)

  pub pack_blocks : (j : ℕ) → j < 8 → pack new j ≡ written r.pack j
  unfolding pack
  pack_blocks j low = (λ i. pack_at (same_layout i) new (new_number i) j) ∙ made.pack_is r g.prepared bytes six image (pack_number image) stands j low

  abbrev pub old_head : Block
  old_head = m.chosen.head

  pub old_head_is : old_head ≡ head image
  unfolding head
  old_head_is = ap (λ (h : Held). h.head) g.mount.chosen

  abbrev sealed : Block
  sealed = with_seal r.pack.head

  pub head_is : head new ≡ sealed
  unfolding head
  head_is = pack_blocks 0 (omega arith)

  -- ---- the rows of its head

  low_row : (i n : ℕ) → i + n ≤ 164 → number_at (head new) i n ≡ number_at r.pack.head i n
  low_row i n before = ap (λ (b : Block). number_at b i n) head_is ∙ sealed_before r.pack.head bytes i n before

  high_row : (i n : ℕ) → 168 ≤ i → i + n ≤ 4092 → number_at (head new) i n ≡ number_at r.pack.head i n
  high_row i n low high = ap (λ (b : Block). number_at b i n) head_is ∙ sealed_behind r.pack.head bytes i n low high

  pub user : user_block_count (head new) ≡ c.counts.user
  unfolding given
  user = low_row 8 8 (omega arith) ∙ g.plan.new_head.rows_given 1 (omega arith)

  pub valid : valid_block_count (head new) ≡ c.counts.valid
  unfolding given
  valid = low_row 16 8 (omega arith) ∙ g.plan.new_head.rows_given 2 (omega arith)

  pub free : free_segment_count (head new) ≡ c.counts.free
  unfolding given
  free = low_row 32 4 (omega arith) ∙ g.plan.new_head.rows_given 5 (omega arith)

  pub reserved : rsvd_segment_count (head new) ≡ rsvd_segment_count (head image)
  unfolding given
  reserved = low_row 24 4 (omega arith) ∙ g.plan.new_head.rows_given 3 (omega arith) ∙ ap (λ (b : Block). checkpoint_row b 3) old_head_is

  pub overprovision : overprov_segment_count (head new) ≡ overprov_segment_count (head image)
  unfolding given
  overprovision = low_row 28 4 (omega arith) ∙ g.plan.new_head.rows_given 4 (omega arith) ∙ ap (λ (b : Block). checkpoint_row b 4) old_head_is

  pub nodes : valid_node_count (head new) ≡ c.counts.nodes
  unfolding given
  nodes = low_row 144 4 (omega arith) ∙ g.plan.new_head.rows_given 41 (omega arith)

  pub inodes : valid_inode_count (head new) ≡ c.counts.inodes
  unfolding given
  inodes = low_row 148 4 (omega arith) ∙ g.plan.new_head.rows_given 42 (omega arith)

  pub next_nid : next_free_nid (head new) ≡ c.counts.next_nid
  unfolding given
  next_nid = low_row 152 4 (omega arith) ∙ g.plan.new_head.rows_given 43 (omega arith)

  pub flags : ckpt_flags (head new) ≡ 0x41
  flags = low_row 132 4 (omega arith) ∙ g.prepared.normal.flags

  pub new_version : checkpoint_ver (head new) ≡ checkpoint_ver r.pack.head
  new_version = low_row 0 8 (omega arith)

  pub logs_given : (t : ℕ) → t < 6 → log (head new) t ≡ log_of (log_at c.logs t)
  unfolding given
  logs_given zero low =
      let a = low_row 84 4 (omega arith) ∙ g.plan.new_head.rows_given 22 (omega arith) in
      let b = low_row 116 2 (omega arith) ∙ g.plan.new_head.rows_given 30 (omega arith) in
      let d = high_row 176 1 (omega arith) (omega arith) ∙ g.plan.new_head.rows_given 48 (omega arith) in
      λ i. record { segment = a i; offset = b i; allocation = d i }
  logs_given (suc zero) low =
      let a = low_row 88 4 (omega arith) ∙ g.plan.new_head.rows_given 23 (omega arith) in
      let b = low_row 118 2 (omega arith) ∙ g.plan.new_head.rows_given 31 (omega arith) in
      let d = high_row 177 1 (omega arith) (omega arith) ∙ g.plan.new_head.rows_given 49 (omega arith) in
      λ i. record { segment = a i; offset = b i; allocation = d i }
  logs_given (suc (suc zero)) low =
      let a = low_row 92 4 (omega arith) ∙ g.plan.new_head.rows_given 24 (omega arith) in
      let b = low_row 120 2 (omega arith) ∙ g.plan.new_head.rows_given 32 (omega arith) in
      let d = high_row 178 1 (omega arith) (omega arith) ∙ g.plan.new_head.rows_given 50 (omega arith) in
      λ i. record { segment = a i; offset = b i; allocation = d i }
  logs_given (suc (suc (suc zero))) low =
      let a = low_row 36 4 (omega arith) ∙ g.plan.new_head.rows_given 6 (omega arith) in
      let b = low_row 68 2 (omega arith) ∙ g.plan.new_head.rows_given 14 (omega arith) in
      let d = high_row 179 1 (omega arith) (omega arith) ∙ g.plan.new_head.rows_given 51 (omega arith) in
      λ i. record { segment = a i; offset = b i; allocation = d i }
  logs_given (suc (suc (suc (suc zero)))) low =
      let a = low_row 40 4 (omega arith) ∙ g.plan.new_head.rows_given 7 (omega arith) in
      let b = low_row 70 2 (omega arith) ∙ g.plan.new_head.rows_given 15 (omega arith) in
      let d = high_row 180 1 (omega arith) (omega arith) ∙ g.plan.new_head.rows_given 52 (omega arith) in
      λ i. record { segment = a i; offset = b i; allocation = d i }
  logs_given (suc (suc (suc (suc (suc zero))))) low =
      let a = low_row 44 4 (omega arith) ∙ g.plan.new_head.rows_given 8 (omega arith) in
      let b = low_row 72 2 (omega arith) ∙ g.plan.new_head.rows_given 16 (omega arith) in
      let d = high_row 181 1 (omega arith) (omega arith) ∙ g.plan.new_head.rows_given 53 (omega arith) in
      λ i. record { segment = a i; offset = b i; allocation = d i }
  logs_given (suc (suc (suc (suc (suc (suc t)))))) low = absurd (omega (arith, low))

  -- ---- its bits

  sit_size : sit_ver_bitmap_bytesize r.pack.head ≡ sit_ver_bitmap_bytesize old_head
  unfolding given
  sit_size = g.plan.new_head.rows_given 44 (omega arith)

  nat_size : nat_ver_bitmap_bytesize r.pack.head ≡ nat_ver_bitmap_bytesize old_head
  unfolding given
  nat_size = g.plan.new_head.rows_given 45 (omega arith)

  room : 192 + sit_ver_bitmap_bytesize old_head + nat_ver_bitmap_bytesize old_head ≤ 4092
  room = g.kept.chosen.held.bitmaps

  old_long : length old_head ≡ 4096
  old_long = g.kept.chosen.held.head.length

  sit_bits_is : sit_bits (head new) ≡ bytes_at sealed 192 (sit_ver_bitmap_bytesize old_head)
  sit_bits_is = (λ i. bytes_at (head_is i) 192 (low_row 156 4 (omega arith) i)) ∙ ap (bytes_at sealed 192) sit_size

  nat_bits_is : nat_bits (head new) ≡ bytes_at sealed (192 + sit_ver_bitmap_bytesize old_head) (nat_ver_bitmap_bytesize old_head)
  nat_bits_is =
      (λ i. bytes_at (head_is i) (192 + low_row 156 4 (omega arith) i) (low_row 160 4 (omega arith) i))
      ∙ (λ i. bytes_at sealed (192 + sit_size i) (nat_size i))

  pub new_sit_bit : (k : ℕ) → k < l.sit_half → bit_msb (sit_bits (head new)) k ≡ cond (sit_turned l c.sit.items m.chosen.sit_journal k) (not (bit_msb (sit_bits old_head) k)) (bit_msb (sit_bits old_head) k)
  new_sit_bit k low =
      let n = sit_ver_bitmap_bytesize old_head in
      let inside : k < 8 * n = omega (arith, low, g.kept.chosen.sit_bits, order.sit_whole) in
      let long : length (sit_bits old_head) ≡ n = length_part old_head 192 n (omega (arith, room, old_long)) in
      ap (λ bits. bit_msb bits k) sit_bits_is
      ∙ sealed_bits r.pack.head bytes 192 n k (omega arith) (omega (arith, room)) inside
      ∙ ap (λ s. bit_msb (bytes_at r.pack.head 192 s) k) (sym sit_size)
      ∙ g.plan.new_head.sit_turns.bits k (omega (arith, inside, long))

  pub new_nat_bit : (k : ℕ) → k < l.nat_half → bit_msb (nat_bits (head new)) k ≡ cond (nat_turned l c.nat.items m.chosen.nat_journal k) (not (bit_msb (nat_bits old_head) k)) (bit_msb (nat_bits old_head) k)
  new_nat_bit k low =
      let s = sit_ver_bitmap_bytesize old_head in
      let n = nat_ver_bitmap_bytesize old_head in
      let inside : k < 8 * n = omega (arith, low, g.kept.chosen.nat_bits, order.nat_whole) in
      let long : length (nat_bits old_head) ≡ n = length_part old_head (192 + s) n (omega (arith, room, old_long)) in
      ap (λ bits. bit_msb bits k) nat_bits_is
      ∙ sealed_bits r.pack.head bytes (192 + s) n k (omega arith) (omega (arith, room)) inside
      ∙ (λ i. bit_msb (bytes_at r.pack.head (192 + sym sit_size i) (sym nat_size i)) k)
      ∙ g.plan.new_head.nat_turns.bits k (omega (arith, inside, long))

  -- ---- its journals, orphans and summaries

  facts : NormalFacts sealed
  facts = normal_facts sealed (normal_sealed r.pack.head bytes g.prepared.normal)

  chosen_is : chosen_of (written r.pack) r.pack.pack ≡ chosen_of (pack new) (pack_number new)
  chosen_is = made.new_chosen r g.prepared bytes six image (pack_number image) stands

  nat_area : nat_journal_area (written r.pack) ≡ bytes_at (block_at r.pack.sums 0) 3584 507
  unfolding nat_journal_area
  nat_area =
      rw (facts.data_start, facts.compact) (ap (λ (b : Block). bytes_at b 3584 507) (sum_block sealed r.pack.sums 0 (omega (arith, six))))

  sit_area : sit_journal_area (written r.pack) ≡ bytes_at (block_at r.pack.sums 2) 3584 507
  unfolding sit_journal_area
  sit_area =
      rw (facts.data_start, facts.compact) (ap (λ (b : Block). bytes_at b 3584 507) (sum_block sealed r.pack.sums 2 (omega (arith, six))))

  pub no_nat_journal : nat_journal new ≡ []
  no_nat_journal =
      sym (ap (λ (h : Held). h.nat_journal) chosen_is)
      ∙ ap nat_records nat_area ∙ no_nat_records (block_at r.pack.sums 0) 0 (g.plan.ends 0 (omega arith))

  pub no_sit_journal : sit_journal new ≡ []
  no_sit_journal =
      sym (ap (λ (h : Held). h.sit_journal) chosen_is)
      ∙ ap sit_records sit_area ∙ no_sit_records (block_at r.pack.sums 2) 0 (g.plan.ends 2 (omega arith))

  written_orphans : orphans (written r.pack) ≡ []
  unfolding orphans
  written_orphans = rw facts.orphans refl

  pub no_orphans : orphans (pack new) ≡ []
  no_orphans = sym (ap (λ (h : Held). h.orphan_inodes) chosen_is) ∙ written_orphans

  first_is : pack new 0 ≡ sealed
  first_is = pack_blocks 0 (omega arith)

  sum_is : (t : ℕ) → t < 6 → pack new (suc t) ≡ block_at r.pack.sums t
  sum_is t low = pack_blocks (suc t) (omega (arith, low)) ∙ sum_block sealed r.pack.sums t (omega (arith, low, six))

  of_data : (t k : ℕ) → t < 3 → nat_lt t 3 ≡ true → 1 + t ≡ suc t → pack_summary (pack new) t k ≡ Some (summary_entry (pack new (suc t)) k)
  unfolding pack_summary
  of_data t k low is next = rw (is, first_is, facts.data_start, facts.compact, next) refl

  of_node : (t k : ℕ) → 3 ≤ t → nat_lt t 3 ≡ false → 4 + (t - 3) ≡ suc t → pack_summary (pack new) t k ≡ Some (summary_entry (pack new (suc t)) k)
  unfolding pack_summary
  of_node t k low is next = rw (is, first_is, facts.nodes, facts.node_start, next) refl

  pub log_summaries : (t k : ℕ) → t < 6 → k < 512 → pack_summary (pack new) t k ≡ Some (next_summary image c.sums.items (log_at c.logs t).segno k)
  log_summaries t k low inside =
      elim (cases_lt t 3) [
        | inl data_log ↦ of_data t k data_log (lt-ltb t 3 data_log) (omega arith)
        | inr node_log ↦ of_node t k node_log (le-ltb t 3 node_log) (omega (arith, node_log))
      ]
      ∙ ap (λ (b : Block). Some (summary_entry b k)) (sum_is t low)
      ∙ ap (λ (s : Summary). Some s) (g.log_entries t k low inside)
