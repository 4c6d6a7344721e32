-- What a batch writes is no support of a checked image: the summary block of a free segment, and each block of a target.
use Rattle.std.proofs.Common.{◌≡◌, ℕ, ◌+◌, ◌*◌, ◌<◌, Bool, true, false, not, ◌==◌, ◌&&◌, ◌||◌, nat_le, nat_lt, refl, sym, ap, ◌∙◌, ⊎_elim, arith}
use Rattle.std.specs.List.{list_any}
use Rattle.std.proofs.lemmas.Bool.{and_parts, or_cases, eqb-true, leb-true, ltb-true, false_from_ne_true, false≢true}
use Rattle.f2_bytes.specs.Bits.{bit_msb}
use Rattle.f2_bytes.specs.Bytes.{Image, block_at, numbers_below}
use Rattle.f2_bytes.specs.Superblock.{passes, layout, is_main, segment_of, place_of, segment_start}
use Rattle.f2_bytes.specs.Checkpoint.{pack_total_block_count, sit_bits, nat_bits, head, pack_number, is_log_segment}
use Rattle.f2_bytes.specs.NodeAddressTable.{nat_block_address}
use Rattle.f2_bytes.specs.SegmentTable.{sit_block_address, is_block_valid, has_valid_block}
use Rattle.f2_bytes.specs.Check.{is_checked, is_marked}
use Rattle.f2_bytes.specs.Support.{is_passing_copy, is_pack_block, is_table_block, is_node_place, is_slot_address, is_chain_block, is_needed_summary, is_support, is_free}
use Rattle.f2_bytes.proofs.Below.{found_below}
use Rattle.f2_bytes.proofs.FormatFacts.{free_has_no_support}
use Rattle.f2_bytes.proofs.FrameBlocks.{main_at}
use Rattle.f2_commit.proofs.MoveAddresses.{used_support}
use Rattle.f2_commit.proofs.MoveLayout.{in_order}
use Rattle.f2_commit.proofs.MoveMarked.{marked_is_used}
use Rattle.f2_commit.proofs.MoveSums.{free_inside}
use Rattle.f2_commit.proofs.MoveSupport.{number_low, half_low, total_low}

none_of : (a b c m n e : Bool) → a ≡ false → b ≡ false → c ≡ false → m ≡ false → e ≡ false → (a || b || c || (m && n) || e) ≡ false
none_of false false false false n false p q r s t = refl
none_of false false false false n true p q r s t = t
none_of false false false true n e p q r s t = absurd (false≢true (sym s))
none_of false false true m n e p q r s t = absurd (false≢true (sym r))
none_of false true c m n e p q r s t = absurd (false≢true (sym q))
none_of true b c m n e p q r s t = absurd (false≢true (sym p))

module _ (image : Image) (h : is_checked image ≡ true) (segment : ℕ) (free : is_free image segment ≡ true) where
  low : segment < (layout image).segments
  low = free_inside image segment free

  -- a free segment has no valid block
  free_unmarked : (k : ℕ) → k < 512 → is_block_valid image segment k ≡ false
  free_unmarked k within =
      false_from_ne_true _ (λ valid.
      let x = segment_start (layout image) segment + k in
      let main = main_at (layout image) segment k low within in
      let own : segment_of (layout image) x ≡ segment = omega (arith, within) in
      let place : place_of (layout image) x ≡ k = omega (arith, within) in
      let marked : is_marked image x ≡ true = (λ i. is_block_valid image (own i) (place i)) ∙ valid in
      false≢true (sym (free_has_no_support image segment k free within) ∙ used_support image h x (marked_is_used image h x main marked)))

  pub none_valid : has_valid_block image segment ≡ false
  none_valid = false_from_ne_true _ (λ some.
      let t = found_below (is_block_valid image segment) 512 some in
      false≢true (sym (free_unmarked t.0 t.1) ∙ t.2))

  abbrev a : ℕ
  a = (layout image).ssa + segment

  no_copy : is_passing_copy image a ≡ false
  no_copy = false_from_ne_true _ (λ copy.
      let below = ltb-true a 2 (and_parts (nat_lt a 2) (passes (block_at image a)) copy).0 in
      let order = in_order image h in
      let b = order.cp in let c = order.sit in let d = order.nat in let e = order.ssa in
      omega (arith, below, b, c, d, e))

  no_pack : is_pack_block image a ≡ false
  no_pack = false_from_ne_true _ (λ of_pack.
      let start = (layout image).cp + 512 * pack_number image in
      let below = ltb-true a (start + pack_total_block_count (head image)) (and_parts (nat_le start a) (nat_lt a (start + pack_total_block_count (head image))) of_pack).1 in
      let order = in_order image h in
      let number = number_low (layout image) image in
      let total = total_low image h in
      let c = order.sit in let d = order.nat in let e = order.ssa in
      omega (arith, below, number, total, c, d, e))

  no_nat : list_any (λ k. nat_block_address (layout image) (nat_bits (head image)) k == a) (numbers_below (layout image).nat_half) ≡ true → ⊥
  no_nat some =
      let found = found_below (λ k. nat_block_address (layout image) (nat_bits (head image)) k == a) (layout image).nat_half some in
      let at = eqb-true (nat_block_address (layout image) (nat_bits (head image)) found.0) a found.2 in
      let few = found.1 in
      let most = half_low (bit_msb (nat_bits (head image)) found.0) 512 in
      let order = in_order image h in
      let e = order.ssa in let w = order.nat_whole in
      omega (arith, e, w, at, few, most)

  no_sit : list_any (λ k. sit_block_address (layout image) (sit_bits (head image)) k == a) (numbers_below (layout image).sit_half) ≡ true → ⊥
  no_sit some =
      let found = found_below (λ k. sit_block_address (layout image) (sit_bits (head image)) k == a) (layout image).sit_half some in
      let at = eqb-true (sit_block_address (layout image) (sit_bits (head image)) found.0) a found.2 in
      let few = found.1 in
      let most = half_low (bit_msb (sit_bits (head image)) found.0) (layout image).sit_half in
      let order = in_order image h in
      let d = order.nat in let e = order.ssa in
      omega (arith, d, e, at, few, most)

  no_table : is_table_block image a ≡ false
  no_table = false_from_ne_true _ (λ table. ⊎_elim no_nat no_sit (or_cases _ _ table))

  no_main : is_main (layout image) a ≡ false
  no_main = false_from_ne_true _ (λ main.
      let high = leb-true (layout image).main a (and_parts (nat_le (layout image).main a) (nat_lt a ((layout image).main + 512 * (layout image).segments)) main).0 in
      let order = in_order image h in
      let few = order.summaries in
      let inside = low in
      omega (arith, high, few, inside))

  no_summary : is_needed_summary image a ≡ false
  no_summary = false_from_ne_true _ (λ needed.
      let test = λ (s : ℕ). ((layout image).ssa + s == a) && has_valid_block image s && not (is_log_segment (head image) s) in
      let found = found_below test (layout image).segments (and_parts (is_checked image) (list_any test (numbers_below (layout image).segments)) needed).1 in
      let parts = and_parts ((layout image).ssa + found.0 == a) (has_valid_block image found.0)
      (and_parts (((layout image).ssa + found.0 == a) && has_valid_block image found.0) (not (is_log_segment (head image) found.0)) found.2).0 in
      let at = eqb-true ((layout image).ssa + found.0) a parts.0 in
      let same : found.0 ≡ segment = omega (arith, at) in
      false≢true (sym none_valid ∙ ap (has_valid_block image) (sym same) ∙ parts.1))

  -- the summary block of a free segment
  pub free_spares : is_support image ((layout image).ssa + segment) ≡ false
  unfolding is_support
  free_spares =
      none_of (is_passing_copy image a) (is_pack_block image a) (is_table_block image a) (is_main (layout image) a) (is_node_place image a || is_slot_address image a || is_chain_block image a) (is_needed_summary image a)
      no_copy no_pack no_table no_main no_summary
