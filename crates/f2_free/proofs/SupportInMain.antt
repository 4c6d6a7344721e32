-- The support in the main area, and the segments without any.
use Rattle.std.proofs.Common.{◌≡◌, ℕ, ◌+◌, ◌*◌, ◌<◌, ◌≤◌, Bool, true, false, ◌&&◌, ◌||◌, ◌==◌, nat_le, nat_lt, not, cond, filter, refl, sym, ap, ◌∙◌, arith}
use Rattle.std.specs.List.{list_any}
use Rattle.std.proofs.lemmas.Bool.{and_parts, and_left, and_right, eqb-true, leb-true, lt-ltb, le-ltb, false_from_ne_true}
use Rattle.f2_bytes.specs.Bits.{bit_msb}
use Rattle.f2_bytes.specs.Bytes.{Image, block_at, numbers_below}
use Rattle.f2_bytes.specs.Superblock.{passes, layout, is_main, segment_start, IsInOrder}
use Rattle.f2_bytes.specs.Checkpoint.{pack_total_block_count, sit_bits, nat_bits, head, pack_number, is_log_segment}
use Rattle.f2_bytes.specs.NodeAddressTable.{nid_limit, nat_block_address}
use Rattle.f2_bytes.specs.SegmentTable.{sit_block_address, has_valid_block}
use Rattle.f2_bytes.specs.Check.{is_checked}
use Rattle.f2_bytes.specs.Support.{is_support, is_passing_copy, is_pack_block, is_table_block, is_node_place, is_slot_address, is_chain_block, is_needed_summary, is_free, free_segments}
use Rattle.f2_bytes.proofs.Below.{found_below}
use Rattle.f2_bytes.proofs.FrameBlocks.{main_at}
use Rattle.f2_free.specs.NodePlaces.{is_in_table, is_found_at, has_in_slot, some_in_table, is_used}
use Rattle.f2_free.specs.SegmentMarks.{MarkTable, is_marked, unmarked, has_block_with, HasMarks}
use Rattle.f2_free.proofs.NumbersBelow.{any-or, any-same, all-not, filter-same}

-- a block of main is in the support only as a node, in a slot, or in the chain
only_main : (a b c m n e : Bool) → a ≡ false → b ≡ false → c ≡ false → m ≡ true → e ≡ false → (a || b || c || (m && n) || e) ≡ n
only_main false false false true true false f g h i j = refl
only_main false false false true false false f g h i j = refl
only_main true b c m n e f g h i j = cc
only_main false true c m n e f g h i j = cc
only_main false false true m n e f g h i j = cc
only_main false false false false n e f g h i j = cc
only_main false false false true n true f g h i j = cc

module _ (image : Image) (order : IsInOrder (layout image)) (number : pack_number image < 2) (total : pack_total_block_count (head image) ≤ 512) where
  module _ (address : ℕ) (main : is_main (layout image) address ≡ true) where
    inside : (layout image).main ≤ address
    inside = leb-true (layout image).main address (and_parts (nat_le (layout image).main address) (nat_lt address ((layout image).main + 512 * (layout image).segments)) main).0

    no_copy : is_passing_copy image address ≡ false
    no_copy =
        and_left (nat_lt address 2) (passes (block_at image address))
        (le-ltb address 2 (let i = inside in let a = order.cp in let b = order.sit in let c = order.nat in let d = order.ssa in let e = order.main in omega (arith, i, a, b, c, d, e)))

    no_pack : is_pack_block image address ≡ false
    no_pack =
        and_right (nat_le ((layout image).cp + 512 * pack_number image) address) (nat_lt address ((layout image).cp + 512 * pack_number image + pack_total_block_count (head image)))
        (le-ltb address ((layout image).cp + 512 * pack_number image + pack_total_block_count (head image))
        (let i = inside in let b = order.sit in let c = order.nat in let d = order.ssa in let e = order.main in omega (arith, i, b, c, d, e, number, total)))

    within : (b : Bool) (half : ℕ) → cond b half 0 ≤ half
    within true half = omega arith
    within false half = omega arith

    no_sit : list_any (λ k. sit_block_address (layout image) (sit_bits (head image)) k == address) (numbers_below (layout image).sit_half) ≡ false
    no_sit = false_from_ne_true (list_any (λ k. sit_block_address (layout image) (sit_bits (head image)) k == address) (numbers_below (layout image).sit_half)) (λ some.
        let found = found_below (λ k. sit_block_address (layout image) (sit_bits (head image)) k == address) (layout image).sit_half some in
        let at = eqb-true (sit_block_address (layout image) (sit_bits (head image)) found.0) address found.2 in
        let few = found.1 in
        let most = within (bit_msb (sit_bits (head image)) found.0) (layout image).sit_half in
        let i = inside in let c = order.nat in let d = order.ssa in let e = order.main in
        absurd (omega (arith, i, c, d, e, at, few, most)))

    no_nat : list_any (λ k. nat_block_address (layout image) (nat_bits (head image)) k == address) (numbers_below (layout image).nat_half) ≡ false
    no_nat = false_from_ne_true (list_any (λ k. nat_block_address (layout image) (nat_bits (head image)) k == address) (numbers_below (layout image).nat_half)) (λ some.
        let found = found_below (λ k. nat_block_address (layout image) (nat_bits (head image)) k == address) (layout image).nat_half some in
        let at = eqb-true (nat_block_address (layout image) (nat_bits (head image)) found.0) address found.2 in
        let few = found.1 in
        let most = within (bit_msb (nat_bits (head image)) found.0) 512 in
        let i = inside in let d = order.ssa in let e = order.main in let w = order.nat_whole in
        absurd (omega (arith, i, d, e, w, at, few, most)))

    no_summary : is_needed_summary image address ≡ false
    no_summary =
        and_right (is_checked image) (list_any (λ segment. ((layout image).ssa + segment == address) && has_valid_block image segment && not (is_log_segment (head image) segment)) (numbers_below (layout image).segments))
        (false_from_ne_true (list_any (λ segment. ((layout image).ssa + segment == address) && has_valid_block image segment && not (is_log_segment (head image) segment)) (numbers_below (layout image).segments)) (λ some.
        let found = found_below (λ segment. ((layout image).ssa + segment == address) && has_valid_block image segment && not (is_log_segment (head image) segment)) (layout image).segments some in
        let first = and_parts ((layout image).ssa + found.0 == address) (has_valid_block image found.0)
        (and_parts (((layout image).ssa + found.0 == address) && has_valid_block image found.0) (not (is_log_segment (head image) found.0)) found.2).0 in
        let at = eqb-true ((layout image).ssa + found.0) address first.0 in
        let few = found.1 in
        let i = inside in let s = order.summaries in let e = order.main in
        absurd (omega (arith, i, s, e, at, few))))

    no_table : is_table_block image address ≡ false
    no_table = λ i. no_nat i || no_sit i

    regroup : (t f s c : Bool) → (t || f || s || c) ≡ (t || c || (f || s))
    regroup true f s c = refl
    regroup false true s true = refl
    regroup false true s false = refl
    regroup false false true true = refl
    regroup false false true false = refl
    regroup false false false true = refl
    regroup false false false false = refl

    pub support-is : is_support image address ≡ is_used image address
    unfolding is_support
    support-is =
        only_main (is_passing_copy image address) (is_pack_block image address) (is_table_block image address) (is_main (layout image) address)
        (is_node_place image address || is_slot_address image address || is_chain_block image address) (is_needed_summary image address)
        no_copy no_pack no_table main no_summary
        ∙ ap (λ b. b || is_slot_address image address || is_chain_block image address) (any-or (λ nid. is_in_table image nid address) (λ nid. is_found_at image nid address) (numbers_below (nid_limit (layout image))))
        ∙ regroup (some_in_table image address) (list_any (λ nid. is_found_at image nid address) (numbers_below (nid_limit (layout image)))) (is_slot_address image address) (is_chain_block image address)
        ∙ ap (λ b. some_in_table image address || is_chain_block image address || b) (sym (any-or (λ nid. is_found_at image nid address) (λ nid. has_in_slot image nid address) (numbers_below (nid_limit (layout image)))))

  -- a segment is free where it is not marked
  neither : (a b c : Bool) → a ≡ true → (a && not b && not c) ≡ not (b || c)
  neither true true c is = refl
  neither true false c is = refl
  neither false b c is = cc

  pub free-is : (segment : ℕ) → segment < (layout image).segments → is_free image segment ≡ not (is_log_segment (head image) segment || has_block_with (segment_start (layout image) segment) (is_used image))
  unfolding is_free has_block_with
  free-is segment low =
      ap (λ b. nat_lt segment (layout image).segments && not (is_log_segment (head image) segment) && b)
      (all-not (λ k. is_support image (segment_start (layout image) segment + k)) (numbers_below 512)
      ∙ ap not (any-same (λ k. is_support image (segment_start (layout image) segment + k)) (λ k. is_used image (segment_start (layout image) segment + k)) 512
      (λ k few. support-is (segment_start (layout image) segment + k) (main_at (layout image) segment k low few))))
      ∙ neither (nat_lt segment (layout image).segments) (is_log_segment (head image) segment) (list_any (λ k. is_used image (segment_start (layout image) segment + k)) (numbers_below 512))
      (lt-ltb segment (layout image).segments low)

  pub unmarked-free : (m : MarkTable) → HasMarks (layout image) (head image) (is_used image) m → unmarked m ≡ free_segments image
  unmarked-free m has =
      ap (λ n. filter (λ segment. not (is_marked m segment)) (numbers_below n)) has.count
      ∙ filter-same (λ segment. not (is_marked m segment)) (is_free image) (layout image).segments
      (λ segment low. ap not (has.marked segment low) ∙ sym (free-is segment low))
