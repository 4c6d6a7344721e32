-- An emptied image finds room in the new layout.
use Rattle.std.proofs.Common.{◌≡◌, ℕ, ◌+◌, ◌*◌, ◌^◌, ◌<◌, ◌≤◌, Bool, true, false, ◌&&◌, nat_le, nat_lt, Option, Some, None, refl, sym, ap, ◌∙◌, ⊎_elim, arith}
use Rattle.std.specs.Prelude.{is_some, min}
use Rattle.std.proofs.lemmas.Bool.{and_parts, leb-true, ltb-true, le-leb, cases_lt, false≢true}
use Rattle.f2_bytes.specs.declared.layout.Layout.{Layout}
use Rattle.f2_bytes.specs.Bytes.{Image, numbers_below}
use Rattle.f2_bytes.specs.Superblock.{super_bytes, layout, block_count, segment_start, segment_of, place_of, copy_passes, segment_count_main, main_blkaddr}
use Rattle.f2_bytes.specs.Checkpoint.{head, log}
use Rattle.f2_bytes.specs.Defragment.{main_end}
use Rattle.f2_bytes.specs.Journal.{NatEntry}
use Rattle.f2_bytes.specs.NodeAddressTable.{nat, nid_limit}
use Rattle.f2_bytes.specs.SegmentTable.{is_block_valid, has_valid_block}
use Rattle.f2_bytes.specs.Check.{is_marked, is_checked}
use Rattle.f2_bytes.proofs.Below.{found_below}
use Rattle.f2_bytes.proofs.CheckedNodes.{nat-below}
use Rattle.f2_bytes.proofs.Finds.{none_passes}
use Rattle.f2_bytes.proofs.FormatFacts.{super_passes}
use Rattle.f2_bytes.proofs.SlotSupport.{readable_loads}
use Rattle.f2_bytes.specs.Resize.{aim_of, aimed_layout, aimed_nid_limit, aim, is_growth, emptied_start, emptied_end, nid_too_high}
use Rattle.f2_resize.specs.Relaid.{HasRoomIn}
use Rattle.f2_resize.specs.Emptied.{IsEmptied, EmptiedHasRoom}
use Rattle.f2_resize.proofs.AimFacts.{aim_moves_main, growth_keeps_segments}

place_segment : (l : Layout) (segment k : ℕ) → k < 512 → segment_of l (segment_start l segment + k) ≡ segment
place_segment l segment k low = omega (arith, low)

place_in : (l : Layout) (segment k : ℕ) → k < 512 → place_of l (segment_start l segment + k) ≡ k
place_in l segment k low = omega (arith, low)

-- a place of a segment lies between the starts of segments
place_high : (l : Layout) (segment k n : ℕ) → n ≤ segment → segment_start l n ≤ segment_start l segment + k
place_high l segment k n high = omega (arith, high)

place_low : (l : Layout) (segment k n : ℕ) → k < 512 → segment < n → segment_start l segment + k < segment_start l n
place_low l segment k n low below = omega (arith, low, below)

main_low : (l : Layout) (segment k : ℕ) → l.main ≤ segment_start l segment + k
main_low l segment k = omega arith

-- what the layout says of main, as the copy that counts does
same_segments : (image : Image) → (layout image).segments ≡ segment_count_main (super_bytes image)
unfolding layout
same_segments image = refl

same_main : (image : Image) → (layout image).main ≡ main_blkaddr (super_bytes image)
unfolding layout
same_main image = refl

least_end : (a b x : ℕ) → x < a → x < b → x < min a b
least_end a b x first second = omega (arith, first, second)

module _ (image : Image) (blocks : ℕ) (h : is_checked image ≡ true) (few : blocks ≤ 2 ^ 28) (e : IsEmptied image blocks) where
  passes : copy_passes (super_bytes image) ≡ true
  passes = super_passes image (and_parts _ _ (and_parts _ _ (and_parts _ _ (readable_loads image h)).0).0).0

  -- a valid block is none of the range
  not_emptied : (segment k : ℕ) → k < 512 → is_block_valid image segment k ≡ true → emptied_start image blocks ≤ segment_start (layout image) segment + k → segment_start (layout image) segment + k < emptied_end image blocks → ⊥
  not_emptied segment k low valid above below =
      let address = segment_start (layout image) segment + k in
      let marked : is_marked image address ≡ is_block_valid image segment k = λ i. is_block_valid image (place_segment (layout image) segment k low i) (place_in (layout image) segment k low i) in
      false≢true (sym (e.range address above below) ∙ marked ∙ valid)

  down_delta : is_growth image blocks ≡ false → (aim image blocks).delta ≡ 0
  unfolding aim_of
  down_delta shrinks = rw shrinks refl

  kept : (segment : ℕ) → segment < (layout image).segments → has_valid_block image segment ≡ true → ((aim image blocks).delta ≤ segment) × (segment < (aim image blocks).delta + (aim image blocks).main)
  kept segment low valid = go (is_growth image blocks) refl (found_below (is_block_valid image segment) 512 valid)
    where
      delta : ℕ
      delta = (aim_of (super_bytes image) blocks).delta

      main : ℕ
      main = (aim_of (super_bytes image) blocks).main

      go : (b : Bool) → is_growth image blocks ≡ b → (k : ℕ) × (k < 512) × (is_block_valid image segment k ≡ true) → (delta ≤ segment) × (segment < delta + main)
      go true grows found =
          let count = same_segments image in
          let held = ltb-true (block_count (super_bytes image)) blocks grows in
          let all = growth_keeps_segments (super_bytes image) blocks passes (omega (arith, held)) few in
          ⊎_elim
          (λ below. absurd (not_emptied segment found.0 found.1 found.2
          (rw grows (main_low (layout image) segment found.0))
          (rw grows (least_end (main_end (layout image)) (segment_start (layout image) delta) (segment_start (layout image) segment + found.0)
          (place_low (layout image) segment found.0 (layout image).segments found.1 low) (place_low (layout image) segment found.0 delta found.1 below)))))
          (λ above. (above, omega (arith, low, all, count)))
          (cases_lt segment delta)
      go false shrinks found =
          let none : delta ≡ 0 = down_delta shrinks in
          ⊎_elim
          (λ below. (omega (arith, none), omega (arith, none, below)))
          (λ above. absurd (not_emptied segment found.0 found.1 found.2
          (rw shrinks (place_high (layout image) segment found.0 main above))
          (rw shrinks (place_low (layout image) segment found.0 (layout image).segments found.1 low))))
          (cases_lt segment main)

  nid_low : (nid : ℕ) → is_some (nat image nid) ≡ true → nid < nid_limit (aimed_layout (super_bytes image) (aim image blocks))
  unfolding nid_too_high numbers_below
  nid_low nid some = go (nat image nid) refl
    where
      limit : ℕ
      limit = aimed_nid_limit (super_bytes image) (aim image blocks)

      test : ℕ → Bool
      test n = nat_le limit n && is_some (nat image n)

      below : (n : ℕ) → nat_le limit n && true ≡ false → n < limit
      below n past = ⊎_elim (λ low. low) (λ high. absurd (false≢true (sym past ∙ rw (le-leb limit n high) refl))) (cases_lt n limit)

      go : (o : Option NatEntry) → nat image nid ≡ o → nid < limit
      go None is =
          let no : false ≡ true = rw is at some in
          absurd (false≢true no)
      go (Some x) is =
          let fails : test nid ≡ false = none_passes test 0 (nid_limit (layout image)) e.nids nid (omega arith) (let low = nat-below image nid x is in omega (arith, low)) in
          below nid (sym (ap (λ b. nat_le limit nid && b) some) ∙ fails)

  has_room : HasRoomIn (aim image blocks).delta (aimed_layout (super_bytes image) (aim image blocks)) image
  has_room = record {
    main = aim_moves_main (super_bytes image) blocks passes few ∙ ap (λ m. m + 512 * (aim image blocks).delta) (sym (same_main image));
    segments = kept;
    logs = λ t low.
        let parts = and_parts (nat_le (aim image blocks).delta (log (head image) t).segment) (nat_lt (log (head image) t).segment ((aim image blocks).delta + (aim image blocks).main)) (e.logs t low) in
        (leb-true (aim image blocks).delta (log (head image) t).segment parts.0, ltb-true (log (head image) t).segment ((aim image blocks).delta + (aim image blocks).main) parts.1);
    nids = nid_low;
  }

-- the law
pub emptied_has_room : EmptiedHasRoom
emptied_has_room image blocks h few e = has_room image blocks h few e
