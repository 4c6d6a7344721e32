-- The areas of a checked image.
use Rattle.std.proofs.Common.{◌≡◌, ℕ, ◌+◌, ◌*◌, ◌^◌, ◌<◌, ◌≤◌, true, nat_le, nat_lt, length, arith}
use Rattle.std.specs.Prelude.{is_some}
use Rattle.std.proofs.lemmas.Bool.{and_parts, leb-true, ltb-true}
use Rattle.f2_bytes.specs.Bytes.{Image}
use Rattle.f2_bytes.specs.Superblock.{super_copy, super_bytes, block_count, layout, is_main, IsInOrder}
use Rattle.f2_bytes.specs.Check.{is_checked}
use Rattle.f2_bytes.proofs.CopyFacts.{layout_in_order}
use Rattle.f2_bytes.proofs.FormatFacts.{super_passes}
use Rattle.f2_bytes.proofs.SlotSupport.{readable_loads}

module _ (image : Image) (h : is_checked image ≡ true) where
  copied : is_some (super_copy image) ≡ true
  copied = (and_parts _ _ (and_parts _ _ (and_parts _ _ (readable_loads image h)).0).0).0

  pub in_order : IsInOrder (layout image)
  unfolding layout
  in_order =
      layout_in_order (super_bytes image) (super_passes image copied) (leb-true (block_count (super_bytes image)) (2 ^ 28) (and_parts _ _ (and_parts _ _ (readable_loads image h)).0).1)

  blocks_inside : (layout image).blocks ≤ length image
  unfolding layout
  blocks_inside = leb-true (block_count (super_bytes image)) (length image) (and_parts _ _ (readable_loads image h)).1

  -- a block of main is one of the image
  pub main_inside : (a : ℕ) → is_main (layout image) a ≡ true → a < length image
  main_inside a main =
      let below = ltb-true a ((layout image).main + 512 * (layout image).segments) (and_parts (nat_le (layout image).main a) (nat_lt a ((layout image).main + 512 * (layout image).segments)) main).1 in
      let order = in_order in
      let inside = order.inside in
      let whole = blocks_inside in
      omega (arith, below, inside, whole)
