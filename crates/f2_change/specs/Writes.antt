-- The writes of a commit, and what they and a crash among them leave.
use Rattle.std.specs.Prelude.{◌≡◌, ◌⊎◌, ℕ, ◌+◌, ◌-◌, ◌*◌, ◌≤◌, ◌<◌, ◌==◌, true, List, [], ◌∷◌, ◌++◌, map, fold, slice_set, IsFalse}
use Rattle.std.specs.List.{list_any, range_with_len, All}
use Rattle.f2_bytes.specs.declared.layout.Layout.{Layout}
use Rattle.f2_bytes.specs.Bytes.{Block, Image, IsBlock, block_at}
use Rattle.f2_bytes.specs.Superblock.{IsInOrder}
use Rattle.f2_bytes.specs.Checkpoint.{checkpoint_ver, is_pack_valid}
use Rattle.f2_bytes.specs.Journal.{are_journals_bounded}
use Rattle.f2_bytes.specs.Laws.{AgreesOnSupport}
use Rattle.f2_bytes.specs.Support.{is_support}
use Rattle.f2_disk.specs.Memory.{zero_block}
use Rattle.f2_pack.specs.declared.writing.NewPack.{NewPack}
use Rattle.f2_pack.specs.Written.{written, IsNormal}
use Rattle.f2_view.specs.Mounted.{Mounted, layout_in}

-- What is ready to be committed: the layout of its image, the new pack, and the blocks that go before the pack's head,
-- with their addresses.
pub record Prepared : Type 0 where
  pub layout : Layout
  pub pack : NewPack
  pub blocks : List (ℕ × Block)

-- where the new pack's head stands
abbrev pub head_address : Prepared → ℕ
head_address r = r.layout.cp + 512 * r.pack.pack

-- The writes in order, each a block with its address: zeros over the head that the new pack replaces; the blocks and
-- the rest of the pack; and its head. After each of the three comes a sync.
abbrev pub clearing : Prepared → List (ℕ × Block)
clearing r = (head_address r, zero_block) ∷ []

unfoldable pub pack_body : Prepared → List (ℕ × Block)
pack_body r = map (λ j. (head_address r + j, written r.pack j)) (range_with_len 1 7)

abbrev pub filling : Prepared → List (ℕ × Block)
filling r = r.blocks ++ pack_body r

abbrev pub sealing : Prepared → List (ℕ × Block)
sealing r = (head_address r, written r.pack 0) ∷ []

abbrev pub writes : Prepared → List (ℕ × Block)
writes r = clearing r ++ filling r ++ sealing r

-- the image with blocks written to it in order
unfoldable pub with_writes : Image → List (ℕ × Block) → Image
with_writes image blocks = fold (λ (i : Image) (w : ℕ × Block). slice_set i w.0 w.1) image blocks

-- the image that a commit makes
abbrev pub committed : Prepared → Image → Image
committed r image = with_writes image (writes r)

-- What is known of it whatever the disk: the blocks lie behind the packs, and the pack is whole, in the one form that is
-- written.
pub record IsPrepared (r : Prepared) : Type 0 where
  pub in_order : IsInOrder r.layout
  pub number : r.pack.pack < 2
  pub normal : IsNormal r.pack.head
  pub valid : is_pack_valid r.layout (written r.pack) ≡ true
  pub bounded : are_journals_bounded (written r.pack) ≡ true
  pub blocks : All (λ w. (r.layout.sit ≤ w.0) × (w.0 < r.layout.blocks) × IsBlock w.1) r.blocks

-- it goes on from what this mount keeps: the pack is the other one, of a higher version
pub record Follows (m : Mounted) (r : Prepared) : Type 0 where
  pub layout : r.layout ≡ layout_in m
  pub number : r.pack.pack ≡ 1 - m.chosen.number
  pub version : checkpoint_ver m.chosen.head < checkpoint_ver r.pack.head

-- its blocks hold no support of the image
abbrev pub AvoidsSupport : Image → Prepared → Type 0
AvoidsSupport image r = All (λ w. IsFalse (is_support image w.0)) r.blocks

-- What a crash in the commit leaves, or a fault: no block that it does not write differs, and it is the old image, with
-- its support unchanged and its pack counting, or the new one. The superblock copies are never written to.
pub record OldOrNew (image : Image) (r : Prepared) (left : Image) : Type 0 where
  pub others : (address : ℕ) → IsFalse (list_any (λ w. w.0 == address) (writes r)) → block_at left address ≡ block_at image address
  pub copies : (n : ℕ) → n < 2 → block_at left n ≡ block_at image n
  pub either : AgreesOnSupport image left ⊎ (left ≡ committed r image)
