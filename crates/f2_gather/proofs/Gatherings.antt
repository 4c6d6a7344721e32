-- What was gathered of a checked image, from what was looked up.
use Rattle.std.proofs.Common.{◌≡◌, ℕ, ◌||◌, List, All, true, get_or, sym, ap, subst, ◌∙◌}
use Rattle.std.specs.Prelude.{flat_map, IsTrue}
use Rattle.std.specs.List.Sorted.{IsStrictlyIncreasing}
use Rattle.f2_bytes.specs.declared.layout.Layout.{Layout}
use Rattle.f2_bytes.specs.Bytes.{Image}
use Rattle.f2_bytes.specs.Check.{is_checked, is_marked}
use Rattle.f2_bytes.specs.Defragment.{is_among, placement, data_among, nodes_among}
use Rattle.f2_bytes.specs.NodeAddressTable.{nid_limit}
use Rattle.f2_bytes.specs.Superblock.{layout, is_main, IsInOrder}
use Rattle.f2_bytes.proofs.SlotSupport.{body_checked}
use Rattle.f2_view.specs.Mounted.{Mounted, layout_in, IsKept, IsMountOf}
use Rattle.f2_gather.specs.declared.gathering.MovedBlock.{MovedBlock}
use Rattle.f2_gather.specs.Gathering.{data_at, node_at, file_at, covering_at, addresses_of, holders_of, moved_block}
use Rattle.f2_gather.proofs.GatheredSteps.{layout_is}
use Rattle.f2_gather.proofs.MovedNodes.{Valid, blocks-data}
use Rattle.f2_gather.proofs.MovedSets.{nodes_move, addresses-moved, data_rises}

module _ (image : Image) (m : Mounted) (kept : IsKept m) (checked : is_checked image ≡ true) (of : IsMountOf image m) (addresses : List ℕ)
    (main : All (λ a. is_main (layout_in m) a ≡ true) addresses) (marked : All (λ a. IsTrue (is_marked image a)) addresses) where
  order : IsInOrder (layout image)
  order = subst IsInOrder (layout_is image m of) kept.in_order

  valid : All (Valid image) addresses
  valid k d low = record { main = ap (λ (l : Layout). is_main l (get_or addresses k d)) (sym (layout_is image m of)) ∙ main k d low; marked = marked k d low }

  pub data_is : (blocks : List MovedBlock) → blocks ≡ flat_map (data_at image) addresses → addresses_of blocks ≡ data_among (nid_limit (layout image)) (placement image) addresses
  data_is blocks is = ap addresses_of is ∙ addresses-moved image (body_checked image checked) order addresses valid

  pub nodes_are : (blocks : List MovedBlock) (found nodes : List ℕ) → blocks ≡ flat_map (data_at image) addresses → found ≡ flat_map (node_at image) addresses → IsStrictlyIncreasing nodes
      → ((n : ℕ) → is_among nodes n ≡ (is_among found n || is_among (flat_map (covering_at image (addresses_of blocks)) (flat_map (file_at image) (holders_of blocks))) n))
      → nodes ≡ nodes_among (nid_limit (layout image)) (placement image) addresses
  nodes_are blocks found nodes is at rises members =
      nodes_move image (body_checked image checked) order addresses valid nodes rises
      (λ n. members n ∙ λ i. is_among (at i) n || is_among (flat_map (covering_at image (addresses_of (is i))) (flat_map (file_at image) (holders_of (is i)))) n)

pub blocks_are : (image : Image) (addresses : List ℕ) (blocks : List MovedBlock) → blocks ≡ flat_map (data_at image) addresses → All (λ b. b ≡ moved_block image b.address) blocks
blocks_are image addresses blocks is = subst (λ (l : List MovedBlock). All (λ b. b ≡ moved_block image b.address) l) (sym is) (blocks-data image addresses)

pub blocks_rise : (image : Image) (addresses : List ℕ) (blocks : List MovedBlock) → IsStrictlyIncreasing addresses → blocks ≡ flat_map (data_at image) addresses → IsStrictlyIncreasing (addresses_of blocks)
blocks_rise image addresses blocks rises is = subst (λ (l : List MovedBlock). IsStrictlyIncreasing (addresses_of l)) (sym is) (data_rises image addresses rises)
