-- The nodes of an image that carries a batch of moves.
use Rattle.std.proofs.Common.{◌≡◌, ℕ, ◌<◌, List, Bool, true, false, length, All, Option, Some, None, refl, sym, ap, ◌∙◌, subst}
use Rattle.std.specs.Prelude.{option_map}
use Rattle.f2_bytes.specs.Bytes.{Block, Image, IsBlock, block_at}
use Rattle.f2_bytes.specs.Superblock.{layout, is_main}
use Rattle.f2_bytes.specs.Journal.{NatEntry}
use Rattle.f2_bytes.specs.NodeAddressTable.{nat, image_nat_entry}
use Rattle.f2_bytes.specs.Check.{is_checked}
use Rattle.f2_bytes.specs.Moved.{IsMovedNode}
use Rattle.f2_bytes.specs.Defragment.{is_among, put_at}
use Rattle.f2_bytes.proofs.CheckedUsed.{entry_in_main}
use Rattle.f2_pack.specs.declared.writing.NewPack.{NewPack}
use Rattle.f2_change.specs.declared.change.Change.{Change}
use Rattle.f2_change.specs.Carried.{Carries}
use Rattle.f2_commit.specs.Moves.{MovesBatch, AreTargets, moved_nodes, node_targets, new_address}
use Rattle.f2_commit.proofs.MoveAddresses.{entry_used}
use Rattle.f2_commit.proofs.MoveAmong.{put_there_some}
use Rattle.f2_commit.proofs.MoveBlocks.{kept_block, given_block}
use Rattle.f2_commit.proofs.MoveKept.{node_stays_same}
use Rattle.f2_commit.proofs.MoveLands.{lands-moved}
use Rattle.f2_commit.proofs.MoveLayout.{main_inside}
use Rattle.f2_commit.proofs.MoveMarked.{to_node, node_no_data, found_node}
use Rattle.f2_commit.proofs.MoveNodes.{moved_there}
use Rattle.f2_commit.proofs.MoveTable.{live_entry_is, node_stays}

module _ (image new : Image) (addresses targets : List ℕ) (c : Change) (p : NewPack) (h : is_checked image ≡ true)
    (mains : All (λ a. is_main (layout image) a ≡ true) addresses) (free : AreTargets image addresses targets) (m : MovesBatch image addresses targets c) (s : Carries image c p new)
    (bytes : (n : ℕ) → n < length image → IsBlock (block_at image n)) where
  abbrev to : ℕ → ℕ
  to = new_address image addresses targets

  -- a node that moves goes to its place with its new words, and another one stays as it is
  node_moved : (nid : ℕ) (e : NatEntry) → nat image nid ≡ Some e → IsMovedNode to (block_at image e.address) (block_at new (to e.address))
  node_moved nid e is = by_among (is_among (moved_nodes image addresses) nid) refl
    where
      by_place : is_among (moved_nodes image addresses) nid ≡ true → (o : Option ℕ) → put_at (layout image) (node_targets image addresses targets) (moved_nodes image addresses) nid ≡ o
          → IsMovedNode to (block_at image e.address) (block_at new (to e.address))
      by_place among None at = absurd (put_there_some (layout image) (node_targets image addresses targets) (moved_nodes image addresses) nid among at)
      by_place among (Some place) at =
          let t = m.node_blocks nid place at in
          let there : to e.address ≡ place = to_node image addresses targets e.address nid place (node_no_data image h addresses targets mains nid e is) (found_node image h nid e is) at in
          let main : is_main (layout image) place ≡ true = sym (ap (is_main (layout image)) there) ∙ lands-moved image h addresses mains targets free e.address (entry_used image h nid e is) in
          let block : block_at new (to e.address) ≡ t.0 = ap (block_at new) there ∙ given_block image new addresses targets c p h mains free m s place t.0 main t.1 in
          subst (λ x. IsMovedNode to (block_at image x.address) (block_at new (to e.address))) (live_entry_is image nid e is).0
          (subst (λ y. IsMovedNode to (block_at image (image_nat_entry image nid).address) y) (sym block) t.2)

      by_among : (b : Bool) → is_among (moved_nodes image addresses) nid ≡ b → IsMovedNode to (block_at image e.address) (block_at new (to e.address))
      by_among true among = by_place among (put_at (layout image) (node_targets image addresses targets) (moved_nodes image addresses) nid) refl
      by_among false other =
          let same : to e.address ≡ e.address = node_stays image new addresses targets c p h mains free m s (moved_there image h addresses mains) nid e is other in
          let block : block_at new (to e.address) ≡ block_at image e.address = ap (block_at new) same ∙ kept_block image new addresses targets c p h mains free m s e.address (entry_used image h nid e is) in
          subst (λ y. IsMovedNode to (block_at image e.address) y) (sym block)
          (node_stays_same image h addresses targets mains nid e (bytes e.address (main_inside image h e.address (entry_in_main image h nid e is))) is other)

  pub nodes-moved : (nid : ℕ) (b : Block) (address : ℕ) → option_map (λ e. e.address) (nat image nid) ≡ Some address → block_at image address ≡ b → IsMovedNode to b (block_at new (to address))
  nodes-moved nid b address at is = subst (λ x. IsMovedNode to x (block_at new (to address))) is (by_entry (nat image nid) refl at)
    where
      by_entry : (o : Option NatEntry) → nat image nid ≡ o → option_map (λ (e : NatEntry). e.address) o ≡ Some address → IsMovedNode to (block_at image address) (block_at new (to address))
      by_entry None there none = absurd (cc none)
      by_entry (Some e) there some =
          let same : e.address ≡ address = ap (λ o. elim o [ Some x ↦ x | None ↦ e.address ]) some in
          subst (λ a. IsMovedNode to (block_at image a) (block_at new (to a))) same (node_moved nid e there)
