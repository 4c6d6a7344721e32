-- On a checked image the files are the inodes of the tree, and the root is a directory.
use Rattle.std.proofs.Common.{◌≡◌, ℕ, ◌+◌, ◌-◌, ◌*◌, ◌/◌, ◌^◌, ◌<◌, Bool, true, false, not, ◌==◌, ◌&&◌, cond, Option, Some, None, refl, sym, ap, ◌∙◌, arith}
use Rattle.std.specs.Prelude.{is_none, is_some, option_and_then}
use Rattle.std.specs.Option.{option_map_or}
use Rattle.std.proofs.lemmas.Bool.{and_parts, and_from, eqb-true, eq-eqb, not-false, ltb-true, leb-true, false≢true, false_from_ne_true}
use Rattle.f2_bytes.specs.Bytes.{Block, Image, block_at}
use Rattle.f2_bytes.specs.Superblock.{has_joined_areas, copy_passes, super_bytes, layout, is_main, block_count, segment_count_nat, segment_count_sit, segment_count_ckpt, segment_count_ssa, segment_count_main, cp_blkaddr, sit_blkaddr, nat_blkaddr, ssa_blkaddr, main_blkaddr, is_loadable}
use Rattle.f2_bytes.specs.NodeAddressTable.{nid_limit, nat}
use Rattle.f2_bytes.specs.SalvagedFiles.{is_orphan, is_file, is_directory_file}
use Rattle.f2_bytes.specs.Checkpoint.{orphan_count}
use Rattle.f2_bytes.specs.Journal.{NatEntry}
use Rattle.f2_bytes.specs.Node.{footer_ino, node_offset, has_type, is_directory, mode}
use Rattle.f2_bytes.specs.RollForward.{node_block}
use Rattle.f2_bytes.specs.Tree.{read_node, is_inode}
use Rattle.f2_bytes.specs.Check.{checkpoint_parts, node_parts, is_checked_body, defects, inode_of, directory_of}
use Rattle.f2_bytes.proofs.CheckLaws.{none_fails}
use Rattle.f2_bytes.proofs.CheckedChain.{rule_met, part_clear}
use Rattle.f2_bytes.proofs.CheckedNodes.{no_part, node_part_clear, nat-below, read_node-checked, node_block-checked, entry_ino}
use Rattle.f2_bytes.proofs.CheckedPlaces.{inode_at_zero}
use Rattle.f2_bytes.proofs.Counts.{counted}
use Rattle.f2_salvage.proofs.NamedNodes.{read_node-none}
use Rattle.f2_salvage.proofs.Sizes.{nids-range}
use Rattle.f2_salvage.proofs.ListFacts.{some_injective}
use Rattle.f2_bytes.proofs.FormatFacts.{super_passes}

module _ (image : Image) (h : is_checked_body image ≡ true) where
  loadable : is_loadable image ≡ true
  loadable = (and_parts _ _ (and_parts _ _ (and_parts _ _ h).0).0).0

  -- the copy that counts passes
  counted_passes : copy_passes (super_bytes image) ≡ true
  counted_passes = super_passes image (and_parts _ _ (and_parts _ _ (and_parts _ _ loadable).0).0).0

  pub nid_limit-range : (3 < nid_limit (layout image)) × (nid_limit (layout image) < 2 ^ 32)
  nid_limit-range = let range = nids-range image (and_parts _ _ (and_parts _ _ (and_parts _ _ loadable).0).0).0 in (range.0, omega (arith, range.1))

  -- a main address is none that stands for a hole or a reserved block
  pub main_range : (address : ℕ) → is_main (layout image) address ≡ true → (0 < address) × (address < 2 ^ 32 - 1)
  unfolding layout copy_passes has_joined_areas
  main_range address main =
      let b = super_bytes image in
      let low = leb-true (main_blkaddr b) address (and_parts _ _ main).0 in
      let high = ltb-true address (main_blkaddr b + 512 * segment_count_main b) (and_parts _ _ main).1 in
      let p1 = and_parts _ _ (and_parts _ _ counted_passes).0 in
      let a7 = and_parts _ _ (and_parts _ _ p1.0).1 in
      let a6 = and_parts _ _ a7.0 in
      let a5 = and_parts _ _ a6.0 in
      let a4 = and_parts _ _ a5.0 in
      let a3 = and_parts _ _ a4.0 in
      let a2 = and_parts _ _ a3.0 in
      let c = leb-true 2 (cp_blkaddr b) a2.1 in
      let s = eqb-true (sit_blkaddr b) (cp_blkaddr b + 512 * segment_count_ckpt b) a3.1 in
      let n = eqb-true (nat_blkaddr b) (sit_blkaddr b + 512 * segment_count_sit b) a4.1 in
      let u = eqb-true (ssa_blkaddr b) (nat_blkaddr b + 512 * segment_count_nat b) a5.1 in
      let m = eqb-true (main_blkaddr b) (ssa_blkaddr b + 512 * segment_count_ssa b) a6.1 in
      let e = leb-true (main_blkaddr b + 512 * segment_count_main b) (block_count b) a7.1 in
      let t = leb-true (block_count b) (2 ^ 28) (and_parts _ _ (and_parts _ _ loadable).0).1 in
      (omega (arith, low, high, c, s, n, u, m, e, t), omega (arith, low, high, c, s, n, u, m, e, t))

  -- there is no orphan
  pub no_orphan : (ino : ℕ) → ino < 2 ^ 32 → is_orphan image ino ≡ false
  unfolding defects checkpoint_parts orphan_count
  no_orphan ino small =
      let clear = part_clear (checkpoint_parts image) (rule_met image h 2 (omega arith) (omega arith)) 0 no_part (omega arith) in
      let none : orphan_count image ≡ 0 = eqb-true (orphan_count image) 0 (not-false _ (none_fails _ clear 0 0 (omega arith) (omega arith)
      (record { found = orphan_count image; wanted = 0; fails = not (orphan_count image == 0) }) refl)) in
      false_from_ne_true (is_orphan image ino) (λ orphan.
      let some = counted (is_orphan image) (2 ^ 32) ino small orphan in
      absurd (omega (arith, none, some)))

  -- what it says that a nid is an inode
  pub inode_says : (ino : ℕ) → is_inode image ino ≡ true → (e : NatEntry) × (nat image ino ≡ Some e) × (e.ino ≡ ino)
  unfolding is_inode
  inode_says ino inode = go (nat image ino) refl
    where
      go : (o : Option NatEntry) → nat image ino ≡ o → (e : NatEntry) × (nat image ino ≡ Some e) × (e.ino ≡ ino)
      go None e =
          let no : false ≡ true = rw e at inode in
          absurd (false≢true no)
      go (Some entry) e =
          let own : (entry.ino == ino) ≡ true = rw e at inode in
          (entry, e, eqb-true entry.ino ino own)

  pub inode_below : (ino : ℕ) → is_inode image ino ≡ true → ino < nid_limit (layout image)
  inode_below ino inode = let says = inode_says ino inode in nat-below image ino says.0 says.1

  -- its block
  pub inode_block : (ino : ℕ) → is_inode image ino ≡ true → (b : Block) × (read_node image ino ≡ Some b)
  inode_block ino inode = let says = inode_says ino inode in (block_at image says.0.address, read_node-checked image h ino says.0 says.1)

  -- the root is a directory
  pub root_directory : (b : Block) × (is_inode image 3 ≡ true) × (read_node image 3 ≡ Some b) × (is_directory b ≡ true)
  unfolding node_parts
  root_directory =
      let some : is_none (directory_of image 3) ≡ false = none_fails _ (node_part_clear image h 4 (omega arith)) 3 0 (nid_limit-range.0) (omega arith)
      (record { found = option_map_or mode (inode_of image 3) 0; wanted = 0x4000; fails = is_none (directory_of image 3) }) refl in
      by_inode (is_inode image 3) refl some
    where
      by_inode : (i : Bool) → is_inode image 3 ≡ i → is_none (directory_of image 3) ≡ false → (b : Block) × (is_inode image 3 ≡ true) × (read_node image 3 ≡ Some b) × (is_directory b ≡ true)
      by_inode false i some =
          let no : true ≡ false = rw i at some in
          absurd (false≢true (sym no))
      by_inode true i some = by_block (read_node image 3) refl
        where
          by_block : (o : Option Block) → read_node image 3 ≡ o → (b : Block) × (is_inode image 3 ≡ true) × (read_node image 3 ≡ Some b) × (is_directory b ≡ true)
          by_block None r =
              let no : true ≡ false = rw (i, r) at some in
              absurd (false≢true (sym no))
          by_block (Some b) r = by_kind (is_directory b) refl
            where
              by_kind : (d : Bool) → is_directory b ≡ d → (b : Block) × (is_inode image 3 ≡ true) × (read_node image 3 ≡ Some b) × (is_directory b ≡ true)
              by_kind true d = (b, i, r, d)
              by_kind false d =
                  let no : true ≡ false = rw (i, r, d) at some in
                  absurd (false≢true (sym no))

  directory_type : (b : Block) → is_directory b ≡ true → has_type b ≡ true
  directory_type b d = rw (eqb-true (mode b / 4096) 4 d) refl

  -- an inode has a known type
  pub inode_type : (ino : ℕ) (b : Block) → is_inode image ino ≡ true → read_node image ino ≡ Some b → has_type b ≡ true
  unfolding node_parts
  inode_type ino b inode is = go (ino == 3) refl
    where
      go : (r : Bool) → (ino == 3) ≡ r → has_type b ≡ true
      go true r =
          let root = root_directory in
          let same : b ≡ root.0 = some_injective b root.0 (sym is ∙ ap (read_node image) (eqb-true ino 3 r) ∙ root.2) in
          directory_type b (ap is_directory same ∙ root.3)
      go false r =
          not-false _ (none_fails _ (node_part_clear image h 4 (omega arith)) ino 0 (inode_below ino inode) (omega arith)
          (record { found = mode b; wanted = 0; fails = not (has_type b) }) (rw (r, inode, is) refl))

  pub is_inode-entry : (nid : ℕ) (e : NatEntry) → nat image nid ≡ Some e → is_inode image nid ≡ (e.ino == nid)
  unfolding is_inode
  is_inode-entry nid e is = rw is refl

  -- the files are the inodes
  pub is_file-checked : (ino : ℕ) → is_file image ino ≡ is_inode image ino
  unfolding is_file
  is_file-checked ino = go (is_inode image ino) refl
    where
      go : (i : Bool) → is_inode image ino ≡ i → is_file image ino ≡ i
      go true inode =
          let says = inode_says ino inode in
          let b = block_at image says.0.address in
          let is = read_node-checked image h ino says.0 says.1 in
          let own : footer_ino b ≡ ino = eqb-true (footer_ino b) says.0.ino (entry_ino image h ino says.0 says.1) ∙ says.2 in
          let small = nid_limit-range.1 in
          let below = inode_below ino inode in
          rw (node_block-checked image h ino, is)
          (and_from _ _
          (and_from _ _ (and_from _ _ (eq-eqb (footer_ino b) ino own) (eq-eqb (node_offset b) 0 (inode_at_zero image h ino says.0 says.1 inode))) (inode_type ino b inode is))
          (ap not (no_orphan ino (omega (arith, below, small)))))
      go false other = false_from_ne_true (is_file image ino) (λ file. by_entry (nat image ino) refl file)
        where
          by_entry : (o : Option NatEntry) → nat image ino ≡ o → is_file image ino ≡ true → ⊥
          by_entry None e file =
              let block : node_block image ino ≡ None = node_block-checked image h ino ∙ read_node-none image ino e in
              let no : false ≡ true = rw block at file in
              false≢true no
          by_entry (Some entry) e file =
              let b = block_at image entry.address in
              let block : node_block image ino ≡ Some b = node_block-checked image h ino ∙ read_node-checked image h ino entry e in
              let parts : (((footer_ino b == ino) && (node_offset b == 0) && has_type b) && not (is_orphan image ino)) ≡ true = rw block at file in
              let own : footer_ino b ≡ ino = eqb-true (footer_ino b) ino (and_parts _ _ (and_parts _ _ (and_parts _ _ parts).0).0).0 in
              let same : entry.ino ≡ ino = sym (eqb-true (footer_ino b) entry.ino (entry_ino image h ino entry e)) ∙ own in
              let no : (entry.ino == ino) ≡ false = sym (is_inode-entry ino entry e) ∙ other in
              false≢true (sym no ∙ eq-eqb entry.ino ino same)

  -- the directories are those of the tree
  pub directory_file-checked : (ino : ℕ) → is_directory_file image ino ≡ is_some (directory_of image ino)
  directory_file-checked ino = rw (is_file-checked ino, node_block-checked image h ino) (go (is_inode image ino) (read_node image ino))
    where
      go : (i : Bool) (o : Option Block) → (i && option_map_or is_directory o false) ≡ is_some (option_and_then (λ b. cond (is_directory b) (Some b) None) (cond i o None))
      go false o = refl
      go true None = refl
      go true (Some b) = by_kind (is_directory b)
        where
          by_kind : (d : Bool) → d ≡ is_some (cond d (Some b) None)
          by_kind true = refl
          by_kind false = refl
