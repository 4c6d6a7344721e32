-- A mended image has the salvage as its tree, where its directories have the names of the salvage.
use Rattle.std.proofs.Common.{◌≡◌, ℕ, ◌-◌, ◌/◌, ◌^◌, Bool, true, false, ◌==◌, ◌&&◌, ◌||◌, not, cond, Some, None, refl, sym, ap, ◌∙◌}
use Rattle.std.specs.Prelude.{option_map, unwrap_or, is_some}
use Rattle.std.specs.Option.{option_map_or}
use Rattle.std.proofs.lemmas.Bool.{and_parts, eqb-true, false≢true}
use Rattle.f2_bytes.specs.Bytes.{Block, Image, block_at, bytes_at, has_bit}
use Rattle.f2_bytes.specs.Superblock.{layout, is_main}
use Rattle.f2_bytes.specs.Journal.{is_mountable}
use Rattle.f2_bytes.specs.Format.{new_directory}
use Rattle.f2_bytes.specs.Node.{mode, xattr_nid, type_of_mode, is_directory, is_device, is_inline, has_slots, inline_area, attribute_offset}
use Rattle.f2_bytes.specs.Object.{Piece, hole, reserved, stored, empty, inline, in_blocks, device, attributes_of, attribute_area_of, content_of}
use Rattle.f2_bytes.specs.RollForward.{node_block}
use Rattle.f2_bytes.specs.Tree.{main_block, read_node, tree_slot, piece_at, tree_names, tree_object, tree}
use Rattle.f2_bytes.specs.Check.{is_address}
use Rattle.f2_bytes.proofs.PackReads.{cond_same}
use Rattle.f2_bytes.proofs.TreeNodes.{read_node-zero}
use Rattle.f2_bytes.specs.SalvagedFiles.{root, is_file, is_directory_file, file_node, file_slot, is_owned, file_piece}
use Rattle.f2_bytes.specs.LostFiles.{is_made}
use Rattle.f2_bytes.specs.Salvage.{file_names, file_object, salvaged_tree, salvage}
use Rattle.f2_bytes.specs.RebuiltDirectories.{is_salvaged_file, is_rebuilt}
use Rattle.f2_bytes.specs.Mending.{mended_address}
use Rattle.f2_bytes.specs.FilePlaces.{FilePlaces, has_node, inode_at}
use Rattle.f2_bytes.specs.Mended.{KeepsInode, optional_node, attribute_bytes, IsMended}
use Rattle.f2_mend.proofs.MainRange.{main_address}
use Rattle.f2_mend.proofs.MendedReads.{file_block, directory_says, plain_not_rebuilt, same_layout, loads, same_files, has_old, has_made}
use Rattle.f2_mend.proofs.PlacedReads.{no_nid, read_placed, read_file}
use Rattle.f2_mend.proofs.PlacedSlots.{tree_slot_placed}

-- ---- what mode and flags say

inline_by : ℕ → ℕ → Bool
inline_by m f = (((m / 4096 == 8) || (m / 4096 == 10)) && has_bit f 1) || ((m / 4096 == 4) && has_bit f 2)

slots_by : ℕ → ℕ → Bool
slots_by m f = ((m / 4096 == 8) || (m / 4096 == 10) || (m / 4096 == 4)) && not (inline_by m f)

-- the content of a file that is no directory, where its inode is kept and its blocks read the same
content_kept : (b c : Block) (pieces new : ℕ → Piece) → KeepsInode b c → new ≡ pieces → content_of c new ≡ content_of b pieces
unfolding content_of slots_by inline_by
content_kept b c pieces new k same =
    let fields : content_of c new ≡ cond (is_directory b) empty (cond (is_inline b) (inline (inline_area c)) (cond (has_slots b) (in_blocks pieces) (cond (is_device b) (device (bytes_at c 360 8)) empty)))
    = λ i. cond (k.mode i / 4096 == 4) empty (cond (inline_by (k.mode i) (k.flags i)) (inline (inline_area c)) (cond (slots_by (k.mode i) (k.flags i)) (in_blocks (same i)) (cond ((k.mode i / 4096 == 2) || (k.mode i / 4096 == 6)) (device (bytes_at c 360 8)) empty))) in
    fields
    ∙ cond_same (is_directory b) (λ d. refl) (λ d.
    cond_same (is_inline b) (λ h. ap inline (k.content h)) (λ h.
    cond_same (has_slots b) (λ s. refl) (λ s. ap (λ n. cond (is_device b) (device n) empty) (k.device s))))

directory_empty : (b : Block) (pieces : ℕ → Piece) → is_directory b ≡ true → content_of b pieces ≡ empty
unfolding content_of
directory_empty b pieces d = rw d refl

module _ (image other : Image) (h : is_mountable image ≡ true) (m : IsMended image other) where
  abbrev p : FilePlaces
  p = m.places

  abbrev inode : ℕ → Block
  inode ino = inode_at m.places other ino

  -- ---- blocks

  no_block : (a : ℕ) → is_address a ≡ false → main_block other a ≡ None
  no_block a none = go (is_main (layout other) a) refl
    where
      go : (b : Bool) → is_main (layout other) a ≡ b → main_block other a ≡ None
      go false out = rw out refl
      go true main = absurd (false≢true (sym none ∙ main_address other (loads image other h m) a main))

  hole_at : (a : ℕ) → (a == 2 ^ 32 - 1) ≡ false → is_address a ≡ false → piece_at other a ≡ hole
  hole_at a other_value none = rw other_value (ap (λ o. option_map_or stored o hole) (no_block a none))

  -- a block that a file owns
  owned_main : (ino k : ℕ) → is_owned image ino k ≡ true → is_main (layout image) (file_slot image ino k) ≡ true
  unfolding is_owned
  owned_main ino k owned = (and_parts _ _ (and_parts _ _ owned).0).0

  piece_kept : (ino k : ℕ) → is_file image ino ≡ true → is_rebuilt image ino ≡ false → piece_at other (p.slot ino k) ≡ file_piece image ino k
  piece_kept ino k file kept = ap (piece_at other) (m.kept_slots ino k file kept) ∙ by_value (a == 2 ^ 32 - 1) refl
    where
      a : ℕ
      a = file_slot image ino k

      goal : Type 0
      goal = piece_at other (mended_address image ino k) ≡ file_piece image ino k

      by_value : (r : Bool) → (a == 2 ^ 32 - 1) ≡ r → goal
      by_value true r =
          let at : a ≡ 2 ^ 32 - 1 = eqb-true a (2 ^ 32 - 1) r in
          let none : is_address a ≡ false = ap is_address at in
          let first : mended_address image ino k ≡ a = rw none refl in
          let second : piece_at other a ≡ reserved = rw r refl in
          let third : file_piece image ino k ≡ reserved = rw r refl in
          ap (piece_at other) first ∙ second ∙ sym third
      by_value false r = by_owner (is_owned image ino k) refl
        where
          by_owner : (o : Bool) → is_owned image ino k ≡ o → goal
          by_owner true owned =
              let main : is_main (layout other) a ≡ true = ap (λ l. is_main l a) (same_layout image other h m) ∙ owned_main ino k owned in
              let here : is_address a ≡ true = main_address other (loads image other h m) a main in
              let first : mended_address image ino k ≡ a = rw (owned, here) refl in
              let second : piece_at other a ≡ stored (block_at image a) = rw (r, main) (ap stored (m.kept_blocks ino k file kept owned)) in
              let third : file_piece image ino k ≡ stored (block_at image a) = rw (r, owned) refl in
              ap (piece_at other) first ∙ second ∙ sym third
          by_owner false owned = by_address (is_address a) refl
            where
              third : file_piece image ino k ≡ hole
              third = rw (r, owned) refl

              by_address : (b : Bool) → is_address a ≡ b → goal
              by_address true here =
                  let first : mended_address image ino k ≡ 0 = rw (here, owned) refl in
                  ap (piece_at other) first ∙ hole_at 0 refl refl ∙ sym third
              by_address false none =
                  let first : mended_address image ino k ≡ a = rw none refl in
                  ap (piece_at other) first ∙ hole_at a r none ∙ sym third

  pieces_kept : (ino : ℕ) → is_file image ino ≡ true → is_rebuilt image ino ≡ false → (λ k. piece_at other (tree_slot other ino k)) ≡ file_piece image ino
  pieces_kept ino file kept = λ i k. (ap (piece_at other) (tree_slot_placed p other m.placed ino (has_old image other h m ino file) k) ∙ piece_kept ino k file kept) i

  -- ---- attribute nodes

  read_attributes : (ino : ℕ) → p.has_file ino ≡ true → read_node other (xattr_nid (inode ino)) ≡ optional_node p other ino attribute_offset
  read_attributes ino file = ap (read_node other) (m.placed.attribute_nids ino file) ∙ go (has_node p ino attribute_offset) refl
    where
      go : (b : Bool) → has_node p ino attribute_offset ≡ b → read_node other (p.nid ino attribute_offset) ≡ optional_node p other ino attribute_offset
      go true node = rw node (read_placed p other m.placed ino attribute_offset node)
      go false none = rw none (ap (read_node other) (no_nid p other m.placed ino attribute_offset none) ∙ read_node-zero other)

  -- ---- the inode of an old file

  record IsSameInode (b c : Block) : Type 0 where
    mode : mode c ≡ mode b
    attributes : attributes_of c ≡ attributes_of b
    attribute_area : attribute_area_of c ≡ attribute_area_of b

  old_inode : (ino : ℕ) (b : Block) → is_file image ino ≡ true → node_block image ino ≡ Some b → IsSameInode b (inode ino)
  old_inode ino b file is = go (is_rebuilt image ino) refl
    where
      go : (r : Bool) → is_rebuilt image ino ≡ r → IsSameInode b (inode ino)
      go true r = let k = m.rebuilt_inodes ino b file r is in record { mode = k.mode; attributes = k.attributes; attribute_area = k.attribute_area }
      go false r = let k = m.kept_inodes ino b file r is in record { mode = k.mode; attributes = k.attributes; attribute_area = k.attribute_area }

  old_content : (ino : ℕ) (b : Block) → is_file image ino ≡ true → node_block image ino ≡ Some b → content_of (inode ino) (λ k. piece_at other (tree_slot other ino k)) ≡ content_of b (file_piece image ino)
  old_content ino b file is = go (is_directory b) refl
    where
      go : (d : Bool) → is_directory b ≡ d → content_of (inode ino) (λ k. piece_at other (tree_slot other ino k)) ≡ content_of b (file_piece image ino)
      go true d =
          let same : is_directory (inode ino) ≡ true = ap (λ x. x / 4096 == 4) (old_inode ino b file is).mode ∙ d in
          directory_empty (inode ino) (λ k. piece_at other (tree_slot other ino k)) same ∙ sym (directory_empty b (file_piece image ino) d)
      go false d =
          let kept = plain_not_rebuilt image ino file (directory_says image ino b file is ∙ d) in
          content_kept b (inode ino) (file_piece image ino) (λ k. piece_at other (tree_slot other ino k)) (m.kept_inodes ino b file kept is) (pieces_kept ino file kept)

  -- ---- the tree

  module _ (same_names : (ino : ℕ) → is_salvaged_file image ino ≡ true → tree_names other ino (inode ino) ≡ file_names image ino) where
    old_object : (ino : ℕ) (b : Block) → is_file image ino ≡ true → is_salvaged_file image ino ≡ true → node_block image ino ≡ Some b → tree_object other ino (inode ino) ≡ file_object image ino b
    old_object ino b file kept is =
        let n = old_inode ino b file is in
        let node : attribute_bytes (read_node other (xattr_nid (inode ino))) ≡ attribute_bytes (file_node image ino attribute_offset)
        = ap attribute_bytes (read_attributes ino (has_old image other h m ino file)) ∙ m.attributes ino file in
        λ i. record {
          kind = unwrap_or (type_of_mode (n.mode i)) 0;
          attributes = n.attributes i;
          content = old_content ino b file is i;
          attribute_area = n.attribute_area i;
          attribute_node = node i;
          names = same_names ino kept i;
        }

    made_object : (ino : ℕ) → is_made image ino ≡ true → is_salvaged_file image ino ≡ true → tree_object other ino (inode ino) ≡ new_directory 0x41C0 0 (file_names image ino)
    unfolding attribute_area_of
    made_object ino made kept =
        let n = m.made_inodes ino made in
        let d : is_directory (inode ino) ≡ true = ap (λ x. x / 4096 == 4) n.mode in
        let content = directory_empty (inode ino) (λ k. piece_at other (tree_slot other ino k)) d in
        let area : attribute_area_of (inode ino) ≡ None = ap (λ f. cond (has_bit f 0) (Some (bytes_at (inode ino) 3852 200)) None) n.flags in
        let none : optional_node p other ino attribute_offset ≡ None = rw (m.made_attributes ino made) refl in
        let node : attribute_bytes (read_node other (xattr_nid (inode ino))) ≡ None = ap attribute_bytes (read_attributes ino (has_made image other h m ino made) ∙ none) in
        λ i. record {
          kind = unwrap_or (type_of_mode (n.mode i)) 0;
          attributes = n.attributes i;
          content = content i;
          attribute_area = area i;
          attribute_node = node i;
          names = same_names ino kept i;
        }

    tree_at : (ino : ℕ) → tree other ino ≡ salvaged_tree image ino
    unfolding tree
    tree_at ino = ap (λ b. cond b (option_map (tree_object other ino) (read_node other ino)) None) (same_files image other h m ino) ∙ by_file (is_file image ino) refl (is_made image ino) refl
      where
        read : is_salvaged_file image ino ≡ true → option_map (tree_object other ino) (read_node other ino) ≡ Some (tree_object other ino (inode ino))
        read kept = ap (option_map (tree_object other ino)) (read_file p other m.placed ino (m.files ino ∙ kept))

        by_file : (f : Bool) → is_file image ino ≡ f → (d : Bool) → is_made image ino ≡ d → cond (is_salvaged_file image ino) (option_map (tree_object other ino) (read_node other ino)) None ≡ salvaged_tree image ino
        by_file true f d e =
            let kept : is_salvaged_file image ino ≡ true = rw f refl in
            let t = file_block image ino f in
            let right : salvaged_tree image ino ≡ Some (file_object image ino t.0) = rw (f, t.1) refl in
            ap (λ b. cond b (option_map (tree_object other ino) (read_node other ino)) None) kept ∙ read kept ∙ ap Some (old_object ino t.0 f kept t.1) ∙ sym right
        by_file false f true e =
            let kept : is_salvaged_file image ino ≡ true = rw (f, e) refl in
            let right : salvaged_tree image ino ≡ Some (new_directory 0x41C0 0 (file_names image ino)) = rw (f, e) refl in
            ap (λ b. cond b (option_map (tree_object other ino) (read_node other ino)) None) kept ∙ read kept ∙ ap Some (made_object ino e kept) ∙ sym right
        by_file false f false e =
            let kept : is_salvaged_file image ino ≡ false = rw (f, e) refl in
            let right : salvaged_tree image ino ≡ None = rw (f, e) refl in
            ap (λ b. cond b (option_map (tree_object other ino) (read_node other ino)) None) kept ∙ sym right

    pub tree_mended : is_some (salvage image) ≡ true → salvage image ≡ Some (tree other)
    unfolding salvage
    tree_mended some = go (is_directory_file image root) refl some
      where
        go : (b : Bool) → is_directory_file image root ≡ b → is_some (cond (is_directory_file image root) (Some (salvaged_tree image)) None) ≡ true → cond (is_directory_file image root) (Some (salvaged_tree image)) None ≡ Some (tree other)
        go true r some = rw r (ap Some (λ i ino. sym (tree_at ino) i))
        go false r some =
            let no : false ≡ true = rw r at some in
            absurd (false≢true no)
