-- The tree of a checked image is its salvage.
use Rattle.std.proofs.Common.{◌≡◌, ℕ, Bool, true, false, cond, Some, None, refl, ap, ◌∙◌}
use Rattle.std.specs.Prelude.{option_map}
use Rattle.f2_bytes.specs.Bytes.{Block, Image, block_at}
use Rattle.f2_bytes.specs.Object.{object_of}
use Rattle.f2_bytes.specs.Tree.{read_node, is_inode, tree, tree_object}
use Rattle.f2_bytes.specs.SalvagedFiles.{is_directory_file}
use Rattle.f2_bytes.specs.Salvage.{file_object, salvaged_tree, salvage}
use Rattle.f2_bytes.specs.Check.{is_checked_body}
use Rattle.f2_bytes.proofs.CheckedNodes.{node_block-checked}
use Rattle.f2_salvage.proofs.CheckedInodes.{inode_block, is_file-checked, directory_file-checked, root_directory}
use Rattle.f2_salvage.proofs.CheckedOwners.{piece-checked}
use Rattle.f2_salvage.proofs.CheckedAttributes.{attribute_node-checked}
use Rattle.f2_salvage.proofs.CheckedNames.{directory_kind, makes_none, file_names-checked}
use Rattle.f2_salvage.specs.Laws.{CheckedIsSalvage}
use Rattle.f2_salvage.proofs.Places.{AreBytes, image-bytes}

module _ (image : Image) (h : is_checked_body image ≡ true) (bytes : (n : ℕ) → AreBytes (block_at image n)) where
  -- a file keeps all that it has
  pub object-checked : (ino : ℕ) (b : Block) → is_inode image ino ≡ true → read_node image ino ≡ Some b → file_object image ino b ≡ tree_object image ino b
  object-checked ino b inode is = λ i.
      object_of b (λ k. piece-checked image h ino k inode i) (attribute_node-checked image h ino b inode is i) (λ name target. file_names-checked image h bytes ino b inode is name target i)

  pub salvaged-checked : (ino : ℕ) → salvaged_tree image ino ≡ tree image ino
  unfolding tree
  salvaged-checked ino = go (is_inode image ino) refl
    where
      go : (i : Bool) → is_inode image ino ≡ i → salvaged_tree image ino ≡ cond (is_inode image ino) (option_map (tree_object image ino) (read_node image ino)) None
      go false i = rw (is_file-checked image h ino ∙ i, makes_none image h bytes, i) refl
      go true i =
          let node = inode_block image h ino i in
          rw (is_file-checked image h ino ∙ i, i, node_block-checked image h ino, node.1) (ap Some (object-checked ino node.0 i node.1))

  salvage-checked : salvage image ≡ Some (tree image)
  unfolding salvage
  salvage-checked =
      let root = root_directory image h in
      let dir : is_directory_file image 3 ≡ true = directory_file-checked image h 3 ∙ directory_kind image h bytes 3 root.0 root.1 root.2 ∙ root.3 in
      rw dir (ap Some (λ i ino. salvaged-checked ino i))

-- the law
pub checked_is_salvage : CheckedIsSalvage
checked_is_salvage image bytes h = salvage-checked image h (image-bytes image bytes)
