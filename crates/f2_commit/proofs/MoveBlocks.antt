-- The blocks at their new places.
use Rattle.std.proofs.Common.{◌≡◌, ℕ, ◌<◌, ◌≤◌, ◌⊎◌, inl, inr, List, true, false, ◌||◌, All, Option, Some, None, refl, sym, ap, ◌∙◌, subst}
use Rattle.std.specs.Prelude.{unwrap_or}
use Rattle.std.specs.Option.{option_map_or}
use Rattle.std.proofs.lemmas.Bool.{and_parts, and_from, or_left, cases_lt, false_from_ne_true, false≢true}
use Rattle.f2_bytes.specs.Bytes.{Image, Block, block_at}
use Rattle.f2_bytes.specs.Superblock.{layout, is_main}
use Rattle.f2_bytes.specs.Node.{most_blocks}
use Rattle.f2_bytes.specs.Tree.{tree_slot, is_inode}
use Rattle.f2_bytes.specs.Check.{is_checked, is_data, is_node, is_address, nid_with}
use Rattle.f2_bytes.specs.Moved.{is_used}
use Rattle.f2_bytes.specs.Defragment.{put_at}
use Rattle.f2_bytes.proofs.CheckedUsed.{entry_node, slot_main, slot_data}
use Rattle.f2_bytes.proofs.MovedSlots.{tree_slot-past}
use Rattle.f2_pack.specs.declared.writing.NewPack.{NewPack}
use Rattle.f2_change.specs.declared.change.Change.{Change}
use Rattle.f2_change.specs.Change.{given}
use Rattle.f2_change.specs.Carried.{Carries}
use Rattle.f2_commit.specs.Moves.{MovesBatch, AreTargets, moved_data, moved_nodes, node_targets, new_address, is_taken}
use Rattle.f2_commit.proofs.MoveAddresses.{nid_with-entry, used_support, data_no_node}
use Rattle.f2_commit.proofs.MoveLands.{lands-moved}
use Rattle.f2_commit.proofs.MoveMarks.{support_not_free, taken_free}

-- ---- the new address, case by case

module _ (image : Image) (addresses targets : List ℕ) (a : ℕ) where
  by_nid : ℕ → ℕ
  by_nid nid = unwrap_or (put_at (layout image) (node_targets image addresses targets) (moved_nodes image addresses) nid) a

  otherwise : ℕ
  otherwise = option_map_or by_nid (nid_with image a) a

  pub to_data : (place : ℕ) → put_at (layout image) targets (moved_data image addresses) a ≡ Some place → new_address image addresses targets a ≡ place
  unfolding new_address otherwise by_nid
  to_data place at = ap (λ o. unwrap_or o otherwise) at

  pub to_self : put_at (layout image) targets (moved_data image addresses) a ≡ None → nid_with image a ≡ None → new_address image addresses targets a ≡ a
  unfolding new_address otherwise by_nid
  to_self none no_node = ap (λ o. unwrap_or o otherwise) none ∙ ap (λ o. option_map_or by_nid o a) no_node

module _ (image new : Image) (addresses targets : List ℕ) (c : Change) (p : NewPack) (h : is_checked image ≡ true) (mains : All (λ a. is_main (layout image) a ≡ true) addresses) (free : AreTargets image addresses targets) (m : MovesBatch image addresses targets c) (s : Carries image c p new) where
  abbrev to : ℕ → ℕ
  to = new_address image addresses targets

  -- a used block that stays is as it was
  pub kept_block : (a : ℕ) → is_used image a ≡ true → block_at new a ≡ block_at image a
  kept_block a used =
      let main = (and_parts (is_main (layout image) a) (is_data image a || is_node image a) used).0 in
      let untaken : is_taken image addresses targets a ≡ false = false_from_ne_true _ (λ taken.
      false≢true (sym (support_not_free image a main (used_support image h a used)) ∙ taken_free image new addresses targets c p h mains free m s a taken)) in
      s.main_blocks a main ∙ ap (λ o. unwrap_or o (block_at image a)) (m.no_others a untaken)

  -- a block that the change gives
  pub given_block : (place : ℕ) (b : Block) → is_main (layout image) place ≡ true → given c.blocks.items place ≡ Some b → block_at new place ≡ b
  given_block place b main there = s.main_blocks place main ∙ ap (λ o. unwrap_or o (block_at image place)) there

  pub data_block : (a : ℕ) → is_main (layout image) a ≡ true → is_data image a ≡ true → block_at new (to a) ≡ block_at image a
  data_block a main data_there = by_put (put_at (layout image) targets (moved_data image addresses) a) refl
    where
      used : is_used image a ≡ true
      used = and_from _ _ main (or_left _ _ data_there)

      no_node : (o : Option ℕ) → nid_with image a ≡ o → o ≡ None
      no_node None found = refl
      no_node (Some nid) found =
          let entry = nid_with-entry image a nid found in
          absurd (data_no_node image h a main data_there (subst (λ x. is_node image x ≡ true) entry.2 (entry_node image h nid entry.0 entry.1)))

      by_put : (o : Option ℕ) → put_at (layout image) targets (moved_data image addresses) a ≡ o → block_at new (to a) ≡ block_at image a
      by_put None at = ap (block_at new) (to_self image addresses targets a at (no_node (nid_with image a) refl)) ∙ kept_block a used
      by_put (Some place) at =
          let there = to_data image addresses targets a place at in
          ap (block_at new) there
          ∙ given_block place (block_at image a) (sym (ap (is_main (layout image)) there) ∙ lands-moved image h addresses mains targets free a used) (m.data_blocks a place at)

  -- the blocks of files
  pub files-moved : (ino k : ℕ) → is_inode image ino ≡ true → is_address (tree_slot image ino k) ≡ true → block_at new (to (tree_slot image ino k)) ≡ block_at image (tree_slot image ino k)
  files-moved ino k inode address = by_limit (cases_lt k most_blocks)
    where
      by_limit : (k < most_blocks) ⊎ (most_blocks ≤ k) → block_at new (to (tree_slot image ino k)) ≡ block_at image (tree_slot image ino k)
      by_limit (inl within) = data_block (tree_slot image ino k) (slot_main image h ino k inode within address) (slot_data image h ino k inode within)
      by_limit (inr past) =
          let no : false ≡ true = sym (ap is_address (tree_slot-past image ino k past)) ∙ address in
          absurd (false≢true no)
