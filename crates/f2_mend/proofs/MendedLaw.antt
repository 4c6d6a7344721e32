-- A mended image is checked, with the salvage as its tree.
use Rattle.std.proofs.Common.{◌≡◌, inl, inr, ℕ, zero, suc, ◌+◌, ◌<◌, [], ◌++◌, Bool, true, false, ◌&&◌, ◌||◌, not, filter, get_or, None, refl, sym, ap, ◌∙◌, arith}
use Rattle.std.specs.Prelude.{count_by, flat_map, is_none, is_some, Some}
use Rattle.std.proofs.lemmas.Bool.{and_from, and_parts, or_cases, not_from_true, false≢true}
use Rattle.f2_bytes.specs.Bytes.{Image}
use Rattle.f2_bytes.specs.Journal.{is_mountable}
use Rattle.f2_bytes.specs.Node.{links}
use Rattle.f2_bytes.specs.Tree.{tree, tree_items}
use Rattle.f2_bytes.specs.Object.{is_name}
use Rattle.f2_bytes.specs.Check.{nids, inode_of, links_wanted, part_defects, same, of_value, inode_parts, failing_rule, is_readable, is_rule_met, is_checked_body, defects}
use Rattle.f2_bytes.proofs.CheckedNodes.{no_part}
use Rattle.f2_bytes.proofs.Finds.{find-none}
use Rattle.f2_bytes.proofs.PartsHold.{same_holds, value_holds, one_clear, met_of}
use Rattle.f2_bytes.specs.SalvagedFiles.{root, is_directory_file}
use Rattle.f2_bytes.specs.LostFiles.{is_made}
use Rattle.f2_bytes.specs.RebuiltDirectories.{is_rebuilt, has_wrong_items, has_its_names}
use Rattle.f2_bytes.specs.Salvage.{salvage, names_in_directory}
use Rattle.f2_bytes.specs.Mending.{is_salvaged_directory}
use Rattle.f2_bytes.specs.Mended.{IsMended}
use Rattle.f2_mend.proofs.KeptItems.{items_kept}
use Rattle.f2_mend.proofs.KeptNames.{kept_names}
use Rattle.f2_mend.proofs.MendedItems.{mended_meets_directory_rule}
use Rattle.f2_mend.proofs.MendedNames.{HasNames, same_links, same_tree_names, mended_meets_link_rule}
use Rattle.f2_mend.proofs.MendedReads.{copied, loads, readable}
use Rattle.f2_mend.proofs.NamesTree.{names_form_tree}
use Rattle.f2_mend.proofs.MendedTree.{tree_mended}
use Rattle.f2_mend.proofs.PlacedBlocks.{placed_meets_address_rule, placed_meets_validity_rule, placed_meets_summary_rule}
use Rattle.f2_mend.proofs.PlacedCounts.{block_counts_clear, extents_clear, placed_meets_count_rule}
use Rattle.f2_mend.proofs.PlacedNodes.{placed_meets_node_rule, placed_meets_attribute_rule}
use Rattle.f2_mend.proofs.PlacedOrder.{placed_meets_checkpoint_rule, placed_meets_log_rule}
use Rattle.f2_mend.specs.Laws.{NamesFormTree, MendedIsSalvage}

-- an image that can be read and meets each rule but the first has a checked body
body_from : (image : Image) → is_readable image ≡ true → ((rule : ℕ) → rule < 11 → is_rule_met image (2 + rule) ≡ true) → is_checked_body image ≡ true
body_from image read met =
    let none : failing_rule image 2 ≡ None = find-none (λ rule. not (is_rule_met image rule)) 2 11 (λ k low. not_from_true (is_rule_met image (2 + k)) (met k low)) in
    and_from (is_readable image) (is_none (failing_rule image 2)) read (ap is_none none)

module _ (image other : Image) (h : is_mountable image ≡ true) (m : IsMended image other) (t : NamesFormTree image) (has : (d : ℕ) → is_salvaged_directory image d ≡ true → HasNames image other d) where
  inodes_clear : flat_map part_defects (inode_parts other) ≡ []
  unfolding inode_parts
  inodes_clear = λ i. first i ++ (second i ++ (third i ++ []))
    where
      first : part_defects (get_or (inode_parts other) 0 no_part) ≡ []
      first = block_counts_clear m.places other m.placed

      second : part_defects (get_or (inode_parts other) 1 no_part) ≡ []
      second =
          one_clear 2 (nids other) (λ ino. of_value (inode_of other ino) (λ b. same (links b) (links_wanted other ino b))) (λ ino low.
          value_holds (inode_of other ino) _ (λ b is. same_holds _ _ (same_links image other h m t has ino b is)))

      third : part_defects (get_or (inode_parts other) 2 no_part) ≡ []
      third = extents_clear m.places other m.placed

  mended_meets_inode_rule : is_rule_met other 9 ≡ true
  unfolding defects
  mended_meets_inode_rule = met_of (inode_parts other) inodes_clear

  -- each rule is met
  rules_met : (rule : ℕ) → rule < 11 → is_rule_met other (2 + rule) ≡ true
  rules_met zero low = placed_meets_checkpoint_rule m.places other m.placed
  rules_met (suc zero) low = placed_meets_node_rule m.places other m.placed
  rules_met (suc (suc zero)) low = placed_meets_address_rule m.places other m.placed
  rules_met (suc (suc (suc zero))) low = placed_meets_validity_rule m.places other m.placed (loads image other h m)
  rules_met (suc (suc (suc (suc zero)))) low = placed_meets_summary_rule m.places other m.placed (loads image other h m)
  rules_met (suc (suc (suc (suc (suc zero))))) low = placed_meets_count_rule m.places other m.placed
  rules_met (suc (suc (suc (suc (suc (suc zero)))))) low = placed_meets_log_rule m.places other m.placed
  rules_met (suc (suc (suc (suc (suc (suc (suc zero))))))) low = mended_meets_inode_rule
  rules_met (suc (suc (suc (suc (suc (suc (suc (suc zero)))))))) low = mended_meets_directory_rule image other h m t has
  rules_met (suc (suc (suc (suc (suc (suc (suc (suc (suc zero))))))))) low = mended_meets_link_rule image other h m t has
  rules_met (suc (suc (suc (suc (suc (suc (suc (suc (suc (suc zero)))))))))) low = placed_meets_attribute_rule m.places other m.placed
  rules_met (suc (suc (suc (suc (suc (suc (suc (suc (suc (suc (suc k))))))))))) low = absurd (omega (arith, low))

  pub checked_mended : is_checked_body other ≡ true
  checked_mended = body_from other (readable image other h m) rules_met

  pub law_from : is_some (salvage image) ≡ true → (is_checked_body other ≡ true) × (salvage image ≡ Some (tree other))
  law_from some = (checked_mended, tree_mended image other h m (same_tree_names image other h m t has) some)

-- each directory has its names
has_names : (image other : Image) → is_mountable image ≡ true → is_directory_file image root ≡ true → IsMended image other → (d : ℕ) → is_salvaged_directory image d ≡ true → HasNames image other d
unfolding is_rebuilt
has_names image other h rooted m d dir test = go (is_rebuilt image d) refl
  where
    go : (r : Bool) → is_rebuilt image d ≡ r → count_by (λ x. test x.name x.ino) (filter is_name (tree_items other d)) ≡ count_by (λ c. test c.name c.target) (names_in_directory image d)
    go true r = (m.rebuilt d r).same_names test
    go false r = elim (or_cases (is_directory_file image d) (is_made image d) dir) [
      | inl old ↦ ap (λ xs. count_by (λ x. test x.name x.ino) (filter is_name xs)) (items_kept image other h m d (and_parts _ _ old).0 r) ∙ kept_names image (copied image other h m) rooted d old r test
      | inr made ↦ absurd (false≢true (sym r ∙ ap (λ b. b || (is_directory_file image d && (has_wrong_items image d || not (has_its_names image d)))) made))
    ]

-- where there is a salvage there is a root directory
root_left : (image : Image) → is_some (salvage image) ≡ true → is_directory_file image root ≡ true
unfolding salvage
root_left image some = go (is_directory_file image root) refl
  where
    go : (b : Bool) → is_directory_file image root ≡ b → is_directory_file image root ≡ true
    go true e = e
    go false e =
        let no : false ≡ true = rw e at some in
        absurd (false≢true no)

-- the law
pub mended_is_salvage : MendedIsSalvage
mended_is_salvage image other h some m = law_from image other h m (names_form_tree image (copied image other h m) (root_left image some)) (has_names image other h (root_left image some) m) some
