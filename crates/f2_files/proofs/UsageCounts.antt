-- How many blocks the files before use, and the comparison of the next one.
use Rattle.std.proofs.Common.{◌≡◌, ℕ, suc, ◌+◌, ◌^◌, ◌<◌, List, ◌++◌, true, false, get_or, length, Option, Some, None, sym, ap, subst, ◌∙◌, arith, length-append}
use Rattle.std.proofs.lemmas.List.{append-nil, get_or-map}
use Rattle.f2_bytes.specs.Bytes.{Block, Image, numbers_below}
use Rattle.f2_bytes.specs.Tree.{is_inode}
use Rattle.f2_bytes.specs.Check.{nids, inode_of, used_slots, inode_parts, same, of_value, defect_of, defects_at}
use Rattle.f2_defects.specs.Collected.{Collects, Compares}
use Rattle.f2_survey.specs.Parts.{part_in}
use Rattle.f2_survey.specs.Slots.{Slot, file_slots, slots_below}
use Rattle.f2_files.specs.Usage.{nodes_of, CountsNodes, UsageAfter, UsageInside}
use Rattle.f2_items.specs.Visits.{found_below, capped}
use Rattle.f2_bytes.specs.Node.{blocks}
use Rattle.f2_files.specs.declared.rule_9_blocks.Usage.{Usage}
use Rattle.f2_items.proofs.FileSlots.{inode-is, inode-none, inode-below, below-suc, slots_below-inode, slots_below-other, length-file_slots, used_slots-few, defects-one}
use Rattle.f2_items.proofs.GrownLists.{optional}
use Rattle.f2_survey.proofs.NumberLists.{length-numbers, get_or-numbers}

usage-defects : (image : Image) (ino : ℕ) → defects_at (part_in image 9 1) ino ≡ optional (defect_of 1 ino 0 (of_value (inode_of image ino) (λ b. same (blocks b) (nodes_of image ino + used_slots image ino))))
unfolding inode_parts
usage-defects image ino = defects-one 1 (nids image) (λ ino. of_value (inode_of image ino) (λ b. same (blocks b) (nodes_of image ino + used_slots image ino))) ino

usage-with : (image : Image) (ino : ℕ) (o : Option Block) → inode_of image ino ≡ o
    → defects_at (part_in image 9 1) ino ≡ optional (defect_of 1 ino 0 (of_value o (λ b. same (blocks b) (nodes_of image ino + used_slots image ino))))
usage-with image ino o is = usage-defects image ino ∙ ap (λ o. optional (defect_of 1 ino 0 (of_value o (λ b. same (blocks b) (nodes_of image ino + used_slots image ino))))) is

-- the number that is kept of a file's nodes
pub nodes-kept : (image : Image) (ino : ℕ) (counts : List ℕ) → CountsNodes image counts → is_inode image ino ≡ true → get_or counts ino 0 ≡ nodes_of image ino
unfolding CountsNodes
nodes-kept image ino counts of is =
    let below = inode-below image ino is in
    let long = length-numbers (nids image) in
    ap (λ l. get_or l ino 0) of
    ∙ get_or-map (nodes_of image) (numbers_below (nids image)) ino 0 0 (omega (arith, below, long))
    ∙ ap (nodes_of image) (get_or-numbers (nids image) ino 0 below)

pub usage-end : (image : Image) (ino : ℕ) (inode : Block) (old new : Usage) → inode_of image ino ≡ Some inode → UsageInside image ino (file_slots image ino) old
    → new.nodes.items ≡ old.nodes.items → new.defects.part ≡ old.defects.part
    → Compares old.defects new.defects ino 0 (same old.blocks (capped (old.in_file + get_or old.nodes.items ino 0)))
    → new.used ≡ capped (old.used + old.in_file) → get_or old.nodes.items ino 0 < 2 ^ 32 → UsageAfter image (suc ino) new
usage-end image ino inode old new is inside nodes part compared used small = record {
  nodes = subst (CountsNodes image) (sym nodes) inside.after.nodes;
  part = part ∙ inside.after.part;
  defects = subst (Collects new.defects) listed (compared (found_below image 9 1 ino) inside.after.defects);
  used =
      let before = inside.after.used in
      let more = ap length (slots_below-inode image ino (inode-is image ino inode is)) ∙ length-append (slots_below image ino) (file_slots image ino) in
      let here = inside.in_file in
      omega (arith, used, before, more, here);
}
  where
    in_file : old.in_file ≡ used_slots image ino
    in_file = let n = length-file_slots image ino in let few = used_slots-few image ino in let here = inside.in_file in omega (arith, here, n, few)

    wanted : capped (old.in_file + get_or old.nodes.items ino 0) ≡ nodes_of image ino + used_slots image ino
    wanted =
        let kept = nodes-kept image ino old.nodes.items inside.after.nodes (inode-is image ino inode is) in
        let few = used_slots-few image ino in
        omega (arith, in_file, kept, few, small)

    listed : found_below image 9 1 ino ++ optional (defect_of old.defects.part ino 0 (same old.blocks (capped (old.in_file + get_or old.nodes.items ino 0)))) ≡ found_below image 9 1 (suc ino)
    listed =
        (λ i. found_below image 9 1 ino ++ optional (defect_of (inside.after.part i) ino 0 (same (inside.blocks inode is i) (wanted i))))
        ∙ sym (below-suc (part_in image 9 1) ino ∙ ap (λ l. found_below image 9 1 ino ++ l) (usage-with image ino (Some inode) is))

-- a number that is no inode
pub usage-pass : (image : Image) (n : ℕ) (u : Usage) → is_inode image n ≡ false → UsageAfter image n u → UsageAfter image (suc n) u
usage-pass image n u is after = record {
  nodes = after.nodes;
  part = after.part;
  defects = subst (Collects u.defects)
      (sym (append-nil (found_below image 9 1 n)) ∙ ap (λ l. found_below image 9 1 n ++ l) (sym (usage-with image n None (inode-none image n is))) ∙ sym (below-suc (part_in image 9 1) n)) after.defects;
  used = after.used ∙ ap (λ (l : List Slot). capped (length l)) (sym (slots_below-other image n is));
}
