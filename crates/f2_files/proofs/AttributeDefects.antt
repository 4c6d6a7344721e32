-- The comparison of the attribute node that an inode names.
use Rattle.std.proofs.Common.{◌≡◌, ℕ, suc, [], ◌++◌, true, false, not, ◌==◌, Option, Some, None, refl, sym, ap, subst, ◌∙◌}
use Rattle.std.proofs.lemmas.Bool.{eq-eqb, ne_eqb, not_from_true, not_from_false}
use Rattle.std.proofs.lemmas.List.{append-nil}
use Rattle.f2_bytes.specs.Bytes.{Block, Image}
use Rattle.f2_bytes.specs.Node.{xattr_nid}
use Rattle.f2_bytes.specs.Tree.{is_inode}
use Rattle.f2_bytes.specs.Check.{Comparison, nids, inode_of, offset_of_node, attribute_parts, same, of_value, where_true, defect_of, defects_at, part_defects}
use Rattle.f2_defects.specs.Collected.{Collection, Collects, Compares}
use Rattle.f2_files.specs.Kept.{HasAttributes}
use Rattle.f2_survey.specs.Parts.{part_in}
use Rattle.f2_items.specs.Visits.{found_below}
use Rattle.f2_bytes.specs.Node.{attribute_offset}
use Rattle.f2_items.proofs.FileSlots.{below-suc, defects-one, inode-none}
use Rattle.f2_items.proofs.GrownLists.{optional}

module _ (image : Image) where
  abbrev compared : ℕ → Block → Option Comparison
  compared ino b = where_true (not (xattr_nid b == 0)) (same (offset_of_node image (xattr_nid b) ino) attribute_offset)

  attributes-with : (ino : ℕ) (o : Option Block) → inode_of image ino ≡ o → defects_at (part_in image 12 1) ino ≡ optional (defect_of 1 ino 0 (of_value o (compared ino)))
  unfolding attribute_parts
  attributes-with ino o is = defects-one 1 (nids image) (λ ino. of_value (inode_of image ino) (compared ino)) ino ∙ ap (λ o. optional (defect_of 1 ino 0 (of_value o (compared ino)))) is

  -- where nothing is found
  none_more : (ino : ℕ) (c : Collection) → defects_at (part_in image 12 1) ino ≡ [] → HasAttributes image ino c → HasAttributes image (suc ino) c
  none_more ino c none has = record {
    part = has.part;
    defects = subst (Collects c) (sym (append-nil (found_below image 12 1 ino)) ∙ ap (λ l. found_below image 12 1 ino ++ l) (sym none) ∙ sym (below-suc (part_in image 12 1) ino)) has.defects;
  }

  pub attributes-pass : (n : ℕ) (c : Collection) → is_inode image n ≡ false → HasAttributes image n c → HasAttributes image (suc n) c
  attributes-pass n c is = none_more n c (attributes-with n None (inode-none image n is))

  pub attributes-none : (ino : ℕ) (b : Block) (c : Collection) → inode_of image ino ≡ Some b → xattr_nid b ≡ 0 → HasAttributes image ino c → HasAttributes image (suc ino) c
  attributes-none ino b c is none =
      none_more ino c (attributes-with ino (Some b) is ∙ ap (λ t. optional (defect_of 1 ino 0 (where_true t (same (offset_of_node image (xattr_nid b) ino) attribute_offset)))) (not_from_true (xattr_nid b == 0) (eq-eqb (xattr_nid b) 0 none)))

  pub attributes-one : (ino : ℕ) (b : Block) (old new : Collection) → inode_of image ino ≡ Some b → (xattr_nid b ≡ 0 → ⊥) → new.part ≡ old.part
      → Compares old new ino 0 (same (offset_of_node image (xattr_nid b) ino) attribute_offset) → HasAttributes image ino old → HasAttributes image (suc ino) new
  attributes-one ino b old new is some part compares has = record {
    part = part ∙ has.part;
    defects = subst (Collects new)
        ((λ i. found_below image 12 1 ino ++ optional (defect_of (has.part i) ino 0 (where_true (named i) (same (offset_of_node image (xattr_nid b) ino) attribute_offset))))
        ∙ ap (λ l. found_below image 12 1 ino ++ l) (sym (attributes-with ino (Some b) is)) ∙ sym (below-suc (part_in image 12 1) ino))
        (compares (found_below image 12 1 ino) has.defects);
  }
    where
      named : true ≡ not (xattr_nid b == 0)
      named = sym (not_from_false (xattr_nid b == 0) (ne_eqb (xattr_nid b) 0 some))

-- past all files the part is taken whole
pub attribute-part : (image : Image) → found_below image 12 1 (nids image) ≡ part_defects (part_in image 12 1)
unfolding part_defects attribute_parts
attribute-part image = refl
