-- The defects by a rule are those of its parts, one after the other.
use Rattle.std.proofs.Common.{◌≡◌, refl}
use Rattle.f2_bytes.specs.Bytes.{Image, numbers_below}
use Rattle.f2_bytes.specs.Check.{defects}
use Rattle.f2_bytes.specs.Check.{superblock_parts, checkpoint_parts, node_parts, address_parts, validity_parts, summary_parts, count_parts, log_parts, inode_parts, item_parts, link_parts, attribute_parts}
use Rattle.f2_survey.specs.Parts.{first_parts}

module _ (image : Image) where
  pub superblock_parts_all : first_parts image 1 2 ≡ defects image 1
  unfolding superblock_parts defects numbers_below
  superblock_parts_all = refl

  pub checkpoint_parts_all : first_parts image 2 3 ≡ defects image 2
  unfolding checkpoint_parts defects numbers_below
  checkpoint_parts_all = refl

  pub node_parts_all : first_parts image 3 7 ≡ defects image 3
  unfolding node_parts defects numbers_below
  node_parts_all = refl

  pub address_parts_all : first_parts image 4 2 ≡ defects image 4
  unfolding address_parts defects numbers_below
  address_parts_all = refl

  pub validity_parts_all : first_parts image 5 3 ≡ defects image 5
  unfolding validity_parts defects numbers_below
  validity_parts_all = refl

  pub summary_parts_all : first_parts image 6 3 ≡ defects image 6
  unfolding summary_parts defects numbers_below
  summary_parts_all = refl

  pub count_parts_all : first_parts image 7 4 ≡ defects image 7
  unfolding count_parts defects numbers_below
  count_parts_all = refl

  pub log_parts_all : first_parts image 8 4 ≡ defects image 8
  unfolding log_parts defects numbers_below
  log_parts_all = refl

  pub inode_parts_all : first_parts image 9 3 ≡ defects image 9
  unfolding inode_parts defects numbers_below
  inode_parts_all = refl

  pub directory_parts_all : first_parts image 10 9 ≡ defects image 10
  unfolding item_parts defects numbers_below
  directory_parts_all = refl

  pub link_parts_all : first_parts image 11 3 ≡ defects image 11
  unfolding link_parts defects numbers_below
  link_parts_all = refl

  pub attribute_parts_all : first_parts image 12 1 ≡ defects image 12
  unfolding attribute_parts defects numbers_below
  attribute_parts_all = refl
