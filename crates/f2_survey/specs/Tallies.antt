-- How many nodes there are.
use Rattle.std.specs.Prelude.{◌≡◌, ℕ, ◌<◌, ◌≤◌, length, get_or, is_some}
use Rattle.f2_bytes.specs.Bytes.{Image, count_below}
use Rattle.f2_bytes.specs.NodeAddressTable.{nat}
use Rattle.f2_bytes.specs.Tree.{is_inode}
use Rattle.f2_bytes.specs.Check.{nids}
use Rattle.f2_survey.specs.Known.{belongs_to}
use Rattle.f2_survey.specs.declared.node_counts.Tally.{Tally}

-- n numbers were counted at most
pub record AtMost (n : ℕ) (t : Tally) : Type 0 where
  pub nodes : t.nodes ≤ n
  pub inodes : t.inodes ≤ n
  pub of_files : (ino : ℕ) → ino < length t.of_files.items → get_or t.of_files.items ino 0 ≤ n

-- the nodes with a number below n are counted
pub record Counts (image : Image) (n : ℕ) (t : Tally) : Type 0 where
  pub nodes : t.nodes ≡ count_below n (λ nid. is_some (nat image nid))
  pub inodes : t.inodes ≡ count_below n (is_inode image)
  pub of_files : (ino : ℕ) → ino < length t.of_files.items → get_or t.of_files.items ino 0 ≡ count_below n (λ nid. belongs_to image nid ino)

-- all nodes are counted, for each number of a file
pub record IsTally (image : Image) (t : Tally) : Type 0 where
  pub counts : Counts image (nids image) t
  pub each : length t.of_files.items ≡ nids image
