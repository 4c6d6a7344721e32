use Rattle.std.proofs.Common.{◌≡◌, ℕ}
use Rattle.std.specs.BTreeSet.{contains}
use Rattle.std.specs.List.{list_any}
use Rattle.std.specs.Ordering.{nat_cmp}
use Rattle.f2_bytes.specs.Bytes.{Image, numbers_below}
use Rattle.f2_bytes.specs.RollForward.{is_marked_inode}
use Rattle.f2_free.specs.ChainNodes.{nodes_read, HasEnds}
use Rattle.f2_free.proofs.fsyncs.last_ends.Given as goal

-- the inodes with both marks, and the ends, of the nodes so far
abbrev pub invariant-loop-n : goal.invariant-loop-n
invariant-loop-n l = record {
  marked : (image : Image) → l.nodes ≡ nodes_read image → (ino : ℕ) → contains nat_cmp l.marked ino ≡ list_any (is_marked_inode image ino) (numbers_below l.n);
  ends : (image : Image) → l.nodes ≡ nodes_read image → HasEnds image l.n l.ends;
}
