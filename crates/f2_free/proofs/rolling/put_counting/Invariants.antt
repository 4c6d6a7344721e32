use Rattle.std.proofs.Common.{◌≡◌, ◌<◌, ℕ, length, get_or}
use Rattle.f2_bytes.specs.Bytes.{Image}
use Rattle.f2_bytes.specs.NodeAddressTable.{nid_limit}
use Rattle.f2_bytes.specs.Superblock.{layout}
use Rattle.f2_free.specs.ChainNodes.{nodes_read, counts_of}
use Rattle.f2_free.specs.NodePlaces.{HasTable, IsOffZero, place_said}
use Rattle.f2_free.proofs.FoundPlaces.{found_before}
use Rattle.f2_sum.specs.declared.records.NatEntry.{NatEntry}
use Rattle.f2_free.proofs.rolling.put_counting.Given as goal

-- where nodes stand after the nodes so far
abbrev pub invariant-loop-n : goal.invariant-loop-n
invariant-loop-n l = record {
  each : length l.entries.items ≡ length l.initial.entries.items;
  found : (image : Image) → HasTable image l.initial.entries.items → l.nodes ≡ nodes_read image → l.counts ≡ counts_of image → IsOffZero image
      → (nid : ℕ) (d : NatEntry) → nid < nid_limit (layout image) → place_said nid (get_or l.entries.items nid d) ≡ found_before image l.n nid;
}
