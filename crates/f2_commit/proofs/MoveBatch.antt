-- An image that carries a batch of moves is one whose blocks moved.
use Rattle.std.proofs.Common.{◌≡◌, ℕ, ◌<◌, List, true, length, All}
use Rattle.std.specs.List.Sorted.{IsStrictlyIncreasing}
use Rattle.f2_bytes.specs.Bytes.{Image, IsBlock, block_at}
use Rattle.f2_bytes.specs.Superblock.{layout, is_main}
use Rattle.f2_bytes.specs.Check.{is_checked}
use Rattle.f2_bytes.specs.Moved.{IsMoved}
use Rattle.f2_bytes.specs.Tree.{tree}
use Rattle.f2_bytes.proofs.MovedLaw.{moved_keeps_tree}
use Rattle.f2_pack.specs.declared.writing.NewPack.{NewPack}
use Rattle.f2_change.specs.declared.change.Change.{Change}
use Rattle.f2_change.specs.Carried.{Carries}
use Rattle.f2_commit.specs.Moves.{MovesBatch, AreTargets, new_address}
use Rattle.f2_commit.proofs.MoveBlocks.{files-moved}
use Rattle.f2_commit.proofs.MoveBodies.{nodes-moved}
use Rattle.f2_commit.proofs.MoveCheckpoint.{logs-moved, journals-moved, flags-moved, orphans-moved, valid_blocks-moved, valid_nodes-moved, valid_inodes-moved, free_segments-moved, counts-moved}
use Rattle.f2_commit.proofs.MoveKinds.{node_kinds-moved}
use Rattle.f2_commit.proofs.MoveLands.{holes-moved, reserved-moved, lands-moved, apart-moved}
use Rattle.f2_commit.proofs.MoveMarked.{marked-moved}
use Rattle.f2_commit.proofs.MoveMarks.{marks-moved, data_kinds-moved, log_kinds-moved, log_marks-moved}
use Rattle.f2_commit.proofs.MoveNodes.{moved_there}
use Rattle.f2_commit.proofs.MoveSummaries.{summaries-moved, places-moved, entry_types-moved}
use Rattle.f2_commit.proofs.MoveTable.{table-moved}

-- the addresses ascend and lie in main, and each block of the image is 4096 bytes
pub moves_batch : (image new : Image) (addresses targets : List ℕ) (c : Change) (p : NewPack) → is_checked image ≡ true → ((n : ℕ) → n < length image → IsBlock (block_at image n))
    → IsStrictlyIncreasing addresses → All (λ a. is_main (layout image) a ≡ true) addresses → AreTargets image addresses targets → MovesBatch image addresses targets c → Carries image c p new
    → IsMoved (new_address image addresses targets) image new
moves_batch image new addresses targets c p h bytes rises mains free m s = record {
  size = s.size;
  copies = s.copies;
  checkpoint = s.checkpoint;
  journals = journals-moved image new addresses targets c p m s;
  logs = logs-moved image new addresses targets c p m s;
  flags = flags-moved image new addresses targets c p m s;
  orphans = orphans-moved image new addresses targets c p m s;
  chain = s.no_chain;
  valid_blocks = valid_blocks-moved image new addresses targets c p m s;
  valid_nodes = valid_nodes-moved image new addresses targets c p m s;
  valid_inodes = valid_inodes-moved image new addresses targets c p m s;
  free_segments = free_segments-moved image new addresses targets c p m s;
  holes = holes-moved image h addresses mains targets free;
  reserved = reserved-moved image h addresses mains targets free;
  lands = lands-moved image h addresses mains targets free;
  apart = apart-moved image h addresses mains targets free;
  table = table-moved image new addresses targets c p h mains free m s (moved_there image h addresses mains);
  nodes = nodes-moved image new addresses targets c p h mains free m s bytes;
  files = files-moved image new addresses targets c p h mains free m s;
  marks = marks-moved image new addresses targets c p h mains free m s;
  marked = marked-moved image new addresses targets c p h mains free m s rises;
  counts = counts-moved image new addresses targets c p m s;
  data_kinds = data_kinds-moved image new addresses targets c p h mains free m s;
  node_kinds = node_kinds-moved image new addresses targets c p h mains free m s;
  log_kinds = log_kinds-moved image new addresses targets c p h mains free m s;
  log_marks = log_marks-moved image new addresses targets c p h mains free m s;
  summaries = summaries-moved image new addresses targets c p h mains free m s;
  places = places-moved image new addresses targets c p h mains free m s;
  entry_types = entry_types-moved image new addresses targets c p h mains free m s;
}

-- so it is checked, with the same tree
pub batch_keeps_tree : (image new : Image) (addresses targets : List ℕ) (c : Change) (p : NewPack) → is_checked image ≡ true → ((n : ℕ) → n < length image → IsBlock (block_at image n))
    → IsStrictlyIncreasing addresses → All (λ a. is_main (layout image) a ≡ true) addresses → AreTargets image addresses targets → MovesBatch image addresses targets c → Carries image c p new
    → (is_checked new ≡ true) × (tree new ≡ tree image)
batch_keeps_tree image new addresses targets c p h bytes rises mains free m s =
    moved_keeps_tree (new_address image addresses targets) image new h (moves_batch image new addresses targets c p h bytes rises mains free m s)
