-- What stands while the batches of a range move, and once the range is empty.
use Rattle.std.specs.Prelude.{◌≡◌, ◌⊎◌, ℕ, ◌+◌, ◌-◌, ◌*◌, ◌<◌, ◌≤◌, Bool, List, [], ◌∷◌, ◌++◌, ◌==◌, if◌then◌else◌, filter, flat_map, map, length, get_or, IsTrue}
use Rattle.std.specs.List.{list_any, range_with_len, All}
use Rattle.f2_bytes.specs.declared.layout.Layout.{Layout}
use Rattle.f2_bytes.specs.Bytes.{Image, block_at, quotient_up}
use Rattle.f2_bytes.specs.Superblock.{layout, segment_start}
use Rattle.f2_bytes.specs.NodeAddressTable.{nid_limit}
use Rattle.f2_bytes.specs.SegmentTable.{AreValid}
use Rattle.f2_bytes.specs.Checkpoint.{head, log, user_block_count, rsvd_segment_count, overprov_segment_count, next_free_nid}
use Rattle.f2_bytes.specs.Check.{is_checked, is_marked}
use Rattle.f2_bytes.specs.Support.{is_free}
use Rattle.f2_bytes.specs.Tree.{tree}
use Rattle.f2_bytes.specs.Defragment.{Placement, placement, cut_batches, is_among, occupied, batch_need, move_need, part_in, Moves, after_batch, moves_after, defrag_batches, defrag_targets, defrag_need, defrag_have, defrag_moves}
use Rattle.f2_commit.specs.Following.{Move, batch_moves, HasFollowed}
use Rattle.f2_commit.specs.FreeNids.{least_free_nid}
use Rattle.f2_commit.specs.Moves.{AreTargets, AreSamePlaces, HasMoved}
use Rattle.f2_gather.specs.declared.weighing.Weight.{Weight}
use Rattle.f2_reloc.specs.declared.batches.Range.{Range}
use Rattle.f2_reloc.specs.declared.batches.Batch.{Batch}
use Rattle.f2_commit.specs.declared.relocating.Moved.{Moved}
use Rattle.f2_reloc.specs.declared.moving.Step.{Step}

-- ---- the parts of a range

abbrev pub end_of : Range → ℕ
end_of range = range.start + range.blocks

-- the addresses of a range in the segments from one up to another
unfoldable pub parts_between : Layout → Range → ℕ → ℕ → List ℕ
parts_between l range first end = flat_map (part_in l range.start (end_of range)) (range_with_len first (end - first))

abbrev pub part_of : Layout → Range → Batch → List ℕ
part_of l range batch = parts_between l range batch.first batch.end

-- the valid blocks among addresses
abbrev pub valid_among : Image → List ℕ → List ℕ
valid_among image addresses = filter (is_marked image) addresses

-- a range lies in the main area
pub record IsInside (l : Layout) (range : Range) : Type 0 where
  pub above : l.main ≤ range.start
  pub some : 1 ≤ range.blocks
  pub below : range.start + range.blocks ≤ l.main + 512 * l.segments

-- the segments of a batch lie in the main area
pub record IsWithin (l : Layout) (batch : Batch) : Type 0 where
  pub order : batch.first ≤ batch.end
  pub below : batch.end ≤ l.segments

-- the segments that so many blocks take
abbrev pub need_of : Weight → ℕ
need_of weight = quotient_up weight.data_blocks 512 + quotient_up weight.node_blocks 512

-- a segment has no address of a range
abbrev pub IsOutside : Layout → ℕ → ℕ → ℕ → Type 0
IsOutside l start end segment = (end ≤ segment_start l segment) ⊎ (segment_start l (segment + 1) ≤ start)

-- ---- all moves

-- those of batches, one after the other; none where no block stands in a batch's part of the range
unfoldable pub moves_along : Layout → ℕ → Moves → List (List ℕ) → List Move
moves_along l nids m [] = []
moves_along l nids m (addresses ∷ rest) =
    (if length (occupied nids m.placed addresses) == 0 then [] else batch_moves l nids addresses m.targets m.placed)
    ++ moves_along l nids (after_batch l nids m addresses) rest

-- those that empty a range
unfoldable pub all_moves : Image → ℕ → ℕ → ℕ → Bool → List Move
all_moves image start end target down =
    moves_along (layout image) (nid_limit (layout image))
    (record { placed = placement image; targets = defrag_targets image start end target down; blocks = 0; batches = 0 })
    (defrag_batches image start end)

-- ---- what stays

-- A checked image with the tree, the areas, the superblock copies, the logs and the counts of another one.
pub record HasKept (image now : Image) : Type 0 where
  pub checked : IsTrue (is_checked now)
  pub same_tree : tree now ≡ tree image
  pub areas : layout now ≡ layout image
  pub size : length now ≡ length image
  pub copies : (n : ℕ) → n < 2 → block_at now n ≡ block_at image n
  pub logs : (t : ℕ) → t < 6 → log (head now) t ≡ log (head image) t
  pub user : user_block_count (head now) ≡ user_block_count (head image)
  pub reserved : rsvd_segment_count (head now) ≡ rsvd_segment_count (head image)
  pub overprovision : overprov_segment_count (head now) ≡ overprov_segment_count (head image)

-- Some batches of a range moved: all stands as the moves say. The targets that are left are free, different, outside of the
-- range, and enough for the batches that remain. Each valid block of the range is in one of these.
pub record HasReached (image : Image) (start end : ℕ) (m : Moves) (rest : List (List ℕ)) (now : Image) : Type 0 where
  pub kept : HasKept image now
  pub placed : AreSamePlaces m.placed (placement now)
  pub free : All (λ segment. IsTrue (is_free now segment)) m.targets
  pub different : (i j : ℕ) → i < length m.targets → j < length m.targets → get_or m.targets i 0 ≡ get_or m.targets j 0 → i ≡ j
  pub outside : All (IsOutside (layout image) start end) m.targets
  pub enough : move_need (nid_limit (layout image)) m.placed rest ≤ length m.targets
  pub few : All (λ b. length (occupied (nid_limit (layout image)) m.placed b) ≤ 4096) rest
  pub within : All (All (λ a. (start ≤ a) × (a < end))) rest
  pub remain : (a : ℕ) → start ≤ a → a < end → IsTrue (is_marked now a) → IsTrue (list_any (λ b. is_among b a) rest)

-- The same on the way to where all batches lead, with the numbers so far and the targets that are left. What names the blocks
-- has followed the moves so far.
pub record IsOnWay (image : Image) (start end target : ℕ) (down : Bool) (targets : List ℕ) (moved : Moved) (rest : List (List ℕ)) (now : Image) : Type 0 where
  pub moves : Moves
  pub reached : HasReached image start end moves rest now
  pub leads : moves_after (layout image) (nid_limit (layout image)) moves rest ≡ defrag_moves image start end target down
  pub done : List Move
  pub followed : HasFollowed done image now
  pub ahead : done ++ moves_along (layout image) (nid_limit (layout image)) moves rest
      ≡ all_moves image start end target down
  pub next_free : 1 ≤ moved.batches → next_free_nid (head now) ≡ least_free_nid now
  pub left : moves.targets ≡ targets
  pub blocks : moves.blocks ≡ moved.blocks
  pub batches : moves.batches ≡ moved.batches

-- ---- one batch

-- its valid blocks are few, and the targets serve them
pub record IsReady (now : Image) (part targets : List ℕ) : Type 0 where
  pub checked : IsTrue (is_checked now)
  pub few : length (valid_among now part) ≤ 4096
  pub serve : AreTargets now (valid_among now part) targets

-- nothing was there to move
pub record IsIdle (now : Image) (part : List ℕ) (step : Step) (new : Image) : Type 0 where
  pub same : new ≡ now
  pub none : valid_among now part ≡ []
  pub blocks : step.blocks ≡ 0
  pub taken : step.targets ≡ 0

-- its blocks moved
pub record IsDone (now : Image) (part targets : List ℕ) (step : Step) (new : Image) : Type 0 where
  pub some : 1 ≤ step.blocks
  pub blocks : step.blocks ≡ length (valid_among now part)
  pub taken : step.targets ≡ batch_need (nid_limit (layout now)) (placement now) (valid_among now part)
  pub moved : HasMoved now new (valid_among now part) targets
  pub areas : layout new ≡ layout now

abbrev pub HasStepped : Image → List ℕ → List ℕ → Step → Image → Type 0
HasStepped now part targets step new = IsIdle now part step new ⊎ IsDone now part targets step new

-- the numbers with those of a batch
abbrev pub moved_with : Moved → Step → Moved
moved_with moved step = record { blocks = moved.blocks + step.blocks; batches = moved.batches + (if step.blocks == 0 then 0 else 1) }

-- Batches that are cut, the one that takes segments, and the number of its blocks, where these parts are left: together they
-- are all batches.
pub record IsCutting (l : Layout) (range : Range) (nids : ℕ) (p : Placement) (parts batches : List (List ℕ)) (cut : List Batch) (batch : Batch) (count : ℕ) : Type 0 where
  pub held : count ≡ length (occupied nids p (part_of l range batch))
  pub all : map (part_of l range) cut ++ cut_batches nids p (part_of l range batch) parts ≡ batches

-- the segments that a batch needs, if its blocks are few
abbrev pub IsNeed : Image → List ℕ → ℕ → Type 0
IsNeed image part n = length (valid_among image part) ≤ 4096 → n ≡ batch_need (nid_limit (layout image)) (placement image) part

-- ---- the plan

-- enough targets, chosen as a job does
pub record AreChosen (image : Image) (start end : ℕ) (targets : List ℕ) : Type 0 where
  pub target : ℕ
  pub down : Bool
  pub chosen : targets ≡ defrag_targets image start end target down
  pub enough : defrag_need image start end ≤ length targets

-- the batches and the targets of a job, which are enough
pub record IsPlan (l : Layout) (image : Image) (range : Range) (target : ℕ) (down : Bool) (batches : List Batch) (targets : List ℕ) : Type 0 where
  pub cut : map (part_of l range) batches ≡ defrag_batches image range.start (end_of range)
  pub chosen : targets ≡ defrag_targets image range.start (end_of range) target down
  pub some : 1 ≤ defrag_need image range.start (end_of range)
  pub enough : defrag_need image range.start (end_of range) ≤ length targets

-- what is known of them whatever the disk
pub record IsSafePlan (l : Layout) (batches : List Batch) (targets : List ℕ) : Type 0 where
  pub within : All (IsWithin l) batches
  pub count : length batches ≤ l.segments + 1
  pub below : All (λ segment. segment < l.segments) targets

-- ---- the range is empty

-- A range was emptied: no block of it is valid, all stands as the moves say, and the numbers are theirs.
pub record IsEmptied (image : Image) (start end target : ℕ) (down : Bool) (new : Image) (moved : Moved) : Type 0 where
  pub kept : HasKept image new
  pub placed : AreSamePlaces (defrag_moves image start end target down).placed (placement new)
  pub blocks : moved.blocks ≡ (defrag_moves image start end target down).blocks
  pub batches : moved.batches ≡ (defrag_moves image start end target down).batches
  pub empty : AreValid new start end []
  pub enough : defrag_need image start end ≤ defrag_have image start end target down
  -- all that names the blocks has followed their moves, and a new node is looked for from the least free number on
  pub followed : HasFollowed (all_moves image start end target down) image new
  pub next_free : 1 ≤ moved.batches → next_free_nid (head new) ≡ least_free_nid new
