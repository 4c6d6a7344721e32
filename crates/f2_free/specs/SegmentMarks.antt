-- Marks on the segments of the main area.
use Rattle.std.specs.Prelude.{◌≡◌, ℕ, ◌+◌, ◌*◌, ◌<◌, Bool, true, false, not, ◌||◌, List, length, get_or, filter}
use Rattle.std.specs.List.{list_any}
use Rattle.f2_bytes.specs.declared.layout.Layout.{Layout}
use Rattle.f2_bytes.specs.Bytes.{Block, numbers_below}
use Rattle.f2_bytes.specs.Checkpoint.{is_log_segment}
use Rattle.f2_bytes.specs.Superblock.{segment_start}

-- where main begins, and for each of its segments whether it is marked
pub record MarkTable : Type 0 where
  pub main : ℕ
  pub segments : List Bool

abbrev pub is_marked : MarkTable → ℕ → Bool
is_marked m segment = get_or m.segments segment false

-- the segments without a mark, in order
abbrev pub unmarked : MarkTable → List ℕ
unmarked m = filter (λ segment. not (is_marked m segment)) (numbers_below (length m.segments))

-- one of the 512 addresses from the first one on passes
unfoldable pub has_block_with : ℕ → (ℕ → Bool) → Bool
has_block_with first test = list_any (λ k. test (first + k)) (numbers_below 512)

-- the segments that pass are marked, too
pub record MarksMore (old new : MarkTable) (test : ℕ → Bool) : Type 0 where
  pub main : new.main ≡ old.main
  pub count : length new.segments ≡ length old.segments
  pub marked : (segment : ℕ) → segment < length old.segments → is_marked new segment ≡ (is_marked old segment || test segment)

-- the segments that have a block whose address passes
abbrev pub MarksBlocks : MarkTable → MarkTable → (ℕ → Bool) → Type 0
MarksBlocks old new test = MarksMore old new (λ segment. has_block_with (old.main + 512 * segment) test)

-- no mark is lost
pub record KeepsMarks (old new : MarkTable) : Type 0 where
  pub main : new.main ≡ old.main
  pub count : length new.segments ≡ length old.segments
  pub marked : (segment : ℕ) → is_marked old segment ≡ true → is_marked new segment ≡ true

-- the marks are of the segments of the layout, and those of the logs of the checkpoint with this head are marked
pub record HasLogs (l : Layout) (head : Block) (m : MarkTable) : Type 0 where
  pub main : m.main ≡ l.main
  pub count : length m.segments ≡ l.segments
  pub logs : (segment : ℕ) → segment < l.segments → is_log_segment head segment ≡ true → is_marked m segment ≡ true

-- the segments of logs are marked, and those with a block whose address passes, and no others
pub record HasMarks (l : Layout) (head : Block) (test : ℕ → Bool) (m : MarkTable) : Type 0 where
  pub main : m.main ≡ l.main
  pub count : length m.segments ≡ l.segments
  pub marked : (segment : ℕ) → segment < l.segments → is_marked m segment ≡ (is_log_segment head segment || has_block_with (segment_start l segment) test)
