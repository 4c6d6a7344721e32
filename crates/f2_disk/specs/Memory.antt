-- What a disk in memory stands for, by the record of its writes and syncs.
use Rattle.std.specs.Prelude.{◌≡◌, ◌⊎◌, ℕ, ◌≤◌, ◌<◌, Bool, true, false, List, [], ◌∷◌, length, slice_set, take, replicate, fold, Some, unwrap_or}
use Rattle.std.specs.Map.{lookup}
use Rattle.std.specs.BTreeMap.{is_at}
use Rattle.std.specs.Ordering.{nat_cmp}
use Rattle.f2_bytes.specs.Bytes.{Block, Image, block_at}
use Rattle.f2_disk.specs.Calls.{CallCount}
use Rattle.f2_disk.specs.Disk.{State, IsTorn, IsImage}
use Rattle.f2_disk.specs.declared.memory.Event.{Event}
use Rattle.f2_disk.specs.declared.memory.Event.TheVariants.{Write, Sync}

-- the blocks as read, those of the last good sync, and the writes since, the newest first
pub record Replay : Type 0 where
  pub seen : Image
  pub synced : Image
  pub written : List (ℕ × Block)

-- after one event more
abbrev pub after : Replay → Event → Replay
after r (Write at bytes) = record { seen = slice_set r.seen at bytes; synced = r.synced; written = (at, bytes) ∷ r.written }
after r Sync = record { seen = r.seen; synced = r.seen; written = [] }

unfoldable pub zero_block : Block
zero_block = replicate 4096 0

-- so many blocks of zeros
unfoldable pub zeros : ℕ → Image
zeros n = replicate n zero_block

abbrev pub fresh : ℕ → Replay
fresh n = record { seen = zeros n; synced = zeros n; written = [] }

-- n blocks after these events, the oldest first
abbrev pub replay : ℕ → List Event → Replay
replay n events = fold after (fresh n) events

-- these bytes were written to block k since the last good sync, or stand there torn
abbrev pub WrittenAt : ℕ → List (ℕ × Block) → Block → Type 0
WrittenAt k [] b = ⊥
WrittenAt k (w ∷ written) b = ((w.0 ≡ k) × ((b ≡ w.1) ⊎ IsTorn b)) ⊎ WrittenAt k written b

-- What a crash may leave: of each block its bytes at the last good sync, any bytes written to it since, or torn ones
-- where it was written to since.
pub record MayLeave (r : Replay) (c : Image) : Type 0 where
  pub size : length c ≡ length r.synced
  pub each : (k : ℕ) → (block_at c k ≡ block_at r.synced k) ⊎ WrittenAt k r.written (block_at c k)

-- what a crash may leave at some moment from t on, a moment being the number of events before it
abbrev pub LeftSince : ℕ → List Event → ℕ → Image → Type 0
LeftSince n events t c = (k : ℕ) × (t ≤ k) × (k ≤ length events) × MayLeave (replay n (take k events)) c

abbrev pub has_any : List (ℕ × Block) → Bool
has_any [] = false
has_any (w ∷ written) = true

-- A disk in memory: its length, what was written and synced, how often a write was called, and its calls.
pub record Memory : Type 0 where
  pub blocks : ℕ
  pub events : List Event
  pub writes : ℕ
  pub calls : CallCount

abbrev pub state_of : Memory → State
state_of d = let r = replay d.blocks d.events in record {
  size = d.blocks;
  told = Some r.seen;
  pending = has_any r.written;
  tells_left = true;
  may_leave = λ c. MayLeave r c;
  moment = length d.events;
  left_since = λ t c. LeftSince d.blocks d.events t c;
  faults = d.calls.faults;
  writes = d.writes;
}

-- the block in a map of those that were written
abbrev pub stored : List (ℕ × Block) → ℕ → Block
stored entries k = unwrap_or (lookup (is_at (nat_cmp k)) entries) zero_block

-- the map has the blocks as read, and each is a block
pub record IsCurrent (n : ℕ) (events : List Event) (entries : List (ℕ × Block)) : Type 0 where
  pub current : (k : ℕ) → k < n → block_at (replay n events).seen k ≡ stored entries k
  pub image : IsImage n (replay n events).seen

-- the writes in a record, and the syncs
abbrev pub is_write : Event → Bool
is_write (Write at bytes) = true
is_write Sync = false
