-- Numbers that are put into the rows of a head.
use Rattle.std.specs.Prelude.{◌≡◌, ℕ, ◌^◌, ◌<◌, ◌≤◌, List, [], ◌∷◌, length, unwrap_or}
use Rattle.f2_bytes.specs.Bytes.{number_at}
use Rattle.f2_bytes.specs.Fields.{row_at, field_at}
use Rattle.f2_bytes.specs.Checkpoint.{checkpoint_rows}
use Rattle.f2_pack.specs.declared.checkpoint.Log.{Log}
use Rattle.f2_change.specs.declared.change.Counts.{Counts}
use Rattle.f2_change.specs.Change.{given}

-- the row is one of the first 64, and the number fits it
abbrev pub FitRow : ℕ × ℕ → Type 0
FitRow w = (w.0 < 64) × (w.1 < 256 ^ (row_at checkpoint_rows w.0).width)

abbrev pub FitRows : List (ℕ × ℕ) → Type 0
FitRows [] = Unit {0}
FitRows (w ∷ rows) = FitRow w × FitRows rows

-- the numbers of a log, and those of counts, are as wide as their types
pub record FitLog (at : Log) : Type 0 where
  pub segno : at.segno < 2 ^ 32
  pub offset : at.offset < 2 ^ 16

pub record FitCounts (counts : Counts) : Type 0 where
  pub user : counts.user < 2 ^ 64
  pub valid : counts.valid < 2 ^ 64
  pub nodes : counts.nodes < 2 ^ 32
  pub inodes : counts.inodes < 2 ^ 32
  pub free : counts.free < 2 ^ 32
  pub next_nid : counts.next_nid < 2 ^ 32

-- these rows have their numbers, and all else is as before
pub record PutsRows (rows : List (ℕ × ℕ)) (old new : List ℕ) : Type 0 where
  pub size : length new ≡ length old
  pub put : (k : ℕ) → k < 64 → field_at checkpoint_rows new k ≡ unwrap_or (given rows k) (field_at checkpoint_rows old k)
  pub behind : (i count : ℕ) → 192 ≤ i → number_at new i count ≡ number_at old i count
