-- What a name holds.
use Rattle.std.specs.Prelude.{◌≡◌, ℕ, ◌-◌, ◌≤◌, ◌<◌, List, ◌++◌, length, take, replicate, slice_index}

-- 1 to 255 bytes
pub record IsName (name : List ℕ) : Type 0 where
  pub some : 1 ≤ length name
  pub few : length name ≤ 255
  pub bytes : (i : ℕ) → slice_index name i < 256

-- the bytes of a name with zeros behind them, up to 255
abbrev pub held_bytes : List ℕ → List ℕ
held_bytes name = name ++ replicate (255 - length name) 0

-- the first bytes are those of a name, and the others are zeros
pub record IsHeld (bytes : List ℕ) (len : ℕ) : Type 0 where
  pub some : 1 ≤ len
  pub few : len ≤ 255
  pub length : length (take len bytes) ≡ len
  pub rest : bytes ≡ held_bytes (take len bytes)
  pub within : (i : ℕ) → slice_index (take len bytes) i < 256
