-- A superblock copy in a block.
use Rattle.std.specs.Prelude.{ℕ, Bool, false, if◌then◌else◌, List, Option, Some, None}
use Rattle.f2_bytes.specs.Bytes.{Block}
use Rattle.f2_bytes.specs.Superblock.{passes, copy_of, agree}

-- the copy in a block, where it passes
abbrev pub copy_in : Block → Option (List ℕ)
copy_in b = if passes b then Some (copy_of b) else None

-- both copies are there and agree
abbrev pub are_twins : Option (List ℕ) → Option (List ℕ) → Bool
are_twins (Some c) (Some d) = agree c d
are_twins _ _ = false
