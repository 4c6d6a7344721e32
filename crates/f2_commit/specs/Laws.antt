-- Laws over batches of moves, as statements that contracts cite.
use Rattle.std.specs.Prelude.{ℕ, ◌+◌, List, ◌++◌, IsTrue, IsFalse}
use Rattle.f2_bytes.specs.Bytes.{Image}
use Rattle.f2_bytes.specs.Superblock.{layout}
use Rattle.f2_bytes.specs.Check.{is_checked}
use Rattle.f2_bytes.specs.Support.{is_support, is_free}
use Rattle.f2_commit.specs.Following.{Move, HasFollowed}

-- what has followed moves, and then more of them, has followed all, one after the other
abbrev pub MovesFollowEachOther : Type 0
MovesFollowEachOther = (first second : List Move) (image between new : Image)
    → HasFollowed first image between → HasFollowed second between new → HasFollowed (first ++ second) image new

-- a checked image does not depend on the summary block of a free segment
abbrev pub FreeSegmentsSpareTheirSummaries : Type 0
FreeSegmentsSpareTheirSummaries = (image : Image) → IsTrue (is_checked image) → (segment : ℕ)
    → IsTrue (is_free image segment) → IsFalse (is_support image ((layout image).ssa + segment))
