-- The range that a job empties.
use Rattle.std.specs.Prelude.{◌≡◌, ◌⊎◌, ℕ, ◌≤◌, ◌<◌, Bool, false, nat_lt, if◌then◌else◌, List, length, Option, Some, None, IsTrue, IsFalse}
use Rattle.f2_bytes.specs.declared.layout.Layout.{Layout}
use Rattle.f2_bytes.specs.Bytes.{Image}
use Rattle.f2_bytes.specs.Check.{defects, is_checked, is_marked}
use Rattle.f2_bytes.specs.Defragment.{Moves, range_start, range_end, range_target, outside_range, defrag_need, defrag_have, defrag_moves}
use Rattle.f2_disk.specs.Disk.{State, LeavesOnly}
use Rattle.f2_commit.specs.Moves.{HasSameFiles}
use Rattle.f2_reloc.specs.Emptying.{IsEmptied, end_of}
use Rattle.f2_reloc.specs.declared.batches.Range.{Range}
use Rattle.f2_commit.specs.declared.relocating.Moved.{Moved}
use Rattle.f2_top.specs.Disks.{OnImage, TellsOne}
use Rattle.f2_top.specs.Text.{defect_lines, moved_line}
use Rattle.f2_top.specs.declared.answer.Answer.{Answer}
use Rattle.f2_top.specs.declared.answer.Answer.TheVariants.{Done, Defects, NoSpace, Refused}
use Rattle.f2_top.specs.declared.answer.Refusal.TheVariants.{OutOfRange}
use Rattle.f2_top.specs.declared.moves.DefragRequest.{DefragRequest}

-- a range of addresses, from one up to another, and the target of what moves
pub record Aim : Type 0 where
  pub start : ℕ
  pub end : ℕ
  pub target : ℕ
  pub down : Bool

-- what words ask for in an image with this layout, and the number of it that lies outside, if any
abbrev pub aim_of : Layout → DefragRequest → Aim
aim_of l w =
    let start = range_start l w.start in
    let end = range_end l start w.blocks in
    record { start = start; end = end; target = range_target start end w.target w.down; down = w.down }

abbrev pub outside_aim : Layout → DefragRequest → Option ℕ
outside_aim l w = outside_range l w.start w.blocks w.target w.down

-- the same of a range and a target
abbrev pub aim_at : Range → ℕ → Bool → Aim
aim_at range target down = record { start = range.start; end = end_of range; target = target; down = down }

-- how everything moves
abbrev pub moves_to : Image → Aim → Moves
moves_to image a = defrag_moves image a.start a.end a.target a.down

-- what emptying a range of a checked image answers, without a fault
abbrev pub space_answer : Image → Aim → Answer
space_answer image a =
    let need = defrag_need image a.start a.end in
    let have = defrag_have image a.start a.end a.target a.down in
    if nat_lt have need then NoSpace need have else Done

-- the answer goes after the least rule that the image fails, if it fails one, and that after a number that lies outside
abbrev pub unless_failing : Image → Option ℕ → Answer → Answer
unless_failing image None answer = answer
unless_failing image (Some rule) answer = Defects rule (length (defects image rule))

abbrev pub unless_outside : Option ℕ → Answer → Answer
unless_outside None answer = answer
unless_outside (Some number) answer = Refused (OutOfRange number)

-- the line of what moved, or those of the defects
abbrev pub lines_unless_failing : Image → Option ℕ → List ℕ → List ℕ
lines_unless_failing image None lines = lines
lines_unless_failing image (Some rule) lines = defect_lines image rule

abbrev pub moves_line : Image → Aim → List ℕ
moves_line image a = moved_line (moves_to image a).blocks (moves_to image a).batches

-- what is left of an image: one whose range is empty, where that was done
abbrev pub LeavesEmptied : Image → Aim → Answer → Image → Type 0
LeavesEmptied image a Done left = (moved : Moved) × IsEmptied image a.start a.end a.target a.down left moved
LeavesEmptied image a answer left = left ≡ image

-- ---- whatever it answers

-- a disk that told a checked image tells one with the same tree and the same superblock copies
abbrev pub KeepsTree : State → State → Type 0
KeepsTree old new = OnImage old (λ image. IsTrue (is_checked image) → TellsOne new (HasSameFiles image))

-- Where nothing was pending, a crash at any moment since then leaves such a one.
abbrev pub KeepsTreeAlways : State → State → Type 0
KeepsTreeAlways old new =
    old.pending ≡ false → OnImage old (λ image. IsTrue (is_checked image) → LeavesOnly old new (HasSameFiles image))

-- no block of a range is valid
abbrev pub HasNoneIn : Image → ℕ → ℕ → Type 0
HasNoneIn image start end = (address : ℕ) → start ≤ address → address < end → IsFalse (is_marked image address)

-- no block of a range is valid, or the image is not checked, so that nothing moves
abbrev pub HasNone : Image → Aim → Type 0
HasNone image a = IsFalse (is_checked image) ⊎ HasNoneIn image a.start a.end
