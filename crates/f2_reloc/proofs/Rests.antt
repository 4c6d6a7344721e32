-- After reads alone a crash leaves what stood before.
use Rattle.std.proofs.Common.{◌≡◌, ℕ, ◌<◌, ◌≤◌, length, true, Option, Some, refl, ◌∙◌, arith}
use Rattle.f2_bytes.specs.Bytes.{Image, IsBlock, block_at}
use Rattle.f2_bytes.specs.Check.{is_checked}
use Rattle.f2_commit.specs.Moves.{HasSameFiles}
use Rattle.f2_disk.specs.Disk.{State, Reads, LeavesOnly, IsImage}
use Rattle.f2_disk.proofs.Runs.{started, quiet_on, then_run, weaker}

pub reads_rest : {old mid : State} {P : Image → Type 0} → Reads old mid → ((c : Image) → old.left_since old.moment c → P c) → LeavesOnly old mid P
reads_rest {old = old} {mid = mid} {P = P} reads at_start = quiet_on {new = mid} (started old P at_start) (omega arith) reads.since

-- an image has its own files
pub own_files : (image : Image) → is_checked image ≡ true → HasSameFiles image image
own_files image h = (h, refl, λ n low. refl)

-- each block of an image that is told is one
pub whole_blocks : {blocks : ℕ} {image : Image} → IsImage blocks image → (n : ℕ) → n < length image → IsBlock (block_at image n)
whole_blocks {blocks} {image} whole n low = let size = whole.size in whole.each n (omega (arith, low, size))

pub files_then : (a b c : Image) → HasSameFiles a b → HasSameFiles b c → HasSameFiles a c
files_then a b c first second = (second.0, second.1 ∙ first.1, λ n low. second.2 n low ∙ first.2 n low)

-- two runs leave what has the same files, if the first one kept them
pub then_same : {old mid new : State} (image now : Image) → old.moment ≤ mid.moment → HasSameFiles image now → LeavesOnly old mid (HasSameFiles image)
    → LeavesOnly mid new (HasSameFiles now) → LeavesOnly old new (HasSameFiles image)
then_same image now later same first second = then_run later first (weaker (HasSameFiles now) (HasSameFiles image) (λ left kept. files_then image now left same kept) second)

pub told_once : {a b : Image} {told : Option Image} → told ≡ Some a → told ≡ Some b → a ≡ b
told_once one other = cc (one, other)
