use Rattle.std.proofs.Common.{◌≡◌, ℕ, ◌<◌}
use Rattle.f2_bytes.specs.Bytes.{word}
use Rattle.f2_gather.specs.Gathering.{addresses_of}
use Rattle.f2_commit.specs.Shifting.{placed_data}
use Rattle.f2_commit.proofs.MovedWords.{so_far}
use Rattle.f2_commit.proofs.moved_nodes.move_words.Given as goal

-- the words so far
abbrev pub invariant-loop-j : goal.invariant-loop-j
invariant-loop-j l = (j : ℕ) → j < 1024 → word l.b j ≡ so_far (placed_data l.l l.targets (addresses_of l.moved)) l.initial.b l.from l.j j
