-- The pack that is written.
use Rattle.std.specs.Prelude.{◌≡◌, List, [], ◌∷◌, ◌++◌}
use Rattle.f2_bytes.specs.Bytes.{Block, block_at}
use Rattle.f2_bytes.specs.Checksum.{with_seal}
use Rattle.f2_bytes.specs.Checkpoint.{Pack, ckpt_flags, pack_total_block_count}
use Rattle.f2_pack.specs.declared.writing.NewPack.{NewPack}

-- its blocks in order: the sealed head, the summary blocks of the six logs, and the sealed head again as the tail
abbrev pub written_blocks : NewPack → List Block
written_blocks p = with_seal p.head ∷ [] ++ p.sums ++ with_seal p.head ∷ []

abbrev pub written : NewPack → Pack
written p = block_at (written_blocks p)

-- A head in the one form that is written: a clean unmount with its checksum, all summaries in their normal form, no
-- orphans, and 8 blocks in all.
pub record IsNormal (head : Block) : Type 0 where
  pub flags : ckpt_flags head ≡ 0x41
  pub total : pack_total_block_count head ≡ 8
