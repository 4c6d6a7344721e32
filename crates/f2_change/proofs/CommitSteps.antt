-- The steps of a commit, one after the other.
use Rattle.std.proofs.Common.{◌≡◌, inl, inr, ◌++◌, replicate, set, sym, ◌∙◌}
use Rattle.f2_bytes.specs.Bytes.{Block, Image}
use Rattle.f2_disk.specs.Disk.{Lands}
use Rattle.f2_disk.specs.Memory.{zero_block}
use Rattle.f2_pack.specs.Written.{written}
use Rattle.f2_change.specs.CommitSteps.{SameBut, IsBetween, cleared, filled}
use Rattle.f2_change.specs.Writes.{Prepared, head_address, clearing, filling, sealing, committed}
use Rattle.f2_change.proofs.SameBlocks.{writes_append, writes_one}

pub zeros_same : (b : Block) → b ≡ replicate 4096 0 → b ≡ zero_block
unfolding zero_block
zeros_same b is = is

module _ (r : Prepared) (image : Image) where
  pub cleared_is : set image (head_address r) zero_block ≡ cleared r image
  cleared_is = sym (writes_one image (head_address r) zero_block)

  pub committed_is : set (filled r image) (head_address r) (written r.pack 0) ≡ committed r image
  committed_is =
      sym (writes_append image (clearing r) (filling r ++ sealing r)
      ∙ writes_append (cleared r image) (filling r) (sealing r)
      ∙ writes_one (filled r image) (head_address r) (written r.pack 0))

  pub in_clearing : (c : Image) → Lands (head_address r) zero_block image c → IsBetween image r c
  in_clearing c lands = inl lands

  pub in_filling : (c : Image) → SameBut (filling r) (cleared r image) c → IsBetween image r c
  in_filling c same = inr (inl same)

  pub in_sealing : (c : Image) → Lands (head_address r) (written r.pack 0) (filled r image) c → IsBetween image r c
  in_sealing c lands = inr (inr lands)
