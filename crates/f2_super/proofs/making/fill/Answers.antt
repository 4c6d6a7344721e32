use Rattle.std.proofs.Common.{◌≡◌, length, true, ap, ◌∙◌, arith}
use Rattle.f2_bytes.specs.Fields.{lie_apart}
use Rattle.f2_bytes.specs.Superblock.{superblock_rows}
use Rattle.f2_super.proofs.Filled.{filled-none, filled-more, fits-at}
use Rattle.f2_super.proofs.making.fill.Goals as goal

pub loop-k-init : goal.loop-k-init
loop-k-init c = filled-none superblock_rows c.args.values.now c.args.c.now

pub set_row-requires : goal.set_row-requires
set_row-requires c = record {
  size = c.loop-k.invariant.size ∙ c.requires.size;
  row = omega arith;
  fits = fits-at superblock_rows c.args.values.now c.loop-k.k c.requires.fits (omega arith) (omega arith);
}

pub loop-k-preserved : goal.loop-k-preserved
loop-k-preserved c =
    let apart : lie_apart (length c.args.c.now) superblock_rows ≡ true = ap (λ n. lie_apart n superblock_rows) c.requires.size in
    filled-more superblock_rows c.args.values.now c.loop-k.k c.args.c.now c.loop-k.c _ apart (omega arith) c.loop-k.invariant c.set_row.ensures.bytes c.set_row.ensures.read
