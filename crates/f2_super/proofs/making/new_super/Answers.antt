use Rattle.std.proofs.Common.{List, ℕ, ◌∙◌, ap, subst, sym}
use Rattle.f2_bytes.specs.Superblock.{copy_row}
use Rattle.f2_super.specs.NewCopy.{IsNewCopy}
use Rattle.f2_super.proofs.NewCopies.{unsealed-kept, new-passes, new-copy}
use Rattle.f2_super.proofs.NewSizes.{are_sizes}
use Rattle.f2_super.proofs.making.new_super.Goals as goal

pub of-requires : goal.of-requires
of-requires c =
    let is = unsealed-kept c.args.g.now c.args.features c.args.uuid.now c.args.label.now _ _ c.unsealed-c.ensures.parts c.put_checksum.ensures.others in
    record {
      size = is.size;
      passes = new-passes c.args.g.now c.args.features c.args.uuid.now c.args.label.now _ is (are_sizes c.args.g.now c.requires.geometry) c.put_checksum.ensures.right;
    }

pub returns : goal.returns
returns c =
    let is = unsealed-kept c.args.g.now c.args.features c.args.uuid.now c.args.label.now _ _ c.unsealed-c.ensures.parts c.put_checksum.ensures.others in
    subst (λ (l : List ℕ). IsNewCopy c.args.g.now c.args.features c.args.uuid.now c.args.label.now l) (sym c.of.ensures)
    (new-copy c.args.g.now c.args.features c.args.uuid.now c.args.label.now _ is (are_sizes c.args.g.now c.requires.geometry) c.put_checksum.ensures.right (λ off. ap (λ (l : List ℕ). copy_row l 32) (c.put_checksum.ensures.none off) ∙ c.unsealed-c.ensures.no_checksum) c.told-uuid c.requires.few c.requires.whole)
