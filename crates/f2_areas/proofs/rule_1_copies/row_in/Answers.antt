use Rattle.std.proofs.Common.{◌≤◌, ◌+◌, List, ℕ, length, drop, ap, ◌∙◌, arith, rules}
use Rattle.f2_bytes.specs.Fields.{row_at}
use Rattle.f2_bytes.specs.Superblock.{superblock_rows, copy_row, copy_of}
use Rattle.f2_bytes.proofs.CopyFacts.{superblock_row}
use Rattle.f2_areas.proofs.rule_1_copies.row_in.Goals as goal

pub get-requires : goal.get-requires
get-requires c =
    let fits = superblock_row c.args.k c.requires in
    let row = row_at superblock_rows c.args.k in
    let inside : row.offset + row.width ≤ length c.split_at.result.1.now = omega (arith, fits.inside, c.split_at.ensures.back_len, c.bytes.ensures.block.length, ap length c.bytes.ensures.same) in
    let narrow = fits.narrow in
    search rules

pub returns : goal.returns
unfolding copy_of
returns c = c.get.ensures.value ∙ ap (λ (copy : List ℕ). copy_row copy c.args.k) (c.split_at.ensures.back ∙ ap (drop 1024) c.bytes.ensures.same)
