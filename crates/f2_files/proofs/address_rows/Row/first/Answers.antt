use Rattle.std.proofs.Common.{◌+◌, length, ap, arith}
use Rattle.f2_bytes.specs.Bytes.{word}
use Rattle.f2_survey.specs.Slots.{Row as FormatRow}
use Rattle.f2_files.proofs.RowWords.{length-mapped}
use Rattle.f2_files.proofs.address_rows.Row.first.Goals as goal

pub returns-clause-few : goal.returns-clause-few
returns-clause-few c =
    let r = c.self.inside in
    let count = length-mapped (λ j. word r.block.now (r.at + j)) r.count in
    let all = ap (λ (row : FormatRow). length row.words) c.self.view_is in
    omega (arith, count, all, r.few)
