use Rattle.std.proofs.Common.{◌+◌, ◌<◌, length, get_or, ap, sym, ◌∙◌, arith}
use Rattle.f2_bytes.specs.Bytes.{word}
use Rattle.f2_survey.specs.Slots.{Row as FormatRow}
use Rattle.f2_files.proofs.RowWords.{length-mapped, get_or-mapped}
use Rattle.f2_files.proofs.address_rows.Row.used.Goals as goal

pub returns-clause-inside : goal.returns-clause-inside
returns-clause-inside c =
    let r = c.self.inside in
    let count = length-mapped (λ j. word r.block.now (r.at + j)) r.count in
    let all = ap (λ (row : FormatRow). length row.words) c.self.view_is in
    omega (arith, c.words_used.ensures.few, count, all)

pub returns-clause-zeros : goal.returns-clause-zeros
returns-clause-zeros c = λ j past low.
    let r = c.self.inside in
    let count = length-mapped (λ k. word r.block.now (r.at + k)) r.count in
    let all = ap (λ (row : FormatRow). length row.words) c.self.view_is in
    let inside : j < r.count = omega (arith, low, count, all) in
    ap (λ (row : FormatRow). get_or row.words j 0) (sym c.self.view_is)
    ∙ get_or-mapped (λ k. word r.block.now (r.at + k)) r.count j 0 inside
    ∙ c.words_used.ensures.zeros j past inside
