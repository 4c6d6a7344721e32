use Rattle.std.proofs.Common.{◌+◌, ◌<◌, length, get_or, ap, sym, ◌∙◌, arith}
use Rattle.f2_bytes.specs.Bytes.{word}
use Rattle.f2_survey.specs.Slots.{Row as FormatRow}
use Rattle.f2_files.proofs.RowWords.{length-mapped, get_or-mapped}
use Rattle.f2_files.proofs.address_rows.Row.word.Goals as goal

pub overflow_add-self-inside : goal.overflow_add-self-inside
overflow_add-self-inside c =
    let r = c.self.inside in
    let count = length-mapped (λ j. word r.block.now (r.at + j)) r.count in
    let all = ap (λ (row : FormatRow). length row.words) c.self.view_is in
    omega (arith, c.requires, count, all)

pub word-requires : goal.word-requires
word-requires c =
    let r = c.self.inside in
    let count = length-mapped (λ j. word r.block.now (r.at + j)) r.count in
    let all = ap (λ (row : FormatRow). length row.words) c.self.view_is in
    omega (arith, c.requires, count, all)

pub returns : goal.returns
returns c =
    let r = c.self.inside in
    let count = length-mapped (λ j. word r.block.now (r.at + j)) r.count in
    let all = ap (λ (row : FormatRow). length row.words) c.self.view_is in
    let low : c.args.j < r.count = omega (arith, c.requires, count, all) in
    c.word.ensures
    ∙ sym (get_or-mapped (λ j. word r.block.now (r.at + j)) r.count c.args.j 0 low)
    ∙ ap (λ (row : FormatRow). get_or row.words c.args.j 0) c.self.view_is
