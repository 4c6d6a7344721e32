use Rattle.std.proofs.Common.{◌+◌, ◌∙◌, ℕ, List, take, ap}
use Rattle.std.specs.Prelude.{slice_range}
use Rattle.f2_bytes.specs.Node.{inline_area}
use Rattle.f2_dump.proofs.FileParts.{inline_cut}
use Rattle.f2_dump.proofs.contents.inline_bytes.Goals as goal

pub returns-clause-bytes : goal.returns-clause-bytes
returns-clause-bytes c =
    let b = c.args.b.now in
    let range = c.inline_range-start in
    let count = c.min-count.result in
    ap (λ (l : List ℕ). slice_range l range.result.0 (range.result.0 + count)) c.bytes-bytes.ensures.same
    ∙ inline_cut b c.inode_field.result range.result.0 range.result.1 count range.ensures.start range.ensures.length c.min-count.ensures
    ∙ ap (λ (n : ℕ). take n (inline_area b)) c.inode_field.ensures.value
