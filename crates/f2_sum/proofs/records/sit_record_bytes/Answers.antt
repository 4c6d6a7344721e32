use Rattle.std.proofs.Common.{◌≡◌, ◌∙◌, List, ℕ, refl, arith}
use Rattle.std.specs.Prelude.{replicate}
use Rattle.byteorder.specs.Endian.{little_bytes}
use Rattle.f2_bytes.specs.Bytes.{with_bytes}
use Rattle.f2_bytes.specs.Journal.{sit_entry_bytes}
use Rattle.f2_bytes.proofs.Entries.{sit_entry_width}
use Rattle.f2_sum.specs.Records.{sit_entry}
use Rattle.f2_sum.proofs.Parts.{with_bytes-two}
use Rattle.f2_sum.proofs.records.sit_record_bytes.Goals as goal

pub returns-clause-bytes : goal.returns-clause-bytes
returns-clause-bytes c =
    let e = sit_entry c.args.r.entry in
    let zeros : List ℕ = replicate 78 0 in
    let start : List ℕ = little_bytes 4 c.args.r.segno in
    let entry : List ℕ = sit_entry_bytes e in
    let first : c.put_bytes.new.b ≡ with_bytes zeros 0 start = c.put_bytes.ensures ∙ λ i. with_bytes zeros 0 (c.word_bytes.ensures i) in
    let second : c.put_bytes-2.new.b ≡ with_bytes (with_bytes zeros 0 start) 4 entry = c.put_bytes-2.ensures ∙ λ i. with_bytes (first i) 4 (c.sit_entry_bytes.ensures.bytes i) in
    second ∙ with_bytes-two zeros start entry 4 refl (omega (arith, sit_entry_width e c.sit_entry_bytes.ensures.fits.map))
