use Rattle.std.proofs.Common.{◌≡◌, ◌+◌, ◌*◌, ◌∙◌, ◌++◌, List, ℕ, length, refl, arith, rules}
use Rattle.std.specs.Prelude.{replicate}
use Rattle.byteorder.specs.Endian.{little_bytes}
use Rattle.f2_bytes.specs.Bytes.{with_bytes}
use Rattle.f2_sum.proofs.Parts.{with_bytes-three}
use Rattle.f2_sum.proofs.records.sit_entry_bytes.Goals as goal

pub returns-clause-bytes : goal.returns-clause-bytes
returns-clause-bytes c =
    let e = c.args.e in
    let zeros : List ℕ = replicate 74 0 in
    let start : List ℕ = little_bytes 2 (1024 * c.from.result + e.count) in
    let mtime : List ℕ = little_bytes 8 e.mtime in
    let size : length e.map ≡ 64 = search rules in
    let first : c.put_bytes.new.b ≡ with_bytes zeros 0 start = c.put_bytes.ensures ∙ λ i. with_bytes zeros 0 (c.half_bytes.ensures i) in
    let second : c.put_bytes-2.new.b ≡ with_bytes (with_bytes zeros 0 start) 2 e.map = c.put_bytes-2.ensures ∙ λ i. with_bytes (first i) 2 e.map in
    let third : c.put_bytes-3.new.b ≡ with_bytes (with_bytes (with_bytes zeros 0 start) 2 e.map) 66 mtime = c.put_bytes-3.ensures ∙ λ i. with_bytes (second i) 66 (c.long_bytes.ensures i) in
    third ∙ with_bytes-three zeros start e.map mtime 2 66 refl (omega (arith, size)) refl
    ∙ (λ i. little_bytes 2 (1024 * c.from.ensures i + e.count) ++ e.map ++ mtime)
