use Rattle.std.proofs.Common.{◌≡◌, ◌*◌, ◌+◌, ◌≤◌, ◌⊎◌, inl, inr, length, ap, ◌∙◌, arith}
use Rattle.std.proofs.lemmas.Bool.{cases_lt}
use Rattle.f2_bytes.specs.Bytes.{with_bytes}
use Rattle.f2_bytes.specs.Journal.{sit_entry_at, sit_entry_bytes}
use Rattle.f2_bytes.proofs.Entries.{read-put, sit_entry_at-bytes, sit_entry_at-other, sit_entry_width}
use Rattle.f2_sum.specs.Records.{sit_entry}
use Rattle.f2_tables.proofs.put.put_sit.Goals as goal

pub returns-clause-read : goal.returns-clause-read
returns-clause-read c =
    let b = c.args.b.now in
    let at = 74 * c.args.k in
    let e = sit_entry c.args.e in
    let size : length (sit_entry_bytes e) ≡ 74 = sit_entry_width e c.sit_entry_bytes.ensures.fits.map in
    ap (λ l. sit_entry_at l at) (c.put.ensures.bytes ∙ ap (with_bytes b at) c.sit_entry_bytes.ensures.bytes)
    ∙ read-put sit_entry_at e b (sit_entry_bytes e) at (omega (arith, c.put.ensures.block.length, size, c.requires.entry)) (λ front rest is. sit_entry_at-bytes e front rest at is c.sit_entry_bytes.ensures.fits)

pub returns-clause-others : goal.returns-clause-others
returns-clause-others c = λ j other.
    let apart : (74 * j + 74 ≤ 74 * c.args.k) ⊎ (74 * c.args.k + 74 ≤ 74 * j) =
    elim (cases_lt j c.args.k) [ inl below ↦ inl (omega arith) | inr above ↦ inr (omega arith) ] in
    let size : length c.sit_entry_bytes.result ≡ 74 = ap length c.sit_entry_bytes.ensures.bytes ∙ sit_entry_width (sit_entry c.args.e) c.sit_entry_bytes.ensures.fits.map in
    ap (λ l. sit_entry_at l (74 * j)) c.put.ensures.bytes
    ∙ sit_entry_at-other c.args.b.now c.sit_entry_bytes.result (74 * c.args.k) (74 * j) size (omega (arith, c.put.ensures.block.length, c.requires.entry)) apart
