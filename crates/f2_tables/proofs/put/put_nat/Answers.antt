use Rattle.std.proofs.Common.{refl, ◌≡◌, ◌*◌, ◌+◌, ◌≤◌, ◌⊎◌, inl, inr, length, ap, ◌∙◌, arith}
use Rattle.std.proofs.lemmas.Bool.{cases_lt}
use Rattle.f2_bytes.specs.Bytes.{with_bytes}
use Rattle.f2_bytes.specs.Journal.{nat_entry_at, nat_entry_bytes}
use Rattle.f2_bytes.proofs.Entries.{read-put, nat_entry_at-bytes, nat_entry_at-other}
use Rattle.f2_sum.specs.Records.{nat_entry}
use Rattle.f2_tables.proofs.put.put_nat.Goals as goal

pub returns-clause-read : goal.returns-clause-read
returns-clause-read c =
    let b = c.args.b.now in
    let at = 9 * c.args.k in
    let e = nat_entry c.args.e in
    let size : length (nat_entry_bytes e) ≡ 9 = refl in
    ap (λ l. nat_entry_at l at) (c.put.ensures.bytes ∙ ap (with_bytes b at) c.nat_entry_bytes.ensures.bytes)
    ∙ read-put nat_entry_at e b (nat_entry_bytes e) at (omega (arith, c.put.ensures.block.length, size, c.requires)) (λ front rest is. nat_entry_at-bytes e front rest at is c.nat_entry_bytes.ensures.fits)

pub returns-clause-others : goal.returns-clause-others
returns-clause-others c = λ j other.
    let apart : (9 * j + 9 ≤ 9 * c.args.k) ⊎ (9 * c.args.k + 9 ≤ 9 * j) =
    elim (cases_lt j c.args.k) [ inl below ↦ inl (omega arith) | inr above ↦ inr (omega arith) ] in
    let size : length c.nat_entry_bytes.result ≡ 9 = ap length c.nat_entry_bytes.ensures.bytes in
    ap (λ l. nat_entry_at l (9 * j)) c.put.ensures.bytes
    ∙ nat_entry_at-other c.args.b.now c.nat_entry_bytes.result (9 * c.args.k) (9 * j) size (omega (arith, c.put.ensures.block.length, c.requires)) apart
