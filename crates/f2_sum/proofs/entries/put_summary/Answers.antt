use Rattle.std.proofs.Common.{◌≡◌, ◌*◌, ◌+◌, ◌≤◌, ◌⊎◌, inl, inr, ap, ◌∙◌, arith, length}
use Rattle.std.proofs.lemmas.Bool.{cases_lt}
use Rattle.f2_bytes.specs.Bytes.{with_bytes}
use Rattle.f2_bytes.specs.Summary.{summary_entry}
use Rattle.f2_sum.specs.Records.{summary_of}
use Rattle.f2_sum.proofs.Summaries.{summary_at-other, summary_at-put}
use Rattle.f2_sum.proofs.entries.put_summary.Goals as goal

pub returns-clause-read : goal.returns-clause-read
returns-clause-read c =
    ap (λ l. summary_entry l c.args.k) (c.put_bytes.ensures ∙ ap (with_bytes c.args.b.now (7 * c.args.k)) c.summary_bytes.ensures.bytes)
    ∙ summary_at-put c.args.b.now (7 * c.args.k) (summary_of c.args.s) (omega arith) c.summary_bytes.ensures.fits

pub returns-clause-others : goal.returns-clause-others
returns-clause-others c = λ j other.
    let apart : (7 * j + 7 ≤ 7 * c.args.k) ⊎ (7 * c.args.k + 7 ≤ 7 * j) =
    elim (cases_lt j c.args.k) [ inl below ↦ inl (omega arith) | inr above ↦ inr (omega arith) ] in
    let size : length c.summary_bytes.result ≡ 7 = ap length c.summary_bytes.ensures.bytes in
    ap (λ l. summary_entry l j) c.put_bytes.ensures
    ∙ summary_at-other c.args.b.now c.summary_bytes.result (7 * c.args.k) (7 * j) size (omega arith) apart
