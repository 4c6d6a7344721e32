use Rattle.std.proofs.Common.{◌≡◌, ℕ, ◌+◌, refl, sym, ap, ◌∙◌, length}
use Rattle.std.proofs.lemmas.List.{length-replicate}
use Rattle.f2_bytes.specs.Bytes.{with_bytes}
use Rattle.f2_view.proofs.SummaryReads.{put_over}
use Rattle.f2_change.specs.Change.{given, next_rows}
use Rattle.f2_change.proofs.NextHeads.{next-head}
use Rattle.f2_change.proofs.heads.next_head.Goals as goal

pub returns : goal.returns
unfolding given
returns c = λ s n turns_sit turns_nat.
    let base = c.with_rows-bytes.result in
    let rows = next_rows c.args.version c.args.logs.now c.args.counts.now in
    let long : length c.args.old.now ≡ 4096 = c.with_rows-bytes.ensures.size in
    let zeros : length c.zeros-head.result ≡ 4096 = ap length c.zeros-head.ensures ∙ length-replicate {A = ℕ} 4096 0 in
    let all : length c.zeros-head.result ≡ length c.with_rows-bytes.result = zeros ∙ sym (c.with_rows-bytes.ensures.rows.size ∙ long) in
    next-head c.args.old.now base c.args.sit.now c.args.nat.now c.put-3.new.self rows long c.with_rows-bytes.ensures.rows c.requires.sit c.requires.nat c.requires.room refl refl
    (c.put-3.ensures.bytes ∙ ap (λ b. with_bytes b (192 + length c.args.sit.now) c.args.nat.now) (c.put-2.ensures.bytes ∙ ap (λ b. with_bytes b 192 c.args.sit.now) (c.put.ensures.bytes ∙ put_over c.zeros-head.result c.with_rows-bytes.result all)))
    c.bytes-held.ensures.block s n turns_sit turns_nat
