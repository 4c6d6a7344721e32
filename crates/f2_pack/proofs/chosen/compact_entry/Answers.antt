use Rattle.std.proofs.Common.{◌≡◌, ℕ, ◌<◌, List, [], ◌∷◌, map, length, Some, ap, ◌∙◌, arith, get_or}
use Rattle.std.proofs.lemmas.List.{get_or_default}
use Rattle.f2_bytes.specs.Bytes.{block_at}
use Rattle.f2_bytes.specs.Summary.{compact_place, summary_at}
use Rattle.f2_bytes.specs.Checkpoint.{compact_count, data_log_numbers}
use Rattle.f2_pack.proofs.Kept.{compact_kept, compact_inside, count_at}
use Rattle.f2_pack.proofs.chosen.compact_entry.Goals as goal

pub returns : goal.returns
returns c =
    let head = c.args.head.now in
    let counts : List ℕ = c.compact_count.result ∷ c.compact_count-2.result ∷ c.compact_count-3.result ∷ [] in
    let is_counts : counts ≡ map (compact_count head) data_log_numbers = λ i. c.compact_count.ensures.value i ∷ c.compact_count-2.ensures.value i ∷ c.compact_count-3.ensures.value i ∷ [] in
    let count : c.from.result ≡ compact_count head c.args.t = c.from.ensures ∙ ap (λ l. get_or l c.args.t 0) is_counts ∙ count_at (compact_count head) c.args.t c.requires.log in
    let inside : c.args.k < compact_count head c.args.t = omega (arith, c.if-k-from.false, count) in
    let place = c.compact_spot-block.result in
    let is_place : place ≡ compact_place counts c.args.t c.args.k = c.compact_spot-block.ensures.place in
    let at : compact_place counts c.args.t c.args.k ≡ compact_place (map (compact_count head) data_log_numbers) c.args.t c.args.k = ap (λ l. compact_place l c.args.t c.args.k) is_counts in
    let below : place.0 < length c.args.summaries.now = omega (arith, ap (λ p. p.0) is_place, ap (λ p. p.0) at, compact_inside head c.requires.counts c.args.t c.args.k c.requires.log c.requires.compact inside, c.requires.length) in
    let block : c.index-summaries-block.result ≡ block_at c.args.summaries.now place.0 = c.index-summaries-block.is ∙ get_or_default c.args.summaries.now place.0 c.index-summaries-block.result [] below in
    ap (λ s. Some s) (c.summary_at.ensures ∙ ap (λ l. summary_at l place.1) c.bytes.ensures.same)
    ∙ compact_kept head c.args.summaries.now c.args.t c.args.k counts place c.index-summaries-block.result c.requires.compact is_counts inside is_place block
