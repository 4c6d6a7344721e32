use Rattle.std.proofs.Common.{◌≡◌, ◌+◌, ◌++◌, ◌∷◌, [], map, sym, ap, ◌∙◌, arith, append_assoc}
use Rattle.std.specs.List.{range_with_len}
use Rattle.std.proofs.lemmas.List.FromFn.{map-range_with_len_more}
use Rattle.f2_bytes.specs.Bytes.{word}
use Rattle.f2_pack.proofs.reading.push_orphans.Goals as goal

pub loop-k-preserved : goal.loop-k-preserved
loop-k-preserved c =
    let b = c.args.b.now in
    let k = c.loop-k.k in
    let before = c.args.orphans.now.items in
    let more : map (word b) (range_with_len 0 (k + 1)) ≡ map (word b) (range_with_len 0 k) ++ word b k ∷ [] = map-range_with_len_more (word b) 0 k k (omega arith) in
    let number = c.u32_at-in-loop-k.ensures ∙ ap (λ l. word l k) c.bytes-bytes.ensures.same in
    c.in_ok-push.ensures.items
    ∙ (λ i. c.loop-k.invariant i ++ number i ∷ [])
    ∙ append_assoc before (map (word b) (range_with_len 0 k)) (word b k ∷ [])
    ∙ ap (λ l. before ++ l) (sym more)
