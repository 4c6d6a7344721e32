use Rattle.std.proofs.Common.{◌≡◌, ◌+◌, ◌++◌, ℕ, List, length, take, drop, ◌∙◌, ap, arith}
use Rattle.f2_disk.proofs.stop.half_written.Goals as goal

pub returns : goal.returns
returns c =
    let old = c.args.old.now in
    let half = c.split_at.result.0.now in
    let front = c.split_at.ensures.front ∙ ap (λ (l : List ℕ). take 2048 l) c.bytes.ensures.same in
    let at : 0 + length half ≡ 2048 = omega (arith, c.split_at.ensures.front_len) in
    c.put.ensures.bytes ∙ ap (λ (n : ℕ). half ++ drop n old) at ∙ ap (λ (l : List ℕ). l ++ drop 2048 old) front
