use Rattle.std.proofs.Common.{◌≡◌, ◌+◌, ◌^◌, ◌<◌, ◌++◌, ◌∷◌, [], ℕ, get_or, take, not, cond, sym, ap, ◌∙◌, arith}
use Rattle.std.proofs.lemmas.Grind.{common_steps}
use Rattle.std.proofs.lemmas.List.{take_more}
use Rattle.f2_bytes.specs.Bytes.{count_below}
use Rattle.f2_areas.proofs.Distinct.{is_met, count_met-none, count_met-more, set_more}
use Rattle.f2_areas.proofs.rule_2_checkpoint.distinct.Goals as goal

pub loop-number-init : goal.loop-number-init
loop-number-init c = record { same = λ at. grind (arith, common_steps, c.new-met.ensures.empty); count = c.new-met.ensures.len ∙ sym (count_met-none (2 ^ 32)) }

pub loop-number-preserved : goal.loop-number-preserved
loop-number-preserved c =
    let xs = c.args.numbers.now in
    let i = c.loop-number.number-index in
    let x = get_or xs i 0 in
    let old = c.loop-number.met in
    let new = c.insert.new.self in
    let below : x < 2 ^ 32 = let fits = c.type_inv.numbers i in omega (arith, fits) in
    let more : take (i + 1) xs ≡ take i xs ++ x ∷ [] = take_more xs i 0 c.loop-number-test.true in
    let added : c.in_ok-insert.field-0 ≡ not (is_met (take i xs) x) = c.in_ok-insert.ensures.added ∙ ap not (c.loop-number.invariant.same x) in
    record {
      same = λ at. set_more old new (take i xs) x at (c.loop-number.invariant.same at) (c.in_ok-insert.ensures.updates.0 at) ∙ ap (λ l. is_met l at) (sym more);
      count =
          c.in_ok-insert.ensures.len
          ∙ (λ k. c.loop-number.invariant.count k + cond {A = ℕ} (added k) 1 0)
          ∙ sym (count_met-more (2 ^ 32) (take i xs) x below)
          ∙ ap (λ l. count_below (2 ^ 32) (is_met l)) (sym more);
    }
