use Rattle.std.proofs.Common.{◌≡◌, ◌<◌, length, false, arith, ◌++◌, ◌∷◌, [], cond, sym, ◌∙◌}
use Rattle.std.proofs.lemmas.List.{get_or_default}
use Rattle.f2_tables.specs.Tables.{value_at, is_dirty}
use Rattle.f2_tables.proofs.Marks.{filter-none, filter-more}
use Rattle.f2_tables.proofs.newer.Newer.blocks.Goals as goal

pub loop-k-init : goal.loop-k-init
loop-k-init g c = c.new-dirty.ensures.items ∙ filter-none (is_dirty c.args.entries c.args.limit (value_at c.args.self.now))

pub loop-k-preserved : goal.loop-k-preserved
loop-k-preserved g c =
    let k = c.loop-k.k in
    let test = is_dirty c.args.entries c.args.limit (value_at c.args.self.now) in
    let inside : k < length c.mark.new.marks.items = omega (arith, c.mark.ensures.length, c.in-Ok.ensures.len) in
    let marked : c.index.result.now ≡ test k = c.index.ensures ∙ get_or_default c.mark.new.marks.items k c.index.result.now false inside ∙ c.mark.ensures.marks k in
    c.in_ok-push_marked.ensures ∙ (λ i. c.loop-k.invariant i ++ cond (marked i) (k ∷ []) []) ∙ sym (filter-more test k)
