use Rattle.std.proofs.Common.{sym, ◌∙◌}
use Rattle.f2_dent.proofs.Hashes.{hash-dots, hash-other, hash_from-step, hash_from-done, some_left, none_left}
use Rattle.f2_dent.proofs.hash.name_hash.Goals as goal

pub returns-then-is_dots : goal.returns-then-is_dots
returns-then-is_dots c = sym (hash-dots c.args.name.now (sym c.is_dots.ensures ∙ c.if-is_dots.true))

pub loop-rest-preserved : goal.loop-rest-preserved
loop-rest-preserved c =
    hash_from-step c.loop-rest.p c.loop-rest.q c.loop-rest.rest.now c.split_at.result.0.now c.split_at.result.1.now c.min.result c.words.result c.mix-x.result
    (some_left c.loop-rest.rest.now (sym c.is_empty.ensures ∙ c.loop-rest-test.true)) c.min.ensures c.split_at.ensures.front c.split_at.ensures.back c.words.ensures c.mix-x.ensures
    ∙ c.loop-rest.invariant

pub returns : goal.returns
returns c =
    sym (hash_from-done c.loop-rest.p c.loop-rest.q c.loop-rest.rest.now (none_left c.loop-rest.rest.now (sym c.is_empty.ensures ∙ c.loop-rest-test.false)))
    ∙ c.loop-rest.invariant ∙ sym (hash-other c.args.name.now (sym c.is_dots.ensures ∙ c.if-is_dots.false))
