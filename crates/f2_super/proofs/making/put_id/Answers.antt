use Rattle.std.proofs.Common.{◌+◌, ℕ, List, length, sym, subst, ap, ◌∙◌, arith}
use Rattle.f2_bytes.specs.Bytes.{number_at}
use Rattle.f2_super.specs.Filled.{Keeps}
use Rattle.f2_super.proofs.NewCopies.{put-read, put-keeps}
use Rattle.f2_super.proofs.making.put_id.Goals as goal

pub returns-clause-id : goal.returns-clause-id
returns-clause-id c i below =
    ap (λ l. number_at l (108 + i) 1) c.put.ensures ∙ put-read c.args.c.now c.args.id.now 108 i (omega arith) below

pub returns-clause-others : goal.returns-clause-others
returns-clause-others c =
    subst (λ (l : List ℕ). Keeps 108 (length c.args.id.now) c.args.c.now l) (sym c.put.ensures) (put-keeps c.args.c.now c.args.id.now 108 (omega arith))
