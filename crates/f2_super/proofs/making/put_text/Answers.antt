use Rattle.std.proofs.Common.{ℕ, List, sym, subst, arith}
use Rattle.f2_super.specs.Filled.{Keeps}
use Rattle.f2_super.proofs.NewCopies.{put-keeps}
use Rattle.f2_super.proofs.making.put_text.Goals as goal

pub returns : goal.returns
returns c =
    subst (λ (l : List ℕ). Keeps c.args.at 7 c.args.c.now l) (sym c.put.ensures) (put-keeps c.args.c.now _ c.args.at (omega arith))
