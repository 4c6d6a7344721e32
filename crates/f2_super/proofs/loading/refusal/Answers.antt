use Rattle.std.proofs.Common.{arith}
use Rattle.f2_bytes.proofs.CopyFacts.{two_blocks}
use Rattle.f2_super.proofs.loading.refusal.Goals as goal

pub returns-else-blocks-size-clause-room : goal.returns-else-blocks-size-clause-room
returns-else-blocks-size-clause-room c = λ none pass. let h = two_blocks c.args.sup.now pass in omega (arith, c.field-blocks.ensures.value)
