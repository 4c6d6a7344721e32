use Rattle.std.proofs.Common.{◌∙◌, arith, sym}
use Rattle.f2_top.proofs.Digits.{undivided}
use Rattle.f2_top.proofs.numbers.range.Goals as goal

pub returns-in_err-first : goal.returns-in_err-first
returns-in_err-first c = c.from_residual.ensures ∙ sym (undivided c.args.text.now (c.in_err-first.ensures.byte (omega arith) (λ w o finds. finds)))
