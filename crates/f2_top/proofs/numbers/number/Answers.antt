use Rattle.std.proofs.Common.{◌∙◌}
use Rattle.f2_top.proofs.Digits.{prefixed, unprefixed}
use Rattle.f2_top.proofs.numbers.number.Goals as goal

pub returns-in-Some : goal.returns-in-Some
returns-in-Some c =
    let found = c.in-Some.ensures.cases in
    c.numeral.ensures ∙ prefixed c.args.text.now c.in-Some.digits.now found.0 found.1.0 found.1.1 found.2

pub returns-in-None : goal.returns-in-None
returns-in-None c = c.numeral-in-None.ensures ∙ unprefixed c.args.text.now c.in-None.ensures.cases
