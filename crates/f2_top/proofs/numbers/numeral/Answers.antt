use Rattle.std.proofs.Common.{arith, sym, ◌∙◌}
use Rattle.std.proofs.lemmas.Str.Pattern.{starts_char}
use Rattle.f2_top.proofs.Digits.{signed, reads}
use Rattle.f2_top.proofs.numbers.numeral.Goals as goal

pub returns-then-starts_with : goal.returns-then-starts_with
returns-then-starts_with c =
    sym (signed c.args.base c.args.text.now c.requires.high ((starts_char 43 c.args.text.now c.starts_with.result c.starts_with.ensures.cases (omega arith) (omega arith)).0 c.if-starts_with.true))

pub returns : goal.returns
returns c =
    let tests = starts_char 43 c.args.text.now c.starts_with.result c.starts_with.ensures.cases (omega arith) (omega arith) in
    c.ok.ensures.value ∙ reads c.args.base c.args.text.now c.from_str_radix.result (λ plus. let no = tests.1 plus in cc) c.from_str_radix.ensures.value
