use Rattle.std.proofs.Common.{◌-◌, ◌+◌, ◌∙◌, ℕ, List, length-take, take, drop, ap, arith}
use Rattle.f2_bytes.specs.Bytes.{number_at}
use Rattle.f2_bytes.proofs.Numbers.{number_at-with_number, with_number-none, put_mid-with_number, number_at-none}
use Rattle.f2_bytes.proofs.fields.put_number.Goals as goal

pub returns-then-width-gt0-clause-bytes : goal.returns-then-width-gt0-clause-bytes
returns-then-width-gt0-clause-bytes c =
    let b = c.args.b.now in
    let part = take (c.args.offset + c.args.width - c.args.offset) (drop c.args.offset b) in
    put_mid-with_number b part c.write_uint.new.buf c.args.offset c.args.width c.args.value (omega (arith, length-take (c.args.offset + c.args.width - c.args.offset) (drop c.args.offset b))) c.write_uint.ensures

pub returns-then-width-gt0-clause-read : goal.returns-then-width-gt0-clause-read
returns-then-width-gt0-clause-read c =
    let b = c.args.b.now in
    let part = take (c.args.offset + c.args.width - c.args.offset) (drop c.args.offset b) in
    ap (λ (l : List ℕ). number_at l c.args.offset c.args.width) (put_mid-with_number b part c.write_uint.new.buf c.args.offset c.args.width c.args.value (omega (arith, length-take (c.args.offset + c.args.width - c.args.offset) (drop c.args.offset b))) c.write_uint.ensures)
    ∙ number_at-with_number b c.args.offset c.args.width c.args.value c.requires.inside c.requires.fits

pub returns-else-width-gt0-clause-bytes : goal.returns-else-width-gt0-clause-bytes
returns-else-width-gt0-clause-bytes c = with_number-none c.args.b.now c.args.offset c.args.width c.args.value (omega arith)

pub returns-else-width-gt0-clause-read : goal.returns-else-width-gt0-clause-read
returns-else-width-gt0-clause-read c = number_at-none c.args.b.now c.args.offset c.args.width c.args.value (omega arith) c.requires.fits
