use Rattle.std.proofs.Common.{◌≡◌, ◌∙◌, ◌-◌, ◌^◌, ap, arith}
use Rattle.std.specs.Int.RustNames.{bit_and}
use Rattle.bitflags.proofs.OnLiterals.{bitflags_on_literals}
use Rattle.f2_bytes.specs.Superblock.{feature, unsupported_features}
use Rattle.f2_super.proofs.loading.unsupported_features.Goals as goal

pub returns : goal.returns
unfolding bitflags_on_literals unsupported_features
returns c =
    let held : c.from_bits_retain-features.result.0 ≡ feature c.args.sup.now = c.from_bits_retain-features.ensures tt ∙ omega (arith, c.field.ensures.value, c.field.ensures.fits) in
    let all : c.all.result.0 ≡ 0xA00 = c.all.ensures tt in
    c.bits.ensures tt ∙ c.difference.ensures tt ∙ ap (λ n. bit_and n (2 ^ 32 - 1 - c.all.result.0)) held ∙ ap (λ n. bit_and (feature c.args.sup.now) (2 ^ 32 - 1 - n)) all
