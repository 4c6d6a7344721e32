use Rattle.std.proofs.Common.{◌≡◌, ◌<◌, length, refl, ◌∙◌, arith}
use Rattle.f2_super.proofs.NewCopies.{keeps-none, units-more, units-keep}
use Rattle.f2_super.proofs.making.put_label.Goals as goal

pub loop-i-init : goal.loop-i-init
loop-i-init c = record { units = λ k below. absurd (omega (arith, below)); others = keeps-none 124 c.args.c.now }

pub loop-i-preserved : goal.loop-i-preserved
loop-i-preserved c =
    let size : length c.loop-i.c ≡ 3072 = c.loop-i.invariant.others.size ∙ c.requires.size in
    let low : c.loop-i.i < 512 = omega arith in
    record {
      units = units-more c.args.label.now c.args.c.now c.loop-i.c c.put.new.c c.loop-i.i _ refl size low c.put.ensures c.loop-i.invariant.units;
      others = units-keep c.args.c.now c.loop-i.c c.put.new.c c.loop-i.i _ _ size low c.put.ensures c.loop-i.invariant.others;
    }
