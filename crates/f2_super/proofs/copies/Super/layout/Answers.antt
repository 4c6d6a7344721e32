use Rattle.std.proofs.Common.{◌*◌, ◌/◌, arith, sym, subst}
use Rattle.f2_bytes.specs.Superblock.{IsInOrder}
use Rattle.f2_bytes.proofs.CopyFacts.{room, layout_in_order}
use Rattle.f2_super.proofs.copies.Super.layout.Goals as goal

pub overflow_mul-result : goal.overflow_mul-result
overflow_mul-result c = omega (arith, (room c.args.self.now c.field.ensures.passes).bitmaps, c.field-7.ensures.value)

pub overflow_mul-result-2 : goal.overflow_mul-result-2
overflow_mul-result-2 c = omega (arith, (room c.args.self.now c.field.ensures.passes).bitmaps, c.field-8.ensures.value)

-- the fields read are those of the layout
pub returns-clause-in_order : goal.returns-clause-in_order
returns-clause-in_order c = λ few.
    subst IsInOrder (λ i. record {
      blocks = sym c.field.ensures.value i;
      cp = sym c.field-2.ensures.value i;
      sit = sym c.field-3.ensures.value i;
      nat = sym c.field-4.ensures.value i;
      ssa = sym c.field-5.ensures.value i;
      main = sym c.field-6.ensures.value i;
      sit_half = 512 * (sym c.field-7.ensures.value i / 2);
      nat_half = 512 * (sym c.field-8.ensures.value i / 2);
      segments = sym c.field-9.ensures.value i;
    }) (layout_in_order c.args.self.now c.field.ensures.passes few)
