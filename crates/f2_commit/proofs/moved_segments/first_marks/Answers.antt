use Rattle.std.proofs.Common.{rules, ◌∙◌}
use Rattle.f2_commit.proofs.SegmentBits.{zero_bits, one_more}
use Rattle.f2_commit.proofs.moved_segments.first_marks.Goals as goal

pub loop-k-init : goal.loop-k-init
loop-k-init c = record { size = search rules; bits = λ k low. zero_bits k }

pub loop-k-preserved : goal.loop-k-preserved
loop-k-preserved c = record {
  size = c.set_bit_msb.ensures.length ∙ c.loop-k.invariant.size;
  bits = one_more c.loop-k.map c.set_bit_msb.new.map c.loop-k.k c.set_bit_msb.ensures c.loop-k.invariant.bits;
}
