use Rattle.std.proofs.Common.{◌≡◌, ◌∙◌, ap, sym, arith, Some}
use Rattle.f2_bytes.specs.Bytes.{Image}
use Rattle.f2_disk.specs.Memory.{zeros}
use Rattle.f2_disk.proofs.MemorySteps.{image_of_zeros, zeros_are}
use Rattle.f2_disk.proofs.calm.CalmDisk.new.Goals as goal

pub invariant_of-result : goal.invariant_of-result
invariant_of-result c = record { image = image_of_zeros c.loop.counter c.loop.all.items c.loop.invariant }

pub returns-clause-zeros : goal.returns-clause-zeros
returns-clause-zeros c =
    let all : c.loop.counter ≡ c.args.blocks = omega arith in
    ap (λ (i : Image). Some i) (c.loop.invariant ∙ sym (zeros_are c.loop.counter) ∙ ap zeros all)
