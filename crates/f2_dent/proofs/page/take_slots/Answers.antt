use Rattle.std.proofs.Common.{◌≡◌, ℕ, List, length, take, drop, ◌∙◌, subst, arith}
use Rattle.f2_dent.proofs.Bits.{IsTaken, front_bits, put_front, rest_kept, front_size, taken_all}
use Rattle.f2_dent.proofs.page.take_slots.Goals as goal

pub slice_bounds-copy_from_slice-end-2 : goal.slice_bounds-copy_from_slice-end-2
slice_bounds-copy_from_slice-end-2 c =
    let size = c.bytes.ensures.block.length in front_size c.bytes.result.now c.args.block.now 27 c.bytes.ensures.same (omega (arith, size))

pub copy_from_slice-requires : goal.copy_from_slice-requires
copy_from_slice-requires c =
    let size = c.bytes.ensures.block.length in front_size c.bytes.result.now c.args.block.now 27 c.bytes.ensures.same (omega (arith, size))

pub returns-clause-bits : goal.returns-clause-bits
returns-clause-bits c = λ t below.
    let size : length c.loop-at.map ≡ 27 = c.loop-at.invariant.length ∙ c.copy_from_slice.ensures.len in
    let taken : IsTaken (take 27 c.bytes.result.now) c.loop-at.map c.args.slot c.loop-at.at = subst (λ (l : List ℕ). IsTaken l c.loop-at.map c.args.slot c.loop-at.at) c.copy_from_slice.ensures.after c.loop-at.invariant in
    front_bits c.args.block.now c.put.new.self c.loop-at.map (drop 27 c.args.block.now) c.args.slot c.args.slots 27 size
    (put_front c.args.block.now c.put.new.self c.loop-at.map 27 size c.put.ensures.bytes)
    (taken_all c.args.block.now c.bytes.result.now c.loop-at.map c.args.slot c.args.slots c.loop-at.at 27 c.bytes.ensures.same c.loop-at.auto.at c.loop-at.auto.at-end c.loop-at-test.false taken)
    t (omega (arith, below))

pub returns-clause-rest : goal.returns-clause-rest
returns-clause-rest c =
    let size : length c.loop-at.map ≡ 27 = c.loop-at.invariant.length ∙ c.copy_from_slice.ensures.len in
    rest_kept c.args.block.now c.put.new.self c.loop-at.map 27 size (put_front c.args.block.now c.put.new.self c.loop-at.map 27 size c.put.ensures.bytes)
