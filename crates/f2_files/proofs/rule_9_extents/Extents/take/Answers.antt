use Rattle.std.proofs.Common.{◌++◌, inl, inr, refl, subst}
use Rattle.f2_files.specs.Addresses.{slot_of}
use Rattle.f2_bytes.specs.Check.{same}
use Rattle.f2_defects.specs.Collected.{Collects, defects_of}
use Rattle.f2_files.proofs.ExtentDefects.{extents-skip, extents-step}
use Rattle.f2_files.proofs.rule_9_extents.Extents.take.Goals as goal

pub returns-then-slot-self : goal.returns-then-slot-self
returns-then-slot-self c = λ image slots inside. extents-skip image slots (slot_of c.args.slot.now) c.args.self.now (inl c.if-slot-self.true) inside

pub returns-then-slot-self-2 : goal.returns-then-slot-self-2
returns-then-slot-self-2 c = λ image slots inside. extents-skip image slots (slot_of c.args.slot.now) c.args.self.now (inr c.if-slot-self-2.true) inside

pub returns : goal.returns
returns c = λ image slots inside.
    extents-step image slots (slot_of c.args.slot.now) c.args.self.now c.run_to.new.self _ c.if-slot-self.false c.if-slot-self-2.false inside
    c.in_ok-run_to.ensures.part c.in_ok-run_to.ensures.extent c.in_ok-same.ensures.part refl refl c.in_ok-run_to.ensures.defects
    (λ defects of. subst (Collects c.same.new.self) (λ i. defects ++ defects_of c.run_to.new.self.defects.part (c.from.ensures i) c.args.slot.now.k (same (c.from-2.ensures i) (c.wanted-wanted.ensures.value i))) (c.in_ok-same.ensures.compares defects of))
