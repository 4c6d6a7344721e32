use Rattle.std.proofs.Common.{◌++◌, refl, sym, ap, subst, ◌∙◌, List, ℕ}
use Rattle.std.specs.Prelude.{count_by, ◌==◌}
use Rattle.std.proofs.lemmas.Result.{on_ok_weaker}
use Rattle.f2_files.specs.Addresses.{slot_of}
use Rattle.f2_bytes.specs.Check.{same}
use Rattle.f2_defects.specs.Collected.{Collects, defects_of}
use Rattle.f2_files.proofs.RepeatCounts.{repeats-skip, repeats-step}
use Rattle.f2_files.proofs.repeated_claims.Repeats.take.Goals as goal

pub returns-then-not-is_address : goal.returns-then-not-is_address
returns-then-not-is_address c = λ image slots has. repeats-skip image slots (slot_of c.args.slot.now) c.args.self.now (sym c.is_address.ensures ∙ c.if-not-is_address.true) has

pub returns : goal.returns
returns c = on_ok_weaker c.same.result (λ compares image slots has.
    let s = c.args.slot.now in
    repeats-step image slots (slot_of s) c.args.self.now _ c.count-found.result (sym c.is_address.ensures ∙ c.if-not-is_address.false) refl c.same.ensures.part
    (c.count-found.ensures ∙ ap (λ (l : List ℕ). count_by (λ x. x == s.address) l) c.deref.ensures.value)
    (λ defects of. subst (Collects c.same.new.self) (λ i. defects ++ defects_of c.args.self.now.defects.part (c.from.ensures i) s.k (same c.count-found.result 1)) (compares defects of))
    has) c.same.ensures.compares
