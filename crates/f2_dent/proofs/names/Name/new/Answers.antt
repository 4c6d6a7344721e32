use Rattle.std.proofs.Common.{ℕ, List, length, refl, sym, subst, ◌∙◌, arith}
use Rattle.f2_dent.specs.Names.{IsHeld}
use Rattle.f2_dent.proofs.Held.{held-name, held-copied, some_bytes}
use Rattle.f2_dent.proofs.names.Name.new.Goals as goal

pub invariant_of-result : goal.invariant_of-result
invariant_of-result c =
    subst (λ (held : List ℕ). IsHeld held (length c.args.bytes.now)) (sym (held-copied c.args.bytes.now c.copy_from_slice.new.self _ c.copy_from_slice.ensures.after refl))
    (held-name c.args.bytes.now (some_bytes c.args.bytes.now (sym c.is_empty.ensures ∙ c.if-is_empty.false)) c.if-bytes-gt255.false (λ i. omega (arith, c.type_inv.bytes i)))
