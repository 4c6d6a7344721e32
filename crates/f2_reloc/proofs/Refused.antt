-- The numbers of a refusal for want of space.
use Rattle.std.proofs.Common.{◌≡◌, ℕ, Result, Ok, Err, ap}
use Rattle.f2_commit.specs.declared.relocating.RelocRefusal.{RelocRefusal}
use Rattle.f2_commit.specs.declared.relocating.RelocRefusal.TheVariants.{NoSpace, DiskFault, NoMemory}

needed : {T : Type 0} → Result T RelocRefusal → ℕ
needed (Ok t) = 0
needed (Err (NoSpace n h)) = n
needed (Err DiskFault) = 0
needed (Err NoMemory) = 0

had : {T : Type 0} → Result T RelocRefusal → ℕ
had (Ok t) = 0
had (Err (NoSpace n h)) = h
had (Err DiskFault) = 0
had (Err NoMemory) = 0

pub same_numbers : {T : Type 0} (a b n h : ℕ) → ◌≡◌ {A = Result T RelocRefusal} (Err (NoSpace a b)) (Err (NoSpace n h)) → (a ≡ n) × (b ≡ h)
unfolding needed had
same_numbers a b n h e = (ap needed e, ap had e)
