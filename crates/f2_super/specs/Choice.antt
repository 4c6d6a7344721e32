-- The copy that counts, of the two that were read.
use Rattle.std.specs.Prelude.{ℕ, false, List, Option, Some, None, Result, Err}
use Rattle.f2_super.specs.Copy.{are_twins}
use Rattle.f2_super.specs.Load.{unless, refusal_of}
use Rattle.f2_super.specs.declared.loading.Found.{Found}
use Rattle.f2_super.specs.declared.loading.SuperRefusal.{SuperRefusal}
use Rattle.f2_super.specs.declared.loading.SuperRefusal.TheVariants.{NoSuper}

abbrev pub found_of : ℕ → Option (List ℕ) → Option (List ℕ) → Result Found SuperRefusal
found_of size (Some c) d = unless (refusal_of size c) (record { sup = c; copy = 0; twin = are_twins (Some c) d })
found_of size None (Some d) = unless (refusal_of size d) (record { sup = d; copy = 1; twin = false })
found_of size None None = Err NoSuper
