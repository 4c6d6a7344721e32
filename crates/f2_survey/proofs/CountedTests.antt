-- A test that is counted.
use Rattle.std.proofs.Common.{◌≡◌, ℕ, Bool, true, false, cond}
use Rattle.std.specs.Int.{from_bool}

-- a test that is counted, as 1 or 0
pub counted-is : (n : ℕ) (b : Bool) → n ≡ from_bool b → n ≡ cond b 1 0
counted-is n true is = is
counted-is n false is = is
