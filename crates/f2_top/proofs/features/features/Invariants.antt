use Rattle.std.proofs.Common.{◌≡◌, ℕ, ◌≤◌, length}
use denote.Text.{Utf8}
use denote.Shadow.{shadow}
use Rattle.f2_top.specs.Features.{features_of, features_with}
use Rattle.f2_top.proofs.features.features.Given as goal

abbrev pub invariant-loop-name : goal.invariant-loop-name
invariant-loop-name l = shadow (Utf8 l.rest) × ((n : ℕ) × (length l.rest ≤ n) × (features_of l.fn.text ≡ features_with n l.bits l.rest))

abbrev pub decreases-loop-name : goal.decreases-loop-name
decreases-loop-name l = length l.rest
