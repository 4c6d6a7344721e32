-- The least number that passes a test.
use Rattle.std.proofs.Common.{◌≡◌, ◌≢◌, ℕ, ◌≤◌, ◌<◌, Bool, true, false, Some, None, refl, ap}
use Rattle.std.specs.Prelude.{nat_le, nat_lt, ◌&&◌, not, ◌==◌}
use Rattle.std.proofs.lemmas.Bool.{leb-true, le-leb, lt-ltb, ne_eqb}
use Rattle.f2_bytes.specs.declared.layout.Layout.{Layout}
use Rattle.f2_bytes.specs.Journal.{NatEntry}
use Rattle.f2_bytes.specs.NodeAddressTable.{nid_limit, next_live, is_live}
use Rattle.f2_bytes.proofs.Finds.{find-least, find-nothing}

-- the test of a node's number, from its parts
passes : (p q r z : Bool) → p ≡ true → q ≡ true → r ≡ true → z ≡ false → (p && (q && r && not z)) ≡ true
passes true true true false a b c d = refl
passes false q r z a b c d = cc
passes true false r z a b c d = cc
passes true true false z a b c d = cc
passes true true true true a b c d = cc

fails : (p q r z : Bool) → (p ≡ true → q ≡ true → z ≡ true) → (p && (q && r && not z)) ≡ false
fails false q r z is = refl
fails true false r z is = refl
fails true true false z is = refl
fails true true true false is = cc (is refl refl)
fails true true true true is = refl

-- a number whose entry has no address from the larger one of two on is none of a node
no_node : (l : Layout) (entry : ℕ → NatEntry) (from m : ℕ) → (from ≤ m → 3 ≤ m → (entry m).address ≡ 0) → (nat_le from m && is_live l m (entry m)) ≡ false
no_node l entry from m none =
    fails (nat_le from m) (nat_le 3 m) (nat_lt m (nid_limit l)) ((entry m).address == 0)
    (λ p q. ap (λ a. a == 0) (none (leb-true from m p) (leb-true 3 m q)))

pub next-none : (l : Layout) (entry : ℕ → NatEntry) (from : ℕ) → ((m : ℕ) → from ≤ m → 3 ≤ m → m < nid_limit l → (entry m).address ≡ 0) → next_live l entry from ≡ None
unfolding next_live
next-none l entry from none =
    find-nothing (λ m. nat_le from m && is_live l m (entry m)) (nid_limit l) (λ m lt. no_node l entry from m (λ a b. none m a b lt))

pub next-some : (l : Layout) (entry : ℕ → NatEntry) (from n : ℕ) → from ≤ n → 3 ≤ n → n < nid_limit l → (entry n).address ≢ 0
    → ((m : ℕ) → from ≤ m → 3 ≤ m → m < n → (entry m).address ≡ 0) → next_live l entry from ≡ Some n
unfolding next_live
next-some l entry from n low least high some none =
    let here : (nat_le from n && is_live l n (entry n)) ≡ true =
    passes (nat_le from n) (nat_le 3 n) (nat_lt n (nid_limit l)) ((entry n).address == 0) (le-leb from n low) (le-leb 3 n least) (lt-ltb n (nid_limit l) high) (ne_eqb (entry n).address 0 some) in
    find-least (λ m. nat_le from m && is_live l m (entry m)) (nid_limit l) n high here (λ m lt. no_node l entry from m (λ a b. none m a b lt))
