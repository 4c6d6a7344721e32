-- An image that can be loaded is not refused.
use Rattle.std.proofs.Common.{◌≡◌, ◌==◌, ℕ, ◌^◌, ◌<◌, Bool, List, true, false, cond, length, Option, Some, None, Ok, refl, ap, ◌∙◌, arith, subst}
use Rattle.std.specs.Prelude.{◌&&◌, nat_le, nat_lt, is_some, unwrap_or}
use Rattle.std.proofs.lemmas.Bool.{leb-true, ltb-true}
use Rattle.f2_bytes.specs.Bytes.{Image, block_at}
use Rattle.f2_bytes.specs.Superblock.{copy_of, super_copy, has_twins, is_loadable, unsupported_features, block_count}
use Rattle.f2_super.specs.Load.{loaded_copy, refusal_of, unless}
use Rattle.f2_super.specs.declared.loading.Found.{Found}
use Rattle.f2_super.specs.declared.loading.SuperRefusal.TheVariants.{Unsupported, TooLarge, Truncated}

not_below : (a b : ℕ) → nat_le b a ≡ true → nat_lt a b ≡ false
not_below a b le = go (nat_lt a b) refl
  where
    go : (t : Bool) → nat_lt a b ≡ t → t ≡ false
    go true is = let high = leb-true b a le in let low : a < b = ltb-true a b is in absurd (omega (arith, high, low))
    go false is = refl

refusal-none : (size : ℕ) (c : List ℕ) → (unsupported_features c == 0) ≡ true → nat_le (block_count c) (2 ^ 28) ≡ true → nat_le (block_count c) size ≡ true → refusal_of size c ≡ None
unfolding refusal_of
refusal-none size c known few held =
    let large = Some (TooLarge (block_count c)) in
    let short = Some (Truncated (block_count c) size) in
    ap (λ t. cond t (cond (nat_lt (2 ^ 28) (block_count c)) large (cond (nat_lt size (block_count c)) short None)) (Some (Unsupported (unsupported_features c)))) known
    ∙ ap (λ t. cond t large (cond (nat_lt size (block_count c)) short None)) (not_below (2 ^ 28) (block_count c) few)
    ∙ ap (λ t. cond t short None) (not_below size (block_count c) held)

all_four : (a b c d : Bool) → (a && b && c && d) ≡ true → (a ≡ true) × (b ≡ true) × (c ≡ true) × (d ≡ true)
all_four true true true true is = (refl, refl, refl, refl)
all_four true true true false is = cc
all_four true true false d is = cc
all_four true false c d is = cc
all_four false b c d is = cc

-- what is loaded of it: the copy that counts
abbrev pub Loads : ℕ → Image → Bool → Option ℕ → Type 0
Loads size image twin copy = (found : Found) × (loaded_copy size image copy twin ≡ Ok found) × (found.twin ≡ twin)

loads_copy : (size : ℕ) (image : Image) (twin : Bool) (copy : Option ℕ) → length image ≡ size
    → (is_some copy && (unsupported_features (copy_of (block_at image (unwrap_or copy 0))) == 0) && nat_le (block_count (copy_of (block_at image (unwrap_or copy 0)))) (2 ^ 28) && nat_le (block_count (copy_of (block_at image (unwrap_or copy 0)))) (length image)) ≡ true
    → Loads size image twin copy
loads_copy size image twin None long is =
    let c = copy_of (block_at image 0) in
    let none = (all_four false (unsupported_features c == 0) (nat_le (block_count c) (2 ^ 28)) (nat_le (block_count c) (length image)) is).0 in
    cc
loads_copy size image twin (Some n) long is =
    let c = copy_of (block_at image n) in
    let found : Found = record { sup = c; copy = n; twin = twin } in
    let each = all_four true (unsupported_features c == 0) (nat_le (block_count c) (2 ^ 28)) (nat_le (block_count c) (length image)) is in
    let held = subst (λ (k : ℕ). nat_le (block_count c) k ≡ true) long each.3 in
    (found, ap (λ r. unless r found) (refusal-none size c each.1 each.2 held), refl)

pub loadable-loaded : (size : ℕ) (image : Image) → length image ≡ size → is_loadable image ≡ true → Loads size image (has_twins image) (super_copy image)
loadable-loaded size image long is = loads_copy size image (has_twins image) (super_copy image) long is
