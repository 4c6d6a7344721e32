-- What the list of the valid addresses of a range says of each address there.
use Rattle.std.proofs.Common.{◌≡◌, ◌⊎◌, inl, inr, ⊎_elim, ℕ, zero, suc, ◌+◌, ◌-◌, ◌≤◌, ◌<◌, Bool, true, false, [], ◌∷◌, filter, refl, sym, subst, arith}
use Rattle.std.specs.List.{range_with_len}
use Rattle.std.proofs.lemmas.Bool.{cases_lt}
use Rattle.f2_bytes.specs.Bytes.{Image}
use Rattle.f2_bytes.specs.SegmentTable.{is_valid_address, valid_addresses}

first_or_later : (start a : ℕ) → start ≤ a → (a ≡ start) ⊎ (start + 1 ≤ a)
first_or_later start a from = ⊎_elim (λ below. inr (omega (arith, below))) (λ le. inl (omega (arith, from, le))) (cases_lt start a)

none_kept : (p : ℕ → Bool) (start n : ℕ) → filter p (range_with_len start n) ≡ [] → (a : ℕ) → start ≤ a → a < start + n → p a ≡ false
none_kept p start zero none a from below = absurd (omega (arith, from, below))
none_kept p start (suc n) none a from below = go (p start) refl (λ e later. none_kept p (start + 1) n e a later (omega (arith, below)))
  where
    go : (b : Bool) → p start ≡ b → (filter p (range_with_len (start + 1) n) ≡ [] → start + 1 ≤ a → p a ≡ false) → p a ≡ false
    go true passes rest = let e : start ∷ filter p (range_with_len (start + 1) n) ≡ [] = rw passes at none in cc
    go false fails rest =
        let e : filter p (range_with_len (start + 1) n) ≡ [] = rw fails at none in
        ⊎_elim (λ same. subst (λ x. p x ≡ false) (sym same) fails) (λ later. rest e later) (first_or_later start a from)

keeps_none : (p : ℕ → Bool) (start n : ℕ) → ((a : ℕ) → start ≤ a → a < start + n → p a ≡ false) → filter p (range_with_len start n) ≡ []
keeps_none p start zero each = refl
keeps_none p start (suc n) each =
    let here : p start ≡ false = each start (omega arith) (omega arith) in
    let rest = keeps_none p (start + 1) n (λ a from below. each a (omega (arith, from)) (omega (arith, below))) in
    rw (here, rest) refl

-- no address of a range is valid, just where none of them is that of a valid block
pub none_valid : (image : Image) (start end : ℕ) → valid_addresses image start end ≡ [] → (a : ℕ) → start ≤ a → a < end → is_valid_address image a ≡ false
unfolding valid_addresses
none_valid image start end none a from below = none_kept (is_valid_address image) start (end - start) none a from (omega (arith, from, below))

pub valid_none : (image : Image) (start end : ℕ) → ((a : ℕ) → start ≤ a → a < end → is_valid_address image a ≡ false) → valid_addresses image start end ≡ []
unfolding valid_addresses
valid_none image start end each = keeps_none (is_valid_address image) start (end - start) (λ a from below. each a from (omega (arith, from, below)))
