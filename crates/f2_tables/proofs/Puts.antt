-- Entries that are put into a block one after the other.
use Rattle.std.proofs.Common.{◌≡◌, ◌≢◌, ℕ, ◌+◌, ◌<◌, ⊎_elim, subst, sym, ◌∙◌, arith}
use Rattle.std.proofs.lemmas.Bool.{cases_lt}

-- one more is put, and the others stay
pub put_more : {X : Type 0} (before after entry : ℕ → X) (j : ℕ) (e : X) → ((m : ℕ) → m < j → before m ≡ entry m) → after j ≡ e → ((m : ℕ) → m ≢ j → after m ≡ before m) → e ≡ entry j → (m : ℕ) → m < j + 1 → after m ≡ entry m
put_more before after entry j e so_far here others is m low =
    ⊎_elim (λ less. others m (λ same. absurd (omega (arith, same, less))) ∙ so_far m less) (λ past. let same : m ≡ j = omega (arith, low, past) in subst (λ n. after n ≡ entry n) (sym same) (here ∙ is)) (cases_lt m j)
