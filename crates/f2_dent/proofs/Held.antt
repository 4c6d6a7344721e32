-- The bytes of a name, copied over zeros.
use Rattle.std.proofs.Common.{◌≡◌, ℕ, ◌==◌, false, ◌-◌, ◌≤◌, ◌<◌, List, ◌++◌, length, take, drop, replicate, refl, sym, ap, ◌∙◌, subst, arith}
use Rattle.std.specs.Prelude.{slice_index}
use Rattle.std.proofs.lemmas.List.{take_at, drop-replicate}
use Rattle.f2_dent.specs.Names.{IsHeld, held_bytes}

pub held-name : (name : List ℕ) → 1 ≤ length name → length name ≤ 255 → ((i : ℕ) → slice_index name i < 256) → IsHeld (held_bytes name) (length name)
held-name name some few bytes =
    let front : take (length name) (held_bytes name) ≡ name = take_at name (replicate (255 - length name) 0) (length name) refl in
    record {
      some = some;
      few = few;
      length = ap length front;
      rest = ap held_bytes (sym front);
      within = λ i. subst (λ (l : List ℕ). slice_index l i < 256) (sym front) (bytes i);
    }

pub held-copied : (name copied zeros : List ℕ) → copied ≡ name → zeros ≡ replicate 255 0 → copied ++ drop (length name) zeros ≡ held_bytes name
held-copied name copied zeros same none =
    ap (λ (l : List ℕ). l ++ drop (length name) zeros) same
    ∙ ap (λ (l : List ℕ). name ++ drop (length name) l) none
    ∙ ap (λ (l : List ℕ). name ++ l) (drop-replicate (length name) 255 0)

pub some_bytes : (name : List ℕ) → (length name == 0) ≡ false → 1 ≤ length name
some_bytes name some = grind arith
