-- The bytes of a uuid, one at a time.
use Rattle.std.proofs.Common.{◌≡◌, ◌∙◌, ◌<◌, ◌≤◌, ◌+◌, ◌-◌, ℕ, zero, suc, refl, sym, ap, ap₂, arith, List, [], ◌∷◌, ◌++◌, length, take, set, append_assoc, append-nil, Option, Some, None, option_map}
use Rattle.std.proofs.lemmas.List.{take_all, take_more_set}
use Rattle.f2_top.specs.Numbers.{pair_of, uuid_bytes, uuid_place}

one_front : (done : List ℕ) (b : ℕ) (rest : Option (List ℕ)) → option_map (λ bs. done ++ bs) (option_map (λ bs. b ∷ bs) rest) ≡ option_map (λ bs. (done ++ b ∷ []) ++ bs) rest
one_front done b None = refl
one_front done b (Some bs) = ap (λ l. Some l) (sym (append_assoc done (b ∷ []) bs))

-- byte i is read
pub one_byte : (text id : List ℕ) (i n b : ℕ) → i < length id → n ≡ 16 - i → i < 16 → pair_of text (uuid_place i) ≡ Some b
    → option_map (λ bs. take i id ++ bs) (uuid_bytes text i n) ≡ option_map (λ bs. take (i + 1) (set id i b) ++ bs) (uuid_bytes text (i + 1) (16 - (i + 1)))
one_byte text id i zero b inside n low is = absurd (omega (arith, n, low))
one_byte text id i (suc n) b inside left low is =
    let fewer : n ≡ 16 - (i + 1) = omega (arith, left, low) in
    rw is (one_front (take i id) b (uuid_bytes text (i + 1) n) ∙ ap₂ (λ front k. option_map (λ bs. front ++ bs) (uuid_bytes text (i + 1) k)) (sym (take_more_set id i b inside)) fewer)

pub all_bytes : (text id : List ℕ) (i : ℕ) → length id ≡ 16 → 16 ≤ i → option_map (λ bs. take i id ++ bs) (uuid_bytes text i (16 - i)) ≡ Some id
all_bytes text id i long past =
    let none : 16 - i ≡ 0 = omega (arith, past) in
    ap (λ k. option_map (λ bs. take i id ++ bs) (uuid_bytes text i k)) none ∙ ap (λ l. Some l) (append-nil (take i id) ∙ take_all i id (omega (arith, long, past)))
