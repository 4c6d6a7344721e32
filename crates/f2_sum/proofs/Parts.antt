-- Bytes that are put one part after the other.
use Rattle.std.proofs.Common.{◌≡◌, ℕ, ◌+◌, List, [], ◌++◌, length, drop, refl, sym, ap, ◌∙◌, arith, length-append, length-drop}
use Rattle.std.proofs.lemmas.List.{take_at, drop_at, drop-drop, drop_all, append-nil}
use Rattle.f2_bytes.specs.Bytes.{with_bytes}

-- the next part
pub with_bytes-next : (front rest bytes : List ℕ) (at : ℕ) → length front ≡ at → with_bytes (front ++ rest) at bytes ≡ front ++ bytes ++ drop (length bytes) rest
with_bytes-next front rest bytes at is =
    let behind : drop (at + length bytes) (front ++ rest) ≡ drop (length bytes) rest =
    sym (drop-drop (length bytes) at (front ++ rest)) ∙ ap (drop (length bytes)) (drop_at front rest at is) in
    λ i. take_at front rest at is i ++ bytes ++ behind i

-- three parts that fill all there is
pub with_bytes-three : (zeros a b c : List ℕ) (i j : ℕ) → length a ≡ i → i + length b ≡ j → length zeros ≡ j + length c → with_bytes (with_bytes (with_bytes zeros 0 a) i b) j c ≡ a ++ b ++ c
with_bytes-three zeros a b c i j first second all =
    let one : with_bytes zeros 0 a ≡ a ++ drop (length a) zeros = with_bytes-next [] zeros a 0 refl in
    let two : with_bytes (a ++ drop (length a) zeros) i b ≡ a ++ b ++ drop (length b) (drop (length a) zeros) =
    with_bytes-next a (drop (length a) zeros) b i first in
    let three : with_bytes (a ++ b ++ drop (length b) (drop (length a) zeros)) j c ≡ a ++ b ++ c ++ drop (length c) (drop (length b) (drop (length a) zeros)) =
    with_bytes-next (a ++ b) (drop (length b) (drop (length a) zeros)) c j (omega (arith, length-append a b)) in
    let none : drop (length c) (drop (length b) (drop (length a) zeros)) ≡ [] =
    drop_all (length c) (drop (length b) (drop (length a) zeros)) (simp (length-drop) (omega arith)) in
    ap (λ l. with_bytes (with_bytes l i b) j c) one
    ∙ ap (λ l. with_bytes l j c) two
    ∙ three
    ∙ ap (λ l. a ++ b ++ c ++ l) none ∙ append-nil (a ++ b ++ c)

-- two parts that fill all there is
pub with_bytes-two : (zeros a b : List ℕ) (i : ℕ) → length a ≡ i → length zeros ≡ i + length b → with_bytes (with_bytes zeros 0 a) i b ≡ a ++ b
with_bytes-two zeros a b i first all =
    let one : with_bytes zeros 0 a ≡ a ++ drop (length a) zeros = with_bytes-next [] zeros a 0 refl in
    let two : with_bytes (a ++ drop (length a) zeros) i b ≡ a ++ b ++ drop (length b) (drop (length a) zeros) = with_bytes-next a (drop (length a) zeros) b i first in
    let none : drop (length b) (drop (length a) zeros) ≡ [] = drop_all (length b) (drop (length a) zeros) (simp (length-drop) (omega arith)) in
    ap (λ l. with_bytes l i b) one ∙ two ∙ ap (λ l. a ++ b ++ l) none ∙ append-nil (a ++ b)
