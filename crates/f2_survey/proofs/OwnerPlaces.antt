-- Places in a table of tables, one of which is written.
use Rattle.std.proofs.Common.{◌≡◌, ℕ, ◌<◌, ◌≤◌, ◌==◌, ◌&&◌, true, cond, List, [], length, get_or, set, replicate, sym, ap, ◌∙◌, ⊎_elim, arith, get_or-set_same, get_or-set_other}
use Rattle.std.proofs.lemmas.Bool.{cases_lt, cases_eq, eq-eqb, ne_eqb, and_left, and_right, cond-true, cond-false}
use Rattle.std.proofs.lemmas.List.{get_or_past, get_or-replicate, length-replicate}

-- a list that was filled up with its default reads as before
pub read-grown : {A : Type 0} (old new : List A) (d : A) (n : ℕ) → length old < n → length new ≡ n
    → ((k : ℕ) → k < length old → get_or new k d ≡ get_or old k d) → ((k : ℕ) → length old ≤ k → k < n → get_or new k d ≡ d)
    → (k : ℕ) → get_or new k d ≡ get_or old k d
read-grown old new d n short long same filled k =
    ⊎_elim (λ low. same k low)
    (λ past. ⊎_elim (λ inside. filled k past inside) (λ beyond. get_or_past new k d (omega (arith, long, beyond))) (cases_lt k n) ∙ sym (get_or_past old k d past))
    (cases_lt k (length old))

-- what stands in each place after x was put into one, where the row that it goes into reads as before
pub read-put : {A : Type 0} (rows : List (List A)) (d : A) (segment place : ℕ) (row : List A) (x : A)
    → segment < length rows → place < length row → ((k : ℕ) → get_or row k d ≡ get_or (get_or rows segment []) k d)
    → (s p : ℕ) → get_or (get_or (set rows segment (set row place x)) s []) p d ≡ cond ((s == segment) && (p == place)) x (get_or (get_or rows s []) p d)
read-put {A = A} rows d segment place row x inside room same s p =
    ⊎_elim (λ here. at_row here) (λ other.
    ap (λ (r : List A). get_or r p d) (get_or-set_other rows segment s (set row place x) [] other)
    ∙ sym (cond-false ((s == segment) && (p == place)) x (get_or (get_or rows s []) p d) (and_left _ _ (ne_eqb s segment other))))
    (cases_eq s segment)
  where
    at_row : s ≡ segment → get_or (get_or (set rows segment (set row place x)) s []) p d ≡ cond ((s == segment) && (p == place)) x (get_or (get_or rows s []) p d)
    at_row here =
        ap (λ (k : ℕ). get_or (get_or (set rows segment (set row place x)) k []) p d) here
        ∙ ap (λ (r : List A). get_or r p d) (get_or-set_same rows segment (set row place x) [] inside)
        ∙ ⊎_elim (λ at.
        ap (λ (k : ℕ). get_or (set row place x) k d) at
        ∙ get_or-set_same row place x d room
        ∙ sym (cond-true ((s == segment) && (p == place)) x (get_or (get_or rows s []) p d) (λ i. both here at i)))
        (λ other.
        get_or-set_other row place p x d other
        ∙ same p
        ∙ ap (λ (k : ℕ). get_or (get_or rows k []) p d) (sym here)
        ∙ sym (cond-false ((s == segment) && (p == place)) x (get_or (get_or rows s []) p d) (and_right _ _ (ne_eqb p place other))))
        (cases_eq p place)
      where
        both : s ≡ segment → p ≡ place → ((s == segment) && (p == place)) ≡ true
        both e f = (λ i. eq-eqb s segment e i && eq-eqb p place f i)

-- tables without places
pub read-empty : {A : Type 0} (n s p : ℕ) (d : A) → get_or (get_or (replicate n []) s []) p d ≡ d
read-empty {A = A} n s p d =
    ⊎_elim (λ low. ap (λ (r : List A). get_or r p d) (get_or-replicate n s [] [] low))
    (λ past. ap (λ (r : List A). get_or r p d) (get_or_past (replicate n []) s [] (omega (arith, past, length-replicate {A = List A} n []))))
    (cases_lt s n)
