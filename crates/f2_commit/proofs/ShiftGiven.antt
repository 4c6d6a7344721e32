-- What a list gives a number that it names once.
use Rattle.std.proofs.Common.{◌≡◌, ℕ, zero, suc, ◌<◌, List, [], ◌∷◌, ◌++◌, Bool, false, ◌==◌, ◌||◌, cond, map, length, get_or, Some, None, refl, sym, ap, subst, ◌∙◌, arith}
use Rattle.std.specs.Option.{option_or}
use Rattle.std.specs.List.{list_any}
use Rattle.std.proofs.lemmas.Bool.{eq-eqb, eqb-true, false_from_ne_true}
use Rattle.std.proofs.lemmas.List.{get_or_default, get_or-map, length-map}
use Rattle.std.proofs.lemmas.List.FromFn.{get_or-map-range_with_len, length-map-range_with_len}
use Rattle.std.proofs.lemmas.List.Folds.{Any-from_list_any}
use Rattle.f2_bytes.specs.Bytes.{numbers_below}
use Rattle.f2_bytes.specs.Defragment.{is_among}
use Rattle.f2_change.specs.Change.{given}
use Rattle.f2_change.proofs.Lookups.{given-append, given-first, given-absent}

-- the numbers that a list names, in order
abbrev pub keys : {T : Type 0} → List (ℕ × T) → List ℕ
keys {T} ws = map (λ (w : ℕ × T). w.0) ws

-- ---- lists of what a function gives

pub length-mapped : {A : Type 0} (f : ℕ → A) (n : ℕ) → length (map f (numbers_below n)) ≡ n
unfolding numbers_below
length-mapped f n = length-map-range_with_len f 0 n

pub get_or-mapped : {A : Type 0} (f : ℕ → A) (n k : ℕ) (d : A) → k < n → get_or (map f (numbers_below n)) k d ≡ f k
unfolding numbers_below
get_or-mapped f n k d low = get_or-map-range_with_len f 0 n k k d low (omega arith)

pub any-mapped : {X A : Type 0} (p : A → Bool) (f : X → A) (xs : List X) → list_any p (map f xs) ≡ list_any (λ x. p (f x)) xs
any-mapped p f [] = refl
any-mapped p f (x ∷ xs) = ap (λ b. p (f x) || b) (any-mapped p f xs)

-- ---- numbers

key_at : {T : Type 0} (ws : List (ℕ × T)) (i : ℕ) (d : ℕ × T) → i < length ws → get_or (keys ws) i 0 ≡ (get_or ws i d).0
key_at {T} ws i d low = get_or-map (λ (w : ℕ × T). w.0) ws i d 0 low

-- a number that no key is
pub never_among : (ks : List ℕ) (n : ℕ) → ((j : ℕ) → j < length ks → get_or ks j 0 ≡ n → ⊥) → is_among ks n ≡ false
never_among ks n never = false_from_ne_true _ (λ among.
    let t = Any-from_list_any (λ y. y == n) ks among in
    never t.0 t.2 (get_or_default ks t.0 0 t.1 t.2 ∙ t.3 ∙ eqb-true t.1 n t.4))

pub given_not : {T : Type 0} (ws : List (ℕ × T)) (n : ℕ) → is_among (keys ws) n ≡ false → given ws n ≡ None
given_not {T} ws n absent = given-absent ws n (sym (any-mapped (λ y. y == n) (λ (w : ℕ × T). w.0) ws) ∙ absent)

pub given_never : {T : Type 0} (ws : List (ℕ × T)) (n : ℕ) → ((j : ℕ) → j < length ws → get_or (keys ws) j 0 ≡ n → ⊥) → given ws n ≡ None
given_never {T} ws n never = given_not ws n (never_among (keys ws) n (λ j low. never j (subst (λ m. j < m) (length-map ws (λ (w : ℕ × T). w.0)) low)))

-- a number that one entry names
pub given_only : {T : Type 0} (ws : List (ℕ × T)) (n i : ℕ) (d : ℕ × T) → i < length ws → get_or (keys ws) i 0 ≡ n → ((j : ℕ) → j < length ws → get_or (keys ws) j 0 ≡ n → j ≡ i) → given ws n ≡ Some (get_or ws i d).1
given_only [] n i d low here only = absurd (omega (arith, low))
given_only {T} (w ∷ rest) n zero d low here only =
    let absent : given rest n ≡ None = given_never rest n (λ j inside at. let no = only (suc j) (omega (arith, inside)) at in omega (arith, no)) in
    given-first w rest n ∙ (λ i. option_or (absent i) (cond (w.0 == n) (Some w.1) None)) ∙ ap (λ b. cond b (Some w.1) None) (eq-eqb w.0 n here)
given_only {T} (w ∷ rest) n (suc i) d low here only =
    let more = given_only rest n i d (omega (arith, low)) here (λ j inside at. let same = only (suc j) (omega (arith, inside)) at in omega (arith, same)) in
    given-first w rest n ∙ (λ i. option_or (more i) (cond (w.0 == n) (Some w.1) None))

-- two lists of which the second does not name the number, and where it does
pub given_before : {T : Type 0} (xs ys : List (ℕ × T)) (n : ℕ) → given ys n ≡ None → given (xs ++ ys) n ≡ given xs n
given_before xs ys n none = given-append xs ys n ∙ ap (λ o. option_or o (given xs n)) none

pub given_behind : {T : Type 0} (xs ys : List (ℕ × T)) (n : ℕ) (x : T) → given ys n ≡ Some x → given (xs ++ ys) n ≡ Some x
given_behind xs ys n x some = given-append xs ys n ∙ ap (λ o. option_or o (given xs n)) some
