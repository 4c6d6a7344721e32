-- What a list of numbers with values gives, and what is read of blocks that were written.
use Rattle.std.proofs.Common.{◌≡◌, inl, inr, ℕ, ◌+◌, ◌<◌, Bool, true, false, cond, ◌||◌, List, [], ◌∷◌, ◌++◌, map, length, set, Option, Some, None, refl, sym, ap, subst, ◌∙◌, arith, length-set, get_or-set_same, get_or-set_other}
use Rattle.std.specs.Prelude.{◌==◌, filter, fold, drop, get_or, unwrap_or, is_some}
use Rattle.std.specs.Option.{option_or}
use Rattle.std.specs.List.{list_any}
use Rattle.std.proofs.lemmas.Bool.{eq-eqb, ne_eqb, eqb-true, or_parts, or_left, or_right, cases_eq, false≢true}
use Rattle.std.proofs.lemmas.List.Sums.{fold-append}
use Rattle.f2_bytes.specs.Bytes.{Block, Image, block_at}
use Rattle.f2_change.specs.Change.{given}
use Rattle.f2_change.specs.TableBlocks.{AreEach}
use Rattle.f2_change.specs.Writes.{with_writes}

-- ---- what is given

-- a value that is given, or else what was found before
abbrev pub one : {T : Type 0} → ℕ × T → ℕ → Option T
one w n = cond (w.0 == n) (Some w.1) None

pub or_none : {T : Type 0} (o : Option T) → option_or o None ≡ o
or_none (Some x) = refl
or_none None = refl

one_more : {T : Type 0} (later : Option T) (b : Bool) (x : T) (found : Option T) → option_or later (cond b (Some x) found) ≡ option_or (option_or later (cond b (Some x) None)) found
one_more (Some y) b x found = refl
one_more None true x found = refl
one_more None false x found = refl

from_found : {T : Type 0} (pairs : List (ℕ × T)) (n : ℕ) (found : Option T) → fold (λ (found : Option T) (w : ℕ × T). cond (w.0 == n) (Some w.1) found) found pairs ≡ option_or (given pairs n) found
unfolding given
from_found [] n found = refl
from_found (w ∷ rest) n found =
    from_found rest n (cond (w.0 == n) (Some w.1) found)
    ∙ one_more (given rest n) (w.0 == n) w.1 found
    ∙ ap (λ o. option_or o found) (sym (from_found rest n (one w n)))

pub given-nil : {T : Type 0} (n : ℕ) → given {T = T} [] n ≡ None
unfolding given
given-nil n = refl

pub given-cons : {T : Type 0} (w : ℕ × T) (rest : List (ℕ × T)) (n : ℕ) → given (w ∷ rest) n ≡ option_or (given rest n) (one w n)
unfolding given
given-cons w rest n = from_found rest n (one w n)

pub given-append : {T : Type 0} (xs ys : List (ℕ × T)) (n : ℕ) → given (xs ++ ys) n ≡ option_or (given ys n) (given xs n)
unfolding given
given-append {T} xs ys n = fold-append (λ (found : Option T) (w : ℕ × T). cond (w.0 == n) (Some w.1) found) None xs ys ∙ from_found ys n (given xs n)

pub given_none : {T : Type 0} (pairs : List (ℕ × T)) (n : ℕ) → list_any (λ (w : ℕ × T). w.0 == n) pairs ≡ false → given pairs n ≡ None
given_none [] n free = given-nil n
given_none (w ∷ rest) n free =
    let parts = or_parts (w.0 == n) (list_any (λ x. x.0 == n) rest) free in
    given-cons w rest n ∙ λ i. option_or (given_none rest n parts.1 i) (cond (parts.0 i) (Some w.1) None)

-- a part that gives nothing may be left out
pub append_front : {T : Type 0} (xs ys : List (ℕ × T)) (n : ℕ) → given ys n ≡ None → given (xs ++ ys) n ≡ given xs n
append_front xs ys n none = given-append xs ys n ∙ ap (λ o. option_or o (given xs n)) none

pub append_back : {T : Type 0} (xs ys : List (ℕ × T)) (n : ℕ) → given xs n ≡ None → given (xs ++ ys) n ≡ given ys n
append_back xs ys n none = given-append xs ys n ∙ ap (option_or (given ys n)) none ∙ or_none (given ys n)

-- those whose numbers pass a test
pub given-filter : {T : Type 0} (test : ℕ → Bool) (pairs : List (ℕ × T)) (n : ℕ) → given (filter (λ (w : ℕ × T). test w.0) pairs) n ≡ cond (test n) (given pairs n) None
given-filter {T} test [] n = given-nil n ∙ sym (go (test n) (given [] n) (given-nil n))
  where
    go : (b : Bool) (o : Option T) → o ≡ None → cond b o None ≡ None
    go true o none = none
    go false o none = refl
given-filter {T} test (w ∷ rest) n =
    go (test w.0) (test n) (w.0 == n) refl (λ same. ap test (eqb-true w.0 n same)) (given-filter test rest n)
    ∙ ap (λ o. cond (test n) o None) (sym (given-cons w rest n))
  where
    kept : List (ℕ × T)
    kept = filter (λ (x : ℕ × T). test x.0) rest

    go : (a b e : Bool) → (w.0 == n) ≡ e → (e ≡ true → a ≡ b) → given kept n ≡ cond b (given rest n) None → given (cond a (w ∷ kept) kept) n ≡ cond b (option_or (given rest n) (one w n)) None
    go true true e is agree later = given-cons w kept n ∙ ap (λ o. option_or o (one w n)) later
    go true false true is agree later = absurd (false≢true (sym (agree refl)))
    go true false false is agree later = given-cons w kept n ∙ λ i. option_or (later i) (cond (is i) (Some w.1) None)
    go false true true is agree later = absurd (false≢true (agree refl))
    go false true false is agree later = later ∙ sym (or_none (given rest n)) ∙ λ i. option_or (given rest n) (cond (sym is i) (Some w.1) None)
    go false false e is agree later = later

-- those whose numbers all stand higher by as much
pub given-shifted : {T : Type 0} (base n : ℕ) (pairs : List (ℕ × T)) → given (map (λ (w : ℕ × T). (base + w.0, w.1)) pairs) (base + n) ≡ given pairs n
given-shifted base n [] = given-nil (base + n) ∙ sym (given-nil n)
given-shifted {T} base n (w ∷ rest) =
    given-cons (base + w.0, w.1) (map (λ (x : ℕ × T). (base + x.0, x.1)) rest) (base + n)
    ∙ (λ i. option_or (given-shifted base n rest i) (cond (same i) (Some w.1) None))
    ∙ sym (given-cons w rest n)
  where
    same : (base + w.0 == base + n) ≡ (w.0 == n)
    same = elim (cases_eq w.0 n) [
      | inl is ↦ eq-eqb (base + w.0) (base + n) (ap (λ k. base + k) is) ∙ sym (eq-eqb w.0 n is)
      | inr other ↦ ne_eqb (base + w.0) (base + n) (λ e. other (omega (arith, e))) ∙ sym (ne_eqb w.0 n other)
    ]

pub shifted_below : {T : Type 0} (base a : ℕ) (pairs : List (ℕ × T)) → a < base → given (map (λ (w : ℕ × T). (base + w.0, w.1)) pairs) a ≡ None
shifted_below base a [] below = given-nil a
shifted_below {T} base a (w ∷ rest) below =
    given-cons (base + w.0, w.1) (map (λ (x : ℕ × T). (base + x.0, x.1)) rest) a
    ∙ λ i. option_or (shifted_below base a rest below i) (cond (ne_eqb (base + w.0) a (λ e. absurd (omega (arith, e, below))) i) (Some w.1) None)

-- ---- what is read

set_reads : (image : Image) (at a : ℕ) (b : Block) → a < length image → block_at (set image at b) a ≡ cond (at == a) b (block_at image a)
set_reads image at a b below = elim (cases_eq at a) [
  | inl same ↦
      ap (λ k. block_at (set image k b) a) same ∙ get_or-set_same image a b [] below
      ∙ ap (λ t. cond t b (block_at image a)) (sym (eq-eqb at a same))
  | inr other ↦
      get_or-set_other image at a b [] (λ e. other (sym e))
      ∙ ap (λ t. cond t b (block_at image a)) (sym (ne_eqb at a other))
]

or_read : {T : Type 0} (later : Option T) (b : Bool) (x d : T) → unwrap_or later (cond b x d) ≡ unwrap_or (option_or later (cond b (Some x) None)) d
or_read (Some y) b x d = refl
or_read None true x d = refl
or_read None false x d = refl

-- the last block that was written to an address, or else the old one
pub writes_read : (image : Image) (blocks : List (ℕ × Block)) (a : ℕ) → a < length image → block_at (with_writes image blocks) a ≡ unwrap_or (given blocks a) (block_at image a)
unfolding with_writes
writes_read image [] a below = ap (λ (o : Option Block). unwrap_or o (block_at image a)) (sym (given-nil a))
writes_read image (w ∷ rest) a below =
    let later : Image = set image w.0 w.1 in
    writes_read later rest a (omega (arith, below, length-set image w.0 w.1))
    ∙ ap (unwrap_or (given rest a)) (set_reads image w.0 a w.1 below)
    ∙ or_read (given rest a) (w.0 == a) w.1 (block_at image a)
    ∙ ap (λ (o : Option Block). unwrap_or o (block_at image a)) (sym (given-cons w rest a))

-- ---- blocks at the addresses of numbers

abbrev pub has : List ℕ → ℕ → Bool
has ks k = list_any (λ j. j == k) ks

abbrev pub addresses : List (ℕ × Block) → List ℕ
addresses blocks = map (λ (w : ℕ × Block). w.0) blocks

pub given_other : (address : ℕ → ℕ) (a : ℕ) (ks : List ℕ) (blocks : List (ℕ × Block)) → addresses blocks ≡ map address ks → ((j : ℕ) → has ks j ≡ true → address j ≡ a → ⊥) → given blocks a ≡ None
given_other address a ks [] is apart = given-nil a
given_other address a [] (w ∷ blocks) is apart = absurd (let e = ap (λ (xs : List ℕ). length xs) is in omega (arith, e))
given_other address a (k ∷ ks) (w ∷ blocks) is apart =
    let first : w.0 ≡ address k = ap (λ xs. get_or xs 0 0) is in
    let later = given_other address a ks blocks (ap (drop 1) is) (λ j there. apart j (or_right (k == j) (has ks j) there)) in
    let away : (w.0 == a) ≡ false = ne_eqb w.0 a (λ e. apart k (or_left (k == k) (has ks k) (eq-eqb k k refl)) (sym first ∙ e)) in
    given-cons w blocks a ∙ λ i. option_or (later i) (cond (away i) (Some w.1) None)

-- where a number is among them, its block is given
module _ (is : ℕ → Block → Type 0) (address : ℕ → ℕ) (k : ℕ) where
  abbrev pub IsGiven : Option Block → Type 0
  IsGiven o = (b : Block) × (o ≡ Some b) × is k b

  -- each block that is given is that of the number
  pub given_right : (ks : List ℕ) (blocks : List (ℕ × Block)) → addresses blocks ≡ map address ks → AreEach is ks blocks → ((j : ℕ) → has ks j ≡ true → address j ≡ address k → j ≡ k)
      → (b : Block) → given blocks (address k) ≡ Some b → is k b
  given_right ks [] same each apart b found = let e = sym (given-nil (address k)) ∙ found in absurd (cc e)
  given_right [] (w ∷ blocks) same each apart b found = absurd (let e = ap (λ (xs : List ℕ). length xs) same in omega (arith, e))
  given_right (j ∷ ks) (w ∷ blocks) same each apart b found =
      go (given blocks (address k)) (w.0 == address k) refl refl (sym (given-cons w blocks (address k)) ∙ found)
      (given_right ks blocks (ap (drop 1) same) each.1 (λ i among. apart i (or_right (j == i) (has ks i) among)))
    where
      first : w.0 ≡ address j
      first = ap (λ xs. get_or xs 0 0) same

      go : (later : Option Block) (t : Bool) → given blocks (address k) ≡ later → (w.0 == address k) ≡ t → option_or later (cond t (Some w.1) None) ≡ Some b → ((x : Block) → given blocks (address k) ≡ Some x → is k x) → is k b
      go (Some x) t there at e before = before b (there ∙ e)
      go None true there at e before =
          let number : j ≡ k = apart j (or_left (j == j) (has ks j) (eq-eqb j j refl)) (sym first ∙ eqb-true w.0 (address k) at) in
          let block : w.1 ≡ b = cc e in
          subst (λ (x : ℕ × Block). is x.0 x.1) (λ i. (number i, block i)) each.0
      go None false there at e before = absurd (cc e)

  pub given_some : (ks : List ℕ) (blocks : List (ℕ × Block)) → addresses blocks ≡ map address ks → has ks k ≡ true → is_some (given blocks (address k)) ≡ true
  given_some [] blocks same among = absurd (false≢true among)
  given_some (j ∷ ks) [] same among = absurd (let e = ap (λ (xs : List ℕ). length xs) same in omega (arith, e))
  given_some (j ∷ ks) (w ∷ blocks) same among =
      ap is_some (given-cons w blocks (address k)) ∙ go (given blocks (address k)) (has ks k) (j == k) refl refl among (given_some ks blocks (ap (drop 1) same))
    where
      first : w.0 ≡ address j
      first = ap (λ xs. get_or xs 0 0) same

      go : (later : Option Block) (rest t : Bool) → has ks k ≡ rest → (j == k) ≡ t → (t || rest) ≡ true → (rest ≡ true → is_some later ≡ true) → is_some (option_or later (one w (address k))) ≡ true
      go (Some x) rest t is_rest is_t some later = refl
      go None true t is_rest is_t some later = absurd (false≢true (later refl))
      go None false true is_rest is_t some later =
          let at : (w.0 == address k) ≡ true = eq-eqb w.0 (address k) (first ∙ ap address (eqb-true j k is_t)) in
          ap (λ b. is_some (cond b (Some w.1) None)) at
      go None false false is_rest is_t some later = absurd (false≢true some)

  pub given_block : (ks : List ℕ) (blocks : List (ℕ × Block)) → addresses blocks ≡ map address ks → AreEach is ks blocks → ((j : ℕ) → has ks j ≡ true → address j ≡ address k → j ≡ k) → has ks k ≡ true
      → IsGiven (given blocks (address k))
  given_block ks blocks same each apart among =
      go (given blocks (address k)) (given_some ks blocks same among) (given_right ks blocks same each apart)
    where
      go : (o : Option Block) → is_some o ≡ true → ((b : Block) → o ≡ Some b → is k b) → IsGiven o
      go (Some b) some right = (b, refl, right b refl)
      go None some right = absurd (false≢true some)
