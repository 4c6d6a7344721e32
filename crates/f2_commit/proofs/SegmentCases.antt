-- What a list gives a number is its last entry for it; and the places of target segments that are taken.
use Rattle.std.proofs.Common.{◌≡◌, ℕ, suc, ◌+◌, ◌*◌, ◌/◌, ◌%◌, ◌<◌, ◌≤◌, ◌⊎◌, inl, inr, cond, List, [], ◌∷◌, map, Bool, true, false, ◌==◌, ◌||◌, nat_lt, length, get_or, take, drop, Some, None, refl, sym, ap, ◌∙◌, arith}
use Rattle.std.specs.Option.{option_or}
use Rattle.std.specs.List.{list_any}
use Rattle.std.proofs.lemmas.Bool.{eq-eqb, eqb-true, ltb-true, lt-ltb, false_from_ne_true, false≢true}
use Rattle.std.proofs.lemmas.Grind.{get_or_default_zero}
use Rattle.std.proofs.lemmas.List.{get_or-take, get_or-drop, length-take, length-drop}
use Rattle.std.proofs.lemmas.List.Folds.{Any-from_list_any, list_any_at}
use Rattle.f2_bytes.specs.declared.layout.Layout.{Layout}
use Rattle.f2_bytes.specs.Bytes.{numbers_below, quotient_up}
use Rattle.f2_bytes.specs.Defragment.{is_among, target_block}
use Rattle.f2_bytes.specs.Superblock.{segment_of, place_of, segment_start}
use Rattle.f2_bytes.proofs.Below.{found_below, some_below}
use Rattle.f2_change.specs.Change.{given}
use Rattle.f2_gather.proofs.Ascending.{bools_same}
use Rattle.f2_commit.proofs.FreeCounts.{AreDifferent}
use Rattle.f2_change.proofs.Lookups.{given-none, given-first, step}
use Rattle.f2_commit.proofs.MoveTargets.{segment_at, place_at}

-- ---- what a list gives

pub record LastFor {T : Type 0} (pairs : List (ℕ × T)) (n : ℕ) : Type 0 where
  pub index : ℕ
  pub entry : ℕ × T
  pub low : index < length pairs
  pub stands : get_or pairs index entry ≡ entry
  pub number : entry.0 ≡ n
  pub found : given pairs n ≡ Some entry.1

pub record NoneFor {T : Type 0} (pairs : List (ℕ × T)) (n : ℕ) : Type 0 where
  pub none : given pairs n ≡ None
  pub absent : is_among (map (λ (w : ℕ × T). w.0) pairs) n ≡ false

pub given_last : {T : Type 0} (pairs : List (ℕ × T)) (n : ℕ) → NoneFor pairs n ⊎ LastFor pairs n
given_last [] n = inl (record { none = given-none n; absent = refl })
given_last {T} (w ∷ rest) n = by (given_last rest n)
  where
    here : (b : Bool) → (w.0 == n) ≡ b → NoneFor rest n → NoneFor (w ∷ rest) n ⊎ LastFor (w ∷ rest) n
    here true is later = inr (record {
      index = 0;
      entry = w;
      low = omega arith;
      stands = refl;
      number = eqb-true w.0 n is;
      found = given-first w rest n ∙ (λ i. option_or (later.none i) (cond (is i) (Some w.1) None));
    })
    here false is later = inl (record {
      none = given-first w rest n ∙ (λ i. option_or (later.none i) (cond (is i) (Some w.1) None));
      absent = ap (λ b. b || is_among (map (λ (w : ℕ × T). w.0) rest) n) is ∙ later.absent;
    })

    by : NoneFor rest n ⊎ LastFor rest n → NoneFor (w ∷ rest) n ⊎ LastFor (w ∷ rest) n
    by (inl later) = here (w.0 == n) refl later
    by (inr later) =
        let low = later.low in
        inr (record {
          index = suc later.index;
          entry = later.entry;
          low = omega (arith, low);
          stands = later.stands;
          number = later.number;
          found = given-first w rest n ∙ ap (λ o. option_or o (step n None w)) later.found;
        })

-- ---- members by their places

pub among_at : (xs : List ℕ) (x : ℕ) → is_among xs x ≡ true → (i : ℕ) × (i < length xs) × (get_or xs i 0 ≡ x)
among_at xs x among =
    let t = Any-from_list_any (λ y. y == x) xs among in
    (t.0, t.2, sym (get_or_default_zero xs t.0 t.1 t.2) ∙ t.3 ∙ eqb-true t.1 x t.4)

pub among_there : (xs : List ℕ) (x i : ℕ) → i < length xs → get_or xs i 0 ≡ x → is_among xs x ≡ true
among_there xs x i low is = list_any_at (λ y. y == x) xs i 0 low (eq-eqb (get_or xs i 0) x is)

-- a member of the first ones
pub first_at : (n : ℕ) (xs : List ℕ) (x : ℕ) → is_among (take n xs) x ≡ true → (i : ℕ) × (i < n) × (i < length xs) × (get_or xs i 0 ≡ x)
first_at n xs x among =
    let t = among_at (take n xs) x among in
    let low = t.1 in
    let size = length-take n xs in
    let before : t.0 < n = omega (arith, low, size) in
    (t.0, before, omega (arith, low, size), sym (get_or-take n xs t.0 0 before) ∙ t.2)

pub first_there : (n : ℕ) (xs : List ℕ) (x i : ℕ) → i < n → i < length xs → get_or xs i 0 ≡ x → is_among (take n xs) x ≡ true
first_there n xs x i before low is =
    let size = length-take n xs in
    among_there (take n xs) x i (omega (arith, before, low, size)) (get_or-take n xs i 0 before ∙ is)

pub different-drop : (d : ℕ) (xs : List ℕ) → AreDifferent xs → AreDifferent (drop d xs)
different-drop d xs apart i j low_i low_j same =
    let long = length-drop d xs in
    let e : d + i ≡ d + j = apart (d + i) (d + j) (omega (arith, low_i, long)) (omega (arith, low_j, long)) (sym (get_or-drop d xs i 0) ∙ same ∙ get_or-drop d xs j 0) in
    omega (arith, e)

pub different-take : (n : ℕ) (xs : List ℕ) → AreDifferent xs → AreDifferent (take n xs)
different-take n xs apart i j low_i low_j same =
    let size = length-take n xs in
    apart i j (omega (arith, low_i, size)) (omega (arith, low_j, size))
    (sym (get_or-take n xs i 0 (omega (arith, low_i, size))) ∙ same ∙ get_or-take n xs j 0 (omega (arith, low_j, size)))

-- ---- taken places

-- block n of the targets, up to so many, stands at this place
abbrev pub takes_place : Layout → List ℕ → ℕ → ℕ → Bool
takes_place l targets blocks place = list_any (λ n. target_block l targets n == place) (numbers_below blocks)

place_number : (l : Layout) (targets : List ℕ) (n segment k : ℕ) → k < 512 → target_block l targets n ≡ segment_start l segment + k → (get_or targets (n / 512) 0 ≡ segment) × (n % 512 ≡ k)
place_number l targets n segment k low at =
    let own : segment_of l (segment_start l segment + k) ≡ segment = omega (arith, low) in
    let place : place_of l (segment_start l segment + k) ≡ k = omega (arith, low) in
    (sym (segment_at l targets n) ∙ ap (segment_of l) at ∙ own, sym (place_at l targets n) ∙ ap (place_of l) at ∙ place)

-- in the i-th target those below the number are taken
pub places_taken : (l : Layout) (targets : List ℕ) (blocks i segment k : ℕ) → AreDifferent targets → quotient_up blocks 512 ≤ length targets → i < quotient_up blocks 512 → get_or targets i 0 ≡ segment → k < 512
    → takes_place l targets blocks (segment_start l segment + k) ≡ nat_lt (512 * i + k) blocks
places_taken l targets blocks i segment k apart room few is low = bools_same (takes_place l targets blocks (segment_start l segment + k)) (nat_lt (512 * i + k) blocks) to from
  where
    to : takes_place l targets blocks (segment_start l segment + k) ≡ true → nat_lt (512 * i + k) blocks ≡ true
    to some =
        let t = found_below (λ n. target_block l targets n == segment_start l segment + k) blocks some in
        let less = t.1 in
        let at = place_number l targets t.0 segment k low (eqb-true (target_block l targets t.0) (segment_start l segment + k) t.2) in
        let whole : t.0 / 512 ≡ i = apart (t.0 / 512) i (omega (arith, less, room)) (omega (arith, few, room)) (at.0 ∙ sym is) in
        let rest = at.1 in
        lt-ltb (512 * i + k) blocks (omega (arith, whole, rest, less))

    from : nat_lt (512 * i + k) blocks ≡ true → takes_place l targets blocks (segment_start l segment + k) ≡ true
    from first =
        let less = ltb-true (512 * i + k) blocks first in
        let whole : (512 * i + k) / 512 ≡ i = omega (arith, low) in
        let rest : (512 * i + k) % 512 ≡ k = omega (arith, low) in
        let at : target_block l targets (512 * i + k) ≡ segment_start l segment + k = (λ j. segment_start l (get_or targets (whole j) 0) + rest j) ∙ ap (λ s. segment_start l s + k) is in
        some_below (λ n. target_block l targets n == segment_start l segment + k) blocks (512 * i + k) less (eq-eqb (target_block l targets (512 * i + k)) (segment_start l segment + k) at)

-- in a segment that is none of them nothing is taken
pub places_untaken : (l : Layout) (targets : List ℕ) (blocks segment k : ℕ) → quotient_up blocks 512 ≤ length targets → is_among (take (quotient_up blocks 512) targets) segment ≡ false → k < 512
    → takes_place l targets blocks (segment_start l segment + k) ≡ false
places_untaken l targets blocks segment k room absent low = false_from_ne_true (takes_place l targets blocks (segment_start l segment + k)) (λ some.
    let t = found_below (λ n. target_block l targets n == segment_start l segment + k) blocks some in
    let less = t.1 in
    let at = place_number l targets t.0 segment k low (eqb-true (target_block l targets t.0) (segment_start l segment + k) t.2) in
    false≢true (sym absent ∙ first_there (quotient_up blocks 512) targets segment (t.0 / 512) (omega (arith, less)) (omega (arith, less, room)) at.0))
