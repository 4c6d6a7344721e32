-- The bits of the slots that are taken, one after the other.
use Rattle.std.proofs.Common.{◌≡◌, inl, inr, ℕ, ◌+◌, ◌*◌, ◌/◌, ◌%◌, ◌≤◌, ◌<◌, Bool, true, false, List, ◌++◌, length, take, drop, get_or, refl, sym, ap, ◌∙◌, subst, arith, get_or-take}
use Rattle.std.proofs.lemmas.List.{get_or_append_left, drop_at, length-take-le}
use Rattle.std.specs.Prelude.{◌||◌}
use Rattle.std.proofs.lemmas.Bool.{and_left, and_right, and_from, or_right, le-leb, lt-leb, lt-ltb, le-ltb, cases_lt, cases_eq}
use Rattle.f2_bytes.specs.Bytes.{has_bit}
use Rattle.f2_bytes.specs.Bits.{bit_lsb, ChangesBit}
use Rattle.f2_dent.specs.Pages.{is_among}

-- of so many slots from `slot` on, those below `at` are taken
pub record IsTaken (old new : List ℕ) (slot at : ℕ) : Type 0 where
  pub length : length new ≡ length old
  pub taken : (t : ℕ) → slot ≤ t → t < at → bit_lsb new t ≡ true
  pub below : (t : ℕ) → t < slot → bit_lsb new t ≡ bit_lsb old t
  pub above : (t : ℕ) → at ≤ t → bit_lsb new t ≡ bit_lsb old t

pub taken_none : (map : List ℕ) (slot : ℕ) → IsTaken map map slot slot
taken_none map slot = record { length = refl; taken = λ t low high. absurd (omega (arith, low, high)); below = λ t _. refl; above = λ t _. refl }

pub taken_more : (old new newer : List ℕ) (slot at : ℕ) → slot ≤ at → IsTaken old new slot at → ChangesBit bit_lsb new newer at true → IsTaken old newer slot (at + 1)
taken_more old new newer slot at low was change = record {
  length = change.length ∙ was.length;
  taken = λ t from below. elim (cases_eq t at) [
    | inl same ↦ subst (λ (k : ℕ). bit_lsb newer k ≡ true) (sym same) change.bit
    | inr other ↦ change.bits t other ∙ was.taken t from (omega (arith, below, other))
  ];
  below = λ t below. change.bits t (λ same. absurd (omega (arith, same, below, low))) ∙ was.below t below;
  above = λ t above. change.bits t (λ same. absurd (omega (arith, same, above))) ∙ was.above t (omega (arith, above));
}

-- slot t is among them, or not
pub among : (slot slots t : ℕ) → slot ≤ t → t < slot + slots → is_among slot slots t ≡ true
among slot slots t low high = and_from _ _ (le-leb slot t low) (lt-ltb t (slot + slots) high)

pub among_before : (slot slots t : ℕ) → t < slot → is_among slot slots t ≡ false
among_before slot slots t before = and_left _ _ (lt-leb slot t before)

pub among_behind : (slot slots t : ℕ) → slot + slots ≤ t → is_among slot slots t ≡ false
among_behind slot slots t behind = and_right _ _ (le-ltb t (slot + slots) behind)

or_same : (a b c : Bool) → a ≡ b → c ≡ false → a ≡ (b || c)
or_same a false c same none = same ∙ sym none
or_same a true c same none = same

-- the bits of a map where so many slots are taken
pub taken_bits : (old new : List ℕ) (slot slots : ℕ) → IsTaken old new slot (slot + slots) → (t : ℕ) → bit_lsb new t ≡ (bit_lsb old t || is_among slot slots t)
taken_bits old new slot slots all t = elim (cases_lt t slot) [
  | inl before ↦ or_same _ _ _ (all.below t before) (among_before slot slots t before)
  | inr not_before ↦ elim (cases_lt t (slot + slots)) [
    | inl here ↦ all.taken t not_before here ∙ sym (or_right _ _ (among slot slots t not_before here))
    | inr behind ↦ or_same _ _ _ (all.above t behind) (among_behind slot slots t behind)
  ]
]

-- a bit in the first bytes
pub bit_front : (a b : List ℕ) (n t : ℕ) → t < 8 * n → ((k : ℕ) → k < n → get_or a k 0 ≡ get_or b k 0) → bit_lsb a t ≡ bit_lsb b t
bit_front a b n t below same = ap (λ byte. has_bit byte (t % 8)) (same (t / 8) (omega (arith, below)))

-- the bits of a block that begins with this map
pub front_bits : (old new map rest : List ℕ) (slot slots n : ℕ) → length map ≡ n → new ≡ map ++ rest → IsTaken (take n old) map slot (slot + slots) → (t : ℕ) → t < 8 * n → bit_lsb new t ≡ (bit_lsb old t || is_among slot slots t)
front_bits old new map rest slot slots n size is all t below =
    bit_front new map n t below (λ k inside. ap (λ l. get_or l k 0) is ∙ get_or_append_left map rest 0 k (omega (arith, inside, size)))
    ∙ taken_bits (take n old) map slot slots all t
    ∙ ap (λ bit. bit || is_among slot slots t) (bit_front (take n old) old n t below (λ k inside. get_or-take n old k 0 inside))

-- what a write of the first bytes leaves
pub put_front : (old new map : List ℕ) (n : ℕ) → length map ≡ n → new ≡ take 0 old ++ map ++ drop (0 + length map) old → new ≡ map ++ drop n old
put_front old new map n size is = is ∙ ap (λ k. map ++ drop k old) (omega (arith, size))

pub rest_kept : (old new map : List ℕ) (n : ℕ) → length map ≡ n → new ≡ map ++ drop n old → drop n new ≡ drop n old
rest_kept old new map n size is = ap (drop n) is ∙ drop_at map (drop n old) n size

pub front_size : (read b : List ℕ) (n : ℕ) → read ≡ b → n ≤ length b → n ≡ length (take n read)
front_size read b n same long = sym (ap (λ l. length (take n l)) same ∙ length-take-le n b long)

-- the loop over the slots has come to its end
pub taken_all : (old read map : List ℕ) (slot slots at n : ℕ) → read ≡ old → slot ≤ at → (slot ≤ slot + slots → at ≤ slot + slots) → slot + slots ≤ at → IsTaken (take n read) map slot at → IsTaken (take n old) map slot (slot + slots)
taken_all old read map slot slots at n same low high done is =
    let last : at ≡ slot + slots = omega (arith, high (omega arith), done) in
    subst (λ (k : ℕ). IsTaken (take n old) map slot k) last (subst (λ (l : List ℕ). IsTaken (take n l) map slot at) same is)
