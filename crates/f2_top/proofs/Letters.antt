-- The first character of a text, and clap's step over it.
use Rattle.std.proofs.Common.{◌≡◌, ◌∙◌, ◌<◌, ◌≤◌, ◌+◌, ◌/◌, ◌%◌, ⊎_elim, ℕ, suc, Bool, true, false, cond, nat_lt, refl, sym, ap, subst, arith, List, [], ◌∷◌, ◌++◌, length, drop, get_or, Some, true≢false, IsUtf8, chars, slice_get, encode_utf8_all, le-ltb}
use Rattle.std.specs.Char.{encode_utf8}
use Rattle.std.specs.Str.{all_scalars}
use Rattle.std.proofs.lemmas.Bool.{and_parts, cases_lt}
use Rattle.std.proofs.lemmas.Str.{chars-encodes, encode_ascii}
use Rattle.f2_top.specs.Words.{is_empty}
use Rattle.clap.specs.Walk.{Held, Outcome, Rule, arg_by_short, bundle_met, bundle_step, done, short_met}
use Rattle.clap.specs.Faults.{bundle_step_fault, flags_fault, short_fault}

-- the first byte of a character that is not ASCII
high_byte : (x : ℕ) (more : List ℕ) → 128 ≤ x → 128 ≤ get_or (encode_utf8 x ++ more) 0 0
unfolding encode_utf8
high_byte x more high = rw (le-ltb x 128 high) (go (nat_lt x 2048) (nat_lt x 65536))
  where
    go : (s t : Bool) → 128 ≤ get_or (cond s ((192 + x / 64) ∷ (128 + x % 64) ∷ []) (cond t ((224 + x / 4096) ∷ (128 + x / 64 % 64) ∷ (128 + x % 64) ∷ []) ((240 + x / 262144) ∷ (128 + x / 4096 % 64) ∷ (128 + x / 64 % 64) ∷ (128 + x % 64) ∷ [])) ++ more) 0 0
    go true t = omega arith
    go false true = omega arith
    go false false = omega arith

-- the first character of a text that isn't empty: an ASCII one is its own byte
pub data First (b : ℕ) (rest : List ℕ) : Type 0 where
  low : b < 128 → slice_get (chars (b ∷ rest)) 0 ≡ Some b → IsUtf8 rest → First b rest
  high : 128 ≤ b → (x : ℕ) → 128 ≤ x → slice_get (chars (b ∷ rest)) 0 ≡ Some x → First b rest

pub first : (b : ℕ) (rest : List ℕ) → IsUtf8 (b ∷ rest) → First b rest
first b rest ([], (s, e)) = absurd (true≢false (ap is_empty e))
first b rest (x ∷ xs, (s, e)) = ⊎_elim (below (and_parts _ _ s).1) above (cases_lt x 128)
  where
    spelt : slice_get (chars (b ∷ rest)) 0 ≡ Some x
    spelt = ap (λ l. slice_get (chars l) 0) (sym e) ∙ ap (λ l. slice_get l 0) (chars-encodes (x ∷ xs) s)

    below : all_scalars xs ≡ true → x < 128 → First b rest
    below tail h =
        let one : x ∷ encode_utf8_all xs ≡ b ∷ rest = ap (λ l. l ++ encode_utf8_all xs) (sym (encode_ascii x h)) ∙ e in
        let same : x ≡ b = ap (λ l. get_or l 0 0) one in
        low (subst (λ n. n < 128) same h) (spelt ∙ ap (λ n. Some n) same) (xs, (tail, ap (drop 1) one))

    above : 128 ≤ x → First b rest
    above h = high (subst (λ (l : List ℕ). 128 ≤ get_or l 0 0) e (high_byte x (encode_utf8_all xs) h)) x h spelt

pub tail_utf8 : (b : ℕ) (rest : List ℕ) → IsUtf8 (b ∷ rest) → b < 128 → IsUtf8 rest
tail_utf8 b rest utf8 below = go (first b rest utf8)
  where
    go : First b rest → IsUtf8 rest
    go (low _ is u) = u
    go (high above x higher is) = absurd (omega (arith, below, above))

pub no_flags_fault : (c : List Rule) (h : Held) → flags_fault c false 0 [] 0 h ≡ []
unfolding flags_fault
no_flags_fault c h = refl

pub no_flags_met : (c : List Rule) (h : Held) → bundle_met c 0 [] 0 done h ≡ (h, done)
unfolding bundle_met
no_flags_met c h = refl

-- clap's step over one letter
module _ (c : List Rule) (b x : ℕ) (rest : List ℕ) (is : slice_get (chars (b ∷ rest)) 0 ≡ Some x) where
  pub any_fault : (k : ℕ) (h : Held) → flags_fault c false (suc k) (b ∷ rest) 0 h
      ≡ short_fault c false (arg_by_short c x) (drop (length (encode_utf8 x)) (b ∷ rest)) h (flags_fault c false k (drop (length (encode_utf8 x)) (b ∷ rest)) 0)
  unfolding flags_fault
  any_fault k h = ap (λ o. bundle_step_fault c false o (b ∷ rest) 0 h (flags_fault c false k)) is

  pub any_met : (k : ℕ) (so_far : Outcome) (h : Held) → bundle_met c (suc k) (b ∷ rest) 0 so_far h
      ≡ short_met c (arg_by_short c x) (drop (length (encode_utf8 x)) (b ∷ rest)) h (bundle_met c k (drop (length (encode_utf8 x)) (b ∷ rest)) 0 done)
  unfolding bundle_met
  any_met k so_far h = ap (λ o. bundle_step c o (b ∷ rest) 0 so_far h (bundle_met c k)) is

module _ (c : List Rule) (b : ℕ) (rest : List ℕ) (is : slice_get (chars (b ∷ rest)) 0 ≡ Some b) (below : b < 128) where
  pub letter_fault : (k : ℕ) (h : Held) → flags_fault c false (suc k) (b ∷ rest) 0 h ≡ short_fault c false (arg_by_short c b) rest h (flags_fault c false k rest 0)
  letter_fault k h = any_fault c b b rest is k h
      ∙ ap (λ (t : List ℕ). short_fault c false (arg_by_short c b) (drop (length t) (b ∷ rest)) h (flags_fault c false k (drop (length t) (b ∷ rest)) 0)) (encode_ascii b below)

  pub letter_met : (k : ℕ) (so_far : Outcome) (h : Held) → bundle_met c (suc k) (b ∷ rest) 0 so_far h ≡ short_met c (arg_by_short c b) rest h (bundle_met c k rest 0 done)
  letter_met k so_far h = any_met c b b rest is k so_far h
      ∙ ap (λ (t : List ℕ). short_met c (arg_by_short c b) (drop (length t) (b ∷ rest)) h (bundle_met c k (drop (length t) (b ∷ rest)) 0 done)) (encode_ascii b below)
