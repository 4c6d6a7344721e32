-- Version bits that are turned.
use Rattle.std.proofs.Common.{◌≡◌, ℕ, ◌+◌, ◌*◌, ◌<◌, Bool, true, false, cond, not, List, length, take, get_or, refl, sym, ap, subst, ◌∙◌}
use Rattle.std.specs.Prelude.{◌==◌, ◌||◌}
use Rattle.std.specs.List.{list_any}
use Rattle.std.proofs.lemmas.Bool.{eq-eqb, eqb-true, or_right, false≢true}
use Rattle.std.proofs.lemmas.List.Folds.{list_any_more}
use Rattle.f2_bytes.specs.Bits.{bit_msb, ChangesBit}
use Rattle.f2_change.specs.Change.{TurnsBits}

abbrev pub has : List ℕ → ℕ → Bool
has ks k = list_any (λ n. n == k) ks

pub turns-none : (old bits ks : List ℕ) → bits ≡ old → TurnsBits old bits (has (take 0 ks))
turns-none old bits ks same = record { size = ap length same; bits = λ k low. ap (λ b. bit_msb b k) same }

or_off : (t : Bool) → (t || false) ≡ t
or_off true = refl
or_off false = refl

pub turns-more : (old mid new ks : List ℕ) (i k : ℕ) → i < length ks → k ≡ get_or ks i k → TurnsBits old mid (has (take i ks)) → ChangesBit bit_msb mid new k (not (bit_msb old k)) → TurnsBits old new (has (take (i + 1) ks))
turns-more old mid new ks i k below is so_far changes = record { size = changes.length ∙ so_far.size; bits = λ n low. each n low (k == n) refl }
  where
    more : (n : ℕ) → has (take (i + 1) ks) n ≡ has (take i ks) n || (k == n)
    more n = list_any_more (λ m. m == n) ks i k below ∙ ap (λ d. has (take i ks) n || (d == n)) (sym is)

    each : (n : ℕ) → n < 8 * length old → (t : Bool) → (k == n) ≡ t → bit_msb new n ≡ cond (has (take (i + 1) ks) n) (not (bit_msb old n)) (bit_msb old n)
    each n low true hit =
        subst (λ m. bit_msb new m ≡ not (bit_msb old m)) (eqb-true k n hit) changes.bit
        ∙ ap (λ t. cond t (not (bit_msb old n)) (bit_msb old n)) (sym (more n ∙ or_right (has (take i ks) n) (k == n) hit))
    each n low false miss =
        changes.bits n (λ e. false≢true (sym miss ∙ eq-eqb k n (sym e))) ∙ so_far.bits n low
        ∙ ap (λ t. cond t (not (bit_msb old n)) (bit_msb old n)) (sym (more n ∙ ap (λ t. has (take i ks) n || t) miss ∙ or_off (has (take i ks) n)))
