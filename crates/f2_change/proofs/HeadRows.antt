-- Numbers that are put into the rows of a head.
use Rattle.std.proofs.Common.{◌≡◌, inl, inr, ⊎_elim, ℕ, zero, suc, ◌+◌, ◌^◌, ◌<◌, ◌≤◌, Bool, true, false, cond, List, [], ◌∷◌, length, take, get_or, Some, refl, sym, ap, ◌∙◌, subst, arith}
use Rattle.std.specs.Prelude.{◌==◌, nat_le, unwrap_or}
use Rattle.std.specs.List.{list_all}
use Rattle.std.proofs.lemmas.Bool.{eq-eqb, eqb-true, leb-true, cases_lt, false≢true}
use Rattle.f2_bytes.specs.Bytes.{number_at, numbers_below}
use Rattle.f2_bytes.specs.Checkpoint.{checkpoint_rows}
use Rattle.f2_bytes.specs.Fields.{row_at, field_at, with_field}
use Rattle.f2_bytes.proofs.Below.{each_below}
use Rattle.f2_bytes.proofs.Numbers.{length-with_number}
use Rattle.f2_super.proofs.Filled.{with_number-apart, rows-apart, Apart}
use Rattle.f2_pack.specs.declared.checkpoint.Log.{Log}
use Rattle.f2_change.specs.declared.change.Counts.{Counts}
use Rattle.f2_change.specs.Change.{given, log_at, next_rows}
use Rattle.f2_change.specs.Heads.{FitCounts, FitLog, FitRow, FitRows, PutsRows}
use Rattle.f2_change.proofs.Lookups.{given-none, given-more}

ends_low : list_all (λ j. nat_le ((row_at checkpoint_rows j).offset + (row_at checkpoint_rows j).width) 192) (numbers_below 64) ≡ true
unfolding numbers_below
ends_low = refl

-- the first 64 rows end before the bitmaps
pub row_low : (j : ℕ) → j < 64 → (row_at checkpoint_rows j).offset + (row_at checkpoint_rows j).width ≤ 192
row_low j below = leb-true _ _ (each_below (λ j. nat_le ((row_at checkpoint_rows j).offset + (row_at checkpoint_rows j).width) 192) 64 ends_low j below)

apart : (j k : ℕ) → j < 64 → k < 64 → (k ≡ j → ⊥) → Apart (row_at checkpoint_rows j) (row_at checkpoint_rows k)
apart j k low below other =
    ⊎_elim (λ less. rows-apart 4096 checkpoint_rows j k refl less (omega (arith, below)))
    (λ past. ⊎_elim (λ before. inr before) (λ behind. inl behind) (rows-apart 4096 checkpoint_rows k j refl (less_of k j past other) (omega (arith, low))))
    (cases_lt j k)
  where
    less_of : (a b : ℕ) → a ≤ b → (a ≡ b → ⊥) → a < b
    less_of a b le ne = ⊎_elim (λ less. less) (λ past. absurd (ne (omega (arith, le, past)))) (cases_lt a b)

-- inside a list the value past its end doesn't matter
pub get_or-any : {X : Type 0} (xs : List X) (i : ℕ) (d : X) → i < length xs → get_or xs i d ≡ get_or xs i (get_or xs i d)
get_or-any [] i d below = absurd (omega (arith, below))
get_or-any (x ∷ xs) zero d below = refl
get_or-any {X} (x ∷ xs) (suc i) d below = get_or-any xs i d (omega (arith, below))

-- each of them fits
pub fit_at : (rows : List (ℕ × ℕ)) (i : ℕ) (d : ℕ × ℕ) → FitRows rows → i < length rows → FitRow (get_or rows i d)
fit_at [] i d fits below = absurd (omega (arith, below))
fit_at (w ∷ rows) zero d fits below = fits.0
fit_at (w ∷ rows) (suc i) d fits below = fit_at rows i d fits.1 (omega (arith, below))

pub puts-none : (rows : List (ℕ × ℕ)) (b : List ℕ) → PutsRows (take 0 rows) b b
puts-none rows b = record {
  size = refl;
  put = λ k below. ap (λ o. unwrap_or o (field_at checkpoint_rows b k)) (sym (given-none {T = ℕ} k));
  behind = λ i count past. refl;
}

pub puts-more : (rows : List (ℕ × ℕ)) (i : ℕ) (w : ℕ × ℕ) (old mid new : List ℕ) → i < length rows → w ≡ get_or rows i w → FitRow w → length old ≡ 4096 → PutsRows (take i rows) old mid
    → new ≡ with_field checkpoint_rows mid w.0 w.1 → field_at checkpoint_rows new w.0 ≡ w.1 → PutsRows (take (i + 1) rows) old new
puts-more rows i w old mid new below is fits long so_far wrote read = record {
  size = ap length wrote ∙ length-with_number mid at width w.1 inside ∙ so_far.size;
  put = λ k low. each k low (w.0 == k) refl ∙ ap (λ o. unwrap_or o (field_at checkpoint_rows old k)) (sym (given-more rows k i w below is));
  behind = λ j count past. ap (λ l. number_at l j count) wrote ∙ with_number-apart mid at width w.1 j count inside (inr (omega (arith, end, past))) ∙ so_far.behind j count past;
}
  where
    at : ℕ
    at = (row_at checkpoint_rows w.0).offset

    width : ℕ
    width = (row_at checkpoint_rows w.0).width

    end : at + width ≤ 192
    end = row_low w.0 fits.0

    inside : at + width ≤ length mid
    inside = omega (arith, end, so_far.size, long)

    each : (k : ℕ) → k < 64 → (t : Bool) → (w.0 == k) ≡ t → field_at checkpoint_rows new k ≡ unwrap_or (cond t (Some w.1) (given (take i rows) k)) (field_at checkpoint_rows old k)
    each k low true hit = subst (λ j. field_at checkpoint_rows new j ≡ w.1) (eqb-true w.0 k hit) read
    each k low false miss =
        ap (λ l. field_at checkpoint_rows l k) wrote
        ∙ with_number-apart mid at width w.1 (row_at checkpoint_rows k).offset (row_at checkpoint_rows k).width inside
        (⊎_elim (λ behind. inr behind) (λ before. inl before) (apart w.0 k fits.0 low (λ e. false≢true (sym miss ∙ eq-eqb w.0 k (sym e)))))
        ∙ so_far.put k low

-- ---- the rows of the next head

bit_fits : (t : Bool) → cond t 1 0 < 256
bit_fits true = omega arith
bit_fits false = omega arith

pub next-rows-fit : (version : ℕ) (logs : List Log) (counts : Counts) → version < 2 ^ 64 → FitCounts counts → ((t : ℕ) → t < 6 → FitLog (log_at logs t)) → FitRows (next_rows version logs counts)
next-rows-fit version logs counts wide fits each = (
  (omega arith, wide),
  (
    (omega arith, fits.user),
    (
      (omega arith, fits.valid),
      (
        (omega arith, fits.free),
        (
          (omega arith, omega arith),
          (
            (omega arith, omega arith),
            (
              (omega arith, omega arith),
              (
                (omega arith, fits.nodes),
                (
                  (omega arith, fits.inodes),
                  (
                    (omega arith, fits.next_nid),
                    (
                      (omega arith, (each 0 (omega arith)).segno),
                      (
                        (omega arith, (each 0 (omega arith)).offset),
                        (
                          (omega arith, bit_fits (log_at logs 0).reuse),
                          (
                            (omega arith, (each 1 (omega arith)).segno),
                            (
                              (omega arith, (each 1 (omega arith)).offset),
                              (
                                (omega arith, bit_fits (log_at logs 1).reuse),
                                (
                                  (omega arith, (each 2 (omega arith)).segno),
                                  (
                                    (omega arith, (each 2 (omega arith)).offset),
                                    (
                                      (omega arith, bit_fits (log_at logs 2).reuse),
                                      (
                                        (omega arith, (each 3 (omega arith)).segno),
                                        (
                                          (omega arith, (each 3 (omega arith)).offset),
                                          (
                                            (omega arith, bit_fits (log_at logs 3).reuse),
                                            (
                                              (omega arith, (each 4 (omega arith)).segno),
                                              (
                                                (omega arith, (each 4 (omega arith)).offset),
                                                (
                                                  (omega arith, bit_fits (log_at logs 4).reuse),
                                                  ((omega arith, (each 5 (omega arith)).segno), ((omega arith, (each 5 (omega arith)).offset), ((omega arith, bit_fits (log_at logs 5).reuse), tt))),
                                                ),
                                              ),
                                            ),
                                          ),
                                        ),
                                      ),
                                    ),
                                  ),
                                ),
                              ),
                            ),
                          ),
                        ),
                      ),
                    ),
                  ),
                ),
              ),
            ),
          ),
        ),
      ),
    ),
  ),
)
