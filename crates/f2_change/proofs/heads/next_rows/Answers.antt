use Rattle.std.proofs.Common.{◌≡◌, ℕ, Bool, true, false, cond, List, [], ◌∷◌, refl, sym, subst, ◌∙◌}
use mir.Val.{bool_byte}
use Rattle.f2_change.specs.Change.{log_at, next_rows}
use Rattle.f2_change.specs.Heads.{FitRows}
use Rattle.f2_change.proofs.HeadRows.{next-rows-fit}
use Rattle.f2_change.proofs.heads.next_rows.Goals as goal

bit : (t : Bool) → bool_byte t ≡ cond t 1 0
bit true = refl
bit false = refl

byte_bit : (v : ℕ) (t : Bool) → v ≡ bool_byte t → v ≡ cond t 1 0
byte_bit v t is = is ∙ bit t

pub returns-clause-fits : goal.returns-clause-fits
returns-clause-fits c =
    let logs = c.args.logs.now in
    let rows : List (ℕ × ℕ) = next_rows c.args.version logs c.args.counts.now in
    let fits : FitRows rows = next-rows-fit c.args.version logs c.args.counts.now c.ranges.version.fits c.fit_counts.ensures c.fit_logs.ensures in
    subst FitRows
    (sym (λ i. (0, c.args.version) ∷ (1, c.args.counts.now.user) ∷ (2, c.args.counts.now.valid) ∷ (5, c.from.ensures i) ∷ (38, 65)
    ∷ (39, 8) ∷ (40, 1) ∷ (41, c.from-2.ensures i) ∷ (42, c.from-3.ensures i) ∷ (43, c.from-4.ensures i)
    ∷ (22, c.from-5.ensures i) ∷ (30, c.from-6.ensures i) ∷ (48, byte_bit c.from-7.result (log_at logs 0).reuse c.from-7.ensures i)
    ∷ (23, c.from-8.ensures i) ∷ (31, c.from-9.ensures i) ∷ (49, byte_bit c.from-10.result (log_at logs 1).reuse c.from-10.ensures i)
    ∷ (24, c.from-11.ensures i) ∷ (32, c.from-12.ensures i) ∷ (50, byte_bit c.from-13.result (log_at logs 2).reuse c.from-13.ensures i)
    ∷ (6, c.from-14.ensures i) ∷ (14, c.from-15.ensures i) ∷ (51, byte_bit c.from-16.result (log_at logs 3).reuse c.from-16.ensures i)
    ∷ (7, c.from-17.ensures i) ∷ (15, c.from-18.ensures i) ∷ (52, byte_bit c.from-19.result (log_at logs 4).reuse c.from-19.ensures i)
    ∷ (8, c.from-20.ensures i) ∷ (16, c.from-21.ensures i) ∷ (53, byte_bit c.from-22.result (log_at logs 5).reuse c.from-22.ensures i) ∷ []))
    fits
