-- The segments of the logs of a mounted image.
use Rattle.std.proofs.Common.{◌≡◌, ℕ, ◌+◌, ◌*◌, ◌==◌, List, map, false, Option, Some, None, refl, sym, ap, ◌∙◌}
use Rattle.std.specs.Prelude.{is_some}
use Rattle.std.specs.List.{list_any}
use Rattle.f2_bytes.specs.Bytes.{Image, block_at}
use Rattle.f2_bytes.specs.Checkpoint.{head, log, log_numbers}
use Rattle.f2_bytes.specs.Summary.{log_of}
use Rattle.f2_survey.specs.Segments.{HasSummaries}
use Rattle.f2_bytes.specs.Checkpoint.{is_log_segment}
use Rattle.f2_survey.proofs.Counted.{some_found}
use Rattle.f2_view.proofs.SummaryReads.{of_no_log}
use Rattle.f2_view.proofs.TableReadings.{own_head}
use Rattle.f2_view.specs.Mounted.{Mounted, IsMountOf, layout_in}

none_of : {A : Type 0} (o : Option A) → is_some o ≡ false → o ≡ None
none_of None e = refl
none_of (Some x) e = cc

module _ (m : Mounted) (logs : List ℕ) (are : logs ≡ map (λ t. (log m.chosen.head t).segment) log_numbers) (segno : ℕ) where
  held : list_any (λ s. s == segno) logs ≡ is_log_segment m.chosen.head segno
  held = ap (list_any (λ s. s == segno)) are

  pub log_known : (image : Image) → IsMountOf image m → list_any (λ s. s == segno) logs ≡ is_log_segment (head image) segno
  log_known image of = held ∙ ap (λ h. is_log_segment h segno) (own_head image m of)

  log_free : list_any (λ s. s == segno) logs ≡ false → log_of m.chosen.head segno ≡ None
  log_free none = none_of (log_of m.chosen.head segno) (sym (some_found (λ t. (log m.chosen.head t).segment == segno) log_numbers) ∙ sym held ∙ none)

  -- the summary block of a segment that is no log's
  pub stored_summaries : (image : Image) → IsMountOf image m → list_any (λ s. s == segno) logs ≡ false → HasSummaries image ((layout_in m).main + 512 * segno) (block_at image ((layout_in m).ssa + segno))
  stored_summaries image of none = λ k low. sym (of_no_log image m of segno k ((layout_in m).main + 512 * segno + k) low refl (log_free none))
