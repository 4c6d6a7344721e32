use Rattle.std.proofs.Common.{◌+◌, ◌-◌, ◌^◌, ◌≡◌, min, ap, subst, ◌∙◌, sym}
use Rattle.f2_disk.specs.Disk.{Writes}
use Rattle.f2_disk.specs.Stop.{stopped}
use Rattle.f2_disk.proofs.Runs.{skipped, reads_same}
use Rattle.f2_disk.proofs.stop.StopDiskDisk.write.Goals.{then-self-via-then-self, then-self-via-else-self+then-not-last_write}
use Rattle.f2_disk.proofs.stop.StopDiskDisk.write.Goals as goal

-- a call past the stop, and the stop itself, where nothing was written
pub returns-then-self-clause-writes : goal.returns-then-self-clause-writes
returns-then-self-clause-writes g c =
    let d = c.args.self.now in
    let after = c.then-self.self in
    let state = g.D.Disk.state in
    let w' = c.saturating_add-self.result in
    elim c.then-self.branch [
      | then-self-via-then-self w ↦
          let one : w' ≡ min (d.writes + 1) (2 ^ 64 - 1) = c.saturating_add-self.ensures ∙ ap (λ s. min (s.writes + 1) (2 ^ 64 - 1)) w.self-is in
          subst (λ i. Writes c.args.at c.args.from.now (stopped (state d.inner) d.writes d.faults) (stopped (state i) w' after.faults)) (sym (ap (λ s. s.inner) w.self-is))
          (skipped (state d.inner) (state d.inner) d.writes w' d.faults after.faults c.args.at c.args.from.now (reads_same (state d.inner)) one)
      | then-self-via-else-self+then-not-last_write w ↦
          let one : w' ≡ min (d.writes + 1) (2 ^ 64 - 1) = c.saturating_add-self.ensures ∙ ap (λ s. min (s.writes + 1) (2 ^ 64 - 1)) w.self-is in
          subst (λ i. Writes c.args.at c.args.from.now (stopped (state d.inner) d.writes d.faults) (stopped (state i) w' after.faults)) (sym (ap (λ s. s.inner) w.self-is))
          (skipped (state d.inner) (state w.last_write.new.disk) d.writes w' d.faults after.faults c.args.at c.args.from.now w.if-not-last_write.ensures.skipped one)
    ]

-- the stop leaves the disk below as it is under Torn::Old
pub returns-then-self-clause-kept : goal.returns-then-self-clause-kept
returns-then-self-clause-kept g c = λ old late.
    elim c.then-self.branch [
      | then-self-via-then-self w ↦ ap (λ s. s.inner) w.self-is
      | then-self-via-else-self+then-not-last_write w ↦ ap (λ s. s.inner) w.self-is ∙ (w.last_write.ensures.kept old).1
    ]
