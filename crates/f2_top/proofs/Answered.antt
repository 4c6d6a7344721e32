-- What a job answers where neither the disk nor the sink has a fault.
use Rattle.std.proofs.Common.{◌≡◌, ◌∙◌, ℕ, length, Option, Some, ap, cond, inl, inr, ⊎_elim}
use Rattle.std.specs.Prelude.{true}
use Rattle.f2_bytes.specs.Bytes.{Image}
use Rattle.f2_bytes.specs.Superblock.{has_twins, is_loadable}
use Rattle.f2_disk.specs.Disk.{State, Rose}
use Rattle.f2_super.specs.Load.{loaded}
use Rattle.f2_super.proofs.Loadable.{loadable-loaded}
use Rattle.f2_top.specs.Run.{super_answer, answer_of, Allowed, IsAnswered}
use Rattle.f2_top.specs.declared.answer.Answer.{Answer}
use Rattle.f2_top.specs.declared.answer.Answer.TheVariants.{Done, Corrected}
use Rattle.f2_top.specs.declared.jobs.Job.{Job}

repaired_answer : (size : ℕ) (image : Image) → length image ≡ size → is_loadable image ≡ true → super_answer (loaded size image) ≡ cond (has_twins image) Done Corrected
repaired_answer size image long loadable =
    let found = loadable-loaded size image long loadable in
    ap super_answer found.1 ∙ ap (λ t. cond t Done Corrected) found.2

pub answered : (job : Option Job) (old new : State) (image : Image) (answer : Answer) → length image ≡ old.size → old.told ≡ Some image
    → (Rose old.faults new.faults → ⊥) → Allowed job old new answer → IsAnswered job old.size image answer
answered job old new image answer long told calm allowed =
    ⊎_elim (λ is. inr (is, λ same loadable. is ∙ ap (λ j. answer_of j old.size image) same ∙ repaired_answer old.size image long loadable))
    (λ fails. ⊎_elim (λ fault. absurd (calm (allowed.fault fault))) (λ short. inl short) fails) (allowed.exact image told)
