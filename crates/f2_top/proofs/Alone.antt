-- Answers with which more is put than the last line.
use Rattle.std.proofs.Common.{◌≡◌, ◌⊎◌, ℕ, inl, inr, subst}
use Rattle.std.specs.Prelude.{Bool, false, true}
use Rattle.f2_top.specs.Answers.{AnswersOrEnds, IsLastAlone}
use Rattle.f2_top.specs.declared.answer.Answer.{Answer}
use Rattle.f2_top.specs.declared.answer.Answer.TheVariants.{Done, Defects, DiskFault, NoMemory, SinkFault}

-- a job with lines that is done, or ends early
pub done_has_lines : (answer : Answer) → AnswersOrEnds Done answer → IsLastAlone false answer → ⊥
done_has_lines answer (inl done) alone = let never : false ≡ true = subst (IsLastAlone false) done alone in cc
done_has_lines answer (inr (inl fault)) alone = absurd (subst (IsLastAlone false) fault alone)
done_has_lines answer (inr (inr (inl short))) alone = absurd (subst (IsLastAlone false) short alone)
done_has_lines answer (inr (inr (inr sink))) alone = absurd (subst (IsLastAlone false) sink alone)

pub moves_have_lines : (answer : Answer) → (answer ≡ Done) ⊎ (answer ≡ SinkFault) → IsLastAlone false answer → ⊥
moves_have_lines answer (inl done) alone = let never : false ≡ true = subst (IsLastAlone false) done alone in cc
moves_have_lines answer (inr sink) alone = absurd (subst (IsLastAlone false) sink alone)

-- defects that are put
pub defects_have_lines : (none : Bool) (rule count : ℕ) (answer : Answer)
    → (answer ≡ Defects rule count) ⊎ ((answer ≡ NoMemory) ⊎ (answer ≡ SinkFault)) → IsLastAlone none answer → ⊥
defects_have_lines none rule count answer (inl found) alone = absurd (subst (IsLastAlone none) found alone)
defects_have_lines none rule count answer (inr (inl short)) alone = absurd (subst (IsLastAlone none) short alone)
defects_have_lines none rule count answer (inr (inr sink)) alone = absurd (subst (IsLastAlone none) sink alone)
