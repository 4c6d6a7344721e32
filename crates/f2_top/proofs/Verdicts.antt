-- What a verdict says of an image.
use Rattle.std.proofs.Common.{◌≡◌, Bool, Option, Some, None, ℕ, refl}
use Rattle.std.specs.Prelude.{flat_map}
use Rattle.f2_bytes.specs.Bytes.{Image}
use Rattle.f2_defects.specs.Verdicts.{Says, IsVerdict}
use Rattle.f2_defects.specs.declared.verdict.Verdict.{Verdict}
use Rattle.f2_defects.specs.declared.verdict.Verdict.TheVariants as verdict
use Rattle.f2_top.specs.Answers.{IsWhole}
use Rattle.f2_top.specs.Run.{least_failing, verdict_answer, verdict_lines, said_answer, said_lines}
use Rattle.f2_top.specs.Text.{defect_line, defect_lines}
use Rattle.f2_top.specs.declared.answer.Answer.TheVariants.{Defects}

answer_said : (image : Image) (o : Option ℕ) (v : Verdict) → Says image o v → said_answer v ≡ verdict_answer image o
answer_said image None verdict.Clean says = refl
answer_said image None (verdict.Defects rule list count) says = absurd says
answer_said image (Some least) verdict.Clean says = absurd says
answer_said image (Some least) (verdict.Defects rule list count) says = λ i. Defects (says.0 i) (says.2 i)

lines_said : (with_tree : Bool) (image : Image) (o : Option ℕ) (v : Verdict) → Says image o v → said_lines with_tree image v ≡ verdict_lines with_tree image o
unfolding defect_lines
lines_said with_tree image None verdict.Clean says = refl
lines_said with_tree image None (verdict.Defects rule list count) says = absurd says
lines_said with_tree image (Some least) verdict.Clean says = absurd says
lines_said with_tree image (Some least) (verdict.Defects rule list count) says = λ i. flat_map (defect_line (says.0 i)) (says.1 i)

-- the check of an image says its answer and its lines
pub verdict_said : (image : Image) (v : Verdict) → IsVerdict image 1 v → said_answer v ≡ verdict_answer image (least_failing image)
unfolding least_failing
verdict_said image v is = answer_said image (least_failing image) v is

pub text_said : (with_tree : Bool) (image : Image) (v : Verdict) → IsVerdict image 1 v → said_lines with_tree image v ≡ verdict_lines with_tree image (least_failing image)
unfolding least_failing
text_said with_tree image v is = lines_said with_tree image (least_failing image) v is

-- a check ends with all its lines
pub verdict_whole : (image : Image) (o : Option ℕ) → IsWhole (verdict_answer image o)
verdict_whole image None = tt
verdict_whole image (Some rule) = tt
