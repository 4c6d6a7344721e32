-- What a survey sees of the nodes.
use Rattle.std.specs.Prelude.{◌≡◌, ℕ, length, map}
use Rattle.f2_bytes.specs.Bytes.{Image, numbers_below}
use Rattle.f2_survey.specs.Known.{IsKnown, offset_said, kind_said}
use Rattle.f2_survey.specs.Survey.{HasCompared, HasNodeDefects}
use Rattle.f2_survey.specs.Tallies.{IsTally}
use Rattle.f2_survey.specs.declared.survey_so_far.Seen.{Seen}
use Rattle.f2_survey.specs.declared.survey_so_far.Survey.{Survey}

-- so many numbers were seen
pub record Reaches (n : ℕ) (s : Seen) : Type 0 where
  pub offsets : length s.offsets.items ≡ n
  pub kinds : length s.kinds.items ≡ n

-- and this of an image, of the numbers below n
pub record HasSeen (image : Image) (n : ℕ) (s : Seen) : Type 0 where
  pub offsets : s.offsets.items ≡ map (offset_said image) (numbers_below n)
  pub kinds : s.kinds.items ≡ map (kind_said image) (numbers_below n)
  pub defects : HasCompared image n s.defects

-- the survey is of this image: what is kept of its nodes, the defects of parts 1 to 5 of rule 3, and the counts
pub record IsSurvey (image : Image) (s : Survey) : Type 0 where
  pub nodes : IsKnown image s.nodes
  pub defects : HasNodeDefects image s.defects
  pub tally : IsTally image s.tally
