pub mod LogSegments
pub mod RuleAnswers
pub mod Totals
pub mod Walked
