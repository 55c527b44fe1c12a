mod CommandRefused
mod KnownWords
mod RenewalRefused
pub mod Ended
pub mod MeaningLaws
mod LinesTaken
mod PartsTaken
mod SearchesTaken
pub mod ReadingGoesOn
mod WholeScripts
mod UsedKeysLaws
