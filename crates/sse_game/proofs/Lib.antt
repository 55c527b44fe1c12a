pub mod DrawnLaws
pub mod Passing
pub mod Growing
pub mod Unequal
pub mod Turning
pub mod Accepting
pub mod Sides
pub mod LastEpoch
pub mod Gaming
pub mod Faults
pub mod Turned
pub mod RuleTurns
pub mod RulePlayed
mod RunLaws
