mod SumLaws
mod Refusals
mod SinkLaws
pub mod RisingLaws
pub mod RuleRuns
