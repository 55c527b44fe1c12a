pub mod AbsentLaws
pub mod BadLaws
pub mod ExchangeLaws
pub mod Gathered
pub mod PageLaws
pub mod RunLaws
pub mod UpdateLaws
pub mod ViewLaws
