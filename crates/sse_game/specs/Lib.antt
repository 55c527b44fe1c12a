pub mod Views
pub mod Side
pub mod Drawn
pub mod Passing
pub mod Game
pub mod Played
pub mod Rule
pub mod Runs
