mod StopLaws
mod ServedOwners
mod WrongWords
pub mod FreshServers
