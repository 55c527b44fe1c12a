pub mod Apart
mod Commands
pub mod Grammar
