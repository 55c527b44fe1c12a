mod LeaksPrinted
pub mod PrintedMeaning
