pub mod Fips198
pub mod IsMac
