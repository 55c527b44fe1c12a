pub mod KeepsOn
