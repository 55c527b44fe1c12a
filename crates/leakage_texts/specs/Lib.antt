pub mod LeakTexts
