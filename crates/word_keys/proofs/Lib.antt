pub mod PadNames
