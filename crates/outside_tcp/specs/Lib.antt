pub mod AcceptErrors
