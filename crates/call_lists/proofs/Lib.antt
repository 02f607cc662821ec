pub mod ListEnd
