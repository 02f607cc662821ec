pub mod ListTurns
