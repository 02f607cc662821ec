-- What a caller that owns its memory has in words.
pub mod Trusted
