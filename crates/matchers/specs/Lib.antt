-- What the code's own types stand for, what a cursor has still to give, and what it gives when it is asked on.
pub mod Meaning
pub mod Cursors
pub mod Asking
