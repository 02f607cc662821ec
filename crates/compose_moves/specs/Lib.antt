-- What the answers of the code stand for, what two matches make, what a cursor has still to give, and what it gives when it is asked on.
pub mod Moves
pub mod Walks
pub mod Cursors
pub mod Asking
