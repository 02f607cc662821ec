-- What a function that puts a text into a buffer leaves.
use Rattle.std.specs.Prelude.{◌≡◌, List, ℕ, ◌+◌, length}
use Rattle.lists.specs.Lists.{put}

-- out' is out with the bytes from place `to` on, and r is the place after them
pub record Written (out : List ℕ) (to : ℕ) (bytes out' : List ℕ) (r : ℕ) : Type 0 where
  pub stored : out' ≡ put out to bytes
  pub after : r ≡ to + length bytes
