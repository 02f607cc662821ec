-- What is printed when the input has ended: the listing of the words that its first three lines are left with. With the listing's rooms it is `printed_bytes` of the bytes read: proofs/SameListing.antt.
use Rattle.std.specs.Prelude.{List, [], ℕ, None}
use Rattle.calls.specs.Listing.{listing_on}
use Rattle.listing_text.specs.Printing.{bytes_of}

abbrev pub ended_bytes : List ℕ → List ℕ → List ℕ → List ℕ
ended_bytes settings first second = bytes_of (listing_on settings (record { m1 = first; m2 = second; allowed1 = None; allowed2 = None; ignored = [] }))
