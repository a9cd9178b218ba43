-- Bytes and numbers. 01, The packet: "Bit 0 is the most significant bit of a byte; numbers are big-endian."
use Rattle.std.specs.Prelude.{ℕ, ◌+◌, ◌*◌, ◌-◌, ◌/◌, ◌%◌, ◌^◌, ◌<◌, Bool, cond, List, [], ◌∷◌, ◌++◌, length, get_or, take, drop, eqb, ◌≡◌}
use Rattle.std.specs.Borrow.{Bor}

-- the byte at a place, and 0 past the end
abbrev pub byte_at : List ℕ → ℕ → ℕ
byte_at s i = get_or s i 0

-- the numbers of two and of four bytes that begin at a place
abbrev pub number16 : List ℕ → ℕ → ℕ
number16 s i = byte_at s i * 256 + byte_at s (i + 1)

abbrev pub number32 : List ℕ → ℕ → ℕ
number32 s i = number16 s i * 65536 + number16 s (i + 2)

-- a number written as one, two and four bytes
abbrev pub bytes8 : ℕ → List ℕ
bytes8 n = n % 256 ∷ []

abbrev pub bytes16 : ℕ → List ℕ
bytes16 n = bytes8 (n / 256) ++ bytes8 n

abbrev pub bytes32 : ℕ → List ℕ
bytes32 n = bytes16 (n / 65536) ++ bytes16 n

-- the number in `count` bits from bit `first` on, of a number that is `width` bits wide
abbrev pub bits : (width first count : ℕ) → ℕ → ℕ
bits width first count n = n / 2 ^ (width - first - count) % 2 ^ count

-- a value put into those bits, the others 0
abbrev pub placed : (width first count : ℕ) → ℕ → ℕ
placed width first count value = value * 2 ^ (width - first - count)

-- a bit that is 1
abbrev pub is_set : ℕ → Bool
is_set n = eqb n 1

-- the bytes from one place up to another; what lies past the end is left out
abbrev pub part_of : ℕ → ℕ → List ℕ → List ℕ
part_of from to s = take (to - from) (drop from s)

-- a part that begins at a place of the slice that it was taken from: the same bytes in memory, not a copy
abbrev pub LiesAt : Bor (List ℕ) → ℕ → Bor (List ℕ) → Type 0
LiesAt s at r = (r.ref_ptr.0 ≡ s.ref_ptr.0) × (r.ref_ptr.1 ≡ at + s.ref_ptr.1)

-- a bit of a truth
abbrev pub bit : Bool → ℕ
bit b = cond b 1 0

-- a list of bytes, as every lent slice is
abbrev pub Bytes : List ℕ → Type 0
Bytes s = (i : ℕ) → byte_at s i < 256

-- a buffer with bytes laid over its front: as many as there is room for, and every byte behind them as it was
unfoldable pub overlaid : (bytes buffer : List ℕ) → List ℕ
overlaid bytes buffer = take (length buffer) bytes ++ drop (length bytes) buffer
