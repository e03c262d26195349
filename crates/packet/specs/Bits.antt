-- Bits, high bit first: those of a number and of bytes, and the number and the bytes that bits stand for.
use Rattle.std.specs.Prelude.{ℕ, zero, suc, ◌+◌, ◌*◌, ◌/◌, ◌%◌, ◌^◌, List, [], ◌∷◌, ◌++◌, length, take, drop}

-- the lowest bits of a number
unfoldable pub bits_of_number : ℕ → ℕ → List ℕ
bits_of_number zero x = []
bits_of_number (suc width) x = (x / 2 ^ width % 2) ∷ bits_of_number width x

-- the bits of bytes, byte after byte
unfoldable pub bits_of : List ℕ → List ℕ
bits_of [] = []
bits_of (byte ∷ bytes) = bits_of_number 8 byte ++ bits_of bytes

-- the number that bits stand for
unfoldable pub number_of : List ℕ → ℕ
number_of [] = 0
number_of (bit ∷ bits) = bit * 2 ^ length bits + number_of bits

-- so many bytes out of bits, eight for each
unfoldable pub bytes_of : ℕ → List ℕ → List ℕ
bytes_of zero bits = []
bytes_of (suc count) bits = number_of (take 8 bits) ∷ bytes_of count (drop 8 bits)
