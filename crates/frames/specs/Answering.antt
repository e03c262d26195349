-- The bytes of an answer.
use Rattle.std.specs.Prelude.{ℕ, ◌/◌, ◌%◌, Bool, true, false, cond, List, [], ◌∷◌}
use Rattle.frames.specs.declared.kind.Kind.TheVariants.{Source, Update, Packet}
use Rattle.frames.specs.declared.answer.Answer.{Answer}
use Rattle.frames.specs.declared.answer.Answer.TheVariants.{Cut, UnknownKind, UpdateWithoutProgram, PacketWithoutProgram}

-- what is wrong: 1, the bytes are no frame; 13, no program is loaded
abbrev pub code_of : Answer → ℕ
code_of (Cut k) = 1
code_of UnknownKind = 1
code_of UpdateWithoutProgram = 13
code_of PacketWithoutProgram = 13

-- where it is wrong, counted from the first byte behind the length field: these faults are the whole frame's
abbrev pub offset_of : Answer → ℕ
offset_of a = 0

-- whether a source or an update is answered, which is told the offset too
abbrev pub names_offset : Answer → Bool
names_offset (Cut Source) = true
names_offset (Cut Update) = true
names_offset (Cut Packet) = false
names_offset UnknownKind = false
names_offset UpdateWithoutProgram = true
names_offset PacketWithoutProgram = false

-- a number as four bytes, high byte first
abbrev pub four_bytes : ℕ → List ℕ
four_bytes n = (n / 16777216 % 256) ∷ ((n / 65536 % 256) ∷ ((n / 256 % 256) ∷ ((n % 256) ∷ [])))

-- the bytes of an answer: 17, the code and the offset, or 18 and the code
abbrev pub written : Answer → List ℕ
written a = cond (names_offset a) (17 ∷ (code_of a ∷ four_bytes (offset_of a))) (18 ∷ (code_of a ∷ []))
