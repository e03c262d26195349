-- What is held of an input.
use Rattle.std.specs.Prelude.{ℕ, List, take, vec_items, vec_len, vec_capacity}
use Rattle.console.specs.declared.held.Held.{Held}

-- the bytes
abbrev pub held_bytes : Held → List ℕ
held_bytes h = take h.filled (vec_items h.buffer)

-- how many its buffer has places for
abbrev pub held_size : Held → ℕ
held_size h = vec_len h.buffer

-- how many there is memory for
abbrev pub held_room : Held → ℕ
held_room h = vec_capacity h.buffer
