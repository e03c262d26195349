-- What is written for an update is read as that update, and nothing else is.
use Rattle.std.specs.Prelude.{◌≡◌, ℕ, ◌<◌, List}
use Rattle.std.specs.List.{AllByRecursion}
use Rattle.model.specs.Declarations.{Declarations}
use Rattle.model.specs.Version.{Edit}
use Rattle.update.specs.Decoded.{Taken}
use Rattle.update.specs.Decoding.{decoded}
use Rattle.encoding.specs.Encoded.{encoded}
use Rattle.encoding.specs.WellFormed.{WellFormed}

abbrev pub Byte : ℕ → Type 0
Byte b = b < 256

-- what is written are bytes
abbrev pub OnlyBytes : Type 0
OnlyBytes = (d : Declarations) (tables : ℕ) (gs : List Edit) → WellFormed d tables gs → AllByRecursion Byte (encoded gs)

abbrev pub RoundTrip : Type 0
RoundTrip = (d : Declarations) (tables : ℕ) (gs : List Edit) → WellFormed d tables gs → decoded d tables (encoded gs) ≡ Taken gs

-- an update that is read fits what is declared, and its bytes are those that are written for it
pub record Read (d : Declarations) (tables : ℕ) (bs : List ℕ) (gs : List Edit) : Type 0 where
  pub well_formed : WellFormed d tables gs
  pub same_bytes : encoded gs ≡ bs

abbrev pub OneEncoding : Type 0
OneEncoding = (d : Declarations) (tables : ℕ) (bs : List ℕ) (gs : List Edit) → AllByRecursion Byte bs → decoded d tables bs ≡ Taken gs → Read d tables bs gs
