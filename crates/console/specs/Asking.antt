-- What a command line asks for.
use Rattle.std.specs.Prelude.{cond, Some, None, codes, string_bytes, Option, String}
use Rattle.std.specs.Str.{bytes_eq}
use Rattle.std.specs.declared.alloc.Global.{Global}
use Rattle.console.specs.declared.command.Command.{Command}
use Rattle.console.specs.declared.command.Command.TheVariants.{Help, Version, Run}

abbrev pub Word : Type 0
Word = String Global

-- by its one word: two are asked by name, and any other is a file's name
abbrev pub asked : Option Word → Command
asked None = Run None
asked (Some word) =
    cond (bytes_eq (string_bytes word) (codes "--help")) Help (cond (bytes_eq (string_bytes word) (codes "--version")) Version (Run (Some word)))
