-- What the code's programs stand for.
use Rattle.std.specs.Prelude.{vec_items, vec_len}
use Rattle.program.specs.Stands.{declarations_of, statements_of}
use Rattle.packet.specs.Stands.{headers_of}
use Rattle.program.specs.declared.headers.Headers.{Headers}
use Rattle.program.specs.declared.declarations.Declarations.{Declarations}
use Rattle.compiler.specs.Program as program
use Rattle.compiler.specs.declared.compiled.Program.{Program}

abbrev pub format_of : Headers → Declarations → program.Format
format_of hs d = record { headers = headers_of hs; first = hs.first.at; declarations = declarations_of d; tables = vec_len d.tables }

abbrev pub program_of : Program → program.Program
program_of p = record { format = format_of p.headers p.declarations; statements = statements_of (vec_items p.statements); end = p.end }
