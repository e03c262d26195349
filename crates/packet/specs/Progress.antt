-- How far the parser has come in a packet.
use Rattle.std.specs.Prelude.{ℕ, List, drop}
use Rattle.packet.specs.Contents.{Contents}
use Rattle.packet.specs.Stands.{holding}
use Rattle.packet.specs.declared.parser.Progress.{Progress}

-- what was read so far, with all that is left as payload
abbrev pub reached : Progress → List ℕ → Contents
reached p bytes = holding p.fields p.present (drop p.at bytes)
