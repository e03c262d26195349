-- Which first sources are taken.
use Rattle.std.specs.Prelude.{◌≡◌, ℕ, ◌↔◌, List}
use Rattle.model.specs.Node.{Node}
use Rattle.model.specs.Stopping.{Placed, placement}
use Rattle.token.specs.Tokens.{tokens}
use Rattle.source.specs.State.{Seen}
use Rattle.grammar.specs.Grammar.{Says}
use Rattle.compiler.specs.Program.{paths_of}
use Rattle.compiler.specs.Packaging.{packaged}
use Rattle.stream.specs.Answering.{Unloaded, writes}
use Rattle.stream.specs.Frames.{Source}
use Rattle.stream.specs.Machines.{pipeline}
use Rattle.stream.specs.Writing.{told}

-- the grammar with its conditions holds of a source, and the rule places its program on twelve stages
pub record Placeable (source : List ℕ) : Type 0 where
  pub program : Seen
  pub says : Says (tokens source) program
  pub nodes : List Node
  pub placed : placement 12 512 (paths_of (packaged program)) ≡ Placed nodes

-- a first source is answered 17, 0, 0 if and only if it is such a one
abbrev pub TakenIfPlaceable : Type 0
TakenIfPlaceable = (source : List ℕ) → (writes pipeline Unloaded (Source source) ≡ told 0 0) ↔ Placeable source
