-- What a noted offset stands for.
use Rattle.std.specs.Prelude.{ℕ, Option}
use Rattle.std.specs.declared.option.Option.TheVariants as option
use Rattle.model.specs.Stopping.{Lowest, None, At}

abbrev pub lowest_of : Option ℕ → Lowest
lowest_of option.None = None
lowest_of (option.Some o) = At o
