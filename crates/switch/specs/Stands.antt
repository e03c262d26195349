-- What the switch stands for.
use Rattle.std.specs.Prelude.{Bool}
use Rattle.model.specs.Pipeline.{Pipeline}
use Rattle.compiler.specs.Program.{Format}
use Rattle.compiler.specs.Stands.{format_of}
use Rattle.pipeline.specs.Pipeline.{pipeline_of, loaded_of}
use Rattle.stream.specs.Answering as answering
use Rattle.switch.specs.declared.running.Running.{Running}
use Rattle.switch.specs.declared.state.State.{State}
use Rattle.switch.specs.declared.state.State.TheVariants as state

abbrev pub running_format : Running → Format
running_format r = format_of r.headers (loaded_of r.pipeline).declarations

abbrev pub running_of : Running → answering.Mode (Pipeline Bool)
running_of r = answering.Running (running_format r) (pipeline_of r.pipeline)

abbrev pub mode_of : State → answering.Mode (Pipeline Bool)
mode_of state.Unloaded = answering.Unloaded
mode_of (state.Running r) = running_of r
mode_of state.Stopped = answering.Stopped
