use Rattle.promise.proofs.Refusing.{refused_source, refused_update, refused_packet}
use Rattle.promise.proofs.refused_changes_nothing.Goals as goal

pub returns : goal.returns
returns c = record { source = refused_source; update = refused_update; packet = refused_packet }
