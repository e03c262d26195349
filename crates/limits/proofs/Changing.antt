-- What holds is kept when a part of what has been read is replaced by one of which it holds.
use Rattle.source.specs.State.{Routes, Tables, Body, Seen, with_routes, with_tables, with_body}
use Rattle.std.proofs.Common.{◌+◌, length}
use Rattle.limits.proofs.Sound.{RoutesSound, TablesSound, BodySound, State, Inside, Calm, Doing}

pub state_routes : (r : Routes) (d : Seen) → RoutesSound d.names.headers d.names.fields r → State d → State (with_routes r d)
state_routes r d s h = record { names = h.names; tables = h.tables; routes = s; body = h.body }

pub calm_routes : (r : Routes) (d : Seen) → Calm d → Calm (with_routes r d)
calm_routes r d h = record { shaped = h.shaped; all_declared = h.all_declared; at_rest = h.at_rest }

pub state_tables : (t : Tables) (d : Seen) → TablesSound (length d.names.fields + 1) t → State d → State (with_tables t d)
state_tables t d s h = record { names = h.names; tables = s; routes = h.routes; body = h.body }

pub state_body : (b : Body) (d : Seen) → BodySound (length d.names.fields + 1) (length d.names.tables) b → State d → State (with_body b d)
state_body b d s h = record { names = h.names; tables = h.tables; routes = h.routes; body = s }

pub doing_body : (b : Body) (d : Seen) → Inside b → Doing d → Doing (with_body b d)
doing_body b d o h = record { shaped = h.shaped; all_declared = h.all_declared; inside = o }
