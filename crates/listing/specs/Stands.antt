-- The names that the code's names stand for.
use Rattle.std.specs.Prelude.{ℕ, List, map, vec_items, string_bytes, String}
use Rattle.std.specs.declared.alloc.Global.{Global}
use Rattle.listing.specs.Listing as listing
use Rattle.listing.specs.declared.names.Names.{Names}

abbrev pub texts_of : List (String Global) → List (List ℕ)
texts_of ss = map (λ (s : String Global). string_bytes s) ss

abbrev pub names_of : Names → listing.Names
names_of ns = record { fields = texts_of (vec_items ns.fields); tables = texts_of (vec_items ns.tables) }
