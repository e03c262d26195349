-- What is printed of a placement, over the model's nodes.
use Rattle.std.specs.Prelude.{ℕ, ◌+◌, List, [], ◌∷◌, ◌++◌, codes, decimal, slice_index_or}
use Rattle.model.specs.Action.{Operand, Field, Number, Test, Equals, Less, Set, Add}
use Rattle.model.specs.Node.{Does, Halt, Look, Ask, Do, Node}

-- the names of fields and of tables, by their numbers, as bytes
pub record Names : Type 0 where
  pub fields : List (List ℕ)
  pub tables : List (List ℕ)

abbrev pub field_text : Names → ℕ → List ℕ
field_text ns f = slice_index_or ns.fields f []

abbrev pub operand_text : Names → Operand → List ℕ
operand_text ns (Field f) = field_text ns f
operand_text ns (Number n) = decimal n

abbrev pub test_text : Names → Test → List ℕ
test_text ns (Equals f o) = field_text ns f ++ (codes " == " ++ operand_text ns o)
test_text ns (Less f o) = field_text ns f ++ (codes " < " ++ operand_text ns o)

abbrev pub does_text : Names → Does → List ℕ
does_text ns Halt = []
does_text ns (Look t next) = codes "apply " ++ (slice_index_or ns.tables t [] ++ (codes " then " ++ decimal next))
does_text ns (Ask c i j) = codes "if " ++ (test_text ns c ++ (codes " then " ++ (decimal i ++ (codes " else " ++ decimal j))))
does_text ns (Do (Set f o) next) = codes "set " ++ (field_text ns f ++ (codes " = " ++ (operand_text ns o ++ (codes " then " ++ decimal next))))
does_text ns (Do (Add f o) next) = codes "add " ++ (field_text ns f ++ (codes " = " ++ (operand_text ns o ++ (codes " then " ++ decimal next))))

-- a halt has no stage
abbrev pub line_at : Names → ℕ → ℕ → Does → List ℕ
line_at ns i s Halt = codes "node " ++ (decimal i ++ codes ": halt\n")
line_at ns i s (Look t next) = codes "node " ++ (decimal i ++ (codes " stage " ++ (decimal s ++ (codes ": " ++ (does_text ns (Look t next) ++ codes "\n")))))
line_at ns i s (Ask c j k) = codes "node " ++ (decimal i ++ (codes " stage " ++ (decimal s ++ (codes ": " ++ (does_text ns (Ask c j k) ++ codes "\n")))))
line_at ns i s (Do a next) = codes "node " ++ (decimal i ++ (codes " stage " ++ (decimal s ++ (codes ": " ++ (does_text ns (Do a next) ++ codes "\n")))))

abbrev pub line_of : Names → ℕ → Node → List ℕ
line_of ns i n = line_at ns i n.stage n.does

-- a line for each node, from index i on
unfoldable pub listed : Names → ℕ → List Node → List ℕ
listed ns i [] = []
listed ns i (n ∷ more) = line_of ns i n ++ listed ns (i + 1) more
