-- A program and what was read of its source.
use Rattle.std.proofs.Common.{◌≡◌, ℕ, List, [], ◌∷◌, map, refl}
use Rattle.model.specs.Declarations.{Declarations}
use Rattle.model.specs.Statements as statements
use Rattle.packet.specs.Header.{Header}
use Rattle.program.specs.Stands.{statement_kind_of, statements_of}
use Rattle.program.specs.declared.statement.Kind.{Kind}
use Rattle.program.specs.declared.statement.Kind.TheVariants.{Act, Apply, If, Skip}
use Rattle.program.specs.declared.statement.Statement.{Statement}
use Rattle.source.specs.Stands.{doing_of, rows_of}
use Rattle.compiler.specs.Program.{Program}
use Rattle.compiler.specs.Packaging.{kind, statement}

kind_is : (k : Kind) → statement_kind_of k ≡ kind (doing_of k)
kind_is (Act a) = refl
kind_is (Apply t) = refl
kind_is (If c n) = refl
kind_is (Skip n) = refl

pub statements_are : (ss : List Statement) → statements_of ss ≡ map statement (rows_of ss)
statements_are [] = refl
statements_are (s ∷ ss) = λ i. statements.statement s.offset (kind_is s.kind i) ∷ statements_are ss i

pub program_is : (hs hs' : List Header) (first first' : ℕ) (d : Declarations) (tables tables' : ℕ) (ss ss' : List statements.Statement) (end end' : ℕ) →
    hs ≡ hs' → first ≡ first' → tables ≡ tables' → ss ≡ ss' → end ≡ end' →
    ◌≡◌ {A = Program} (record { format = record { headers = hs; first = first; declarations = d; tables = tables }; statements = ss; end = end })
    (record { format = record { headers = hs'; first = first'; declarations = d; tables = tables' }; statements = ss'; end = end' })
program_is hs hs' f f' d t t' ss ss' e e' p q r s u = λ i. record { format = record { headers = p i; first = q i; declarations = d; tables = r i }; statements = s i; end = u i }
