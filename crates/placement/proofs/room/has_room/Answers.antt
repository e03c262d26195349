use Rattle.std.proofs.Common.{◌≡◌, ℕ, ◌<◌, ◌≤◌, Bool, not, ◌&&◌, ◌||◌, ltb, sym, ap, ap₂, ◌∙◌, subst}
use Rattle.std.proofs.lemmas.Bool.{lt-ltb, le-ltb}
use Rattle.model.specs.Placement.{nodes_on, tables_on}
use Rattle.program.specs.Stands.{nodes_of}
use Rattle.placement.proofs.Counting.{nodes_counted, tables_counted}
use Rattle.placement.proofs.room.has_room.Goals as goal

pub returns-then-not-table : goal.returns-then-not-table
returns-then-not-table c =
    let nodes : c.nodes_on.result ≡ nodes_on c.args.stage (nodes_of c.args.row.now) = c.nodes_on.ensures ∙ sym (nodes_counted c.args.stage c.args.row.now) in
    ap not c.if-not-table.true
    ∙ sym (ap₂ (λ (a b : Bool). a && (b || ltb (tables_on c.args.stage (nodes_of c.args.row.now)) 4))
    (lt-ltb (nodes_on c.args.stage (nodes_of c.args.row.now)) 64 (subst (λ (k : ℕ). k < 64) nodes c.if-nodes_on-lt-MOST_NODES.true)) (ap not c.if-not-table.true))

pub returns-else-not-table : goal.returns-else-not-table
returns-else-not-table c =
    let nodes : c.nodes_on.result ≡ nodes_on c.args.stage (nodes_of c.args.row.now) = c.nodes_on.ensures ∙ sym (nodes_counted c.args.stage c.args.row.now) in
    let tables : c.tables_on.result ≡ tables_on c.args.stage (nodes_of c.args.row.now) = c.tables_on.ensures ∙ sym (tables_counted c.args.stage c.args.row.now) in
    ap (λ (k : ℕ). ltb k 4) tables
    ∙ sym (ap₂ (λ (a b : Bool). a && (b || ltb (tables_on c.args.stage (nodes_of c.args.row.now)) 4))
    (lt-ltb (nodes_on c.args.stage (nodes_of c.args.row.now)) 64 (subst (λ (k : ℕ). k < 64) nodes c.if-nodes_on-lt-MOST_NODES.true)) (ap not c.if-not-table.false))

pub returns-else-nodes_on-lt-MOST_NODES : goal.returns-else-nodes_on-lt-MOST_NODES
returns-else-nodes_on-lt-MOST_NODES c =
    let nodes : c.nodes_on.result ≡ nodes_on c.args.stage (nodes_of c.args.row.now) = c.nodes_on.ensures ∙ sym (nodes_counted c.args.stage c.args.row.now) in
    le-ltb c.nodes_on.result 64 c.if-nodes_on-lt-MOST_NODES.false
    ∙ sym (ap (λ (a : Bool). a && (not c.args.table || ltb (tables_on c.args.stage (nodes_of c.args.row.now)) 4))
    (le-ltb (nodes_on c.args.stage (nodes_of c.args.row.now)) 64 (subst (λ (k : ℕ). 64 ≤ k) nodes c.if-nodes_on-lt-MOST_NODES.false)))
