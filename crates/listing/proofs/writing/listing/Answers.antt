use Rattle.std.proofs.Common.{string_bytes, ◌∙◌}
use Rattle.listing.specs.Stands.{names_of}
use Rattle.listing.proofs.Lines.{listed_more, listed_end}
use Rattle.listing.proofs.writing.listing.Goals as goal

pub loop-at-preserved : goal.loop-at-preserved
loop-at-preserved c =
    listed_more (names_of c.args.names.now) c.args.nodes.now c.loop-at.at c.index-nodes-at.result (string_bytes c.loop-at.text) c.as_str.result.now (string_bytes c.push_str.new.self)
    c.loop-at-test.true c.index-nodes-at.is c.in_ok-push_str.ensures.bytes (c.as_str.ensures.value ∙ c.in_ok-line.ensures)
    ∙ c.loop-at.invariant

pub returns : goal.returns
returns c = listed_end (names_of c.args.names.now) c.args.nodes.now c.loop-at.at (string_bytes c.loop-at.text) c.loop-at-test.false ∙ c.loop-at.invariant
