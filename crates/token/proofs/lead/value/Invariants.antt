use Rattle.std.proofs.Common.{◌≡◌, ◌^◌, ◌≤◌, drop}
use Rattle.token.specs.Tokens.{value_behind}
use Rattle.token.specs.Stands.{capped}
use Rattle.token.proofs.lead.value.Given as goal

-- the digits that are left make of the number now what all make of 0
abbrev pub invariant-loop-byte : goal.invariant-loop-byte
invariant-loop-byte l = (l.sum ≤ 2 ^ 32) × (capped (value_behind l.base l.sum (drop l.byte-index l.digits)) ≡ capped (value_behind l.base 0 l.digits))
