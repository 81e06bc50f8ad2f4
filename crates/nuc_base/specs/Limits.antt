-- Limits that more than one crate tells of.
use Rattle.std.specs.Prelude.{ℕ}

-- the most bytes of a deployment document
abbrev pub document_limit : ℕ
document_limit = 524288
