use Rattle.std.proofs.Common.{◌≡◌, ◌<◌, ◌^◌, drop}
use Rattle.npm_ranges.specs.Grammar.{value_from}
use Rattle.npm_ranges.proofs.partial.value_of.Given as goal

abbrev pub invariant-digits : goal.invariant-digits
invariant-digits l = record {
  kept : value_from 0 l.digits ≡ value_from l.value (drop l.digit-index l.digits);
  small : l.value < 2 ^ 64;
}
