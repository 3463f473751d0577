use Rattle.std.proofs.Common.{◌≡◌, ◌<◌, ◌^◌, take}
use Rattle.decimal_in.specs.Decimals.{value_of}
use Rattle.decimal_in.proofs.decimals.value.Given as goal

abbrev pub invariant-loop-digit : goal.invariant-loop-digit
invariant-loop-digit l = record {
  value : l.sum ≡ value_of (take l.digit-index l.digits);
  small : l.sum < 10 ^ l.digit-index;
}
