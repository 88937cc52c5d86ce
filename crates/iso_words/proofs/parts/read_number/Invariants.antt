use Rattle.std.proofs.Common.{◌≡◌, ◌≤◌, ◌^◌, drop}
use Rattle.iso_words.specs.Scan.{number_from}
use Rattle.iso_words.proofs.parts.read_number.Given as goal

abbrev pub invariant-loop-b : goal.invariant-loop-b
invariant-loop-b l = record {
  within : l.value ≤ 2 ^ 64;
  read : number_from l.value (drop l.b-index l.text) ≡ number_from 0 l.text;
}
