use Rattle.std.proofs.Common.{◌≡◌, drop}
use Rattle.iso_words.specs.Table.{texts}
use Rattle.iso_words.specs.Scan.{none_yet, parts_from}
use Rattle.iso_words.proofs.parts.scanned.Given as goal

abbrev pub invariant-loop-word : goal.invariant-loop-word
invariant-loop-word l = parts_from l.parts (texts (drop l.word-index l.words)) ≡ parts_from none_yet (texts l.words)
