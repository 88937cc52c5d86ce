use Rattle.std.proofs.Common.{◌+◌, ◌∷◌, length, drop, sym, ap, ◌∙◌}
use Rattle.iso_grammar.specs.Lines.{lines}
use Rattle.iso_grammar.proofs.LexLemmas.{rest_of_line}
use Rattle.iso_grammar.proofs.LineLemmas.{cut_at, uncut}
use Rattle.iso_grammar.proofs.lines.first_line.Goals as goal

pub returns-in-Some-clause-line : goal.returns-in-Some-clause-line
returns-in-Some-clause-line c =
    cut_at c.args.bytes.now c.in-Some.end (sym c.in-Some.ensures) ∙ ap (λ l. l ∷ lines (drop (c.in-Some.end + 1) c.args.bytes.now)) (sym c.trimmed.ensures.line)
    ∙ ap (λ z. c.trimmed.result.now ∷ lines z) (sym (rest_of_line c.args.bytes.now (c.in-Some.end + 1)))

pub returns-in-None-clause-line : goal.returns-in-None-clause-line
returns-in-None-clause-line c =
    uncut c.args.bytes.now (sym c.in-None.ensures) c.requires ∙ ap (λ z. c.args.bytes.now ∷ lines z) (sym (rest_of_line c.args.bytes.now (length c.args.bytes.now)))
