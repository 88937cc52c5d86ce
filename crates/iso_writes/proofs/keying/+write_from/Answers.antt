use Rattle.std.proofs.Common.{◌≡◌, ◌≢◌, ◌≤◌, ◌<◌, ◌∙◌, ℕ, ap, arith, length}
use Rattle.std.proofs.lemmas.List.{length-map}
use Rattle.iso_key.specs.Pages.{entries}
use Rattle.iso_state.specs.Stands.{Content, content_of}
use Rattle.iso_writes.proofs.Pairs.{back-again}
use Rattle.iso_writes.specs.Changing.{without_added}
use Rattle.iso_writes.proofs.keying.+write_from.Goals as goal

below : (at n l k m : ℕ) → at ≤ n → at ≢ l → l ≡ n → k ≡ n → m ≡ k → at < m
below at n l k m le ne d e f = omega (arith, le, ne, d, e, f)

pub returns-in-Err-clause-err : goal.returns-in-Err-clause-err
returns-in-Err-clause-err t c =
    let p = c.args.parts.now in
    back-again (content_of p) (content_of c.add_pair.new.parts) (content_of c.take_back.new.parts) c.args.at (c.in-Some.key, c.args.rid) c.in_ok-added.added
    (below c.args.at (length p.head.indexes) c.len.result (length p.indexes) _ c.requires.at c.if-at-len.false c.len.ensures c.requires.indexes
    (length-map p.indexes entries))
    c.in_ok-added.ensures.answer c.in_ok-added.ensures.wrote c.in_ok-added.ensures.kept
    (c.take_back.ensures.wrote
    ∙ ap (λ (x : Content). without_added c.in_ok-added.added x c.args.at (c.in-Some.key, c.args.rid)) c.in-Err.ensures.err)
