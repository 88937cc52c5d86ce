use Rattle.std.proofs.Common.{◌≡◌, ◌<◌, ◌∙◌, ℕ, zero, suc, List, [], ◌∷◌, Some, ap, sym, arith, slice_get, slice_index_or}
use Rattle.std.proofs.lemmas.List.Sums.{count_by-le-length}
use Rattle.std.proofs.lemmas.Option.{slice_get_read}
use Rattle.iso_lines.proofs.Sums.{part_of}
use Rattle.iso_lines.proofs.Touched.{no_some, same_some}
use Rattle.iso_lines.proofs.Walked.{weighs_touched}
use Rattle.iso_lines.proofs.Weighed.{weighed_names}
use Rattle.iso_lines.specs.Locks.{Entry, Locks}
use Rattle.iso_lines.specs.Named.{line_of}
use Rattle.iso_lines.specs.Weighs.{weighs}
use Rattle.iso_types.specs.declared.value.Name.{Name}
use Rattle.iso_lines.proofs.register.Register.weight.Goals as goal

pub prove-unreachable-requires : goal.prove-unreachable-requires
prove-unreachable-requires c =
    let at = slice_get_read c.self.inside.desks.items 32 c.args.conn.0 c.index-desk.result.now (sym c.self.invariant.size) c.requires c.index-desk.ensures in
    let part = part_of c.self.inside.desks.items c.self.inside.total c.args.conn.0 c.self.invariant.size c.requires c.self.invariant.all c.index-desk.result.now at in
    omega (arith, part, c.if-prove.true, c.len-count.ensures.len)

-- what stands at a place is read there
read : (ws : List ℕ) (i x : ℕ) → slice_get ws i ≡ Some x → slice_index_or ws i 0 ≡ x
read [] i x e = absurd (no_some e)
read (w ∷ ws) zero x e = same_some e
read (w ∷ ws) (suc i) x e = read ws i x e

pub prove-unreachable-requires-2 : goal.prove-unreachable-requires-2
prove-unreachable-requires-2 c =
    let at = slice_get_read c.self.inside.desks.items 32 c.args.conn.0 c.index-desk.result.now (sym c.self.invariant.size) c.requires c.index-desk.ensures in
    let kept = c.self.invariant.weighed c.args.conn.0 c.index-desk.result.now at in
    let ws = c.index-desk.result.now.weights.items in
    let within : c.args.table.0 < 256 = omega arith in
    let is = read ws c.args.table.0 c.index-weight.result.now (slice_get_read ws 256 c.args.table.0 c.index-weight.result.now (sym kept.size) within c.index-weight.ensures) in
    let le = count_by-le-length (λ (e : Entry). weighs c.self.inside.tables c.args.conn c.args.table e.0 (line_of c.self.inside.lines e.0)) c.index-desk.result.now.names.entries in
    omega (arith, le, c.if-prove-2.true, is, kept.weights c.args.table within, c.len-count.ensures.len)

pub returns : goal.returns
returns c ns distinct passing =
    let at = slice_get_read c.self.inside.desks.items 32 c.args.conn.0 c.index-desk.result.now (sym c.self.invariant.size) c.requires c.index-desk.ensures in
    let seated = c.self.invariant.seated c.args.conn.0 c.index-desk.result.now at in
    let kept = c.self.invariant.weighed c.args.conn.0 c.index-desk.result.now at in
    let ws = c.index-desk.result.now.weights.items in
    let within : c.args.table.0 < 256 = omega arith in
    let ts = c.self.inside.tables in
    let lines = c.self.inside.lines in
    sym (read ws c.args.table.0 c.index-weight.result.now (slice_get_read ws 256 c.args.table.0 c.index-weight.result.now (sym kept.size) within c.index-weight.ensures))
    ∙ kept.weights c.args.table within
    ∙ weighed_names c.index-desk.result.now.names.entries (λ (n : Name). weighs ts c.args.conn c.args.table n (line_of lines n)) c.len-count.ensures.unique
    (λ n h. seated.touched n ∙ weighs_touched ts c.args.conn c.args.table n (line_of lines n) h) ns distinct
    (λ n. passing n ∙ ap (λ (v : Locks). weighs v.tables c.args.conn c.args.table n (line_of v.lines n)) (sym c.self.view_is))
