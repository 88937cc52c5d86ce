use Rattle.std.proofs.Common.{◌≡◌, ◌<◌, ◌≤◌, ◌+◌, ◌∙◌, ℕ, List, Bool, true, false, is_some, length, map, slice_set, refl, ap, subst, sym, arith, if◌then◌else◌}
use Rattle.std.proofs.lemmas.Option.{slice_get_read}
use Rattle.std.specs.List.{IsDistinct}
use Rattle.std.specs.Map.{keys_of}
use Rattle.iso_types.specs.declared.value.Name.{Name}
use Rattle.iso_queue.specs.Lines.{Line, is_touched}
use Rattle.iso_lines.specs.Locks.{Locks, counts_below}
use Rattle.iso_lines.specs.Named.{Named, key_of, line_of, same}
use Rattle.iso_lines.proofs.Parts.{asked_own}
use Rattle.iso_types.specs.declared.value.TableId.{TableId}
use Rattle.iso_lines.specs.Weighs.{IsWeighed}
use Rattle.iso_lines.proofs.Seated.{Rests, on_err, put_same, rests_one, rests_same, seated-all}
use Rattle.iso_lines.proofs.Sums.{grown, total_moved}
use Rattle.iso_lines.proofs.Tests.{same_names}
use Rattle.iso_lines.proofs.Waiting.{asked_rests}
use Rattle.iso_lines.specs.declared.desk.Desk.{Desk}
use Rattle.iso_lines.proofs.register.Register.request.Goals as goal

pub request_in-requires-clause-seated : goal.request_in-requires-clause-seated
request_in-requires-clause-seated c =
    c.self.invariant.seated c.args.conn.0 c.index_mut-desk.result.now
    (slice_get_read c.self.inside.desks.items 32 c.args.conn.0 c.index_mut-desk.result.now (sym c.self.invariant.size) c.requires.conn c.index_mut-desk.ensures.value)

pub request_in-requires-clause-weighed : goal.request_in-requires-clause-weighed
request_in-requires-clause-weighed c =
    subst (λ (ts : List TableId). IsWeighed ts c.self.inside.lines c.args.conn c.index_mut-desk.result.now.names.entries c.index_mut-desk.result.now.weights.items) (sym c.as_slice.ensures)
    (c.self.invariant.weighed c.args.conn.0 c.index_mut-desk.result.now
    (slice_get_read c.self.inside.desks.items 32 c.args.conn.0 c.index_mut-desk.result.now (sym c.self.invariant.size) c.requires.conn c.index_mut-desk.ensures.value))

pub grown-self-inside-requires-clause-grows : goal.grown-self-inside-requires-clause-grows
grown-self-inside-requires-clause-grows c =
    let n = c.args.name.now in
    let at = slice_get_read c.self.inside.desks.items 32 c.args.conn.0 c.index_mut-desk.result.now (sym c.self.invariant.size) c.requires.conn c.index_mut-desk.ensures.value in
    let was = c.self.invariant.seated c.args.conn.0 c.index_mut-desk.result.now at in
    let g = grown c.index_mut-desk.result.now.names.entries c.request_in.new.desk.names.entries n c.len-before.ensures.unique c.len-after.ensures.unique
    (c.request_in.ensures.seated.touched n ∙ ap (λ (l : Line). is_touched l c.args.conn) c.in_ok-asked.ensures.line ∙ asked_own (line_of c.self.inside.lines n) c.args.conn c.args.mode c.args.term)
    (λ m apart. c.request_in.ensures.seated.touched m ∙ ap (λ (l : Line). is_touched l c.args.conn) (c.in_ok-asked.ensures.others m (sym (same_names n m) ∙ apart)) ∙ sym (was.touched m)) in
    omega (arith, g, c.len-before.ensures.len, c.len-after.ensures.len)

one_at_most : (b : Bool) → (if b then 0 else 1) ≤ 1
one_at_most true = omega arith
one_at_most false = omega arith

pub grown-self-inside-requires-clause-one : goal.grown-self-inside-requires-clause-one
grown-self-inside-requires-clause-one c =
    let n = c.args.name.now in
    let at = slice_get_read c.self.inside.desks.items 32 c.args.conn.0 c.index_mut-desk.result.now (sym c.self.invariant.size) c.requires.conn c.index_mut-desk.ensures.value in
    let was = c.self.invariant.seated c.args.conn.0 c.index_mut-desk.result.now at in
    let g = grown c.index_mut-desk.result.now.names.entries c.request_in.new.desk.names.entries n c.len-before.ensures.unique c.len-after.ensures.unique
    (c.request_in.ensures.seated.touched n ∙ ap (λ (l : Line). is_touched l c.args.conn) c.in_ok-asked.ensures.line ∙ asked_own (line_of c.self.inside.lines n) c.args.conn c.args.mode c.args.term)
    (λ m apart. c.request_in.ensures.seated.touched m ∙ ap (λ (l : Line). is_touched l c.args.conn) (c.in_ok-asked.ensures.others m (sym (same_names n m) ∙ apart)) ∙ sym (was.touched m)) in
    let most = one_at_most (is_some (key_of c.index_mut-desk.result.now.names.entries n)) in
    omega (arith, g, most, c.len-before.ensures.len, c.len-after.ensures.len)

absent : (k : ℕ) (before after : ℕ) (b : Bool) → after ≡ before + (if b then 0 else 1) → before < after → b ≡ false
absent k before after true e lt = absurd (omega (arith, e, lt))
absent k before after false e lt = refl

pub grown-self-inside-requires-clause-room : goal.grown-self-inside-requires-clause-room
grown-self-inside-requires-clause-room c lt =
    let n = c.args.name.now in
    let at = slice_get_read c.self.inside.desks.items 32 c.args.conn.0 c.index_mut-desk.result.now (sym c.self.invariant.size) c.requires.conn c.index_mut-desk.ensures.value in
    let was = c.self.invariant.seated c.args.conn.0 c.index_mut-desk.result.now at in
    let es = c.index_mut-desk.result.now.names.entries in
    let g = grown es c.request_in.new.desk.names.entries n c.len-before.ensures.unique c.len-after.ensures.unique
    (c.request_in.ensures.seated.touched n ∙ ap (λ (l : Line). is_touched l c.args.conn) c.in_ok-asked.ensures.line ∙ asked_own (line_of c.self.inside.lines n) c.args.conn c.args.mode c.args.term)
    (λ m apart. c.request_in.ensures.seated.touched m ∙ ap (λ (l : Line). is_touched l c.args.conn) (c.in_ok-asked.ensures.others m (sym (same_names n m) ∙ apart)) ∙ sym (was.touched m)) in
    let none = absent 0 (length es) (length c.request_in.new.desk.names.entries) (is_some (key_of es n)) g (omega (arith, lt, c.len-before.ensures.len, c.len-after.ensures.len)) in
    let free = c.requires.room (ap (λ (v : Locks). is_touched (line_of v.lines n) c.args.conn) (sym c.self.view_is) ∙ sym (was.touched n) ∙ none) in
    let same = ap (λ (v : Locks). counts_below v.names 32) c.self.view_is in
    omega (arith, free, same, c.self.invariant.all)

pub returns-in_err-asked-clause-err : goal.returns-in_err-asked-clause-err
returns-in_err-asked-clause-err c =
    let at = slice_get_read c.self.inside.desks.items 32 c.args.conn.0 c.index_mut-desk.result.now (sym c.self.invariant.size) c.requires.conn c.index_mut-desk.ensures.value in
    let names = put_same (λ (d : Desk). d.names.entries) c.self.inside.desks.items c.args.conn.0 c.index_mut-desk.result.now c.request_in.new.desk at c.in_err-asked.ensures.same_names in
    let same : record { lines = c.request_in.new.lines; names = map (λ (d : Desk). d.names.entries) (slice_set c.self.inside.desks.items c.args.conn.0 c.request_in.new.desk); tables = c.self.inside.tables } ≡ c.args.self.now =
    (λ j. record { lines = c.in_err-asked.ensures.err j; names = names j; tables = c.self.inside.tables }) ∙ c.self.view_is in
    on_err c.from_residual.result same

pub invariant_of-self : goal.invariant_of-self
invariant_of-self c =
    let at = slice_get_read c.self.inside.desks.items 32 c.args.conn.0 c.index_mut-desk.result.now (sym c.self.invariant.size) c.requires.conn c.index_mut-desk.ensures.value in
    let names = ap (λ (l : List (Name × ℕ)). length l) c.in_err-asked.ensures.same_names in
    seated-all c.self.inside.lines c.request_in.new.lines c.self.inside.desks.items c.self.inside.total c.self.inside.tables c.self.invariant c.args.conn.0 c.request_in.new.desk c.request_in.ensures.seated
    (subst (λ (ts : List TableId). IsWeighed ts c.request_in.new.lines c.args.conn c.request_in.new.desk.names.entries c.request_in.new.desk.weights.items) c.as_slice.ensures c.request_in.ensures.weighed)
    (subst (λ (es : List (Name × ℕ)). IsDistinct same (keys_of es)) (sym c.in_err-asked.ensures.same_names)
    (c.self.invariant.unique c.args.conn.0 c.index_mut-desk.result.now at)) c.requires.conn
    (λ d apart n. rests_same (line_of c.self.inside.lines n) (line_of c.request_in.new.lines n) d (ap (λ (l : Named). line_of l n) c.in_err-asked.ensures.err))
    c.self.inside.total
    (total_moved c.self.inside.desks.items c.self.inside.total c.args.conn.0 c.self.invariant.size c.requires.conn c.self.invariant.all c.index_mut-desk.result.now at c.request_in.new.desk c.self.inside.total
    (omega (arith, names)))

pub invariant_of-self-2 : goal.invariant_of-self-2
invariant_of-self-2 c =
    let at = slice_get_read c.self.inside.desks.items 32 c.args.conn.0 c.index_mut-desk.result.now (sym c.self.invariant.size) c.requires.conn c.index_mut-desk.ensures.value in
    let q = line_of c.self.inside.lines c.args.name.now in
    seated-all c.self.inside.lines c.request_in.new.lines c.self.inside.desks.items c.self.inside.total c.self.inside.tables c.self.invariant c.args.conn.0 c.request_in.new.desk c.request_in.ensures.seated
    (subst (λ (ts : List TableId). IsWeighed ts c.request_in.new.lines c.args.conn c.request_in.new.desk.names.entries c.request_in.new.desk.weights.items) c.as_slice.ensures c.request_in.ensures.weighed)
    c.len-after.ensures.unique c.requires.conn
    (λ d apart. rests_one c.self.inside.lines c.request_in.new.lines c.args.name.now c.in_ok-asked.ensures.others d
    (subst (λ (r : Line). Rests q r d) (sym c.in_ok-asked.ensures.line) (asked_rests q c.args.conn c.args.mode c.args.term d apart)))
    c.grown-self-inside.result
    (total_moved c.self.inside.desks.items c.self.inside.total c.args.conn.0 c.self.invariant.size c.requires.conn c.self.invariant.all c.index_mut-desk.result.now at c.request_in.new.desk c.grown-self-inside.result
    (omega (arith, c.grown-self-inside.ensures, c.len-before.ensures.len, c.len-after.ensures.len)))
