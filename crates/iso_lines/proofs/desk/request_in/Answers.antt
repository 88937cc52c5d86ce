use Rattle.std.proofs.Common.{Vec, Global, ◌∙◌, ◌≡◌, true, ℕ, subst, inl, is_some, refl, ap, sym}
use Rattle.iso_queue.specs.Lines.{Line, is_touched}
use Rattle.iso_modes.specs.Terms.{is_kept}
use Rattle.iso_lines.specs.Locks.{is_at_hand}
use Rattle.iso_lines.specs.Named.{key_of, line_of}
use Rattle.iso_types.specs.declared.value.Name.{Name}
use Rattle.iso_lines.proofs.Loose.{own_request}
use Rattle.iso_lines.proofs.Parts.{asked_own}
use Rattle.iso_lines.proofs.Seated.{seated-like, seated-one}
use Rattle.iso_lines.proofs.Waiting.{in_there, unless_there}
use Rattle.iso_lines.proofs.Weighing.{room_less, weighed_like, weighed_names_moved, weighed_step}
use Rattle.iso_lines.specs.Weighs.{IsWeighed}
use Rattle.iso_lines.proofs.desk.request_in.Goals as goal

pub returns-in_err-make_room-clause-seated : goal.returns-in_err-make_room-clause-seated
returns-in_err-make_room-clause-seated c =
    seated-like c.args.lines.now c.args.lines.now c.args.conn c.args.desk.now c.make_room.new.desk c.requires.seated refl
    c.make_room.ensures.names c.make_room.ensures.loose c.make_room.ensures.awaited

pub returns-in_err-asked-clause-seated : goal.returns-in_err-asked-clause-seated
returns-in_err-asked-clause-seated c =
    seated-like c.args.lines.now c.ask.new.self c.args.conn c.args.desk.now c.make_room.new.desk c.requires.seated c.in_err-asked.ensures.err
    c.make_room.ensures.names c.make_room.ensures.loose c.make_room.ensures.awaited

pub returns-clause-seated : goal.returns-clause-seated
returns-clause-seated c =
    let q = line_of c.args.lines.now c.args.name.now in
    seated-one c.args.lines.now c.ask.new.self c.args.conn c.args.desk.now _ c.requires.seated c.args.name.now c.in_ok-asked.ensures.others
    (c.put.ensures.put ∙ sym (ap (λ (l : Line). is_touched l c.args.conn) c.in_ok-asked.ensures.line ∙ asked_own q c.args.conn c.args.mode c.args.term))
    (λ m apart. c.put.ensures.others m apart ∙ ap (λ es. key_of es m) c.make_room.ensures.names)
    (λ h. own_request q c.args.conn c.args.mode c.args.term (is_some (key_of c.put_where.new.names.entries c.args.name.now))
    (unless_there (is_kept c.args.term) c.is_loose.result _ c.is_loose.ensures c.put_where.ensures.put)
    (ap (is_at_hand c.args.conn) (sym c.in_ok-asked.ensures.line) ∙ h))
    (λ m h. c.put_where.ensures.more m (ap (λ es. is_some (key_of es m)) c.make_room.ensures.loose ∙ h))
    (λ h. inl (in_there c.waits.result _ (c.waits.ensures ∙ h) c.put_where-2.ensures.put))
    (λ m h. c.put_where-2.ensures.more m (ap (λ es. is_some (key_of es m)) c.make_room.ensures.awaited ∙ h))

pub returns-in_err-make_room-clause-weighed : goal.returns-in_err-make_room-clause-weighed
returns-in_err-make_room-clause-weighed c =
    weighed_like c.args.tables.now c.args.conn c.args.lines.now c.args.lines.now c.args.desk.now.names.entries c.make_room.new.desk.names.entries
    c.args.desk.now.weights.items c.make_room.new.desk.weights.items c.requires.weighed refl c.make_room.ensures.names (ap (λ (v : Vec ℕ Global). v.items) c.make_room.ensures.weights)

pub returns-in_err-asked-clause-weighed : goal.returns-in_err-asked-clause-weighed
returns-in_err-asked-clause-weighed c =
    weighed_like c.args.tables.now c.args.conn c.args.lines.now c.ask.new.self c.args.desk.now.names.entries c.make_room.new.desk.names.entries
    c.args.desk.now.weights.items c.make_room.new.desk.weights.items c.requires.weighed c.in_err-asked.ensures.err c.make_room.ensures.names
    (ap (λ (v : Vec ℕ Global). v.items) c.make_room.ensures.weights)

pub reweigh-requires-clause-less : goal.reweigh-requires-clause-less
reweigh-requires-clause-less c =
    let ts = c.args.tables.now in
    let conn = c.args.conn in
    let old = c.args.lines.now in
    let n = c.args.name.now in
    let es = c.put.new.names.entries in
    let ws = c.make_room.new.desk.weights.items in
    let there = (λ (m : Name) (h : is_touched (line_of old m) conn ≡ true). c.requires.seated.touched m ∙ h) in
    let more = (λ (m : Name) (h : is_touched (line_of old m) conn ≡ true). c.put.ensures.more m (ap (λ es. is_some (key_of es m)) c.make_room.ensures.names ∙ there m h)) in
    let kept = subst (λ (v : Vec ℕ Global). IsWeighed ts old conn es v.items) (sym c.make_room.ensures.weights)
    (weighed_names_moved ts conn old c.args.desk.now.names.entries es c.len.ensures.unique c.len-2.ensures.unique there more c.args.desk.now.weights.items c.requires.weighed) in
    room_less ts conn es c.len-2.ensures.unique old c.ask.new.self n c.in_ok-asked.ensures.others (more n) (λ h. c.put.ensures.put) ws kept
    c.table_of.result c.table_of.ensures c.holds_long-before.result c.holds_long-after.result c.holds_long-before.ensures c.holds_long-after.ensures

pub returns-clause-weighed : goal.returns-clause-weighed
returns-clause-weighed c =
    let ts = c.args.tables.now in
    let conn = c.args.conn in
    let old = c.args.lines.now in
    let n = c.args.name.now in
    let es = c.put.new.names.entries in
    let ws = c.make_room.new.desk.weights.items in
    let there = (λ (m : Name) (h : is_touched (line_of old m) conn ≡ true). c.requires.seated.touched m ∙ h) in
    let more = (λ (m : Name) (h : is_touched (line_of old m) conn ≡ true). c.put.ensures.more m (ap (λ es. is_some (key_of es m)) c.make_room.ensures.names ∙ there m h)) in
    let kept = subst (λ (v : Vec ℕ Global). IsWeighed ts old conn es v.items) (sym c.make_room.ensures.weights)
    (weighed_names_moved ts conn old c.args.desk.now.names.entries es c.len.ensures.unique c.len-2.ensures.unique there more c.args.desk.now.weights.items c.requires.weighed) in
    weighed_step ts conn es c.len-2.ensures.unique old c.ask.new.self n c.in_ok-asked.ensures.others (more n) (λ h. c.put.ensures.put) ws kept
    c.table_of.result c.table_of.ensures c.holds_long-before.result c.holds_long-after.result c.holds_long-before.ensures c.holds_long-after.ensures
    c.reweigh.new.weights.items c.reweigh.ensures.size c.reweigh.ensures.weights
