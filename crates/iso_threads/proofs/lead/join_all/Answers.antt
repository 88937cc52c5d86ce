use Rattle.std.proofs.Common.{rules, ◌≡◌, ◌+◌, [], ◌∷◌, ◌++◌, ap, refl, ◌∙◌, subst}
use Rattle.iso_latch.specs.Told.{seen_of, voices_of}
use Rattle.iso_types.specs.declared.value.Conn.{Conn}
use Rattle.iso_threads.specs.Backs.{AllPromised, promised}
use Rattle.iso_threads.proofs.Returned.{all_promised_first, begins_self, begins_then, came_back, promised-snoc, voices-in}
use Rattle.iso_threads.proofs.lead.join_all.Goals as goal

pub take_in-pass-requires-clause-back : goal.take_in-pass-requires-clause-back
take_in-pass-requires-clause-back g c =
    let id = c.args.latch.now.table.shared.table_id in
    let items : c.loop-child.children.items ≡ c.pop.new.self.items ++ c.in-Some.child ∷ [] = search rules in
    let p = all_promised_first id c.args.script.now c.pop.new.self.items c.in-Some.child
    (subst (AllPromised id c.args.script.now) items c.loop-child.invariant.all) in
    came_back id c.args.script.now c.in-Some.child.promise.script.value c.in-Some.child.promise.back.value c.join-back.result p.1 p.2
    c.join-back.ensures

pub loop-child-preserved : goal.loop-child-preserved
loop-child-preserved g c =
    let inv = c.loop-child.invariant in
    let id = c.args.latch.now.table.shared.table_id in
    let items : c.loop-child.children.items ≡ c.pop.new.self.items ++ c.in-Some.child ∷ [] = search rules in
    let e = c.take_in-pass.ensures in
    let child = c.in-Some.child in
    record {
      pass = e.pass;
      keep = e.keep;
      all = (all_promised_first id c.args.script.now c.pop.new.self.items child (subst (AllPromised id c.args.script.now) items inv.all)).0;
      begins = begins_then (seen_of c.args.pass.seat) (seen_of c.loop-child.pass.seat) (seen_of c.take_in-pass.result.seat) inv.begins e.begins;
      voices = λ x. voices-in x (child.promise.back.value.conn.0 + 1) (voices_of c.loop-child.pass.seat) (voices_of c.take_in-pass.result.seat)
          (promised c.pop.new.self.items) (promised c.loop-child.children.items)
          (e.voices ∙ ap (λ (d : Conn). voices_of c.loop-child.pass.seat ++ (d.0 + 1) ∷ []) c.join-back.ensures.0)
          (ap promised items ∙ promised-snoc c.pop.new.self.items child) ∙ inv.voices x;
    }

pub loop-child-init : goal.loop-child-init
loop-child-init g c = record {
  pass = c.requires.pass;
  keep = c.requires.keep;
  all = c.requires.all;
  begins = begins_self
      (seen_of c.args.pass.seat);
  voices = λ x. refl;
}
