use Rattle.std.proofs.Common.{◌≡◌, rules, arith, ℕ, List, ◌++◌, length, sym, ap, ◌∙◌, subst, length-append}
use Rattle.iso_latch.specs.Seen.{own, Mine}
use Rattle.iso_latch.specs.Told.{is_inside}
use Rattle.iso_latch.proofs.Voices.{own_grown}
use Rattle.iso_latch.proofs.Steps.{grow_allowed, serve_allowed}
use Rattle.iso_latch.proofs.pass.Latch.leave.Goals as goal

pub fetch_add-requires : goal.fetch_add-requires
fetch_add-requires g c = let e = c.put.ensures.put in let grown = c.requires.grown in let new = grown.0 in (
  search rules,
  omega (arith, c.args.self.now.sized.0),
  grow_allowed g.S.Chronicle.head g.S.Chronicle.history _ _ _ _ _ c.args.state new _ (ap (λ m. is_inside m.0.stage) e ∙ c.args.turn.inside) (ap (λ m. m.1) e)
      (grown.1 ∙ ap (λ m. m.0.seen ++ new) (sym e)) (subst (λ (vs : List ℕ). Mine vs new) (ap (λ m. m.0.voices) (sym e)) grown.2)
      (let l = ap length grown.1 in omega (arith, length-append c.args.turn.seat.me.0.seen new, c.entries.ensures, c.args.turn.counted)),
)

pub fetch_add-requires-2 : goal.fetch_add-requires-2
fetch_add-requires-2 g c = let e = c.put.ensures.put in let now = c.fetch_add.ensures.2 c.args.state (ap (λ m. m.1) e) in (
  search rules,
  omega (arith, c.args.self.now.sized.0),
  serve_allowed g.S.Chronicle.head g.S.Chronicle.history _ _ _ _ _ c.args.state (ap (λ m. is_inside m.0.stage) now ∙ (ap (λ m. is_inside m.0.stage) e ∙ c.args.turn.inside)) (ap (λ m. m.1) now ∙ ap (λ m. m.1) e)
      (sym (ap (λ m. m.0.seen) now)) (ap (λ m. m.0.head) now ∙ (ap (λ m. m.0.head) e ∙ c.requires.head)),
)

pub returns-clause-own : goal.returns-clause-own
returns-clause-own g c = let e = c.put.ensures.put in let now = c.fetch_add.ensures.2 c.args.state (ap (λ m. m.1) e) in let last = c.go_out.ensures.same.1 ∙ c.fetch_add-2.ensures.2 in let grown = c.requires.grown in
    let voices : c.go_out.new.seat.me.0.voices ≡ c.args.turn.seat.me.0.voices = ap (λ m. m.0.voices) last ∙ (ap (λ m. m.0.voices) now ∙ ap (λ m. m.0.voices) e) in
    let seen : c.go_out.new.seat.me.0.seen ≡ g.S.Chronicle.history c.args.state = ap (λ m. m.0.seen) last ∙ ap (λ m. m.0.seen) now in
    (λ i. own (voices i) (seen i)) ∙ own_grown c.args.turn.seat.me.0.voices c.args.turn.seat.me.0.seen grown.0 (g.S.Chronicle.history c.args.state) grown.1 grown.2
