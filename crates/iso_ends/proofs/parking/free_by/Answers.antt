use Rattle.std.proofs.Common.{◌≡◌, ◌∙◌, false, subst, sym}
use Rattle.std.proofs.lemmas.Bool.{both_ways}
use Rattle.iso_ends.specs.Doubts.{may_free}
use Rattle.iso_history.specs.declared.entry.Who.TheVariants.{Agent}
use Rattle.iso_types.specs.Edges.{has_edge}
use Rattle.iso_types.specs.declared.value.Conn.{Conn}
use Rattle.iso_ends.proofs.parking.free_by.Goals as goal

pub returns-then-may_lose : goal.returns-then-may_lose
returns-then-may_lose c = record {
  known = c.in_ok-unpark_by.ensures.known;
  none = λ d e f. (let both : Agent c.args.conn ≡ Agent d = sym c.requires ∙ e in
      let same : c.args.conn ≡ d = cc in
      subst (λ (x : Conn). has_edge c.unpark_by.new.doubt.by x ≡ false) same c.in_ok-unpark_by.ensures.none);
}

pub returns : goal.returns
returns c = record {
  known = λ head w i k. k;
  none = λ d e f. absurd (both_ways (may_free c.args.entry.now.act) (sym c.may_lose.ensures ∙ c.if-may_lose.false) f);
}
