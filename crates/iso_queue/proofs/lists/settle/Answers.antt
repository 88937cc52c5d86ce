use Rattle.std.proofs.Common.{rules, ◌≡◌, ◌∙◌, not, ◌&&◌, ap, length, map}
use Rattle.std.specs.Prelude.{filter}
use Rattle.std.proofs.lemmas.List.{length-map}
use Rattle.smallvec.specs.SmallVec.{small_vec_len}
use Rattle.arrayvec.proofs.ArrayVecLemmas.{filter-from_retain}
use Rattle.smallvec.proofs.SmallVecLemmas.{items-with_items}
use Rattle.iso_types.specs.Ids.{conn_eq}
use Rattle.iso_modes.specs.Terms as terms
use Rattle.iso_queue.specs.Lines.{settled_hold}
use Rattle.iso_queue.specs.declared.types.Hold.{Hold}
use Rattle.iso_queue.proofs.lists.settle.Goals as goal

pub returns-clause-items : goal.returns-clause-items
returns-clause-items c =
    let told : c.settle_each.new.holders ≡ map (settled_hold c.args.conn c.args.spared) c.args.holders.now.items =
    c.settle_each.ensures ∙ ap (map (settled_hold c.args.conn c.args.spared)) c.as_mut_slice.ensures.value in
    let same : length c.settle_each.new.holders ≡ small_vec_len c.args.holders.now = ap length told ∙ length-map _ _ in
    filter-from_retain _ _ _ (λ x b f' y k. search rules) _ _ c.retain.ensures.filtered
    ∙ ap (filter (λ (h : Hold). not (conn_eq h.conn c.args.conn && terms.is_brief h.term)))
    (items-with_items c.args.holders.now c.settle_each.new.holders same ∙ told)
