-- Settled holds oppose as before.
use Rattle.std.proofs.Common.{◌≡◌, Bool, true, false, not, ◌&&◌, ◌||◌, List, [], ◌∷◌, refl, ap, ◌∙◌}
use Rattle.std.specs.List.{list_any}
use Rattle.std.specs.Option.{option_map_or}
use Rattle.std.specs.Prelude.{Option, None, Some}
use Rattle.iso_locklist.proofs.SettledLists.{settled_by}
use Rattle.iso_modes.specs.Terms.{is_fresh}
use Rattle.iso_queue.specs.Locks.{Hold, is_spared, settled}
use Rattle.iso_queue.specs.Queues.{Wait, ahead, has_edge, is_grantable, opposes, wait_of}
use Rattle.iso_types.specs.Ids.{conn_eq}
use Rattle.iso_types.specs.declared.value.Conn.{Conn}
use Rattle.iso_types.specs.declared.value.Name.{Name}

opposes_settled : (x : Wait) (h : Hold) (b : Bool) → opposes x (settled_by h b) ≡ opposes x h
unfolding opposes
opposes_settled x h true = refl
opposes_settled x h false = refl

pub any_settled : (c : Conn) (spare : Option Name) (x : Wait) (hs : List Hold) → list_any (opposes x) (settled c spare hs) ≡ list_any (opposes x) hs
any_settled c spare x [] = refl
any_settled c spare x (h ∷ hs) =
    ap (λ (b : Bool). b || list_any (opposes x) (settled c spare hs)) (opposes_settled x h (conn_eq h.conn c && (is_fresh h.term && not (is_spared spare h))))
    ∙ ap (λ (b : Bool). opposes x h || b) (any_settled c spare x hs)

pub edge_settled : (c : Conn) (spare : Option Name) (x : Wait) (hs : List Hold) (ws : List Wait) → has_edge (settled c spare hs) ws x ≡ has_edge hs ws x
edge_settled c spare x hs ws = ap (λ (b : Bool). b || list_any (λ y. true) (ahead ws x)) (any_settled c spare x hs)

pub grantable_settled : (c d : Conn) (spare : Option Name) (hs : List Hold) (ws : List Wait) → is_grantable (settled c spare hs) ws d ≡ is_grantable hs ws d
grantable_settled c d spare hs ws = go (wait_of ws d)
  where
    go : (o : Option Wait) → option_map_or (λ x. not (has_edge (settled c spare hs) ws x)) o false ≡ option_map_or (λ x. not (has_edge hs ws x)) o false
    go None = refl
    go (Some x) = ap not (edge_settled c spare x hs ws)
