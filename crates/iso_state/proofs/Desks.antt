-- Desks after an entry: those of other connections, and the maker's own.
use Rattle.std.proofs.Common.{◌≡◌, ◌≢◌, ◌<◌, ◌⊎◌, inl, inr, ℕ, Bool, true, false, List, length, refl, ap, sym, ◌∙◌, arith, subst, Some, None, Option, get_or-set_same, get_or-set_other}
use Rattle.std.specs.Prelude.{IfSome, is_none, is_some, slice_set, unwrap_or}
use Rattle.std.proofs.Math.ListN.{length-set}
use Rattle.std.proofs.lemmas.Bool.Decides.{nat_tests}
use Rattle.iso_history.proofs.limits.Courses.{phase-same}
use Rattle.iso_history.proofs.limits.Others.{IsSameAt, at-other, at-same, others-agent, others-dispatch, others-expire}
use Rattle.iso_history.specs.After.{after}
use Rattle.iso_history.specs.Lasts.{last_of}
use Rattle.iso_history.specs.Lines.{floor_by, stage_of_agent}
use Rattle.iso_history.specs.Makers.{by_agent, by_dispatcher}
use Rattle.iso_history.specs.Phases.{phase, phase_of}
use Rattle.iso_history.specs.Records.{count}
use Rattle.iso_history.specs.Settings.{setting_by_agent}
use Rattle.iso_history.specs.World.{Last, Setting, World, at_conn}
use Rattle.iso_history.specs.declared.entry.Act.{Act}
use Rattle.iso_history.specs.declared.entry.Act.TheVariants.{Commit, Dispatch, Expire, Reply, Rollback, Set}
use Rattle.iso_types.specs.Ids.{conn_eq}
use Rattle.iso_types.specs.declared.desk.Desk.{Desk}
use Rattle.iso_types.specs.declared.desk.Phase.{Phase}
use Rattle.iso_types.specs.declared.head.Head.{Head}
use Rattle.iso_types.specs.declared.value.Conn.{Conn}
use Rattle.iso_state.specs.Changes.{unclaimed}
use Rattle.iso_state.specs.Stands.{DesksStand, IsDeskOf, desk_at, is_claimed, no_desk}

-- all that a desk says but for the claim is the same in both worlds
pub record IsSameSeat (w v : World) (d : Conn) : Type 0 where
  pub phase_same : phase v d ≡ phase w d
  pub line_same : v.line d ≡ w.line d
  pub setting_same : v.setting d ≡ w.setting d
  pub doom_same : v.doom d ≡ w.doom d
  pub floor_same : v.floor d ≡ w.floor d

-- then the desk is the same, with the claim as it is now
pub seat-kept : (w v : World) (c : Conn) (d : Desk) (b : Bool) → IsSameSeat w v c → b ≡ is_claimed (v.last c) → IsDeskOf w c d
    → IsDeskOf v c (record d { claimed = b })
seat-kept w v c d b k e is = record {
  phase = is.phase ∙ sym k.phase_same;
  line = subst (λ (o : Option ℕ). IfSome o (λ n. d.line ≡ n)) (sym k.line_same) is.line;
  isolation = is.isolation ∙ ap (λ (s : Setting). s.level) (sym k.setting_same);
  may_wait = is.may_wait ∙ ap (λ (s : Setting). s.may_wait) (sym k.setting_same);
  doom = is.doom ∙ ap (λ (o : Option ℕ). unwrap_or o 0) (sym k.doom_same);
  start = is.start ∙ sym k.floor_same;
  claimed = e;
}

-- the desk with another phase, doom and claim
pub seat-as : (w v : World) (c : Conn) (d : Desk) (x : Phase) (r : ℕ) (b : Bool) → x ≡ phase v c → v.line c ≡ w.line c → v.setting c ≡ w.setting c
    → r ≡ unwrap_or (v.doom c) 0 → v.floor c ≡ w.floor c → b ≡ is_claimed (v.last c) → IsDeskOf w c d
    → IsDeskOf v c (record d { phase = x; doom = r; claimed = b })
seat-as w v c d x r b e line setting doom floor claimed is = record {
  phase = e;
  line = subst (λ (o : Option ℕ). IfSome o (λ n. d.line ≡ n)) (sym line) is.line;
  isolation = is.isolation ∙ ap (λ (s : Setting). s.level) (sym setting);
  may_wait = is.may_wait ∙ ap (λ (s : Setting). s.may_wait) (sym setting);
  doom = doom;
  start = is.start ∙ sym floor;
  claimed = claimed;
}

-- another connection's desk, where its claim is the same too
desk-kept : (w v : World) (c : Conn) (d : Desk) → IsSameSeat w v c → v.last c ≡ w.last c → IsDeskOf w c d → IsDeskOf v c d
desk-kept w v c d k e is = seat-kept w v c d d.claimed k (is.claimed ∙ ap (λ (l : Last). is_claimed l) (sym e)) is

setting-other : (f : Conn → Setting) (c : Conn) (a : Act) (d : Conn) → conn_eq d c ≡ false → setting_by_agent f c a d ≡ f d
setting-other f c (Set level may_wait) d e = at-other f c _ d e
setting-other f c _ d e = refl

floor-kept : (f : Conn → ℕ) (c : Conn) (a : Act) (n : ℕ) (d : Conn) → floor_by f (stage_of_agent c a) n d ≡ f d
floor-kept f c (Reply code changed rows) n d = refl
floor-kept f c Commit n d = refl
floor-kept f c (Rollback code reason) n d = refl
floor-kept f c Act.Ended n d = refl
floor-kept f c _ n d = refl

-- an agent's entry leaves the desks of all others
pub others-kept : (head : Head) (w : World) (c : Conn) (a : Act) (d : Conn) (x : Desk) → conn_eq d c ≡ false → IsDeskOf w d x
    → IsDeskOf (after head w (by_agent c a)) d x
others-kept head w c a d x ne is =
    let k = others-agent head w c a d ne in
    desk-kept w (after head w (by_agent c a)) d x
    (record {
      phase_same = phase-same w (after head w (by_agent c a)) d k;
      line_same = k.line_same;
      setting_same = setting-other w.setting c a d ne;
      doom_same = k.doom_same;
      floor_same = floor-kept w.floor c a (count w) d;
    })
    (at-other w.last c (last_of a) d ne) is

-- a dispatcher's entry leaves a desk whose connection it leaves
pub dispatcher-kept : (head : Head) (w : World) (a : Act) (d : Conn) (x : Desk) → IsSameAt w (after head w (by_dispatcher a)) d
    → (after head w (by_dispatcher a)).floor d ≡ w.floor d → IsDeskOf w d x → IsDeskOf (after head w (by_dispatcher a)) d x
dispatcher-kept head w a d x k e is =
    desk-kept w (after head w (by_dispatcher a)) d x
    (record {
      phase_same = phase-same w (after head w (by_dispatcher a)) d k;
      line_same = k.line_same;
      setting_same = refl;
      doom_same = k.doom_same;
      floor_same = e;
    })
    refl is

-- whether the last own entry is a claim, after an own entry
pub claims-own : (w : World) (c : Conn) (a : Act) → is_claimed (last_of a) ≡ is_claimed (at_conn w.last c (last_of a) c)
claims-own w c a = ap (λ (x : Last). is_claimed x) (sym (at-same w.last c (last_of a)))

-- one desk is written, which is its connection's; all others stay
pub desks-set : (v w : World) (desks : List Desk) (c : Conn) (desk : Desk) → IsDeskOf v c desk
    → ((d : Conn) (x : Desk) → conn_eq d c ≡ false → IsDeskOf w d x → IsDeskOf v d x)
    → DesksStand desks w → DesksStand (slice_set desks c.0 desk) v
desks-set v w desks c desk at others s d lt = go (cases d.0 c.0)
  where
    lt2 : d.0 < length desks
    lt2 = rw length-set at lt

    cases : (x y : ℕ) → (x ≡ y) ⊎ (x ≢ y)
    cases x y = grind arith

    place : ℕ → Conn
    place x = record { 0 = x }

    apart : d.0 ≢ c.0 → conn_eq d c ≡ false
    apart ne = grind (arith, nat_tests)

    go : (d.0 ≡ c.0) ⊎ (d.0 ≢ c.0) → IsDeskOf v d (desk_at (slice_set desks c.0 desk) d)
    go (inl k) = subst (λ (z : Conn). IsDeskOf v z (desk_at (slice_set desks c.0 desk) z)) (sym (ap place k))
        (subst (IsDeskOf v c) (sym (get_or-set_same desks c.0 desk no_desk (subst (λ (z : ℕ). z < length desks) k lt2))) at)
    go (inr ne) = subst (IsDeskOf v d) (sym (get_or-set_other desks c.0 d.0 desk no_desk ne)) (others d (desk_at desks d) (apart ne) (s d lt2))
