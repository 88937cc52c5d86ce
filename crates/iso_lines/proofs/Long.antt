-- A call of one connection leaves the holds of all others.
use Rattle.std.proofs.Common.{◌≡◌, ◌∙◌, Bool, true, false, not, ◌&&◌, List, [], ◌∷◌, Option, None, Some, filter, map, refl, sym, ap, true≢false, if◌then◌else◌}
use Rattle.std.proofs.lemmas.Cmp.{nat_eq_equiv}
use Rattle.std.specs.Option.{option_map_or}
use Rattle.iso_modes.specs.Terms.{is_brief, is_fresh}
use Rattle.iso_modes.specs.declared.Mode.{Mode}
use Rattle.iso_modes.specs.declared.Term.{Term}
use Rattle.iso_queue.specs.Lines.{Line, asked, granted, has_edge, hold_of, is_granted, queued, settled_hold, taken_in, wait_for, waiter_of}
use Rattle.iso_queue.specs.declared.types.Hold.{Hold}
use Rattle.iso_queue.specs.declared.types.Waiter.{Waiter}
use Rattle.iso_types.specs.Ids.{conn_eq}
use Rattle.iso_types.specs.declared.value.Conn.{Conn}
use Rattle.iso_lines.specs.Named.{changed}
use Rattle.iso_lines.specs.declared.lines.Change.{Change}

abbrev either : Bool → Line → Line → Line
either b q r = if b then q else r

module _ (c d : Conn) (apart : conn_eq c d ≡ false) where
  -- a hold of the one is none of the other
  others_hold : (h : Hold) → conn_eq h.conn c ≡ true → conn_eq h.conn d ≡ false
  others_hold h e = nat_eq_equiv.congr h.conn.0 c.0 d.0 e ∙ apart

  left_hold : (r : Hold → Bool) (hs : List Hold) → ((h : Hold) → r h ≡ false → conn_eq h.conn c ≡ true) → hold_of (filter r hs) d ≡ hold_of hs d
  left_hold r [] goes = refl
  left_hold r (h ∷ hs) goes = by (r h) refl (left_hold r hs goes)
    where
      by : (b : Bool) → r h ≡ b → hold_of (filter r hs) d ≡ hold_of hs d → hold_of (filter r (h ∷ hs)) d ≡ hold_of (h ∷ hs) d
      by true e ih = rw e (ap (λ (o : Option Hold). if conn_eq h.conn d then Some h else o) ih)
      by false e ih = rw (e, others_hold h (goes h e)) ih

  settled_other : (s : Bool) (hs : List Hold) → hold_of (map (settled_hold c s) hs) d ≡ hold_of hs d
  settled_other s [] = refl
  settled_other s (h ∷ hs) = by (conn_eq h.conn c) refl (settled_other s hs)
    where
      kept : (b : Bool) → conn_eq h.conn d ≡ false → conn_eq (if b then record h { term = Term.Kept } else h).conn d ≡ false
      kept true e = e
      kept false e = e

      past : (g : Hold) (o : Option Hold) → conn_eq g.conn d ≡ false → (if conn_eq g.conn d then Some g else o) ≡ o
      past g o e = rw e refl

      by : (b : Bool) → conn_eq h.conn c ≡ b → hold_of (map (settled_hold c s) hs) d ≡ hold_of hs d → hold_of (map (settled_hold c s) (h ∷ hs)) d ≡ hold_of (h ∷ hs) d
      by true e ih =
          past (settled_hold c s h) (hold_of (map (settled_hold c s) hs) d) (kept (conn_eq h.conn c && (is_fresh h.term && not s)) (others_hold h e))
          ∙ ih ∙ sym (past h (hold_of hs d) (others_hold h e))
      by false e ih = rw e (ap (λ (o : Option Hold). if conn_eq h.conn d then Some h else o) ih)

  granted_other : (x : Hold) → x.conn ≡ c → (hs : List Hold) → hold_of (granted hs x) d ≡ hold_of hs d
  granted_other x is [] = rw (ap (λ (e : Conn). conn_eq e d) is ∙ apart) refl
  granted_other x is (h ∷ hs) = by (conn_eq h.conn x.conn) refl (granted_other x is hs)
    where
      by : (b : Bool) → conn_eq h.conn x.conn ≡ b → hold_of (granted hs x) d ≡ hold_of hs d → hold_of (granted (h ∷ hs) x) d ≡ hold_of (h ∷ hs) d
      by true e ih = rw (e, others_hold h (sym (ap (λ (k : Conn). conn_eq h.conn k) is) ∙ e)) refl
      by false e ih = rw e (ap (λ (o : Option Hold). if conn_eq h.conn d then Some h else o) ih)

  pub asked_long : (q : Line) (m : Mode) (t : Term) → hold_of (asked q c m t).holders d ≡ hold_of q.holders d
  asked_long q m t = by (is_granted q c m)
    where
      by : (b : Bool) → hold_of (either b (record { holders = granted q.holders (record { conn = c; mode = m; term = t }); waiters = q.waiters })
          (record { holders = q.holders; waiters = queued q.holders (wait_for q.holders c m t) q.waiters })).holders d ≡ hold_of q.holders d
      by true = granted_other (record { conn = c; mode = m; term = t }) refl q.holders
      by false = refl

  kept_not : (h : Hold) → not (conn_eq h.conn c) ≡ false → conn_eq h.conn c ≡ true
  kept_not h e = by (conn_eq h.conn c) e
    where
      by : (b : Bool) → not b ≡ false → b ≡ true
      by true f = refl
      by false f = absurd (true≢false f)

  kept_brief : (h : Hold) → not (conn_eq h.conn c && is_brief h.term) ≡ false → conn_eq h.conn c ≡ true
  kept_brief h e = by (conn_eq h.conn c) (is_brief h.term) e
    where
      by : (b k : Bool) → not (b && k) ≡ false → b ≡ true
      by true k f = refl
      by false k f = absurd (true≢false f)

  pub changed_long : (change : Change) (q : Line) → hold_of (changed change c q).holders d ≡ hold_of q.holders d
  changed_long Change.Release q = left_hold (λ h. not (conn_eq h.conn c)) q.holders kept_not
  changed_long Change.Cancel q = refl
  changed_long (Change.Settle s) q = left_hold (λ h. not (conn_eq h.conn c && is_brief h.term)) (map (settled_hold c s) q.holders) kept_brief ∙ settled_other s q.holders
  changed_long Change.Claim q = by (waiter_of q.waiters c)
    where
      edge : (x : Waiter) (b : Bool) → hold_of (either b q (taken_in q c x)).holders d ≡ hold_of q.holders d
      edge x true = refl
      edge x false = granted_other (record { conn = c; mode = x.target; term = x.term }) refl q.holders

      by : (o : Option Waiter) → hold_of (option_map_or (λ x. if has_edge q.holders q.waiters x then q else taken_in q c x) o q).holders d ≡ hold_of q.holders d
      by None = refl
      by (Some x) = edge x (has_edge q.holders q.waiters x)
