-- An entry of a connection leaves what the others hold.
use Rattle.std.proofs.Common.{◌≡◌, Bool, true, false, List, [], ◌∷◌, refl, ap, sym, ◌∙◌, Some, None, Option, if◌then◌else◌, option_map, subst}
use Rattle.iso_history.proofs.pending.Conns.{conn-is, conn-same, no-both}
use Rattle.iso_history.proofs.pending.Finds.{find-all_kept, find-mapped, find-passes}
use Rattle.iso_history.proofs.pending.Kept.{hold-conn, raised-of, settled-of}
use Rattle.iso_history.specs.Holds.{Hand, hand_of, holds_by_agent, holds_by_hand, spared}
use Rattle.iso_history.specs.Holds.Hand.{Collapses, Drops, Frees, Leaves, Places}
use Rattle.iso_history.specs.World.{World}
use Rattle.iso_history.specs.declared.entry.Act.{Act}
use Rattle.iso_queue.specs.Locks.{Hold, Request, added, all_placed, hold_on, is_covered, is_hold_of, placed, settled, settled_one}
use Rattle.iso_types.specs.Ids.{conn_eq}
use Rattle.iso_types.specs.declared.head.Head.{Head}
use Rattle.iso_types.specs.declared.value.Conn.{Conn}
use Rattle.iso_types.specs.declared.value.Name.{Name}

-- a hold of d is none of c
not-of : (c d : Conn) (n : Name) (h : Hold) → conn_eq d c ≡ false → is_hold_of d n h ≡ true → conn_eq h.conn c ≡ false
not-of c d n h ne is = subst (λ (z : Conn). conn_eq z c ≡ false) (sym (conn-is h.conn d (hold-conn d n h is))) ne

not_name-of : (c d : Conn) (m n : Name) (h : Hold) → conn_eq d c ≡ false → is_hold_of d n h ≡ true → is_hold_of c m h ≡ false
not_name-of c d m n h ne is = go (is_hold_of c m h) refl
  where
    go : (b : Bool) → is_hold_of c m h ≡ b → b ≡ false
    go true e = absurd (no-both (hold-conn c m h e) (not-of c d n h ne is))
    go false e = refl

others-settled : (c : Conn) (spare : Option Name) (holds : List Hold) (d : Conn) (n : Name) → conn_eq d c ≡ false
    → hold_on (settled c spare holds) d n ≡ hold_on holds d n
others-settled c spare holds d n ne = find-mapped (is_hold_of d n) (settled_one c spare) (settled-of c spare d n) holds ∙ go (hold_on holds d n) refl
  where
    go : (o : Option Hold) → hold_on holds d n ≡ o → option_map (settled_one c spare) o ≡ o
    go None e = refl
    go (Some h) e = let q : conn_eq h.conn c ≡ false = not-of c d n h ne (find-passes (is_hold_of d n) holds h e) in rw q refl

others-added : (holds : List Hold) (c : Conn) (r : Request) (d : Conn) (n : Name) → conn_eq d c ≡ false → hold_on (added holds c r) d n ≡ hold_on holds d n
others-added [] c r d n ne = let q : is_hold_of d n (record { name = r.name; conn = c; mode = r.mode; term = r.term }) ≡ false = fresh in rw q refl
  where
    fresh : is_hold_of d n (record { name = r.name; conn = c; mode = r.mode; term = r.term }) ≡ false
    fresh = go (is_hold_of d n (record { name = r.name; conn = c; mode = r.mode; term = r.term })) refl
      where
        go : (b : Bool) → is_hold_of d n (record { name = r.name; conn = c; mode = r.mode; term = r.term }) ≡ b → b ≡ false
        go true e = absurd (no-both (ap (λ z. conn_eq z c) (sym (conn-is c d (hold-conn d n _ e))) ∙ same) ne)
          where
            same : conn_eq c c ≡ true
            same = conn-same c
        go false e = refl
others-added (h ∷ hs) c r d n ne = go (others-added hs c r d n ne) (is_hold_of c r.name h) refl (is_hold_of d n h) refl
  where
    go : hold_on (added hs c r) d n ≡ hold_on hs d n → (a : Bool) → is_hold_of c r.name h ≡ a → (b : Bool) → is_hold_of d n h ≡ b
        → hold_on (added (h ∷ hs) c r) d n ≡ hold_on (h ∷ hs) d n
    go ih true a true b = absurd (no-both a (not_name-of c d r.name n h ne b))
    go ih true a false b = rw (a, raised-of d n r.mode r.term h, b) refl
    go ih false a true b = rw (a, b) refl
    go ih false a false b = rw (a, b) ih

module _ (head : Head) where
  others-all_placed : (holds : List Hold) (c : Conn) (rs : List Request) (d : Conn) (n : Name) → conn_eq d c ≡ false
      → hold_on (all_placed head holds c rs) d n ≡ hold_on holds d n
  others-all_placed holds c [] d n ne = refl
  others-all_placed holds c (r ∷ rs) d n ne = others-all_placed (placed head holds c r) c rs d n ne ∙ one (is_covered head holds c r.name r.mode)
    where
      one : (b : Bool) → hold_on (if b then holds else added holds c r) d n ≡ hold_on holds d n
      one true = refl
      one false = others-added holds c r d n ne

  others-hand : (c : Conn) (hand : Hand) (holds : List Hold) (d : Conn) (n : Name) → conn_eq d c ≡ false
      → hold_on (holds_by_hand head c hand holds) d n ≡ hold_on holds d n
  others-hand c Leaves holds d n ne = refl
  others-hand c (Places rs) holds d n ne = others-all_placed holds c rs d n ne
  others-hand c (Frees m) holds d n ne = find-all_kept (is_hold_of d n) _
      (λ h is. let q : is_hold_of c m h ≡ false = not_name-of c d m n h ne is in rw q refl) holds
  others-hand c (Collapses t) holds d n ne = find-all_kept (is_hold_of d n) _ (λ h is. let q : conn_eq h.conn c ≡ false = not-of c d n h ne is in rw q refl)
      holds
  others-hand c Drops holds d n ne = find-all_kept (is_hold_of d n) _ (λ h is. let q : conn_eq h.conn c ≡ false = not-of c d n h ne is in rw q refl) holds

  pub others-agent : (w : World) (c : Conn) (a : Act) (d : Conn) (n : Name) → conn_eq d c ≡ false → hold_on (holds_by_agent head w c a) d n ≡ hold_on
      w.holds d n
  others-agent w c a d n ne =
      find-all_kept (is_hold_of d n) _ (λ h is. let q : conn_eq h.conn c ≡ false = not-of c d n h ne is in rw q refl)
      (holds_by_hand head c (hand_of head w c a) (settled c (spared a (w.last c)) w.holds))
      ∙ others-hand c (hand_of head w c a) (settled c (spared a (w.last c)) w.holds) d n ne ∙ others-settled c (spared a (w.last c)) w.holds d n ne
