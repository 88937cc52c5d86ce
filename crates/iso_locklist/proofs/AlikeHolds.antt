-- Holds that are alike: what is seen of them, and what is done to them.
use Rattle.std.proofs.Common.{◌≡◌, Bool, true, false, not, ◌&&◌, List, [], ◌∷◌, refl, ap, sym, ◌∙◌}
use Rattle.std.specs.Prelude.{filter, find}
use Rattle.iso_locklist.specs.Lists.{HoldsAlike}
use Rattle.iso_locklist.proofs.Lists.{is_hold, seek}
use Rattle.iso_lines.proofs.Names.{name_like}
use Rattle.iso_locklist.proofs.Settles.{alike_by, gone, kept}
use Rattle.iso_modes.specs.Modes.{compatible}
use Rattle.iso_queue.specs.Locks.{Hold, Request, added, hold_on, is_hold_of, raised}
use Rattle.iso_queue.specs.Queues.{Wait, opposes}
use Rattle.iso_types.specs.Ids.{conn_eq, name_eq}
use Rattle.iso_types.specs.declared.value.Conn.{Conn}
use Rattle.iso_types.specs.declared.value.Name.{Name}

abbrev name : Hold → Name
name h = h.name

pub filter_like : {X : Type 0} (p q : X → Bool) (xs : List X) → ((x : X) → p x ≡ q x) → filter p xs ≡ filter q xs
filter_like p q [] same = refl
filter_like p q (x ∷ xs) same = alike_by p q x xs (q x) refl (same x) (filter_like p q xs same)

-- ---- what is seen
module _ (xs ys : List Hold) (same : HoldsAlike xs ys) where
  pub alike_hold_on : (c : Conn) (n : Name) → hold_on xs c n ≡ hold_on ys c n
  alike_hold_on c n =
      seek (is_hold_of c n) (λ h. conn_eq h.conn c) (λ h. name_eq h.name n) xs (is_hold c n)
      ∙ ap (find (λ (h : Hold). conn_eq h.conn c)) (same n)
      ∙ sym (seek (is_hold_of c n) (λ h. conn_eq h.conn c) (λ h. name_eq h.name n) ys (is_hold c n))

turned : (a b d : Bool) → (a && (b && d)) ≡ ((a && d) && b)
turned true true true = refl
turned true true false = refl
turned true false true = refl
turned true false false = refl
turned false b d = refl

pub opposed : (x : Wait) (h : Hold) → opposes x h ≡ ((not (conn_eq h.conn x.conn) && not (compatible h.mode x.target)) && name_eq h.name x.name)
unfolding opposes
opposed x h = turned (not (conn_eq h.conn x.conn)) (name_eq h.name x.name) (not (compatible h.mode x.target))

-- ---- a request that is added
added_own : (h : Hold) (hs : List Hold) (c : Conn) (r : Request) → is_hold_of c r.name h ≡ true → added (h ∷ hs) c r ≡ raised r.mode r.term h ∷ hs
added_own h hs c r e = rw e refl

added_past : (h : Hold) (hs : List Hold) (c : Conn) (r : Request) → is_hold_of c r.name h ≡ false → added (h ∷ hs) c r ≡ h ∷ added hs c r
added_past h hs c r e = rw e refl

second : (a b : Bool) → (a && b) ≡ true → b ≡ true
second true b e = e
second false b e = cc

own_name : (c : Conn) (n : Name) (h : Hold) → is_hold_of c n h ≡ true → name_eq h.name n ≡ true
own_name c n h e = second (conn_eq h.conn c) (name_eq h.name n) (sym (is_hold c n h) ∙ e)

-- of a name
abbrev pub at : Name → List Hold → List Hold
at n hs = filter (λ h. name_eq h.name n) hs

at_own : (h : Hold) (hs : List Hold) (c : Conn) (r : Request) (n : Name) → name_eq r.name n ≡ true → is_hold_of c r.name h ≡ true
    → at n (added (h ∷ hs) c r) ≡ added (at n (h ∷ hs)) c r
at_own h hs c r n same own =
    let here : name_eq h.name n ≡ true = name_like h.name r.name n (own_name c r.name h own) ∙ same in
    ap (at n) (added_own h hs c r own) ∙ kept (λ g. name_eq g.name n) (raised r.mode r.term h) hs here
    ∙ sym (ap (λ (l : List Hold). added l c r) (kept (λ g. name_eq g.name n) h hs here) ∙ added_own h (at n hs) c r own)

at_past : (h : Hold) (hs : List Hold) (c : Conn) (r : Request) (n : Name) (b : Bool) → name_eq h.name n ≡ b → is_hold_of c r.name h ≡ false
    → at n (added hs c r) ≡ added (at n hs) c r → at n (added (h ∷ hs) c r) ≡ added (at n (h ∷ hs)) c r
at_past h hs c r n true e past ih =
    ap (at n) (added_past h hs c r past) ∙ kept (λ g. name_eq g.name n) h (added hs c r) e ∙ ap (λ (l : List Hold). h ∷ l) ih
    ∙ sym (ap (λ (l : List Hold). added l c r) (kept (λ g. name_eq g.name n) h hs e) ∙ added_past h (at n hs) c r past)
at_past h hs c r n false e past ih =
    ap (at n) (added_past h hs c r past) ∙ gone (λ g. name_eq g.name n) h (added hs c r) e ∙ ih
    ∙ ap (λ (l : List Hold). added l c r) (sym (gone (λ g. name_eq g.name n) h hs e))

-- it is added to those of its name
pub added_at : (hs : List Hold) (c : Conn) (r : Request) (n : Name) → name_eq r.name n ≡ true → at n (added hs c r) ≡ added (at n hs) c r
added_at [] c r n same = kept (λ g. name_eq g.name n) (record { name = r.name; conn = c; mode = r.mode; term = r.term }) [] same
added_at (h ∷ hs) c r n same = go (is_hold_of c r.name h) refl (added_at hs c r n same)
  where
    go : (b : Bool) → is_hold_of c r.name h ≡ b → at n (added hs c r) ≡ added (at n hs) c r → at n (added (h ∷ hs) c r) ≡ added (at n (h ∷ hs)) c r
    go true own ih = at_own h hs c r n same own
    go false past ih = at_past h hs c r n (name_eq h.name n) refl past ih

-- and to no others
pub added_beside : (hs : List Hold) (c : Conn) (r : Request) (n : Name) → name_eq r.name n ≡ false → at n (added hs c r) ≡ at n hs
added_beside [] c r n ne = gone (λ g. name_eq g.name n) (record { name = r.name; conn = c; mode = r.mode; term = r.term }) [] ne
added_beside (h ∷ hs) c r n ne = go (is_hold_of c r.name h) (name_eq h.name n) refl refl (added_beside hs c r n ne)
  where
    go : (b d : Bool) → is_hold_of c r.name h ≡ b → name_eq h.name n ≡ d → at n (added hs c r) ≡ at n hs → at n (added (h ∷ hs) c r) ≡ at n (h ∷ hs)
    go true d own e ih =
        let out : name_eq h.name n ≡ false = name_like h.name r.name n (own_name c r.name h own) ∙ ne in
        ap (at n) (added_own h hs c r own) ∙ gone (λ g. name_eq g.name n) (raised r.mode r.term h) hs out ∙ sym (gone (λ g. name_eq g.name n) h hs out)
    go false true past e ih =
        ap (at n) (added_past h hs c r past) ∙ kept (λ g. name_eq g.name n) h (added hs c r) e ∙ ap (λ (l : List Hold). h ∷ l) ih
        ∙ sym (kept (λ g. name_eq g.name n) h hs e)
    go false false past e ih =
        ap (at n) (added_past h hs c r past) ∙ gone (λ g. name_eq g.name n) h (added hs c r) e ∙ ih ∙ sym (gone (λ g. name_eq g.name n) h hs e)
