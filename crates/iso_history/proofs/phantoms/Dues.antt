-- Where a Collapse is due, the table lock covers S.
use Rattle.std.proofs.Common.{◌≡◌, Bool, true, false, not, ◌&&◌, List, [], ◌∷◌, refl, ap, sym, ◌∙◌, subst, Some, None, Option}
use Rattle.std.specs.Option.{option_map, option_map_or}
use Rattle.std.specs.Prelude.{IsTrue, is_some}
use Rattle.iso_history.proofs.phantoms.Tests.{both, join}
use Rattle.iso_history.proofs.phantoms.Finds.{find-all, find-map, find-passes}
use Rattle.iso_history.proofs.phantoms.FitHolds.{escalation-mode, fits_hold}
use Rattle.iso_history.proofs.phantoms.KeptHolds.{held-as, kept-briefs, kept_as, made-added}
use Rattle.iso_history.proofs.phantoms.ModeLaws.{cover-escalated, cover-of-escalated, cover-of-x, is_table_hold, joined-cover}
use Rattle.iso_history.proofs.phantoms.Names.{of-name}
use Rattle.iso_history.proofs.phantoms.OtherHolds.{of-settled_one}
use Rattle.iso_history.specs.Gaps.{IsFit, fits_name}
use Rattle.iso_history.specs.Holds.{holds_by_agent, spared}
use Rattle.iso_history.specs.Lasts.{due_of, due_of_claim, due_of_lock, last_of_lock}
use Rattle.iso_history.specs.Legal.{ByAgent, LockStands}
use Rattle.iso_history.specs.Requests.{escalation}
use Rattle.iso_history.specs.World.{Last, World}
use Rattle.iso_history.specs.World.Last.{Awaits, Claimed, Looked, Other}
use Rattle.iso_history.specs.declared.entry.Act.{Act}
use Rattle.iso_history.specs.declared.entry.Act.TheVariants.{Claim, Lock}
use Rattle.iso_history.specs.declared.entry.Got.{Got}
use Rattle.iso_history.specs.declared.entry.Why.{Why}
use Rattle.iso_history.specs.declared.entry.Why.TheVariants.{Asked, Blocked, Escalation}
use Rattle.iso_modes.specs.Modes.{covers, escalated, joined}
use Rattle.iso_modes.specs.Terms.{is_fresh, is_kept}
use Rattle.iso_modes.specs.declared.Mode.{Mode}
use Rattle.iso_modes.specs.declared.Mode.TheVariants.{S, X}
use Rattle.iso_modes.specs.declared.Term.{Term}
use Rattle.iso_modes.specs.declared.Term.TheVariants.{Kept}
use Rattle.iso_queue.specs.Locks.{Hold, held, hold_on, is_covered_on, is_hold_of, is_spared, raised, settled, settled_one, without_briefs, added, all_placed}
use Rattle.iso_queue.specs.Queues.{Wait, has_edge, is_grantable, wait_of}
use Rattle.iso_types.specs.Ids.{conn_eq}
use Rattle.iso_types.specs.declared.head.Head.{Head}
use Rattle.iso_types.specs.declared.value.Conn.{Conn}
use Rattle.iso_types.specs.declared.value.Name.{Name}
use Rattle.iso_types.specs.declared.value.Name.TheVariants.{End, Key, Row, Table}
use Rattle.iso_types.specs.declared.value.TableId.{TableId}

-- a kept hold that covers S
abbrev pub k_cover : Hold → Bool
k_cover h = is_kept h.term && covers h.mode S

pub k_cover-kept : (h : Hold) → k_cover h ≡ true → is_kept h.term ≡ true
k_cover-kept h e = (both (is_kept h.term) (covers h.mode S) e).0

-- so the lock covers S
pub cover-from : (hs : List Hold) (c : Conn) (t : TableId) → kept_as k_cover hs c (Table t) ≡ true → is_covered_on hs c S t ≡ true
cover-from hs c t e = let x = held-as k_cover (hold_on hs c (Table t)) e in rw x.1 (both (is_kept x.0.term) (covers x.0.mode S) x.2).1

-- settling leaves the mode
pub settled-mode : (c : Conn) (spare : Option Name) (h : Hold) → (settled_one c spare h).mode ≡ h.mode
settled-mode c spare h = go (conn_eq h.conn c && (is_fresh h.term && not (is_spared spare h))) refl
  where
    go : (b : Bool) → (conn_eq h.conn c && (is_fresh h.term && not (is_spared spare h))) ≡ b → (settled_one c spare h).mode ≡ h.mode
    go true e = rw e refl
    go false e = rw e refl

-- a hold after settling is one from before, in its mode
pub settled-held : (c : Conn) (spare : Option Name) (n : Name) (hs : List Hold) (h : Hold) → hold_on (settled c spare hs) c n ≡ Some h
    → (g : Hold) × (hold_on hs c n ≡ Some g) × (h.mode ≡ g.mode)
settled-held c spare n hs h e = go (hold_on hs c n) refl
  where
    go : (o : Option Hold) → hold_on hs c n ≡ o → (g : Hold) × (hold_on hs c n ≡ Some g) × (h.mode ≡ g.mode)
    go None f = let z : None ≡ Some h = sym (find-map (is_hold_of c n) (settled_one c spare) (of-settled_one c c n spare) hs
        ∙ ap (option_map (settled_one c spare)) f) ∙ e in absurd (cc)
    go (Some g) f =
        let z : Some (settled_one c spare g) ≡ Some h = sym (find-map (is_hold_of c n) (settled_one c spare) (of-settled_one c c n spare) hs
        ∙ ap (option_map (settled_one c spare)) f) ∙ e in
        let y : settled_one c spare g ≡ h = cc in
        (g, f, ap (λ (k : Hold). k.mode) (sym y) ∙ settled-mode c spare g)

-- a raised hold is kept where what is asked is
pub raised-kept : (m : Mode) (h : Hold) → is_kept (raised m Kept h).term ≡ true
raised-kept m h = go (is_kept h.term) refl
  where
    go : (b : Bool) → is_kept h.term ≡ b → is_kept (raised m Kept h).term ≡ true
    go true e = rw e refl
    go false e = rw e refl

-- one lock on a table that comes to cover S
covered-placed : (head : Head) (w : World) (c : Conn) (t : TableId) (m : Mode) (spare : Option Name) (before : List Hold) → covers m S ≡ true
    → ((g : Hold) → hold_on w.holds c (Table t) ≡ Some g → covers (joined g.mode m) S ≡ true)
    → is_covered_on (without_briefs before c (added (settled c spare w.holds) c (record { name = Table t; mode = m; term = Kept }))) c S t ≡ true
covered-placed head w c t m spare before new old =
    cover-from (without_briefs before c (added (settled c spare w.holds) c (record { name = Table t; mode = m; term = Kept }))) c t
    (kept-briefs head k_cover k_cover-kept c (Table t) before (added (settled c spare w.holds) c (record { name = Table t; mode = m; term = Kept }))
    (made-added k_cover c (Table t) (record { name = Table t; mode = m; term = Kept }) (settled c spare w.holds) refl (new, grown)))
  where
    grown : (h : Hold) → hold_on (settled c spare w.holds) c (Table t) ≡ Some h → k_cover (raised m Kept h) ≡ true
    grown h e =
        let g = settled-held c spare (Table t) w.holds h e in
        join (is_kept (raised m Kept h).term) (covers (joined h.mode m) S) (raised-kept m h)
        (subst (λ (z : Mode). covers (joined z m) S ≡ true) (sym g.2) (old g.0 g.1))

-- after an escalation
pub escalated-covers : (head : Head) (w : World) (c : Conn) (t : TableId) (m : Mode) → escalation head w c ≡ Some (t, m)
    → (covers m S ≡ true) × ((g : Hold) → hold_on w.holds c (Table t) ≡ Some g → covers (joined g.mode m) S ≡ true)
escalated-covers head w c t m e = (subst (λ (z : Mode). covers z S ≡ true) (sym (escalation-mode head w c t m e)) (new (held w.holds c (Table t))), old)
  where
    new : (o : Option Mode) → covers (option_map_or escalated o X) S ≡ true
    new None = cover-of-x
    new (Some a) = cover-of-escalated a

    old : (g : Hold) → hold_on w.holds c (Table t) ≡ Some g → covers (joined g.mode m) S ≡ true
    old g f = subst (λ (z : Mode). covers (joined g.mode z) S ≡ true)
        (sym (escalation-mode head w c t m e ∙ ap (λ (o : Option Hold). option_map_or escalated (option_map (λ h. h.mode) o) X) f)) (cover-escalated g.mode)

-- what a Lock makes due
lock-due : (why : Why) (got : Got) (n : Name) (k : Mode) (t : TableId) (m : Mode) → due_of_lock why got n k ≡ Some (t, m)
    → (why ≡ Escalation) × (got ≡ Got.Granted) × (n ≡ Table t) × (k ≡ m)
lock-due Escalation Got.Granted (Table u) k t m e =
    let y : (u, k) ≡ (t, m) = cc in (refl, refl, ap (λ (p : TableId × Mode). Table p.0) y, ap (λ (p : TableId × Mode). p.1) y)
lock-due Escalation Got.Granted (Row u r) k t m e = cc
lock-due Escalation Got.Granted (Key i v) k t m e = cc
lock-due Escalation Got.Granted (End i) k t m e = cc
lock-due Escalation (Got.Queued q) n k t m e = cc
lock-due Escalation Got.TimedOut n k t m e = cc
lock-due Asked got n k t m e = cc
lock-due Blocked got n k t m e = cc

-- a Lock that makes a Collapse due covers S
due-lock : (head : Head) (w : World) (c : Conn) (n : Name) (k : Mode) (term : Term) (why : Why) (got : Got) (t : TableId) (m : Mode)
    → LockStands head w c n k term why got
    → (why ≡ Escalation) → (got ≡ Got.Granted) → (n ≡ Table t) → is_covered_on (holds_by_agent head w c (Lock n k term why got)) c S t ≡ true
due-lock head w c (Table u) k term Escalation Got.Granted t m al y g e =
    let s : u ≡ t = cc in
    let x = escalated-covers head w c u k al.1.1 in
    subst (λ (z : TableId). is_covered_on (holds_by_agent head w c (Lock (Table u) k term Escalation Got.Granted)) c S z ≡ true) s
    (subst (λ (z : Term). is_covered_on (holds_by_agent head w c (Lock (Table u) k z Escalation Got.Granted)) c S u ≡ true) (sym al.0)
    (covered-placed head w c u k (spared (Lock (Table u) k Kept Escalation Got.Granted) (w.last c)) w.holds x.0 x.1))
due-lock head w c n k term Asked got t m al y g e = cc
due-lock head w c n k term Blocked got t m al y g e = cc
due-lock head w c n k term Escalation (Got.Queued q) t m al y g e = cc
due-lock head w c n k term Escalation Got.TimedOut t m al y g e = cc
due-lock head w c (Row u r) k term Escalation got t m al y g e = cc
due-lock head w c (Key i v) k term Escalation got t m al y g e = cc
due-lock head w c (End i) k term Escalation got t m al y g e = cc

claim-awaits : (l : Last) (t : TableId) (m : Mode) → due_of_claim l ≡ Some (t, m) → l ≡ Awaits t m
claim-awaits (Awaits u k) t m e = let y : (u, k) ≡ (t, m) = cc in ap (λ (p : TableId × Mode). Awaits p.0 p.1) y
claim-awaits (Looked u r) t m e = cc
claim-awaits Claimed t m e = cc
claim-awaits Other t m e = cc

-- a table's hold fits
pub table-held : (w : World) (c : Conn) (t : TableId) (g : Hold) → IsFit w → hold_on w.holds c (Table t) ≡ Some g → is_table_hold g.mode ≡ true
table-held w c t g fit e = subst (λ (k : Name). fits_name k g.mode ≡ true) (of-name c (Table t) g (find-passes (is_hold_of c (Table t)) w.holds g e))
    (find-all (is_hold_of c (Table t)) fits_hold w.holds g fit.holds e)

-- a Claim of an escalation
due-claim : (head : Head) (w : World) (c : Conn) (t : TableId) (m : Mode) (o : Option Wait) → wait_of w.waits c ≡ o → IsFit w → IsTrue (is_some o)
    → w.last c ≡ Awaits t m
    → is_covered_on (holds_by_agent head w c Claim) c S t ≡ true
due-claim head w c t m None e fit some l = cc
due-claim head w c t m (Some x) e fit some l =
    let f = fit.awaits c t m x l e in
    rw e (subst (λ (z : Name). is_covered_on
    (without_briefs w.holds c (all_placed head (settled c (spared Claim (w.last c)) w.holds) c
    (record { name = z; mode = x.target; term = x.term } ∷ []))) c S t ≡ true) (sym f.0)
    (subst (λ (z : Term). is_covered_on (without_briefs w.holds c
    (all_placed head (settled c (spared Claim (w.last c)) w.holds) c (record { name = Table t; mode = x.target; term = z } ∷ []))) c S t ≡ true)
    (sym f.2)
    (covered-placed head w c t x.target (spared Claim (w.last c)) w.holds f.1 (λ g h. joined-cover g.mode x.target f.1 (table-held w c t g fit h)))))

none_due : (x : TableId × Mode) → None ≡ Some x → ⊥
none_due x e = cc

-- what an own entry makes due
pub own-due : (head : Head) (w : World) (c : Conn) (a : Act) (t : TableId) (m : Mode) → ByAgent head w c a → IsFit w → due_of a (w.last c) ≡ Some (t, m)
    → is_covered_on (holds_by_agent head w c a) c S t ≡ true
own-due head w c (Lock n k term why got) t m al fit e =
    let x = lock-due why got n k t m e in due-lock head w c n k term why got t m al.1 x.0 x.1 x.2
own-due head w c Claim t m al fit e = due-claim head w c t m (wait_of w.waits c) refl fit
    (grantable (wait_of w.waits c) (both _ (is_grantable w.holds w.waits c) al).1) (claim-awaits (w.last c) t m e)
  where
    grantable : (o : Option Wait) → option_map_or (λ x. not (has_edge w.holds w.waits x)) o false ≡ true → IsTrue (is_some o)
    grantable None e = e
    grantable (Some x) e = refl
own-due head w c _ t m al fit e = absurd (none_due (t, m) e)

-- what an own entry awaits
pub awaits-lock : (why : Why) (got : Got) (n : Name) (k : Mode) (t : TableId) (m : Mode) → last_of_lock why got n k ≡ Awaits t m
    → (q : Mode) × (why ≡ Escalation) × (got ≡ Got.Queued q) × (n ≡ Table t) × (k ≡ m)
awaits-lock Escalation (Got.Queued q) (Table u) k t m e = let a : u ≡ t = cc in let b : k ≡ m = cc in (q, refl, refl, ap Table a, b)
awaits-lock Escalation (Got.Queued q) (Row u r) k t m e = cc
awaits-lock Escalation (Got.Queued q) (Key i v) k t m e = cc
awaits-lock Escalation (Got.Queued q) (End i) k t m e = cc
awaits-lock Escalation Got.Granted n k t m e = cc
awaits-lock Escalation Got.TimedOut n k t m e = cc
awaits-lock Asked got n k t m e = cc
awaits-lock Blocked got n k t m e = cc
