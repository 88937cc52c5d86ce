-- Holds stay in modes that their names fit.
use Rattle.std.proofs.Common.{◌≡◌, Bool, true, false, not, ◌&&◌, ◌||◌, List, [], ◌∷◌, map, refl, ap, sym, ◌∙◌, subst, Some, None, Option}
use Rattle.std.specs.List.{list_all}
use Rattle.std.specs.Option.{option_map_or}
use Rattle.iso_history.proofs.phantoms.Tests.{both}
use Rattle.iso_history.proofs.phantoms.Finds.{all-filter, all-map, find-all}
use Rattle.iso_history.proofs.phantoms.ModeLaws.{fits-joined, is_guard, is_table_hold}
use Rattle.iso_history.proofs.phantoms.Names.{of-name}
use Rattle.iso_history.specs.Entries.{found, key_name}
use Rattle.iso_history.specs.Gaps.{IsFit, fits_name, is_plain, is_plain_lock}
use Rattle.iso_history.specs.Holds.{Hand, claimed, guarded_next, hand_of, holds_by_agent, holds_by_hand, looked, request_on, spared}
use Rattle.iso_history.specs.Holds.Hand.{Collapses, Drops, Frees, Leaves, Places}
use Rattle.iso_history.specs.Legal.{ByAgent, LockStands}
use Rattle.iso_history.specs.Requests.{escalation, is_row_mode, is_table_mode, may_ask, suits}
use Rattle.iso_history.specs.Versions.{is_dead, versions}
use Rattle.iso_history.specs.World.{World}
use Rattle.iso_history.specs.declared.entry.Act.{Act}
use Rattle.iso_history.specs.declared.entry.Act.TheVariants.{Claim, Insert, Lock, Look, Next, Update}
use Rattle.iso_history.specs.declared.entry.Got.{Got}
use Rattle.iso_history.specs.declared.entry.Stand.{Stand}
use Rattle.iso_history.specs.declared.entry.Stand.TheVariants.{At, Past}
use Rattle.iso_history.specs.declared.entry.Want.{Want}
use Rattle.iso_history.specs.declared.entry.Want.TheVariants.{Alter, AlterKept, Current, Dirty, Repeat, Steady}
use Rattle.iso_history.specs.declared.entry.Why.{Why}
use Rattle.iso_history.specs.declared.entry.Why.TheVariants.{Asked, Blocked, Escalation}
use Rattle.iso_modes.proofs.Modes.{each, mode_eq-is}
use Rattle.iso_modes.specs.Modes.{escalated, mode_eq, mode_number}
use Rattle.iso_modes.specs.declared.Mode.{Mode}
use Rattle.iso_modes.specs.declared.Mode.TheVariants.{Ns, Nw, S, X}
use Rattle.iso_modes.specs.Terms.{is_fresh}
use Rattle.iso_modes.specs.declared.Term.{Term}
use Rattle.iso_queue.specs.Locks.{Hold, Request, added, all_placed, held, is_covered, is_hold_of, is_spared, placed, raised, settled, settled_one}
use Rattle.iso_queue.specs.Queues.{Wait, wait_of}
use Rattle.iso_queue.specs.Limits.{prey}
use Rattle.iso_types.specs.Head.{key_in}
use Rattle.iso_types.specs.Ids.{conn_eq}
use Rattle.iso_types.specs.declared.head.Head.{Head}
use Rattle.iso_types.specs.declared.head.Range.{Range}
use Rattle.iso_types.specs.declared.value.Conn.{Conn}
use Rattle.iso_types.specs.declared.value.IndexId.{IndexId}
use Rattle.iso_types.specs.declared.value.Name.{Name}
use Rattle.iso_types.specs.declared.value.Name.TheVariants.{End, Key, Row, Table}
use Rattle.iso_types.specs.declared.value.Rid.{Rid}
use Rattle.iso_types.specs.declared.value.TableId.{TableId}
use Rattle.iso_types.specs.declared.value.Value.{Value}

-- a hold, and a request, that fits
abbrev pub fits_hold : Hold → Bool
fits_hold h = fits_name h.name h.mode

abbrev pub fits_request : Request → Bool
fits_request r = fits_name r.name r.mode

pub fits-settled_one : (c : Conn) (spare : Option Name) (h : Hold) → fits_hold h ≡ true → fits_hold (settled_one c spare h) ≡ true
fits-settled_one c spare h e = go (conn_eq h.conn c && (is_fresh h.term && not (is_spared spare h))) refl
  where
    go : (b : Bool) → (conn_eq h.conn c && (is_fresh h.term && not (is_spared spare h))) ≡ b → fits_hold (settled_one c spare h) ≡ true
    go true f = rw f e
    go false f = rw f e

fits-added : (c : Conn) (r : Request) (hs : List Hold) → fits_request r ≡ true → list_all fits_hold hs ≡ true → list_all fits_hold (added hs c r) ≡ true
fits-added c r [] f a = rw f refl
fits-added c r (h ∷ hs) f a = go (fits-added c r hs f (both (fits_hold h) (list_all fits_hold hs) a).1) (is_hold_of c r.name h) refl
  where
    go : list_all fits_hold (added hs c r) ≡ true → (b : Bool) → is_hold_of c r.name h ≡ b → list_all fits_hold (added (h ∷ hs) c r) ≡ true
    go ih true e =
        let x = both (fits_hold h) (list_all fits_hold hs) a in
        let z : fits_hold (raised r.mode r.term h) ≡ true = fits-joined h.name h.mode r.mode x.0
        (subst (λ (n : Name). fits_name n r.mode ≡ true) (sym (of-name c r.name h e)) f) in
        rw (e, z) x.1
    go ih false e = rw (e, (both (fits_hold h) (list_all fits_hold hs) a).0) ih

-- requests that fit leave holds that fit
pub fits-placed : (head : Head) (c : Conn) (rs : List Request) (hs : List Hold) → list_all fits_request rs ≡ true → list_all fits_hold hs ≡ true
    → list_all fits_hold (all_placed head hs c rs) ≡ true
fits-placed head c [] hs f a = a
fits-placed head c (r ∷ rs) hs f a = fits-placed head c rs (placed head hs c r) x.1 (go (is_covered head hs c r.name r.mode) refl)
  where
    x : (fits_request r ≡ true) × (list_all fits_request rs ≡ true)
    x = both (fits_request r) (list_all fits_request rs) f

    go : (b : Bool) → is_covered head hs c r.name r.mode ≡ b → list_all fits_hold (placed head hs c r) ≡ true
    go true e = rw e a
    go false e = rw e (fits-added c r hs x.0 a)

-- what the hand places fits
abbrev pub HandFits : Hand → Type 0
HandFits (Places rs) = list_all fits_request rs ≡ true
HandFits _ = Unit {0}

fits-hand : (head : Head) (c : Conn) (hand : Hand) (hs : List Hold) → HandFits hand → list_all fits_hold hs ≡ true
    → list_all fits_hold (holds_by_hand head c hand hs) ≡ true
fits-hand head c Leaves hs f a = a
fits-hand head c (Places rs) hs f a = fits-placed head c rs hs f a
fits-hand head c (Frees n) hs f a = all-filter fits_hold _ hs a
fits-hand head c (Collapses t) hs f a = all-filter fits_hold _ hs a
fits-hand head c Drops hs f a = all-filter fits_hold _ hs a

-- after an entry of an agent
pub fits-agent : (head : Head) (w : World) (c : Conn) (a : Act) → HandFits (hand_of head w c a) → list_all fits_hold w.holds ≡ true
    → list_all fits_hold (holds_by_agent head w c a) ≡ true
fits-agent head w c a f h = all-filter fits_hold _ (holds_by_hand head c (hand_of head w c a) (settled c (spared a (w.last c)) w.holds))
    (fits-hand head c (hand_of head w c a) (settled c (spared a (w.last c)) w.holds) f
    (all-map fits_hold (settled_one c (spared a (w.last c))) (fits-settled_one c (spared a (w.last c))) w.holds h))

implies : (a b : Bool) → (not a || b) ≡ true → a ≡ true → b ≡ true
implies true b e f = e
implies false b e f = cc

table_mode-hold : (m : Mode) → is_table_mode m ≡ true → is_table_hold m ≡ true
unfolding is_table_mode mode_eq mode_number
table_mode-hold m = implies (is_table_mode m) (is_table_hold m) (each (λ x. not (is_table_mode x) || is_table_hold x) refl m)

-- the mode of an escalation is one of tables
pub escalated-hold : (m : Mode) → is_table_hold (escalated m) ≡ true
unfolding escalated mode_eq mode_number
escalated-hold m = each (λ x. is_table_hold (escalated x)) refl m

-- what suits a table or row name fits it
suits-fits : (n : Name) (m : Mode) → is_plain_lock Asked n ≡ true → suits n m ≡ true → fits_name n m ≡ true
suits-fits (Table t) m p s = table_mode-hold m s
suits-fits (Row t r) m p s = s
suits-fits (Key i v) m p s = cc
suits-fits (End i) m p s = cc

-- X is a mode of tables
pub x-hold : is_table_hold X ≡ true
unfolding mode_eq mode_number
x-hold = refl

row-block : (m : Mode) → mode_eq m Ns ≡ true → is_row_mode m ≡ true
unfolding is_row_mode
row-block m e = subst (λ (z : Mode). is_row_mode z ≡ true) (sym (mode_eq-is m Ns e)) refl

nw-guard : (m : Mode) → mode_eq m Nw ≡ true → is_guard m ≡ true
unfolding mode_eq mode_number
nw-guard m e = subst (λ (z : Mode). is_guard z ≡ true) (sym (mode_eq-is m Nw e)) refl

-- what may be asked suits
pub may_ask-suits : (head : Head) (w : World) (c : Conn) (n : Name) (m : Mode) → may_ask head w c n m ≡ true → suits n m ≡ true
may_ask-suits head w c n m e = (both (suits n m) _ (both _ (suits n m && _) e).1).0

-- S on a key name or END
pub key-fits : (i : IndexId) (o : Option (Value × Rid)) → fits_name (key_name i o) S ≡ true
unfolding mode_eq mode_number
key-fits i None = refl
key-fits i (Some p) = refl

pub x-fits : (t : TableId) (r : Rid) → fits_name (Row t r) X ≡ true
unfolding is_row_mode
x-fits t r = refl

pub s-guard : is_guard S ≡ true
unfolding mode_eq mode_number
s-guard = refl

-- the inherited keys in S
pub inheriting-fits : (head : Head) (row : List Value) (is : List IndexId)
    → list_all fits_request (map (λ n. request_on n (S, Term.Kept)) (map (λ i. Key i (key_in head i row)) is)) ≡ true
inheriting-fits head row [] = refl
inheriting-fits head row (i ∷ is) = rw s-guard (inheriting-fits head row is)

looked-fits : (w : World) (t : TableId) (r : Rid) (want : Want) → list_all fits_request (looked w t r want) ≡ true
unfolding is_row_mode
looked-fits w t r want = go (is_dead (versions w t r)) refl want
  where
    go : (b : Bool) → is_dead (versions w t r) ≡ b → (want : Want) → list_all fits_request (looked w t r want) ≡ true
    go true e want = rw e refl
    go false e Steady = rw e refl
    go false e Repeat = rw e refl
    go false e Alter = rw e refl
    go false e AlterKept = rw e refl
    go false e Dirty = rw e refl
    go false e Current = rw e refl
    go false e Want.Settled = rw e refl

next-fits : (w : World) (i : IndexId) (range : Range) (at : Option (Value × Rid)) (guarded : Bool)
    → list_all fits_request (guarded_next w i range at guarded) ≡ true
next-fits w i range at true = rw (key-fits i (found w i range at)) refl
next-fits w i range at false = refl

-- the wait of a connection fits
wait-fits : (w : World) (c : Conn) → IsFit w → HandFits (claimed w c)
wait-fits w c fit = go (wait_of w.waits c) refl
  where
    go : (o : Option Wait) → wait_of w.waits c ≡ o → HandFits (claimed w c)
    go None e = rw e tt
    go (Some x) e = rw e (let z : fits_name x.name x.target ≡ true = find-all _ (λ y. fits_name y.name y.target) w.waits x fit.waits e in rw z refl)

-- the mode of an escalation
pub escalation-mode : (head : Head) (w : World) (c : Conn) (t : TableId) (m : Mode) → escalation head w c ≡ Some (t, m)
    → m ≡ option_map_or escalated (held w.holds c (Table t)) X
escalation-mode head w c t m e = go (prey head w.holds c) refl
  where
    go : (o : Option TableId) → prey head w.holds c ≡ o → m ≡ option_map_or escalated (held w.holds c (Table t)) X
    go None f = let z : None ≡ Some (t, m) = rw f at e in absurd (cc)
    go (Some u) f =
        let z : Some (u, option_map_or escalated (held w.holds c (Table u)) X) ≡ Some (t, m) = rw f at e in
        let y : (u, option_map_or escalated (held w.holds c (Table u)) X) ≡ (t, m) = cc in
        sym (ap (λ (p : TableId × Mode). p.1) y)
        ∙ ap (λ (k : TableId). option_map_or escalated (held w.holds c (Table k)) X) (ap (λ (p : TableId × Mode). p.0) y)

escalation-fits : (head : Head) (w : World) (c : Conn) (t : TableId) (m : Mode) → escalation head w c ≡ Some (t, m) → is_table_hold m ≡ true
escalation-fits head w c t m e = subst (λ (z : Mode). is_table_hold z ≡ true) (sym (escalation-mode head w c t m e)) (go (held w.holds c (Table t)))
  where
    go : (o : Option Mode) → is_table_hold (option_map_or escalated o X) ≡ true
    go None = x-hold
    go (Some a) = escalated-hold a

-- a Lock's mode fits its name
pub lock-fits : (head : Head) (w : World) (c : Conn) (n : Name) (m : Mode) (term : Term) (why : Why) (got : Got) → is_plain_lock why n ≡ true
    → LockStands head w c n m term why got → fits_name n m ≡ true
lock-fits head w c n m term Asked got p al = suits-fits n m p (may_ask-suits head w c n m al.1)
lock-fits head w c (Table t) m term Escalation got p al = escalation-fits head w c t m al.1.1
lock-fits head w c (Row t r) m term Escalation got p al = absurd al.1
lock-fits head w c (Key i v) m term Escalation got p al = absurd al.1
lock-fits head w c (End i) m term Escalation got p al = absurd al.1
lock-fits head w c (Table t) m term Blocked got p al = let z : false ≡ true = al.2 in absurd (cc)
lock-fits head w c (Row t r) m term Blocked got p al = row-block m (both (mode_eq m Ns) _ al.2).0
lock-fits head w c (Key i v) m term Blocked got p al = nw-guard m (both (mode_eq m Nw) _ al.2).0
lock-fits head w c (End i) m term Blocked got p al = nw-guard m (both (mode_eq m Nw) _ al.2).0

-- what an agent's entry places fits
pub hand-fits : (head : Head) (w : World) (c : Conn) (a : Act) → ByAgent head w c a → is_plain a ≡ true → IsFit w → HandFits (hand_of head w c a)
hand-fits head w c (Lock n m term why Got.Granted) al p fit = rw (lock-fits head w c n m term why Got.Granted p al.1) refl
hand-fits head w c (Lock n m term why (Got.Queued k)) al p fit = tt
hand-fits head w c (Lock n m term why Got.TimedOut) al p fit = tt
hand-fits head w c (Look t r want Got.Granted) al p fit = looked-fits w t r want
hand-fits head w c (Look t r want (Got.Queued k)) al p fit = tt
hand-fits head w c (Look t r want Got.TimedOut) al p fit = tt
hand-fits head w c (Next i range at guarded (At v r)) al p fit = next-fits w i range at guarded
hand-fits head w c (Next i range at guarded Past) al p fit = next-fits w i range at guarded
hand-fits head w c (Next i range at guarded (Stand.Queued n)) al p fit = tt
hand-fits head w c (Next i range at guarded (Stand.TimedOut n)) al p fit = tt
hand-fits head w c Claim al p fit = wait-fits w c fit
hand-fits head w c (Insert t r row) al p fit = rw (x-fits t r) (inheriting-fits head row _)
hand-fits head w c (Update t r row) al p fit = inheriting-fits head row _
hand-fits head w c _ al p fit = tt
