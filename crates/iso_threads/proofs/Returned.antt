-- Lists of passes that came back, one longer or one shorter.
use Rattle.std.proofs.Common.{◌≡◌, ℕ, suc, ◌+◌, Bool, true, false, ◌||◌, arith, append-nil, append_assoc, List, [], ◌∷◌, ◌++◌, refl, sym, ap, ◌∙◌, subst, Option, Some, None}
use Rattle.atomic_table.specs.Seated.{TableId}
use Rattle.iso_history.specs.declared.entry.Entry.{Entry}
use Rattle.iso_latch.specs.Seen.{has}
use Rattle.iso_latch.specs.Told.{seen_of, voices_of}
use Rattle.iso_threads.proofs.Others.{only}
use Rattle.iso_latch.proofs.Voices.{has-append}
use Rattle.iso_types.specs.declared.value.Conn.{Conn}
use Rattle.iso_threads.specs.Backs.{AllBack, AllPromised, CameBack, IsAgentOf, IsBack, promised, voices}
use Rattle.iso_threads.specs.Kept.{AllKeep, Begins, Keeps}
use Rattle.iso_threads.specs.declared.backs.Driven.{Driven}
use Rattle.std.specs.declared.thread.PromisedHandle.{PromisedHandle}
use Rattle.iso_conduct.specs.Conduct.{Conduct}
use Rattle.iso_agent.specs.declared.agent.Agent.{Agent}
use Rattle.iso_threads.specs.declared.backs.Back.{Back}
use Rattle.iso_script.specs.declared.script.Script.{Script}

pub all-snoc : (id : TableId) (script : Script) (bs : List Back) (b : Back) → AllBack id script bs → IsBack id script b
    → AllBack id script (bs ++ b ∷ [])
all-snoc id script [] b a is = (is, tt)
all-snoc id script (x ∷ xs) b a is = (a.0, all-snoc id script xs b a.1 is)

pub all_first : (id : TableId) (script : Script) (bs : List Back) (b : Back) → AllBack id script (bs ++ b ∷ [])
    → AllBack id script bs × IsBack id script b
all_first id script [] b a = (tt, a.0)
all_first id script (x ∷ xs) b a = let r = all_first id script xs b a.1 in ((a.0, r.0), r.1)

pub voices-snoc : (bs : List Back) (b : Back) → voices (bs ++ b ∷ []) ≡ voices bs ++ (b.conn.0 + 1) ∷ []
voices-snoc [] b = refl
voices-snoc (x ∷ xs) b = ap (λ vs. (x.conn.0 + 1) ∷ vs) (voices-snoc xs b)

-- a voice is among those of a list, or is that of the last
pub has-snoc : (x : ℕ) (bs : List Back) (b : Back) → has x (voices (bs ++ b ∷ [])) ≡ (has x (voices bs) || has x ((b.conn.0 + 1) ∷ []))
has-snoc x bs b = ap (has x) (voices-snoc bs b) ∙ has-append x (voices bs) ((b.conn.0 + 1) ∷ [])

-- what came back has kept to its statements
pub back_conduct : (script : Script) (c : Conn) (es : List Entry) (a : Option Agent) → IsAgentOf script c es a → Conduct script.head script.lines es c
back_conduct script c es None k = k
back_conduct script c es (Some a) k = k.1.conduct

pub swap : (p q r : Bool) → (p || (q || r)) ≡ ((p || r) || q)
swap true q r = refl
swap false true true = refl
swap false true false = refl
swap false false true = refl
swap false false false = refl

-- one goes out of the one list into the other
pub voices-moved : (x : ℕ) (here left there next : List Back) (a b : Back) → here ≡ left ++ a ∷ [] → next ≡ there ++ b ∷ [] → b.conn ≡ a.conn
    → (has x (voices left) || has x (voices next)) ≡ (has x (voices here) || has x (voices there))
voices-moved x here left there next a b h n same = let v : ℕ → Bool = λ k. has x (k ∷ []) in
    ap (λ z. has x (voices left) || z) (ap (λ bs. has x (voices bs)) n ∙
    (has-snoc x there b ∙ ap (λ (c : Conn). has x (voices there) || v (c.0 + 1)) same))
    ∙ (swap (has x (voices left)) (has x (voices there)) (v (a.conn.0 + 1)) ∙ ap (λ z. z || has x (voices there))
    (sym (ap (λ bs. has x (voices bs)) h ∙ has-snoc x left a)))

third : (p v l : Bool) → ((p || v) || l) ≡ (p || (l || v))
third true v l = refl
third false true true = refl
third false true false = refl
third false false true = refl
third false false false = refl

-- a voice goes from the one list to the other
pub voices-in : (x v : ℕ) (ps qs ls hs : List ℕ) → qs ≡ ps ++ v ∷ [] → hs ≡ ls ++ v ∷ [] → (has x qs || has x ls) ≡ (has x ps || has x hs)
voices-in x v ps qs ls hs q h = ap (λ z. z || has x ls) (ap (has x) q ∙ has-append x ps (v ∷ [])) ∙
    (third (has x ps) (has x (v ∷ [])) (has x ls) ∙ ap (λ z. has x ps || z) (sym (ap (has x) h ∙ has-append x ls (v ∷ []))))

-- the author of what came back has kept to its part
pub back-keeps : (id : TableId) (script : Script) (b : Back) → IsBack id script b → AllKeep script (voices_of b.pass.seat) (seen_of b.pass.seat)
back-keeps id script b i x h =
    let is : x ≡ b.conn.0 + 1 = only (b.conn.0 + 1) x (sym (ap (has x) i.pass.voice) ∙ h) in
    let one : suc b.conn.0 ≡ x = omega arith in
    subst (λ (z : ℕ). Keeps script z (seen_of b.pass.seat)) one (back_conduct script b.conn (seen_of b.pass.seat) b.agent i.agent)

pub promised-snoc : (hs : List (PromisedHandle Back Driven)) (h : PromisedHandle Back Driven)
    → promised (hs ++ h ∷ []) ≡ promised hs ++ (h.promise.back.value.conn.0 + 1) ∷ []
promised-snoc [] h = refl
promised-snoc (x ∷ xs) h = ap (λ vs. (x.promise.back.value.conn.0 + 1) ∷ vs) (promised-snoc xs h)

pub all_promised-snoc : (id : TableId) (script : Script) (hs : List (PromisedHandle Back Driven)) (h : PromisedHandle Back Driven)
    → AllPromised id script hs → h.promise.back.value.pass.seat.table_id ≡ id → h.promise.script.value ≡ script
    → AllPromised id script (hs ++ h ∷ [])
all_promised-snoc id script [] h a i s = ((i, s), tt)
all_promised-snoc id script (x ∷ xs) h a i s = (a.0, all_promised-snoc id script xs h a.1 i s)

pub all_promised_first : (id : TableId) (script : Script) (hs : List (PromisedHandle Back Driven)) (h : PromisedHandle Back Driven)
    → AllPromised id script (hs ++ h ∷ [])
    → AllPromised id script hs × (h.promise.back.value.pass.seat.table_id ≡ id) × (h.promise.script.value ≡ script)
all_promised_first id script [] h a = (tt, a.0.0, a.0.1)
all_promised_first id script (x ∷ xs) h a = let r = all_promised_first id script xs h a.1 in ((a.0, r.0), r.1, r.2)

-- what a thread brings back, at this latch and script
pub came_back : (id : TableId) (script other : Script) (b r : Back) → b.pass.seat.table_id ≡ id → other ≡ script → CameBack b other r
    → IsBack id script r
came_back id script other b r i s c = subst (λ (z : TableId × Script). IsBack z.0 z.1 r) (λ k. (i k, s k)) c.1

pub begins_self : (es : List Entry) → Begins es es
begins_self es = ([], sym (append-nil es))

pub begins_then : (a b c : List Entry) → Begins a b → Begins b c → Begins a c
begins_then a b c x y = (x.0 ++ y.0, y.1 ∙ (ap (λ l. l ++ y.0) x.1 ∙ append_assoc a x.0 y.0))
