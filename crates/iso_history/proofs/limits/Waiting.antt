-- Who waits, after a wait is added, and after a connection's wait goes.
use Rattle.std.proofs.Common.{◌≡◌, ℕ, Bool, true, false, List, [], ◌∷◌, refl, ap, sym, ◌∙◌, arith}
use Rattle.std.specs.Prelude.{◌==◌, ◌&&◌}
use Rattle.std.proofs.lemmas.Bool.Decides.{nat_tests}
use Rattle.iso_queue.specs.Locks.{Hold, is_held}
use Rattle.iso_queue.specs.Queues.{Wait, is_new_beside, is_waiting, queued, unqueued}
use Rattle.iso_types.specs.Ids.{conn_eq}
use Rattle.iso_types.specs.declared.value.Conn.{Conn}

pub conn_eq-refl : (c : Conn) → conn_eq c c ≡ true
conn_eq-refl c = same c.0
  where
    same : (k : ℕ) → (k == k) ≡ true
    same k = grind (arith, nat_tests)

pub conn_eq-sym : (c d : Conn) → conn_eq c d ≡ conn_eq d c
conn_eq-sym c d = turned c.0 d.0
  where
    turned : (k n : ℕ) → (k == n) ≡ (n == k)
    turned k n = grind (arith, nat_tests)

pub conn_eq-is : (c d : Conn) → conn_eq c d ≡ true → c ≡ d
conn_eq-is c d e = ap (λ k. record { 0 = k }) (same c.0 d.0 e)
  where
    same : (k n : ℕ) → (k == n) ≡ true → k ≡ n
    same k n e = grind (arith, nat_tests)

-- a wait of the connection stands first
waiting-here : (c : Conn) (x : Wait) (ws : List Wait) → conn_eq x.conn c ≡ true → is_waiting (x ∷ ws) c ≡ true
waiting-here c x ws e = rw e refl

-- a wait of another connection stands first
waiting-past : (c : Conn) (x : Wait) (ws : List Wait) → conn_eq x.conn c ≡ false → is_waiting (x ∷ ws) c ≡ is_waiting ws c
waiting-past c x ws e = rw e refl

-- after a wait of the connection is added it waits
pub waiting-queued : (holds : List Hold) (x : Wait) (ws : List Wait) (c : Conn) → conn_eq x.conn c ≡ true → is_waiting (queued holds x ws) c ≡ true
waiting-queued holds x [] c e = waiting-here c x [] e
waiting-queued holds x (y ∷ ys) c e = go (waiting-queued holds x ys c e) (is_held holds x.conn x.name && is_new_beside holds x y) refl (conn_eq y.conn c) refl
  where
    go : is_waiting (queued holds x ys) c ≡ true → (b : Bool) → (is_held holds x.conn x.name && is_new_beside holds x y) ≡ b
        → (t : Bool) → conn_eq y.conn c ≡ t → is_waiting (queued holds x (y ∷ ys)) c ≡ true
    go ih true is t f = rw is (waiting-here c x (y ∷ ys) e)
    go ih false is true f = rw is (waiting-here c y (queued holds x ys) f)
    go ih false is false f = rw is (waiting-past c y (queued holds x ys) f ∙ ih)

-- the other connections wait or not as before
pub waiting-queued-other : (holds : List Hold) (x : Wait) (ws : List Wait) (d : Conn) → conn_eq x.conn d ≡ false
    → is_waiting (queued holds x ws) d ≡ is_waiting ws d
waiting-queued-other holds x [] d e = waiting-past d x [] e
waiting-queued-other holds x (y ∷ ys) d e =
    go (waiting-queued-other holds x ys d e) (is_held holds x.conn x.name && is_new_beside holds x y) refl (conn_eq y.conn d) refl
  where
    go : is_waiting (queued holds x ys) d ≡ is_waiting ys d → (b : Bool) → (is_held holds x.conn x.name && is_new_beside holds x y) ≡ b
        → (t : Bool) → conn_eq y.conn d ≡ t → is_waiting (queued holds x (y ∷ ys)) d ≡ is_waiting (y ∷ ys) d
    go ih true is t f = rw is (waiting-past d x (y ∷ ys) e)
    go ih false is true f = rw is (waiting-here d y (queued holds x ys) f ∙ sym (waiting-here d y ys f))
    go ih false is false f = rw is (waiting-past d y (queued holds x ys) f ∙ ih ∙ sym (waiting-past d y ys f))

unqueued-dropped : (c : Conn) (y : Wait) (ys : List Wait) → conn_eq y.conn c ≡ true → unqueued c (y ∷ ys) ≡ unqueued c ys
unqueued-dropped c y ys f = rw f refl

unqueued-kept : (c : Conn) (y : Wait) (ys : List Wait) → conn_eq y.conn c ≡ false → unqueued c (y ∷ ys) ≡ y ∷ unqueued c ys
unqueued-kept c y ys f = rw f refl

-- after its wait goes, the connection does not wait
pub waiting-unqueued : (c : Conn) (ws : List Wait) → is_waiting (unqueued c ws) c ≡ false
waiting-unqueued c [] = refl
waiting-unqueued c (y ∷ ys) = go (waiting-unqueued c ys) (conn_eq y.conn c) refl
  where
    go : is_waiting (unqueued c ys) c ≡ false → (t : Bool) → conn_eq y.conn c ≡ t → is_waiting (unqueued c (y ∷ ys)) c ≡ false
    go ih true f = ap (λ ws. is_waiting ws c) (unqueued-dropped c y ys f) ∙ ih
    go ih false f = ap (λ ws. is_waiting ws c) (unqueued-kept c y ys f) ∙ waiting-past c y (unqueued c ys) f ∙ ih

-- the other connections wait or not as before
pub waiting-unqueued-other : (c : Conn) (ws : List Wait) (d : Conn) → conn_eq d c ≡ false → is_waiting (unqueued c ws) d ≡ is_waiting ws d
waiting-unqueued-other c [] d e = refl
waiting-unqueued-other c (y ∷ ys) d e = go (waiting-unqueued-other c ys d e) (conn_eq y.conn c) refl (conn_eq y.conn d) refl
  where
    apart : (k m n : ℕ) → (m == n) ≡ false → (k == n) ≡ true → (k == m) ≡ false
    apart k m n e f = grind (arith, nat_tests)

    go : is_waiting (unqueued c ys) d ≡ is_waiting ys d → (b : Bool) → conn_eq y.conn c ≡ b → (t : Bool) → conn_eq y.conn d ≡ t
        → is_waiting (unqueued c (y ∷ ys)) d ≡ is_waiting (y ∷ ys) d
    go ih true f t g = ap (λ ws. is_waiting ws d) (unqueued-dropped c y ys f) ∙ ih ∙ sym (waiting-past d y ys (apart y.conn.0 d.0 c.0 e f))
    go ih false f true g = ap (λ ws. is_waiting ws d) (unqueued-kept c y ys f) ∙ waiting-here d y (unqueued c ys) g ∙ sym (waiting-here d y ys g)
    go ih false f false g = ap (λ ws. is_waiting ws d) (unqueued-kept c y ys f) ∙ waiting-past d y (unqueued c ys) g ∙ ih ∙ sym (waiting-past d y ys g)
