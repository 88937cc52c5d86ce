-- What each change of the waits leaves to a connection.
use Rattle.std.proofs.Common.{◌≡◌, ◌+◌, Bool, true, false, not, ◌&&◌, List, [], ◌∷◌, refl, ap, sym, ◌∙◌, Some, None, find, count_by, ◌⊎◌, inl, inr}
use Rattle.iso_history.proofs.locks.Finds.{count-here, count-past, find-filter_away, find-filter_same, find-here, find-past}
use Rattle.iso_history.proofs.locks.Fits.{apart-turned}
use Rattle.iso_history.proofs.locks.Same.{conn_is}
use Rattle.iso_queue.specs.Locks.{Hold, is_held}
use Rattle.iso_queue.specs.Queues.{Wait, is_new_beside, queued, unqueued, wait_of}
use Rattle.iso_types.specs.Ids.{conn_eq}
use Rattle.iso_types.specs.declared.value.Conn.{Conn}

module _ (holds : List Hold) (x : Wait) where
  -- the wait stands before this one
  abbrev before : Wait → Bool
  before y = is_held holds x.conn x.name && is_new_beside holds x y

  queued-before : (y : Wait) (ys : List Wait) → before y ≡ true → queued holds x (y ∷ ys) ≡ x ∷ y ∷ ys
  queued-before y ys e = rw e refl

  queued-behind : (y : Wait) (ys : List Wait) → before y ≡ false → queued holds x (y ∷ ys) ≡ y ∷ queued holds x ys
  queued-behind y ys e = rw e refl

  module _ (p : Wait → Bool) where
    -- a test that it fails sees no change
    pub find-queued_past : p x ≡ false → (ys : List Wait) → find p (queued holds x ys) ≡ find p ys
    find-queued_past e [] = find-past p x [] e
    find-queued_past e (y ∷ ys) = go (before y) refl (p y) refl (find-queued_past e ys)
      where
        go : (b : Bool) → before y ≡ b → (d : Bool) → p y ≡ d → find p (queued holds x ys) ≡ find p ys → find p (queued holds x (y ∷ ys)) ≡ find p (y ∷ ys)
        go true k d g ih = ap (find p) (queued-before y ys k) ∙ find-past p x (y ∷ ys) e
        go false k true g ih = ap (find p) (queued-behind y ys k) ∙ find-here p y (queued holds x ys) g ∙ sym (find-here p y ys g)
        go false k false g ih = ap (find p) (queued-behind y ys k) ∙ find-past p y (queued holds x ys) g ∙ ih ∙ sym (find-past p y ys g)

    -- one that it alone passes finds it
    pub find-queued_here : p x ≡ true → (ys : List Wait) → find p ys ≡ None → find p (queued holds x ys) ≡ Some x
    find-queued_here e [] k = find-here p x [] e
    find-queued_here e (y ∷ ys) k = go (before y) refl (p y) refl (find-queued_here e ys)
      where
        go : (b : Bool) → before y ≡ b → (d : Bool) → p y ≡ d → (find p ys ≡ None → find p (queued holds x ys) ≡ Some x)
            → find p (queued holds x (y ∷ ys)) ≡ Some x
        go true l d g ih = ap (find p) (queued-before y ys l) ∙ find-here p x (y ∷ ys) e
        go false l true g ih = cc (sym (find-here p y ys g) ∙ k)
        go false l false g ih = ap (find p) (queued-behind y ys l) ∙ find-past p y (queued holds x ys) g ∙ ih (sym (find-past p y ys g) ∙ k)

    pub count-queued_past : p x ≡ false → (ys : List Wait) → count_by p (queued holds x ys) ≡ count_by p ys
    count-queued_past e [] = count-past p x [] e
    count-queued_past e (y ∷ ys) = go (before y) refl (p y) refl (count-queued_past e ys)
      where
        go : (b : Bool) → before y ≡ b → (d : Bool) → p y ≡ d → count_by p (queued holds x ys) ≡ count_by p ys
            → count_by p (queued holds x (y ∷ ys)) ≡ count_by p (y ∷ ys)
        go true k d g ih = rw (queued-before y ys k, count-past p x (y ∷ ys) e) refl
        go false k true g ih = rw (queued-behind y ys k, count-here p y (queued holds x ys) g, count-here p y ys g, ih) refl
        go false k false g ih = rw (queued-behind y ys k, count-past p y (queued holds x ys) g, count-past p y ys g, ih) refl

    pub count-queued_here : p x ≡ true → (ys : List Wait) → count_by p (queued holds x ys) ≡ 1 + count_by p ys
    count-queued_here e [] = count-here p x [] e
    count-queued_here e (y ∷ ys) = go (before y) refl (p y) refl (count-queued_here e ys)
      where
        go : (b : Bool) → before y ≡ b → (d : Bool) → p y ≡ d → count_by p (queued holds x ys) ≡ 1 + count_by p ys
            → count_by p (queued holds x (y ∷ ys)) ≡ 1 + count_by p (y ∷ ys)
        go true k d g ih = rw (queued-before y ys k, count-here p x (y ∷ ys) e) refl
        go false k true g ih = rw (queued-behind y ys k, count-here p y (queued holds x ys) g, count-here p y ys g, ih) refl
        go false k false g ih = rw (queued-behind y ys k, count-past p y (queued holds x ys) g, count-past p y ys g, ih) refl

-- who quits has no wait, and others keep theirs
pub wait-unqueued : (c d : Conn) (ws : List Wait) (y : Wait) → wait_of (unqueued c ws) d ≡ Some y → (wait_of ws d ≡ Some y) × (conn_eq c d ≡ false)
wait-unqueued c d ws y e = go (conn_eq d c) refl
  where
    stays : (b : Bool) → conn_eq d c ≡ b → (x : Wait) → conn_eq x.conn d ≡ true → not (conn_eq x.conn c) ≡ not b
    stays b k x h = ap (λ (z : Conn). not (conn_eq z c)) (conn_is x.conn d h) ∙ ap not k

    go : (b : Bool) → conn_eq d c ≡ b → (wait_of ws d ≡ Some y) × (conn_eq c d ≡ false)
    go true k = cc (sym (find-filter_away (λ (x : Wait). conn_eq x.conn d) (λ (x : Wait). not (conn_eq x.conn c)) (stays true k) ws) ∙ e)
    go false k = (
      sym (find-filter_same (λ (x : Wait). conn_eq x.conn d) (λ (x : Wait). not (conn_eq x.conn c)) (stays false k) ws) ∙ e,
      apart-turned d c k,
    )

-- who joins has this wait, and others keep theirs
pub wait-queued : (holds : List Hold) (x : Wait) (ws : List Wait) (d : Conn) (y : Wait) → wait_of ws x.conn ≡ None
    → wait_of (queued holds x ws) d ≡ Some y → (wait_of ws d ≡ Some y) ⊎ (y ≡ x)
wait-queued holds x ws d y none e = go (conn_eq x.conn d) refl
  where
    go : (b : Bool) → conn_eq x.conn d ≡ b → (wait_of ws d ≡ Some y) ⊎ (y ≡ x)
    go true k =
        let gone : wait_of ws d ≡ None = ap (wait_of ws) (sym (conn_is x.conn d k)) ∙ none in
        let found : Some x ≡ Some y = sym (find-queued_here holds x (λ (z : Wait). conn_eq z.conn d) k ws gone) ∙ e in
        inr cc
    go false k = inl (sym (find-queued_past holds x (λ (z : Wait). conn_eq z.conn d) k ws) ∙ e)
