-- What is found, and what stands before; the line of a name among places.
use Rattle.std.proofs.Common.{◌≡◌, ℕ, suc, Bool, true, false, not, List, [], ◌∷◌, take, refl, ap, sym, ◌∙◌, arith}
use Rattle.std.specs.List.{prefix_len}
use Rattle.std.specs.Option.{option_map_or}
use Rattle.std.specs.Prelude.{find, take_while, Option, Some}
use Rattle.iso_locklist.specs.Places.{line_at}
use Rattle.iso_locklist.specs.Places.{Place}
use Rattle.iso_queue.specs.Queues as queues
use Rattle.iso_types.specs.Ids.{conn_eq, name_eq}
use Rattle.iso_types.specs.declared.value.Conn.{Conn}
use Rattle.iso_types.specs.declared.value.Name.{Name}

found_true_by : {X : Type 0} (t : X → Bool) (x r : X) (xs : List X) (b : Bool) → t x ≡ b → find t (x ∷ xs) ≡ Some r → (find t xs ≡ Some r → t r ≡ true) → t r ≡ true
found_true_by t x r xs true e some ih =
    let first : find t (x ∷ xs) ≡ Some x = rw e refl in
    let same : option_map_or t (Some x) true ≡ option_map_or t (Some r) true = ap (λ (o : Option _). option_map_or t o true) (sym first ∙ some) in
    sym same ∙ e
found_true_by t x r xs false e some ih =
    let past : find t (x ∷ xs) ≡ find t xs = rw e refl in
    ih (sym past ∙ some)

pub found_true : {X : Type 0} (t : X → Bool) (r : X) (xs : List X) → find t xs ≡ Some r → t r ≡ true
found_true t r [] some = cc some
found_true t r (x ∷ xs) some = found_true_by t x r xs (t x) refl some (found_true t r xs)

pub pass : {X : Type 0} (t : X → Bool) (x : X) (xs : List X) → t x ≡ true → take_while t (x ∷ xs) ≡ x ∷ take_while t xs
pass t x xs e =
    let more : prefix_len t (x ∷ xs) ≡ suc (prefix_len t xs) = rw e (omega arith) in
    ap (λ (k : ℕ). take k (x ∷ xs)) more

pub stop : {X : Type 0} (t : X → Bool) (x : X) (xs : List X) → t x ≡ false → take_while t (x ∷ xs) ≡ []
stop t x xs e = rw e refl

-- not of this connection
abbrev pub apart : Conn → queues.Wait → Bool
apart c y = not (conn_eq y.conn c)

pub line_here : (p : Place) (ps : List Place) (n : Name) → name_eq p.name n ≡ true → line_at (p ∷ ps) n ≡ p.queue
line_here p ps n e = rw e refl

pub line_past : (p : Place) (ps : List Place) (n : Name) → name_eq p.name n ≡ false → line_at (p ∷ ps) n ≡ line_at ps n
line_past p ps n e = rw e refl
