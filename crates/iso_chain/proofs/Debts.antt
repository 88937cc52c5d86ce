-- The debt that the units count is that of the world.
use Rattle.std.proofs.Common.{◌≡◌, ◌<◌, ◌+◌, ℕ, zero, suc, List, [], ◌∷◌, length, map, refl, ap, sym, ◌∙◌, arith, Some, None, Option, get_or}
use Rattle.std.specs.List.{range_with_len, sum_by}
use Rattle.std.specs.Option.{option_map, option_map_or}
use Rattle.std.proofs.lemmas.List.Sums.{sum_by-cons}
use Rattle.iso_history.specs.Records.{debt, left, left_of}
use Rattle.iso_history.specs.World.{World}
use Rattle.iso_types.specs.declared.head.Head.{Head}
use Rattle.iso_types.specs.declared.value.Conn.{Conn}
use Rattle.iso_uow.specs.Book.{debt_of}
use Rattle.iso_uow.specs.declared.units.Work.{Work}
use Rattle.iso_chain.specs.Works.{WorksStand, work_of_unit}

-- the connection with this number
abbrev pub conn_at : ℕ → Conn
conn_at k = record { 0 = k }

-- a sum over the units is one over the connections
sums : (f : Option Work → ℕ) (g : Conn → ℕ) (i : ℕ) (works : List (Option Work)) → ((k : ℕ) → k < length works → f (get_or works k None) ≡ g (conn_at (i + k)))
    → sum_by f works ≡ sum_by g (map conn_at (range_with_len i (length works)))
sums f g i [] h = refl
sums f g i (o ∷ os) h =
    let here : f o ≡ g (conn_at i) = h zero (omega arith) ∙ ap (λ z. g (conn_at z)) (omega arith) in
    let there : sum_by f os ≡ sum_by g (map conn_at (range_with_len (i + 1) (length os))) =
    sums f g (i + 1) os (λ k lt. h (suc k) (omega arith) ∙ ap (λ z. g (conn_at z)) (omega arith)) in
    sum_by-cons f o os ∙ ap (λ z. z + sum_by f os) here ∙ ap (λ z. g (conn_at i) + z) there
    ∙ sym (sum_by-cons g (conn_at i) (map conn_at (range_with_len (i + 1) (length os))))

pub debt-is : (head : Head) (w : World) (works : List (Option Work)) → length works ≡ length head.conns → WorksStand works w.records w.unit w.marks
    → debt_of works ≡ debt head w
debt-is head w works same s =
    sums (λ o. option_map_or (λ x. x.count) o 0) (λ c. length (left_of w c)) 0 works one
    ∙ ap (λ n. sum_by (λ c. length (left_of w c)) (map conn_at (range_with_len 0 n))) same
  where
    each : (c : Conn) (o : Option ℕ)
        → option_map_or (λ (x : Work). x.count) (option_map (work_of_unit w.records (w.marks c)) o) 0 ≡ length (option_map_or (left w.records) o [])
    each c None = refl
    each c (Some u) = refl

    one : (k : ℕ) → k < length works → option_map_or (λ (x : Work). x.count) (get_or works k None) 0 ≡ length (left_of w (conn_at (0 + k)))
    one k lt =
        let e : 0 + k ≡ k = omega arith in
        rw e (ap (λ (o : Option Work). option_map_or (λ (x : Work). x.count) o 0) (s (conn_at k) lt) ∙ each (conn_at k) (w.unit (conn_at k)))
